-- Checkpoints of VICE's monitor. $CFFF is 1 while a program runs. $CFFE is 0 while its own code runs, and above 0 while the
-- ROM's does: then the program's stack pointer plus $CFFE is that of its start, kept at $C037, plus 1.
use Rattle.std.specs.Prelude.{ℕ, ◌-◌, ◌^◌, false, true, List, [], ◌++◌, codes}
use Rattle.std.specs.Fmt.{digits, format_spec, padded_integral}
use Rattle.tb_engine_monitor.specs.declared.digits.Span.{Span}
use Rattle.tb_engine_monitor.specs.declared.checkpoints.Checkpoint.{Checkpoint}
use Rattle.tb_engine_monitor.specs.declared.checkpoints.Checkpoint.TheVariants.{Starts, Resets, Elsewhere, Leaves, Enters, Pulls, Ends, Writes, WritesToStack, Runs}

-- the hexadecimal digits of a number, this many at least
unfoldable pub hex_text : ℕ → ℕ → List ℕ
hex_text count n = padded_integral (format_spec 32 0 4 count (2 ^ 64 - 1)) false [] (digits 16 true n)

-- the first address and the last
abbrev pub pair_of : Span → ℕ × ℕ
pair_of s = (s.first, s.last)

-- the addresses from one to another
unfoldable pub span_text : ℕ × ℕ → List ℕ
span_text span = codes "$" ++ (hex_text 4 span.0 ++ (codes " $" ++ hex_text 4 span.1))

-- what a checkpoint looks for, and whether the machine stops there: a trace goes on
abbrev pub action_of : Checkpoint → List ℕ
action_of Starts = codes "trace exec"
action_of Resets = codes "trace exec"
action_of Elsewhere = codes "watch exec"
action_of (Leaves last) = codes "trace exec"
action_of (Enters at below note) = codes "trace exec"
action_of Pulls = codes "watch exec"
action_of Ends = codes "trace exec"
action_of (Writes first last) = codes "watch store"
action_of (WritesToStack at) = codes "watch store"
action_of (Runs first last) = codes "watch exec"

-- where it looks: the first line begins at $0C00, a reset goes to $FCE2, and the ROM lies from $A000 on
abbrev pub span_of : Checkpoint → ℕ × ℕ
span_of Starts = (0x0C00, 0x0C00)
span_of Resets = (0xFCE2, 0xFCE2)
span_of Elsewhere = (0x0C00, 0x0C00)
span_of (Leaves last) = (0x080D, last)
span_of (Enters at below note) = (at, at)
span_of Pulls = (0xA000, 0xFFFF)
span_of Ends = (0xA000, 0xFFFF)
span_of (Writes first last) = (first, last)
span_of (WritesToStack at) = (at, at)
span_of (Runs first last) = (first, last)

-- a program runs
abbrev pub running : List ℕ
running = codes "(@ram:$CFFF == $01)"

-- a program runs, by its own code
abbrev pub own : List ℕ
own = codes "(@ram:$CFFF == $01) && (@ram:$CFFE == $00)"

-- a program runs, and the ROM's code does something for it
abbrev pub inside : List ℕ
inside = codes "(@ram:$CFFF == $01) && (@ram:$CFFE != $00)"

-- A program runs, and the ROM's code wrote. The monitor looks when the next instruction is to come: what was written
-- on the way to a service or to an interrupt is the program's, or the processor's.
abbrev pub by_rom : List ℕ
by_rom = codes "(@ram:$CFFF == $01) && (@ram:$CFFE != $00) && (PC != $FFD2) && (PC != $FFCF) && (PC != $FFE4) && (PC != $FF48) && (PC != $FE43)"

-- when a checkpoint counts
abbrev pub condition_text : Checkpoint → List ℕ
condition_text Starts = codes "@ram:$CFFF != $01"
condition_text Resets = running
condition_text Elsewhere = codes "(@rom:$FFFE != $48) || (@rom:$FFFF != $FF) || (@rom:$FFFA != $43) || (@rom:$FFFB != $FE)"
condition_text (Leaves last) = inside
condition_text (Enters at below note) = own ++ (codes " && ((SP + $" ++ (hex_text 2 below ++ codes ") == @ram:$C037)"))
condition_text Pulls = inside ++ codes " && ((SP + @ram:$CFFE) > (@ram:$C037 + $01))"
condition_text Ends = running ++ codes " && (SP > (@ram:$C037 + $01))"
condition_text (Writes first last) = by_rom
condition_text (WritesToStack at) = by_rom ++ (codes " && (($" ++ (hex_text 4 at ++ codes " + @ram:$CFFE) > (@ram:$C037 + $0101))"))
condition_text (Runs first last) = running

-- where a checkpoint looks, and when it counts
unfoldable pub look_text : Checkpoint → List ℕ
look_text c = action_of c ++ (codes " " ++ (span_text (span_of c) ++ (codes " if " ++ condition_text c)))

-- what follows: a note in the two bytes, or what is said where it stops
abbrev pub command_text : Checkpoint → List ℕ
command_text Starts = codes "> $CFFE $00 $01"
command_text Resets = codes "> $CFFE $00 $00"
command_text Elsewhere = codes "; this ROM takes interrupts elsewhere than at $FF48 and $FE43, and is not watched there"
command_text (Leaves last) = codes "> $CFFE $00"
command_text (Enters at below note) = codes "> $CFFE $" ++ hex_text 2 note
command_text Pulls = codes "; the ROM takes from the stack what is the program's"
command_text Ends = codes "> $CFFE $00 $00"
command_text (Writes first last) = codes "; the ROM writes to what is the program's: " ++ span_text (first, last)
command_text (WritesToStack at) = codes "; the ROM writes to the stack above the program's stack pointer"
command_text (Runs first last) = codes "; code runs outside the program: " ++ span_text (first, last)
