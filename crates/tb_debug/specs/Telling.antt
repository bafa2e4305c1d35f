-- What answers say of the run and of the machine.
use Rattle.std.specs.Prelude.{◌≡◌, ℕ, Bool, true, false, ℤ, pos, not, List, [], drop, length, map, Option, Some, None, Result}
use Rattle.std.specs.Prelude.{if◌then◌else◌, slice_index_or}
use Rattle.tb_words.specs.Words.{word_of}
use Rattle.tb_words.specs.declared.Letter.{Letter}
use Rattle.tb_words.specs.Letters.{letter_index}
use Rattle.tb_basic_meaning.specs.declared.evaluation.EvalError.{EvalError}
use Rattle.tb_kernal.specs.declared.status.Status.{Status}
use Rattle.tb_kernal.specs.declared.status.Status.TheVariants.{Running}
use Rattle.tb_kernal.specs.Machine.{state_of, status}
use Rattle.tb_asm.specs.Layout.{Entry}
use Rattle.tb_disasm.specs.Lines.{shown as line_shown}
use Rattle.tb_debug_inspection.specs.Values.{IsValueOfText}
use Rattle.tb_debug.specs.Breakpoints.{breakpoints_of, watches_of, is_among, is_watched, stops_at_faults}
use Rattle.tb_debug_commands.specs.declared.command.Command.{Command}
use Rattle.tb_debug_commands.specs.declared.command.Command.TheVariants as command
use Rattle.tb_debug.specs.declared.answer.Answer.{Answer}
use Rattle.tb_debug.specs.declared.answer.Answer.TheVariants as answer
use Rattle.tb_debug.specs.declared.answer.Location.{Location}
use Rattle.tb_debug.specs.declared.answer.Location.TheVariants as stands
use Rattle.tb_debug.specs.declared.answer.Stand.{Stand}
use Rattle.tb_debug.specs.declared.debuggee.Debuggee.{Debuggee}
use Rattle.tb_debug.specs.declared.debuggee.Debuggee.TheVariants.{Source, Prg}
use Rattle.tb_debug.specs.declared.debugger.Debugger.{Debugger}
use Rattle.tb_debug.specs.declared.moment.Reached.{Reached}
use Rattle.tb_debug.specs.declared.moment.Reached.TheVariants.{Limit}
use Rattle.tb_debug.specs.Begins.{StandsBy}
use Rattle.tb_debug.specs.Leading.{Leads}
use Rattle.tb_debug.specs.Debuggees.{code_line_of, line_from, returns_from, start_from}
use Rattle.tb_debug.specs.Kinds.{lacks_source}
use Rattle.tb_debug_inspection.specs.Readings.{values_in}
use Rattle.tb_debug.specs.Readings.{bytes_of, code_of, most_code}

-- ---- what the machine holds

-- the values of A to Z
abbrev pub variables_here : Debugger → List ℤ
variables_here d = values_in (state_of d.present.machine).mem

-- the lines to return to, the newest first
abbrev pub returns_here : Debugger → List (Option ℕ)
returns_here d = returns_from d.debuggee (state_of d.present.machine).mem

-- the first of two lines that is one
abbrev pub or_line : Option ℕ → Option ℕ → Option ℕ
or_line (Some line) other = Some line
or_line None other = other

-- the line that begins here, or else the one that was begun last
abbrev pub line_here : Debugger → Option ℕ
line_here d =
    or_line (line_from d.debuggee d.present.machine.regs.pc) (line_from d.debuggee d.present.last)

-- the location of a machine that runs: at a line, or before the first one; without a source at an instruction
abbrev pub location_of : Debuggee → Option ℕ → Location
location_of (Source program) (Some line) = stands.Line line
location_of (Source program) None = stands.Opening
location_of Prg line = stands.Instruction

-- the location of a machine of this status, with its program counter
abbrev pub location_by : Debuggee → Status → Option ℕ → ℕ → Location
location_by debuggee Running line pc = location_of debuggee line
location_by debuggee why line pc = stands.Ended why pc

-- where the run stands
abbrev pub location_here : Debugger → Location
location_here d = location_by d.debuggee (status (state_of d.present.machine)) (line_here d) d.present.machine.regs.pc

-- the instruction at an address, if there is no source; none at a closed address
abbrev pub instruction_of : Debuggee → (ℕ → ℕ) → ℕ → List (ℕ × Entry)
instruction_of (Source program) m a = []
instruction_of Prg m a = code_of 1 m a

-- the instruction at which the run stands
abbrev pub instruction_here : Debugger → List (ℕ × Entry)
instruction_here d = instruction_of d.debuggee (state_of d.present.machine).mem d.present.machine.regs.pc

-- ---- stops

-- a limit ended the way
abbrev pub is_limit : Reached → Bool
is_limit Limit = true
is_limit _ = false

-- a stop that tells what was sent after the first `shown` bytes, all of which is shown then; whether a limit ended the way
-- there; where the run stands; and without a source the instruction there
pub record IsStop (shown : ℕ) (limited : Bool) (d : Debugger) (stand : Stand) : Type 0 where
  pub sent : stand.sent.items ≡ drop shown d.present.machine.sent
  pub all : d.shown ≡ length d.present.machine.sent
  pub limit : stand.is_limit ≡ limited
  pub location : stand.location ≡ location_here d
  pub instruction : map line_shown stand.instruction.items ≡ instruction_here d

-- an answer is such a stop
abbrev pub TellsStop : ℕ → Bool → Debugger → Answer → Type 0
TellsStop shown limit d (answer.Stop stand) = IsStop shown limit d stand
TellsStop shown limit d _ = ⊥

-- a command led somewhere by at most `limit` events: what was sent since the last stop is told, and the stop
abbrev pub TellsWay : ℕ → Command → Debugger → Debugger → Option Answer → Type 0
TellsWay limit c d e (Some told) =
    (reached : Reached) × Leads limit c d reached e.present × StandsBy d.starts reached e.present
    × TellsStop d.shown (is_limit reached) e told
TellsWay limit c d e None = ⊥

-- a command that leads to a line tells its way and the stop, or that the program has no such line
abbrev pub TellsLine : ℕ → Option ℕ → Command → Debugger → Debugger → Option Answer → Type 0
TellsLine limit (Some address) c d e told = TellsWay limit c d e told
TellsLine limit None c d e told = told ≡ Some answer.NoSuchLine

-- ---- breakpoints, watches and lists

-- an answer tells the breakpoints: their lines, or without a source their addresses
abbrev pub TellsBreakpoints : Debuggee → List ℕ → Option Answer → Type 0
TellsBreakpoints (Source program) set (Some (answer.Breakpoints lines)) = lines.items ≡ set
TellsBreakpoints Prg set (Some (answer.Addresses addresses)) = addresses.items ≡ set
TellsBreakpoints _ set _ = ⊥

-- the answer that says whether something is set then
abbrev pub set_or_cleared : Bool → Answer
set_or_cleared is_set = if is_set then answer.Set else answer.Cleared

-- whether a line of the program has a breakpoint then, or that there is no such line
abbrev pub breakpoint_answer : Option ℕ → Bool → Answer
breakpoint_answer (Some address) is_set = set_or_cleared is_set
breakpoint_answer None is_set = answer.NoSuchLine

-- the source around a line of the program
abbrev pub list_answer : Option ℕ → ℕ → Option ℕ → Answer
list_answer (Some address) line here = answer.List (Some line) here
list_answer None line here = answer.NoSuchLine

-- ---- values

-- the lines to return to that an answer tells
abbrev pub returns_told : Option Answer → Option (List (Option ℕ))
returns_told (Some (answer.Returns lines)) = Some lines.items
returns_told _ = None

-- the bytes that an answer tells
abbrev pub output_told : Option Answer → Option (List ℕ)
output_told (Some (answer.Output sent)) = Some sent.items
output_told _ = None

-- the value of a variable is told
abbrev pub TellsValue : Letter → Debugger → Option Answer → Type 0
TellsValue letter d told =
    told ≡ Some (answer.Variable (letter_index letter) (slice_index_or (variables_here d) (letter_index letter) (pos 0)))

-- the answer to a text that came to this: its value, or `what?`
abbrev pub value_answer : Option (Result ℤ EvalError) → Answer
value_answer (Some value) = answer.Value value
value_answer None = answer.What

-- what is told of the text after `e`: what that comes to over the variables
abbrev pub TellsText : List ℕ → Debugger → Option Answer → Type 0
TellsText text d told =
    (value : Option (Result ℤ EvalError)) × IsValueOfText (map word_of (variables_here d)) text value × (told ≡ Some (value_answer value))

-- ---- the machine

-- the registers, the line in whose code the program counter lies, and how the machine stands
abbrev pub registers_here : Debugger → Answer
registers_here d =
    answer.Registers d.present.machine.regs (code_line_of d.debuggee d.present.machine.regs.pc)
    (status (state_of d.present.machine))

-- the address and the bytes that an answer tells; none for a closed address
abbrev pub memory_told : Option Answer → Option (ℕ × List (Option ℕ))
memory_told (Some (answer.Memory at bytes)) = Some (at, bytes.items)
memory_told _ = None

-- the lines of code that an answer tells
abbrev pub code_told : Option Answer → Option (List (ℕ × Entry))
code_told (Some (answer.Code lines)) = Some (map line_shown lines.items)
code_told _ = None

-- ---- commands

-- what a command tells that is answered, if going on takes at most `limit` events; with the debugger before and after it
abbrev pub TellsAnswered : ℕ → Command → Debugger → Debugger → Option Answer → Type 0
TellsAnswered limit (command.Next lines) d e told = TellsWay limit (command.Next lines) d e told
TellsAnswered limit (command.Previous lines) d e told = TellsWay limit (command.Previous lines) d e told
TellsAnswered limit command.Continue d e told = TellsWay limit command.Continue d e told
TellsAnswered limit command.Over d e told = TellsWay limit command.Over d e told
TellsAnswered limit command.Finish d e told = TellsWay limit command.Finish d e told
TellsAnswered limit command.ReverseContinue d e told = TellsWay limit command.ReverseContinue d e told
TellsAnswered limit (command.ToTime time) d e told = TellsWay limit (command.ToTime time) d e told
TellsAnswered limit (command.Step events) d e told = TellsWay limit (command.Step events) d e told
TellsAnswered limit (command.ToLine line) d e told = TellsLine limit (start_from d.debuggee line) (command.ToLine line) d e told
TellsAnswered limit command.Breakpoints d e told = TellsBreakpoints e.debuggee (breakpoints_of e.stops) told
TellsAnswered limit (command.Breakpoint line) d e told =
    told ≡ Some (breakpoint_answer (start_from d.debuggee line) (not (is_among (breakpoints_of d.stops) line)))
TellsAnswered limit (command.Watch letter) d e told = told ≡ Some (set_or_cleared (not (is_watched (watches_of d.stops) (letter_index letter))))
TellsAnswered limit command.Faults d e told = told ≡ Some (answer.Faults (not (stops_at_faults d.stops)))
TellsAnswered limit command.ListHere d e told = told ≡ Some (answer.List (line_here e) (line_here e))
TellsAnswered limit (command.List line) d e told = told ≡ Some (list_answer (start_from d.debuggee line) line (line_here e))
TellsAnswered limit command.Variables d e told = told ≡ Some (answer.Variables (variables_here e))
TellsAnswered limit (command.Variable letter) d e told = TellsValue letter e told
TellsAnswered limit (command.Value text) d e told = TellsText text.now e told
TellsAnswered limit command.Returns d e told = returns_told told ≡ Some (returns_here e)
TellsAnswered limit command.Output d e told = output_told told ≡ Some e.present.machine.sent
TellsAnswered limit (command.Type text) d e told = told ≡ Some answer.Typed
TellsAnswered limit command.Registers d e told = told ≡ Some (registers_here e)
TellsAnswered limit (command.Memory at count) d e told = memory_told told ≡ Some (at, bytes_of (state_of e.present.machine).mem at count)
TellsAnswered limit command.Code d e told = code_told told ≡ Some (code_of most_code (state_of e.present.machine).mem e.present.machine.regs.pc)
TellsAnswered limit command.Help d e told = told ≡ Some answer.Help
TellsAnswered limit command.Quit d e told = told ≡ None
TellsAnswered limit command.Unknown d e told = told ≡ Some answer.What

-- what each command tells: without a source there is no answer to what only a source answers
abbrev pub TellsBy : Bool → ℕ → Command → Debugger → Debugger → Option Answer → Type 0
TellsBy true limit c d e told = told ≡ Some answer.NoSource
TellsBy false limit c d e told = TellsAnswered limit c d e told

abbrev pub Tells : ℕ → Command → Debugger → Debugger → Option Answer → Type 0
Tells limit c d e told = TellsBy (lacks_source c d) limit c d e told
