-- The checkpoints of a program by the size of its file, and the text that sets them.
use Rattle.std.specs.Prelude.{ℕ, ◌+◌, ◌-◌, List, [], ◌∷◌, ◌++◌, codes, map, nat_lt, if◌then◌else◌}
use Rattle.std.specs.List.{range_with_len}
use Rattle.std.specs.Fmt.{decimal}
use Rattle.tb_kernal.specs.Numbers.{CHRIN, CHROUT, GETIN}
use Rattle.tb_engine_monitor.specs.declared.checkpoints.Checkpoint.{Checkpoint}
use Rattle.tb_engine_monitor.specs.declared.checkpoints.Checkpoint.TheVariants.{Starts, Resets, Elsewhere, Leaves, Enters, Pulls, Ends, Writes, WritesToStack, Runs}
use Rattle.tb_engine_monitor.specs.Checkpoints.{command_text, look_text}

-- The ROM is entered at an address. Its callers keep up to 13 bytes on the stack, from `least` on, and `pushed` more are
-- pushed on the way there.
abbrev pub entries : ℕ → ℕ → ℕ → List Checkpoint
entries at pushed least = map (λ depth. Enters at (depth + pushed) (depth + 1)) (range_with_len least (14 - least))

-- the services CHROUT, CHRIN and GETIN, whose call takes two bytes, and the interrupts IRQ and NMI, which push three
abbrev pub all_entries : List Checkpoint
all_entries = entries CHROUT 0 2 ++ (entries CHRIN 0 2 ++ (entries GETIN 0 2 ++ (entries 0xFF48 3 0 ++ entries 0xFE43 3 0)))

-- what is the program's besides the stack
abbrev pub writes : List Checkpoint
writes = Writes 0x00FB 0x00FE ∷ Writes 0x0800 0x9FFF ∷ Writes 0xC000 0xCFFF ∷ []

-- the stack from the lowest byte that can be the program's
abbrev pub stack_writes : List Checkpoint
stack_writes = map (λ at. WritesToStack at) (range_with_len 0x0153 0xAD)

-- what lies behind a program that ends before an address, if it doesn't fill its region
abbrev pub behind : ℕ → List Checkpoint
behind end = if nat_lt end 0xA000 then Runs end 0x9FFF ∷ [] else []

-- where a program that ends before an address has no code
abbrev pub runs : ℕ → List Checkpoint
runs end = Runs 0x0002 0x080C ∷ Runs 0xC000 0xDFFF ∷ behind end

-- all checkpoints of a program that ends before an address
abbrev pub checkpoints : ℕ → List Checkpoint
checkpoints end =
    Starts ∷ Resets ∷ Elsewhere ∷ Leaves (end - 1) ∷ (all_entries ++ (Pulls ∷ Ends ∷ (writes ++ (runs end ++ stack_writes))))

-- a checkpoint's two lines, by its number
abbrev pub checkpoint_text : ℕ → Checkpoint → List ℕ
checkpoint_text number c = look_text c ++ (codes "\ncommand " ++ (decimal number ++ (codes " \"" ++ (command_text c ++ codes "\"\n"))))

-- the lines of checkpoints; the monitor numbers them in turn
unfoldable pub texts_from : ℕ → List Checkpoint → List ℕ
texts_from number [] = []
texts_from number (c ∷ cs) = checkpoint_text number c ++ texts_from (number + 1) cs

-- what the file begins with
abbrev pub head : List ℕ
head = codes "; For VICE's monitor: it stops where a ROM writes what is the program's, or where code runs outside it.\n"

-- the file of a program whose PRG file has this many bytes: two are its load address, $0801
abbrev pub watch_text : ℕ → List ℕ
watch_text size = head ++ texts_from 1 (checkpoints (size + 0x07FF))
