-- Labels in a dialogue: their names in commands, and the place by a label in answers.
use Rattle.std.specs.Prelude.{ℕ, ◌==◌, ◌||◌, ◌&&◌, suc, Bool, List, [], ◌∷◌, ◌++◌, codes, drop, take, Option, Some, None, if◌then◌else◌}
use Rattle.std.specs.Option.{option_and_then}
use Rattle.tb_kernal.specs.declared.status.Status.{Status}
use Rattle.tb_kernal.specs.declared.status.Status.TheVariants.{Wrong}
use Rattle.tb_disasm.specs.declared.listing.Line.{Line as CodeLine}
use Rattle.tb_assembly_labels.specs.Places.{address_of, place_of, place_text}
use Rattle.tb_debug_inspection.specs.Texts.{address_text}
use Rattle.tb_debug.specs.declared.answer.Answer.{Answer}
use Rattle.tb_debug.specs.declared.answer.Answer.TheVariants as answer
use Rattle.tb_debug.specs.declared.answer.Location.{Location}
use Rattle.tb_debug.specs.declared.answer.Location.TheVariants as location

-- ---- names in commands

-- the commands that take an address: b, g and m
abbrev pub takes_address : ℕ → Bool
takes_address c = (c == 98) || ((c == 103) || (c == 109))

-- how an address is written after a command: four digits, after `$` but for m
abbrev pub spelled_address : ℕ → ℕ → List ℕ
spelled_address c address = if c == 109 then address_text address else 36 ∷ address_text address

-- how long the word is with which a text begins
abbrev pub word_length : List ℕ → ℕ
word_length [] = 0
word_length (b ∷ text) = if b == 32 then 0 else suc (word_length text)

-- a text with an address in place of its first word, if there is one
abbrev pub with_address : ℕ → List ℕ → Option ℕ → List ℕ
with_address c text (Some address) = spelled_address c address ++ drop (word_length text) text
with_address c text None = text

-- a text after a command with the address of a label in place of its name
abbrev pub renamed : List (ℕ × List ℕ) → ℕ → List ℕ → List ℕ
renamed labels c text = with_address c text (address_of labels (take (word_length text) text))

-- a command's line with the address of a label in place of its name
abbrev pub named_line : List (ℕ × List ℕ) → List ℕ → List ℕ
named_line labels (c ∷ space ∷ text) =
    if takes_address c && space == 32 then c ∷ 32 ∷ renamed labels c text else c ∷ space ∷ text
named_line labels line = line

-- a command's line with the address of a label in place of its name; without labels it is the line itself
abbrev pub translated : List (ℕ × List ℕ) → List ℕ → List ℕ
translated [] line = line
translated (l ∷ labels) line = named_line (l ∷ labels) line

-- ---- the place in answers

-- the address at which a stop is, if it is at an instruction or where the machine went wrong
abbrev pub stopped_at : Location → List CodeLine → Option ℕ
stopped_at location.Instruction (l ∷ ls) = Some l.address
stopped_at (location.Ended (Wrong w) pc) ls = Some pc
stopped_at _ ls = None

-- the address of which an answer tells
abbrev pub standing : Answer → Option ℕ
standing (answer.Stop stand) = stopped_at stand.location stand.instruction.items
standing (answer.Registers regs line status) = Some regs.pc
standing _ = None

-- a place in a line of its own
abbrev pub line_of_place : Option (List ℕ × ℕ) → List ℕ
line_of_place (Some p) = codes "at " ++ (place_text p ++ 10 ∷ [])
line_of_place None = []

-- the place at an address, if a label is near: `at loop+3`
abbrev pub place_line : List (ℕ × List ℕ) → Option ℕ → List ℕ
place_line labels (Some address) = line_of_place (place_of labels address)
place_line labels None = []
