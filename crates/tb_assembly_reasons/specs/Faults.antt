-- Why a line is refused.
use Rattle.std.specs.Prelude.{ℕ, ◌+◌, ◌-◌, ◌==◌, Bool, Option, Some, None, Result, is_ok, List, [], ◌∷◌, length, if◌then◌else◌}
use Rattle.tb_asm.specs.Text.{items_of_text}
use Rattle.tb_assembly_reasons.specs.Words.{before, from_byte, past_spaces, past_word}
use Rattle.tb_assembly_reasons.specs.Strays.{stray}
use Rattle.tb_assembly_reasons.specs.declared.reasons.LineReason.{LineReason}
use Rattle.tb_assembly_reasons.specs.declared.reasons.LineReason.TheVariants as reason
use Rattle.tb_assembly_reasons.specs.declared.reasons.LineFault.{LineFault}

-- whether a text is read as assembler text
abbrev pub reads : List ℕ → Bool
reads text = is_ok (items_of_text text)

-- a fault at what is left of a text
abbrev pub fault_at : List ℕ → List ℕ → LineReason → LineFault
fault_at text left why = record { column = length text - length left + 1; reason = why }

-- The fault of an item by its first word, what follows it, and what is left of the code with both: no word stands there,
-- or a directive, or an instruction; or an item follows, so a colon is missing; or the word is unknown.
abbrev pub word_fault : List ℕ → List ℕ → List ℕ → List ℕ → LineFault
word_fault code left [] after = fault_at code left reason.Item
word_fault code left (b ∷ word) after =
    if b == 46 then fault_at code left reason.Directive else
    if reads (b ∷ word) then fault_at code (past_spaces after) reason.Operand else
    if reads after then fault_at code after reason.Colon else fault_at code left reason.Mnemonic

-- the fault of an item, which begins where this is left of the code
abbrev pub item_fault : List ℕ → List ℕ → LineFault
item_fault code left = word_fault code left (before left (past_word left)) (past_word left)

-- the fault of code by what is left of it from its first colon on
abbrev pub labelled_fault : List ℕ → List ℕ → LineFault
labelled_fault code [] = item_fault code (past_spaces code)
labelled_fault code (colon ∷ after) =
    if reads (before code after) then item_fault code (past_spaces after) else fault_at code (past_spaces code) reason.Name

-- the fault of a line without comment, each byte of which belongs to a part
abbrev pub words_fault : List ℕ → LineFault
words_fault code = labelled_fault code (from_byte 58 code)

-- a line without its comment
abbrev pub code_of : List ℕ → List ℕ
code_of line = before line (from_byte 59 line)

-- the fault of a line at a byte that belongs to no part of it, or else at a word
abbrev pub fault_by : List ℕ → Option LineFault → LineFault
fault_by line None = words_fault (code_of line)
fault_by line (Some fault) = fault

abbrev pub line_fault : List ℕ → LineFault
line_fault line = fault_by line (stray line)
