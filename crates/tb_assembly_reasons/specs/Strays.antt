-- What belongs to no part of a line.
use Rattle.std.specs.Prelude.{ℕ, ◌+◌, ◌==◌, ◌&&◌, ◌||◌, Bool, true, false, Option, Some, None, List, [], ◌∷◌, length, if◌then◌else◌}
use Rattle.tb_asm.specs.Names.{fold_byte, is_between, is_letter}
use Rattle.tb_assembly_reasons.specs.Words.{before, is_word_byte, past_digits}
use Rattle.tb_assembly_reasons.specs.declared.reasons.LineFault.{LineFault}
use Rattle.tb_assembly_reasons.specs.declared.reasons.LineReason.{LineReason}
use Rattle.tb_assembly_reasons.specs.declared.reasons.LineReason.TheVariants as reason
use Rattle.tb_assembly_reasons.specs.declared.strays.Step.{Step}
use Rattle.tb_assembly_reasons.specs.declared.strays.Step.TheVariants as step

-- whether two or four hexadecimal digits are at the front, and no more
abbrev pub is_number : List ℕ → Bool
is_number text = let digits = length (before text (past_digits text)) in (digits == 2) || (digits == 4)

-- whether a byte is a space, `#`, `<`, `>`, `(`, `)`, a comma or a colon
abbrev pub is_sign : ℕ → Bool
is_sign b = (b == 32) || (b == 35) || (b == 60) || (b == 62) || (b == 40) || (b == 41) || (b == 44) || (b == 58)

-- why nothing begins with a byte: it looks like a number, a tab, a text, or a sum or a definition
abbrev pub stray_reason : ℕ → LineReason
stray_reason b =
    if is_between 48 57 b || (b == 37) || (b == 36) then reason.Number else
    if b == 9 then reason.Tab else
    if (b == 34) || (b == 39) then reason.Quote else
    if (b == 43) || (b == 45) || (b == 42) || (b == 47) || (b == 61) then reason.Sum else reason.Stray

-- whether a word begins with a byte
abbrev pub begins_word : ℕ → Bool
begins_word b = is_letter (fold_byte b) || (b == 46)

-- what comes of a byte with what follows it, inside of a word or a number or not
abbrev pub step_of : Bool → ℕ → List ℕ → Step
step_of inside b after =
    if b == 59 then step.Ends else
    if is_sign b then step.On false else
    if begins_word b || (inside && is_word_byte b) || ((b == 36) && is_number after) then step.On true else step.Stray (stray_reason b)

-- what is found by the step of the byte in a column; `go` looks on
abbrev pub found_by : ℕ → Step → (Bool → Option LineFault) → Option LineFault
found_by column (step.On inside) go = go inside
found_by column step.Ends go = None
found_by column (step.Stray why) go = Some (record { column = column; reason = why })

-- the first byte from a column on that belongs to no part
abbrev pub stray_from : ℕ → Bool → List ℕ → Option LineFault
stray_from column inside [] = None
stray_from column inside (b ∷ bs) = found_by column (step_of inside b bs) (λ now. stray_from (column + 1) now bs)

-- the first byte before a comment that belongs to no part of a line
abbrev pub stray : List ℕ → Option LineFault
stray line = stray_from 1 false line
