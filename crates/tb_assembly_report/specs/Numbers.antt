-- The numbers that are promised, and that the code has the same ones.
use Rattle.std.specs.Prelude.{ℕ, ◌≡◌}
use Rattle.tb_assembly_report.specs.declared.notes.TheConstants as code_notes
use Rattle.tb_assembly_report.specs.declared.near.TheConstants as code_near

-- under how many of the first errors notes are looked for
abbrev pub NOTED : ℕ
NOTED = 20

-- how many letters an instruction has
abbrev pub LETTERS : ℕ
LETTERS = 3

-- the most letters of names that are compared
abbrev pub LONGEST : ℕ
LONGEST = 31

-- the letters from which on two edits are near
abbrev pub LONG : ℕ
LONG = 5

-- the constants of the code are these numbers
abbrev pub ConstantsAreNumbers : Type 0
ConstantsAreNumbers =
    (code_notes.NOTED ≡ NOTED) × (code_notes.LETTERS ≡ LETTERS) × (code_near.LONGEST ≡ LONGEST) × (code_near.LONG ≡ LONG)
