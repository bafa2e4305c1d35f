-- Code that changes a word in place: by a constant that is added or subtracted, to its half or to its double.
use Rattle.std.specs.Prelude.{ℕ, ◌+◌, ◌-◌, List, [], ◌∷◌, ◌++◌, if◌then◌else◌, nat_eq, nat_lt, Option, Some, None}
use Rattle.tb_opcodes.specs.declared.Mnemonic.{Mnemonic}
use Rattle.tb_opcodes.specs.declared.Mnemonic.TheVariants.{Adc, Asl, Bcc, Bcs, Bne, Clc, Dec, Inc, Lda, Rol, Ror, Sbc, Sec, Sta}
use Rattle.tb_asm.specs.Layout.{Entry}
use Rattle.tb_basic_syntax.specs.declared.expressions.Operator.{Operator}
use Rattle.tb_basic_syntax.specs.declared.expressions.Operator.TheVariants.{Add, Subtract, Multiply, Divide}
use Rattle.tb_compiler_templates.specs.declared.labels.Target.{Target}
use Rattle.tb_compiler_templates.specs.Templates.{at, const, alone, branch, here}
use Rattle.tb_compiler_templates.specs.Sources.{Source, FixedWord, AtAddress}
use Rattle.tb_compiler_templates.specs.Scaled.{on_a}
pub use Rattle.tb_compiler_templates.specs.declared.in_place.Change.{Change}
pub use Rattle.tb_compiler_templates.specs.declared.in_place.Change.TheVariants.{Increment, Decrement, Raise, Lower, Halve, Double}

-- ── which change a calculation is ──
-- a constant that is added: fewer than 256 more, or fewer than 256 less
abbrev pub raising : ℕ → Option Change
raising w = if nat_eq w 1 then Some Increment else if nat_eq w 65535 then Some Decrement else if nat_lt w 256 then Some (Raise w) else if nat_lt 65280 w then Some (Lower (65536 - w)) else None

-- a constant that is subtracted
abbrev pub lowering : ℕ → Option Change
lowering w = if nat_eq w 1 then Some Decrement else if nat_eq w 65535 then Some Increment else if nat_lt w 256 then Some (Lower w) else if nat_lt 65280 w then Some (Raise (65536 - w)) else None

-- a word with a constant after it
abbrev pub with_right : Operator → ℕ → Option Change
with_right Add w = raising w
with_right Subtract w = lowering w
with_right Multiply w = if nat_eq w 2 then Some Double else None
with_right Divide w = if nat_eq w 2 then Some Halve else None

-- a word with a constant before it
abbrev pub with_left : Operator → ℕ → Option Change
with_left Add v = raising v
with_left Subtract v = None
with_left Multiply v = if nat_eq v 2 then Some Double else None
with_left Divide v = None

-- the change of a word at an address by a constant, if the result goes to that address
abbrev pub change_of : Operator → Source → Source → ℕ → Option Change
change_of op (AtAddress p) (FixedWord w) to = if nat_eq p to then with_right op w else None
change_of op (FixedWord v) (AtAddress q) to = if nat_eq q to then with_left op v else None
change_of op (FixedWord v) (FixedWord w) to = None
change_of op (AtAddress p) (AtAddress q) to = None

-- ── its code ──
-- the high byte of a word is counted up or down, unless the branch is taken
abbrev pub counted : Mnemonic → Target → Mnemonic → ℕ → List Entry
counted leaves skip counts p = branch leaves skip ∷ at counts (p + 1) ∷ here skip ∷ []

-- one more if C is set
abbrev pub one_more : ℕ → List Entry
one_more p = at Lda p ∷ const Adc 0 ∷ at Sta p ∷ at Lda (p + 1) ∷ const Adc 0 ∷ at Sta (p + 1) ∷ []

-- a word is shifted to the right with C its sign, and a negative one is raised by one first: so it is rounded toward zero
abbrev pub half_in_place : ℕ → Target → List Entry
half_in_place p skip = at Lda (p + 1) ∷ on_a Asl ∷ branch Bcc skip ∷ (one_more p ++ (on_a Asl ∷ here skip ∷ at Ror (p + 1) ∷ at Ror p ∷ []))

-- a word is shifted to the left
abbrev pub doubled_in_place : ℕ → List Entry
doubled_in_place p = at Asl p ∷ at Rol (p + 1) ∷ []

-- the word at an address, changed
abbrev pub changed : Change → ℕ → Target → List Entry
changed Increment p skip = at Inc p ∷ counted Bne skip Inc p
changed Decrement p skip = at Lda p ∷ (counted Bne skip Dec p ++ (at Dec p ∷ []))
changed (Raise c) p skip = alone Clc ∷ at Lda p ∷ const Adc c ∷ at Sta p ∷ counted Bcc skip Inc p
changed (Lower c) p skip = alone Sec ∷ at Lda p ∷ const Sbc c ∷ at Sta p ∷ counted Bcs skip Dec p
changed Halve p skip = half_in_place p skip
changed Double p skip = doubled_in_place p
