-- Branches that do not reach, made long in rounds.
use Rattle.std.specs.Prelude.{◌≡◌, ℕ, Bool, true, false, not, ◌&&◌, Option, Result, Ok, Err, List, [], ◌∷◌, map, if◌then◌else◌}
use Rattle.std.specs.List.{list_any}
use Rattle.tb_asm.specs.Layout.{Entry}
use Rattle.tb_assembly_text.specs.declared.operands.Width.{Width}
use Rattle.tb_assembly_text.specs.declared.operands.Width.TheVariants.{Long}
use Rattle.tb_assembly_text.specs.declared.operands.Index.TheVariants.{Without}
use Rattle.tb_assembly_text.specs.Operands.{direct_by}
use Rattle.tb_assembly_text.specs.Statements.{instructs, Said}
use Rattle.tb_assembly_meaning.specs.declared.faults.Wrong.{Wrong}
use Rattle.tb_assembly_meaning.specs.declared.faults.Wrong.TheVariants.{TooFar}
use Rattle.tb_assembly_meaning.specs.declared.faults.MeaningFault.{MeaningFault}
use Rattle.tb_assembly_meaning.specs.Names.{Env}
use Rattle.tb_assembly_meaning.specs.Places.{Lying}
use Rattle.tb_assembly_meaning.specs.Meaning.{names_of, outcome, spots_of}

-- whether it is the width of a long branch
abbrev pub is_long : Width → Bool
is_long Long = true
is_long w = false

-- whether a statement may become a long branch: it is an instruction with an address, and not one already
abbrev pub may_lengthen : Said → Bool
may_lengthen (c, instructs m (direct_by w e Without)) = not (is_long w)
may_lengthen s = false

-- an instruction with an address as a long branch; any other statement as it is
abbrev pub lengthened : Said → Said
lengthened (c, instructs m (direct_by w e Without)) = (c, instructs m (direct_by Long e Without))
lengthened s = s

-- whether it is wrong that a branch does not reach
abbrev pub is_too_far : Wrong → Bool
is_too_far TooFar = true
is_too_far w = false

-- whether that is wrong with a statement
abbrev pub falls_short : Result (Option Entry) MeaningFault → Bool
falls_short (Ok o) = false
falls_short (Err f) = is_too_far f.wrong

-- whether a statement is a branch that does not reach, and may become long
abbrev pub is_far : Env → Lying → Bool
is_far env l = may_lengthen l.0 && falls_short (outcome env l)

-- a statement that becomes long, or stays as it is
abbrev pub next_by : Bool → Said → Said
next_by far s = if far then lengthened s else s

-- the statements after one round: each branch that does not reach is long
abbrev pub round : ℕ → List Said → List Said
round at ss = map (λ l. next_by (is_far (names_of at ss) l) l.0) (spots_of at ss)

-- whether one of the branches does not reach
abbrev pub some_far : ℕ → List Said → Bool
some_far at ss = list_any (is_far (names_of at ss)) (spots_of at ss)

-- rounds, each with the places and the values that the statements have then, until each branch reaches
pub data Settles (at : ℕ) : List Said → List Said → Type 0 where
  done : (ss : List Said) → some_far at ss ≡ false → Settles at ss ss
  more : (ss ts : List Said) → some_far at ss ≡ true → Settles at (round at ss) ts → Settles at ss ts

-- the statements that become long by their marks
abbrev pub by_marks : List Bool → List Said → List Said
by_marks [] ss = ss
by_marks (b ∷ bs) [] = []
by_marks (b ∷ bs) (s ∷ ss) = next_by b s ∷ by_marks bs ss
