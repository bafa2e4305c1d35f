-- What trees say of reading and of values.
use Rattle.std.specs.Prelude.{◌≡◌, ℕ, ℤ, Result, Ok, Err, List, ◌∷◌}
use Rattle.tb_assembly_text.specs.Expressions.{column_at, whole}
use Rattle.tb_assembly_meaning.specs.declared.faults.MeaningFault.{MeaningFault}
use Rattle.tb_assembly_meaning.specs.Names.{Env}
use Rattle.tb_assembly_meaning.specs.Values.{run, value}
use Rattle.tb_assembly_laws.specs.Trees.{Tree, IsBound, written, steps_of, value_of}

-- a tree's tokens, up to the end of a line, are read as its steps
abbrev pub ReadsTrees : Type 0
ReadsTrees = (scope : List ℕ) (end : ℕ) (t : Tree) → IsBound t → whole scope end (written t) ≡ Ok (column_at end (written t), steps_of scope t)

-- a value on a stack, unless it is refused
abbrev pub onto : Result ℤ MeaningFault → List ℤ → Result (List ℤ) MeaningFault
onto (Ok z) st = Ok (z ∷ st)
onto (Err e) st = Err e

-- the steps of a tree put its value on the stack
abbrev pub RunsTrees : Type 0
RunsTrees = (scope : List ℕ) (env : Env) (at : ℤ) (t : Tree) (st : List ℤ) → run env at (steps_of scope t) st ≡ onto (value_of scope env at t) st

-- the value of what is read of a tree's tokens is the tree's
abbrev pub ValuesOfTrees : Type 0
ValuesOfTrees =
    (scope : List ℕ) (end : ℕ) (env : Env) (at : ℤ) (t : Tree) → IsBound t
    → (e : _) × (whole scope end (written t) ≡ Ok e) × (value env at e ≡ value_of scope env at t)
