-- The steps of trees make their values.
use Rattle.std.proofs.Common.{◌≡◌, ℕ, ℤ, pos, List, [], ◌∷◌, ◌++◌, refl, ap, ◌∙◌, Result, Ok, Err}
use Rattle.tb_assembly_text.specs.Names.{full_name}
use Rattle.tb_assembly_text.specs.Expressions.{Mark, unary, binary}
use Rattle.tb_assembly_text.specs.declared.expressions.Binary.{Binary}
use Rattle.tb_assembly_text.specs.declared.expressions.Unary.{Unary}
use Rattle.tb_assembly_meaning.specs.declared.faults.Wrong.{Wrong}
use Rattle.tb_assembly_meaning.specs.declared.faults.MeaningFault.{MeaningFault}
use Rattle.tb_assembly_meaning.specs.Names.{Env}
use Rattle.tb_assembly_meaning.specs.Values.{binary_value, checked, pushed, run, stepped, then_steps, unary_value, value_named}
use Rattle.tb_assembly_laws.specs.Trees.{Tree, numbers, names, stands, before, between, within, steps_of, unless, value_of, with_value}
use Rattle.tb_assembly_laws.specs.TreeLaws.{RunsTrees, onto}

-- a value that is put on a stack
pushed_onto : (c : ℕ) (r : Result ℤ Wrong) (st : List ℤ) → pushed c r st ≡ onto (unless c r) st
pushed_onto c (Ok z) st = refl
pushed_onto c (Err w) st = refl

module _ (env : Env) (at : ℤ) where
  -- steps after others
  run_then : (ms ns : List Mark) (r : Result (List ℤ) MeaningFault) → ((st : List ℤ) → run env at (ms ++ ns) st ≡ then_steps (run env at ms st) (run env at ns))
      → then_steps r (run env at (ms ++ ns)) ≡ then_steps (then_steps r (run env at ms)) (run env at ns)
  run_then ms ns (Ok xs) so = so xs
  run_then ms ns (Err e) so = refl

  run_append : (ms ns : List Mark) (st : List ℤ) → run env at (ms ++ ns) st ≡ then_steps (run env at ms st) (run env at ns)
  run_append [] ns st = refl
  run_append (m ∷ ms) ns st = run_then ms ns (stepped env at m st) (run_append ms ns)

  -- nothing is done after one step
  alone : (r : Result (List ℤ) MeaningFault) → then_steps r (run env at []) ≡ r
  alone (Ok st) = refl
  alone (Err e) = refl

  last_pushed : (c : ℕ) (r : Result ℤ Wrong) (st : List ℤ) → then_steps (pushed c r st) (run env at []) ≡ onto (unless c r) st
  last_pushed c r st = alone (pushed c r st) ∙ pushed_onto c r st

  -- an operator after its operand
  with_one : (c : ℕ) (u : Unary) (r : Result ℤ MeaningFault) (st : List ℤ)
      → then_steps (onto r st) (run env at ((c, unary u) ∷ [])) ≡ onto (with_value r (λ a. unless c (unary_value u a))) st
  with_one c u (Ok a) st = last_pushed c (unary_value u a) st
  with_one c u (Err e) st = refl

  -- an operator after its right operand
  with_right : (c : ℕ) (b : Binary) (x : ℤ) (r : Result ℤ MeaningFault) (st : List ℤ)
      → then_steps (onto r (x ∷ st)) (run env at ((c, binary b) ∷ [])) ≡ onto (with_value r (λ y. unless c (binary_value b x y))) st
  with_right c b x (Ok y) st = last_pushed c (binary_value b x y) st
  with_right c b x (Err e) st = refl

  -- an operator and its right operand after the left one
  with_left : (c : ℕ) (b : Binary) (ms : List Mark) (l r : Result ℤ MeaningFault) (st : List ℤ) → ((xs : List ℤ) → run env at ms xs ≡ onto r xs)
      → then_steps (onto l st) (run env at (ms ++ (c, binary b) ∷ []))
      ≡ onto (with_value l (λ x. with_value r (λ y. unless c (binary_value b x y)))) st
  with_left c b ms (Ok x) r st right =
      run_append ms ((c, binary b) ∷ []) (x ∷ st) ∙ ap (λ q. then_steps q (run env at ((c, binary b) ∷ []))) (right (x ∷ st)) ∙ with_right c b x r st
  with_left c b ms (Err e) r st right = refl

  module _ (scope : List ℕ) where
    runs : (t : Tree) (st : List ℤ) → run env at (steps_of scope t) st ≡ onto (value_of scope env at t) st
    runs (numbers c n) st = last_pushed c (checked (pos n)) st
    runs (names c w) st = last_pushed c (value_named (env (full_name scope w))) st
    runs (stands c) st = refl
    runs (before c u t) st =
        run_append (steps_of scope t) ((c, unary u) ∷ []) st ∙ ap (λ q. then_steps q (run env at ((c, unary u) ∷ []))) (runs t st)
        ∙ with_one c u (value_of scope env at t) st
    runs (between c b l r) st =
        let more = steps_of scope r ++ (c, binary b) ∷ [] in
        run_append (steps_of scope l) more st ∙ ap (λ q. then_steps q (run env at more)) (runs l st)
        ∙ with_left c b (steps_of scope r) (value_of scope env at l) (value_of scope env at r) st (λ xs. runs r xs)
    runs (within c d t) st = runs t st

-- the steps of a tree put its value on the stack
pub runs_trees : RunsTrees
runs_trees scope env at t st = runs env at scope t st
