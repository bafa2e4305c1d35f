-- Whether trees are the same, which can be told.
use Rattle.std.specs.Prelude.{◌≡◌, Bool, true, false, Decides, refl}
use Rattle.std.specs.Cmp.{IsPartialEquivalence}
use Rattle.std.proofs.lemmas.Bool.Decides.{same_from_decides}
use mathlib.Core.Path.{sym, ◌∙◌}
use mathlib.Core.Bool.{Bool-discrete}
use mathlib.Core.List.{List-discrete}
use mathlib.Core.Logic.{ite}
use native.Mathlib.Decide.{ℕ_discrete}
use Rattle.tb_words.specs.declared.Rel.{Rel}
use Rattle.tb_words.specs.declared.Rel.TheVariants.{Eq, Lt, Gt, Le, Ge, Ne}
use Rattle.tb_basic_syntax.specs.declared.expressions.Operator.{Operator}
use Rattle.tb_basic_syntax.specs.declared.expressions.Operator.TheVariants.{Add, Subtract, Multiply, Divide}
use Rattle.tb_basic_syntax.specs.Source.{Expression, Expression_discrete, Item, Item_discrete, Statement, Statement_discrete}

-- whether two operators are the same, with the reason
pub operators : Discrete Operator
operators Add Add = yes refl
operators Subtract Subtract = yes refl
operators Multiply Multiply = yes refl
operators Divide Divide = yes refl
operators _ _ = no (λ e. absurd cc)

-- whether two relations are the same
pub relations : Discrete Rel
relations Eq Eq = yes refl
relations Lt Lt = yes refl
relations Gt Gt = yes refl
relations Le Le = yes refl
relations Ge Ge = yes refl
relations Ne Ne = yes refl
relations _ _ = no (λ e. absurd cc)

-- whether two expressions are the same
abbrev pub expressions : Discrete Expression
expressions = Expression_discrete ℕ_discrete operators

-- whether two items of PRINT are the same
abbrev pub items : Discrete Item
items = Item_discrete (List-discrete ℕ_discrete) expressions

-- whether two statements are the same
abbrev pub statements : Discrete Statement
statements = Statement_discrete ℕ_discrete expressions (List-discrete items) Bool-discrete (List-discrete ℕ_discrete) relations

-- the answer without the reason
abbrev pub is_same : {A : Type 0} → Discrete A → A → A → Bool
is_same d x y = ite (d x y) true false

module _ {A : Type 0} (d : Discrete A) where
  -- the answer is right
  pub answers : (x y : A) → Decides (is_same d x y) (x ≡ y)
  answers x y = by (d x y)
    where
      by : (t : Dec (x ≡ y)) → Decides (ite t true false) (x ≡ y)
      by (yes e) = (λ h. e, λ h. refl)
      by (no f) = (λ h. absurd cc, λ h. absurd (f h))

  -- so it is an equivalence's
  pub answers_lawful : IsPartialEquivalence (is_same d)
  answers_lawful = record {
    symm = λ x y. same_from_decides _ _ (answers x y) (λ h. sym ((answers y x).0 h), λ h. (answers y x).1 (sym h));
    trans = λ x y z h k. (answers x z).1 ((answers x y).0 h ∙ (answers y z).0 k);
  }
