-- What costs add up to.
use Rattle.std.proofs.Common.{◌≡◌, ℕ, ◌+◌, ◌≤◌, List, [], ◌∷◌, sum_by, refl, sym, ap, ◌∙◌, arith}
use Rattle.std.proofs.lemmas.List.Sums.{sum_by-cons}
use Rattle.tb_basic_syntax.specs.Source.{Expression, Number, Variable, Negate, Binary, Random, Item}
use Rattle.tb_basic_meaning.specs.Cost.{nodes, item_cost, items_cost}

-- an expression has a node
pub one_node : (e : Expression) → 1 ≤ nodes e
one_node (Number n) = omega arith
one_node (Variable x) = omega arith
one_node (Negate e) = omega arith
one_node (Binary op l r) = omega arith
one_node (Random e) = omega arith

-- the items of a PRINT cost what each of them costs
pub items_pay : (is : List Item) → items_cost is ≡ sum_by item_cost is
items_pay [] = refl
items_pay (i ∷ is) = ap (λ n. item_cost i + n) (items_pay is) ∙ sym (sum_by-cons item_cost i is)
