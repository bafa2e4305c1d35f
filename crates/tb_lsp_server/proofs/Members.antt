-- Objects that get more members.
use Rattle.std.proofs.Common.{◌≡◌, ℕ, List, Bool, ap, ◌∙◌, rules}
use Rattle.serde_json.specs.Data.{Data, Members, boolean, put}
use Rattle.serde_json.specs.View.{view}
use Rattle.serde_json.specs.declared.value.Value.{the_lemmas}
use Rattle.serde_json.specs.declared.value.Value.TheVariants as value

-- a truth value
pub view-Bool : (b : Bool) → view (value.Bool b) ≡ boolean b
view-Bool b = search (rules, the_lemmas)

-- a member more, of the same value, after the same members
pub put_same : (key : List ℕ) (v w : Data) (ms ns : Members) → v ≡ w → ms ≡ ns → put key v ms ≡ put key w ns
put_same key v w ms ns same others = ap (λ x. put key x ms) same ∙ ap (put key w) others
