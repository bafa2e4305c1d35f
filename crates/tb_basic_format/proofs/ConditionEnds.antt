-- Where a condition ends, at a place in its text.
use Rattle.std.proofs.Common.{◌≡◌, ℕ, ◌+◌, ◌<◌, ◌≤◌, List, ◌∷◌, length, get_or, drop, Some, None, arith}
use Rattle.std.proofs.lemmas.List.{drop_all}
use Rattle.tb_parser.proofs.Steps.{split}
use Rattle.tb_basic_format.specs.declared.conditions.Place.{Place}
use Rattle.tb_basic_format.specs.Conditions.{condition_length, next_place}

module _ (text : List ℕ) (i : ℕ) where
  -- a byte of the condition adds one to its length
  pub goes_on : (place next : Place) (total : ℕ) → i < length text → next_place place (drop i text) ≡ Some next
      → i + condition_length place (drop i text) ≡ total → (i + 1) + condition_length next (drop (i + 1) text) ≡ total
  unfolding condition_length
  goes_on place next total lt is e =
      let at : next_place place (get_or text i 0 ∷ drop (i + 1) text) ≡ Some next = rw (split text i 0 lt) at is in
      let sum : i + (1 + condition_length next (drop (i + 1) text)) ≡ total = rw (split text i 0 lt, at) at e in
      omega arith

  -- before a letter that follows an operand it ends
  pub stops : (place : Place) (total : ℕ) → i < length text → next_place place (drop i text) ≡ None → i + condition_length place (drop i text) ≡ total → i ≡ total
  unfolding condition_length
  stops place total lt is e =
      let at : next_place place (get_or text i 0 ∷ drop (i + 1) text) ≡ None = rw (split text i 0 lt) at is in
      let sum : i + 0 ≡ total = rw (split text i 0 lt, at) at e in
      omega arith

  -- and at the text's end
  pub runs_out : (place : Place) (total : ℕ) → length text ≤ i → i + condition_length place (drop i text) ≡ total → i ≡ total
  unfolding condition_length
  runs_out place total le e = let sum : i + 0 ≡ total = rw (drop_all i text le) at e in omega arith
