-- Expressions read token by token.
use Rattle.std.proofs.Common.{◌≡◌, ℕ, ◌+◌, ◌<◌, Bool, List, ◌∷◌, length, drop, map, get_or, sym, ap, ◌∙◌, add-one, drop-cons, Option, Some, None, Result, Ok}
use Rattle.std.proofs.lemmas.List.{drop-map}
use Rattle.tb_assembly_text.specs.declared.faults.Fault.{Fault}
use Rattle.tb_assembly_text.specs.declared.tokens.Token.{Token}
use Rattle.tb_assembly_text.specs.Tokens.{Placed, token_of}
use Rattle.tb_assembly_text.specs.Expressions.{Mark, State, Move, on, stop, Moves, taken, moved, with_rest, finished, read_from, at_column}

-- a move that ends the expression
pub move_stops : (wanted : Move) (o : Option Bool) (new : State) → Moves wanted (Ok o) new → o ≡ None → wanted ≡ stop new
move_stops wanted None new m e = m
move_stops wanted (Some w) new m e = cc

-- a move that goes on with it
pub move_goes : (wanted : Move) (o : Option Bool) (w : Bool) (new : State) → Moves wanted (Ok o) new → o ≡ Some w → wanted ≡ on w new
move_goes wanted None w new m e = cc
move_goes wanted (Some v) w new m e = m ∙ ap (λ u. on u new) (let same : v ≡ w = cc in same)

module _ (scope : List ℕ) (end : ℕ) (xs : List Token) (i : ℕ) (d : Token) (below : i < length xs) (w : Bool) (s : State)
    (whole : Result (List Mark × List Placed) Fault) (so_far : read_from scope end w s (drop i (map token_of xs)) ≡ whole) where
  here : drop i (map token_of xs) ≡ token_of (get_or xs i d) ∷ drop (i + 1) (map token_of xs)
  here =
      drop-map token_of i xs ∙ ap (map token_of) (drop-cons xs i d below)
      ∙ ap (λ n. token_of (get_or xs i d) ∷ map token_of (drop n xs)) (sym (add-one i))
      ∙ ap (λ ts. token_of (get_or xs i d) ∷ ts) (sym (drop-map token_of (i + 1) xs))

  by_move : (m : Move) → taken scope w (token_of (get_or xs i d)) s ≡ m
      → moved w (get_or xs i d).column (token_of (get_or xs i d) ∷ drop (i + 1) (map token_of xs)) m (λ v r. read_from scope end v r (drop (i + 1) (map token_of xs))) ≡ whole
  by_move m e =
      let t = token_of (get_or xs i d) in
      let ts = drop (i + 1) (map token_of xs) in
      sym (ap (λ n. moved w t.0 (t ∷ ts) n (λ v r. read_from scope end v r ts)) e) ∙ sym (ap (read_from scope end w s) here) ∙ so_far

  -- the reading goes on behind a token
  pub goes_on : (v : Bool) (r : State) → taken scope w (token_of (get_or xs i d)) s ≡ on v r → read_from scope end v r (drop (i + 1) (map token_of xs)) ≡ whole
  goes_on v r e = by_move (on v r) e

  -- the expression ends before a token
  pub ends_before : (r : State) → taken scope w (token_of (get_or xs i d)) s ≡ stop r → (first column : ℕ) → column ≡ first → (rest : List Placed)
      → rest ≡ drop i (map token_of xs) → at_column column (with_rest rest (finished w (get_or xs i d).column r)) ≡ at_column first whole
  ends_before r e first column same rest left =
      (λ j. at_column (same j) (with_rest (left j) (finished w (get_or xs i d).column r)))
      ∙ ap (at_column first) (ap (λ ts. with_rest ts (finished w (get_or xs i d).column r)) here ∙ by_move (stop r) e)
