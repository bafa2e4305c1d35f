-- What is kept of a line, at a place in it.
use Rattle.std.proofs.Common.{◌≡◌, ℕ, ◌+◌, ◌<◌, ◌≤◌, true, false, List, [], ◌∷◌, ◌++◌, length, get_or, drop, refl, sym, ◌∙◌, append_assoc, append-nil}
use Rattle.std.proofs.lemmas.List.{drop_all}
use Rattle.tb_basic_format.specs.declared.modes.Mode.{Mode}
use Rattle.tb_parser.proofs.Steps.{split}
use Rattle.tb_basic_format.specs.Kept.{after, is_dropped, kept_from, written}

module _ (line : List ℕ) (i : ℕ) where
  abbrev here : ℕ
  here = get_or line i 0

  -- a byte that is kept is appended to those before it
  pub taken : (m : Mode) (old : List ℕ) → i < length line → is_dropped m here ≡ false
      → (old ++ written m here ∷ []) ++ kept_from (after m here) (drop (i + 1) line) ≡ old ++ kept_from m (drop i line)
  unfolding kept_from
  taken m old lt kept = rw (split line i 0 lt, kept) (append_assoc old (written m here ∷ []) (kept_from (after m here) (drop (i + 1) line)))

  -- a byte that is dropped leaves them as they are
  pub passed : (m : Mode) → i < length line → is_dropped m here ≡ true → kept_from (after m here) (drop (i + 1) line) ≡ kept_from m (drop i line)
  unfolding kept_from
  passed m lt dropped = rw (split line i 0 lt, dropped) refl

  -- at the line's end all that is kept was taken
  pub ended : (m : Mode) (old all : List ℕ) → length line ≤ i → old ++ kept_from m (drop i line) ≡ all → old ≡ all
  unfolding kept_from
  ended m old all le e = sym (append-nil old) ∙ (let d : drop i line ≡ [] = drop_all i line le in rw d at e)
