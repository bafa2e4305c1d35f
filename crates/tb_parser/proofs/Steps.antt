-- Lines byte by byte: each walk at place i, at which the next byte is skipped or taken, or the line ends.
use Rattle.std.proofs.Common.{◌≡◌, ◌≢◌, ℕ, ◌+◌, ◌-◌, ◌<◌, ◌≤◌, true, false, List, [], ◌∷◌, ◌++◌, length, get_or, take}
use Rattle.std.proofs.Common.{drop, Some, None, refl, sym, ◌∙◌, append_assoc, add-one, arith, drop-cons, ◌&&◌}
use Rattle.std.proofs.lemmas.List.{append-nil, drop_all, take_all, length-drop}
use Rattle.std.proofs.lemmas.Bool.{ne_eqb, eq-eqb}
use Rattle.tb_parser.specs.declared.squeeze.Mode.{Mode}
use Rattle.tb_parser.specs.declared.squeeze.Mode.TheVariants.{Remark}
use Rattle.tb_parser.specs.declared.squeeze.Placed.{Placed}
use Rattle.tb_parser.specs.Squeezed.{after, is_dropped, is_in_code, shown, squeezed_from}
use Rattle.tb_parser.specs.Scans.{first_written, is_bad, first_bad, is_left_out, left_out_word}

-- the rest of a list from a place inside it begins with the element there
pub split : {A : Type 0} (line : List A) (i : ℕ) (d : A) → i < length line → drop i line ≡ get_or line i d ∷ drop (i + 1) line
split line i d lt = rw add-one (drop-cons line i d lt)

module _ (line : List ℕ) (i : ℕ) where
  abbrev here : ℕ
  here = get_or line i 0

  -- a space is skipped in the search for the first byte that is no space
  pub written_later : (column : ℕ) → i < length line → here ≡ 32 → first_written (column + 1) (drop (i + 1) line) ≡ first_written column (drop i line)
  unfolding first_written
  written_later column lt space = rw (split line i 0 lt, eq-eqb here 32 space) refl

  -- a byte that is no space ends the search
  pub written_here : (column : ℕ) → i < length line → here ≢ 32 → first_written column (drop i line) ≡ Some column
  unfolding first_written
  written_here column lt other = rw (split line i 0 lt, ne_eqb here 32 other) refl

  -- at the line's end the search has found nothing
  pub written_nowhere : (column : ℕ) → length line ≤ i → first_written column (drop i line) ≡ None
  unfolding first_written
  written_nowhere column le = rw (drop_all i line le) refl

  -- a good byte is skipped in the search for a bad one
  pub bad_later : (m : Mode) (column : ℕ) → i < length line → is_bad m here ≡ false → first_bad (after m here) (column + 1) (drop (i + 1) line) ≡ first_bad m column (drop i line)
  unfolding first_bad
  bad_later m column lt good = rw (split line i 0 lt, good) refl

  -- a bad byte ends the search
  pub bad_here : (m : Mode) (column : ℕ) → i < length line → is_bad m here ≡ true → first_bad m column (drop i line) ≡ Some column
  unfolding first_bad
  bad_here m column lt bad = rw (split line i 0 lt, bad) refl

  -- at the line's end the search has found nothing
  pub bad_nowhere : (m : Mode) (column : ℕ) → length line ≤ i → first_bad m column (drop i line) ≡ None
  unfolding first_bad
  bad_nowhere m column le = rw (drop_all i line le) refl

  -- a byte that is kept is appended to the squeezed bytes
  pub squeezed_kept : (m : Mode) (column : ℕ) (old : List Placed) → i < length line → is_dropped m here ≡ false
      → (old ++ record { byte = shown m here; column = column; in_code = is_in_code m } ∷ []) ++ squeezed_from (after m here) (column + 1) (drop (i + 1) line)
      ≡ old ++ squeezed_from m column (drop i line)
  unfolding squeezed_from
  squeezed_kept m column old lt kept = rw (split line i 0 lt, kept)
      (append_assoc old (record { byte = shown m here; column = column; in_code = is_in_code m } ∷ []) (squeezed_from (after m here) (column + 1) (drop (i + 1) line)))

  -- a byte that is dropped leaves the squeezed bytes as they are
  pub squeezed_dropped : (m : Mode) (column : ℕ) → i < length line → is_dropped m here ≡ true
      → squeezed_from (after m here) (column + 1) (drop (i + 1) line) ≡ squeezed_from m column (drop i line)
  unfolding squeezed_from
  squeezed_dropped m column lt dropped = rw (split line i 0 lt, dropped) refl

  -- at the line's end all bytes are squeezed
  pub squeezed_ends : (m : Mode) (column : ℕ) (old all : List Placed) → length line ≤ i → old ++ squeezed_from m column (drop i line) ≡ all → old ≡ all
  unfolding squeezed_from
  squeezed_ends m column old all le e = sym (append-nil old) ∙ (let d : drop i line ≡ [] = drop_all i line le in rw d at e)

-- in a remark no byte is bad
pub remark_good : (m : Mode) (column : ℕ) (line : List ℕ) → m ≡ Remark → first_bad m column line ≡ None
unfolding first_bad
remark_good m column line is = rw is (good column line)
  where
    good : (column : ℕ) (line : List ℕ) → first_bad Remark column line ≡ None
    good column [] = refl
    good column (b ∷ line) = good (column + 1) line

module _ (placed : List Placed) (i : ℕ) (d : Placed) where
  abbrev at_place : Placed
  at_place = get_or placed i d

  -- a place without a left-out word is skipped
  pub left_out_later : i < length placed → (at_place.in_code && is_left_out (drop i placed)) ≡ false → left_out_word (drop (i + 1) placed) ≡ left_out_word (drop i placed)
  unfolding left_out_word
  left_out_later lt e = let n : (at_place.in_code && is_left_out (at_place ∷ drop (i + 1) placed)) ≡ false = rw (split placed i d lt) at e in rw (split placed i d lt, n) refl

  -- a left-out word in code ends the search
  pub left_out_here : i < length placed → at_place.in_code ≡ true → is_left_out (drop i placed) ≡ true → left_out_word (drop i placed) ≡ Some at_place.column
  unfolding left_out_word
  left_out_here lt code word = let n : is_left_out (at_place ∷ drop (i + 1) placed) ≡ true = rw (split placed i d lt) at word in rw (split placed i d lt, code, n) refl

-- at the line's end the search has found nothing
pub left_out_nowhere : (placed : List Placed) (i : ℕ) → length placed ≤ i → left_out_word (drop i placed) ≡ None
unfolding left_out_word
left_out_nowhere placed i le = rw (drop_all i placed le) refl
