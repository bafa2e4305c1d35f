-- Lines with signs: each walk at a place at which a sign begins, or a byte that belongs to none.
use Rattle.std.proofs.Common.{◌≡◌, ℕ, zero, suc, ◌+◌, ◌-◌, ◌<◌, ◌≤◌, Bool, true, false, List, [], ◌∷◌, ◌++◌, length, get_or, drop, Some, None, refl, sym, ap, ◌∙◌, arith, append_assoc, ◌==◌}
use Rattle.std.proofs.lemmas.List.{append-nil}
use Rattle.tb_basic_signs.specs.declared.characters.Character.{Character}
use Rattle.tb_parser.specs.declared.squeeze.Mode.{Mode}
use Rattle.tb_parser.specs.declared.squeeze.Mode.TheVariants.{Code}
use Rattle.tb_parser.specs.declared.squeeze.Placed.{Placed}
use Rattle.tb_parser.specs.Scans.{first_written, is_bad}
use Rattle.tb_parser.specs.Signed.{first_bad, kept_at, placed_of, sign_at, squeezed_from}
use Rattle.tb_parser.specs.Squeezed.{after}

-- what is left after the first byte and some more
left : (n b : ℕ) (line : List ℕ) → 1 ≤ n → drop n (b ∷ line) ≡ drop (n - 1) line
left zero b line some = absurd (omega arith)
left (suc n) b line some = ap (λ k. drop k line) (omega arith)

-- ── bad bytes ──
-- bytes that belong to a sign before are passed
bad_skipped : (taken : ℕ) (m : Mode) (column : ℕ) (line : List ℕ) → first_bad taken m column line ≡ first_bad 0 m (column + taken) (drop taken line)
unfolding first_bad
bad_skipped zero m column line = ap (λ k. first_bad 0 m k line) (omega arith)
bad_skipped (suc taken) m column [] = refl
bad_skipped (suc taken) m column (b ∷ line) = bad_skipped taken m (column + 1) line ∙ ap (λ k. first_bad 0 m k (drop taken line)) (omega arith)

-- a sign is passed in the search for a bad byte
pub bad_behind_sign : (m : Mode) (column : ℕ) (rest : List ℕ) (c : Character) → sign_at m rest ≡ Some c → 1 ≤ c.length
    → first_bad 0 m (column + c.length) (drop c.length rest) ≡ first_bad 0 m column rest
unfolding first_bad
bad_behind_sign m column [] c is some = cc
bad_behind_sign m column (b ∷ line) c is some =
    let front : first_bad 0 m column (b ∷ line) ≡ first_bad (c.length - 1) m (column + 1) line = rw is refl in
    let passed : first_bad (c.length - 1) m (column + 1) line ≡ first_bad 0 m (column + c.length) (drop (c.length - 1) line) =
    bad_skipped (c.length - 1) m (column + 1) line ∙ ap (λ k. first_bad 0 m k (drop (c.length - 1) line)) (omega arith) in
    ap (λ t. first_bad 0 m (column + c.length) t) (left c.length b line some) ∙ sym (front ∙ passed)

-- and so is a good byte
pub bad_behind_byte : (m : Mode) (column : ℕ) (rest : List ℕ) → 1 ≤ length rest → sign_at m rest ≡ None → is_bad m (get_or rest 0 0) ≡ false
    → first_bad 0 (after m (get_or rest 0 0)) (column + 1) (drop 1 rest) ≡ first_bad 0 m column rest
unfolding first_bad
bad_behind_byte m column [] some none good = absurd (omega arith)
bad_behind_byte m column (b ∷ line) some none good = rw (none, good) refl

-- a bad byte ends the search
pub bad_byte_here : (m : Mode) (column : ℕ) (rest : List ℕ) → 1 ≤ length rest → sign_at m rest ≡ None → is_bad m (get_or rest 0 0) ≡ true
    → first_bad 0 m column rest ≡ Some column
unfolding first_bad
bad_byte_here m column [] some none bad = absurd (omega arith)
bad_byte_here m column (b ∷ line) some none bad = rw (none, bad) refl

-- at the line's end the search has found nothing
pub bad_nowhere : (m : Mode) (column : ℕ) (rest : List ℕ) → length rest < 1 → first_bad 0 m column rest ≡ None
unfolding first_bad
bad_nowhere m column [] ends = refl
bad_nowhere m column (b ∷ line) ends = absurd (omega arith)

-- ── squeezing ──
squeezed_skipped : (taken : ℕ) (m : Mode) (column : ℕ) (line : List ℕ) → squeezed_from taken m column line ≡ squeezed_from 0 m (column + taken) (drop taken line)
unfolding squeezed_from
squeezed_skipped zero m column line = ap (λ k. squeezed_from 0 m k line) (omega arith)
squeezed_skipped (suc taken) m column [] = refl
squeezed_skipped (suc taken) m column (b ∷ line) = squeezed_skipped taken m (column + 1) line ∙ ap (λ k. squeezed_from 0 m k (drop taken line)) (omega arith)

-- what a sign stands for is appended to the squeezed bytes
pub squeezed_behind_sign : (m : Mode) (column : ℕ) (rest : List ℕ) (c : Character) (old : List Placed) → sign_at m rest ≡ Some c → 1 ≤ c.length
    → (old ++ placed_of column c) ++ squeezed_from 0 m (column + c.length) (drop c.length rest) ≡ old ++ squeezed_from 0 m column rest
unfolding squeezed_from
squeezed_behind_sign m column [] c old is some = cc
squeezed_behind_sign m column (b ∷ line) c old is some =
    let front : squeezed_from 0 m column (b ∷ line) ≡ placed_of column c ++ squeezed_from (c.length - 1) m (column + 1) line = rw is refl in
    let passed : squeezed_from (c.length - 1) m (column + 1) line ≡ squeezed_from 0 m (column + c.length) (drop (c.length - 1) line) =
    squeezed_skipped (c.length - 1) m (column + 1) line ∙ ap (λ k. squeezed_from 0 m k (drop (c.length - 1) line)) (omega arith) in
    append_assoc old (placed_of column c) (squeezed_from 0 m (column + c.length) (drop c.length (b ∷ line)))
    ∙ ap (λ t. old ++ (placed_of column c ++ squeezed_from 0 m (column + c.length) t)) (left c.length b line some)
    ∙ sym (ap (λ t. old ++ t) (front ∙ ap (λ t. placed_of column c ++ t) passed))

-- and so is what is kept of a byte that belongs to none
pub squeezed_behind_byte : (m : Mode) (column : ℕ) (rest : List ℕ) (old : List Placed) → 1 ≤ length rest → sign_at m rest ≡ None
    → (old ++ kept_at m column (get_or rest 0 0)) ++ squeezed_from 0 (after m (get_or rest 0 0)) (column + 1) (drop 1 rest) ≡ old ++ squeezed_from 0 m column rest
unfolding squeezed_from
squeezed_behind_byte m column [] old some none = absurd (omega arith)
squeezed_behind_byte m column (b ∷ line) old some none = rw none (append_assoc old (kept_at m column b) (squeezed_from 0 (after m b) (column + 1) line))

-- at the line's end all bytes are squeezed
pub squeezed_ends : (m : Mode) (column : ℕ) (rest : List ℕ) (old all : List Placed) → length rest < 1 → old ++ squeezed_from 0 m column rest ≡ all → old ≡ all
unfolding squeezed_from
squeezed_ends m column [] old all ends e = sym (append-nil old) ∙ e
squeezed_ends m column (b ∷ line) old all ends e = absurd (omega arith)

-- nothing is left of a blank line
pub blank_signed : (column : ℕ) (line : List ℕ) → first_written column line ≡ None → squeezed_from 0 Code column line ≡ []
unfolding first_written squeezed_from
blank_signed column [] e = refl
blank_signed column (b ∷ line) e = go (blank_signed (column + 1) line) (b == 32) refl
  where
    go : (first_written (column + 1) line ≡ None → squeezed_from 0 Code (column + 1) line ≡ []) → (same : Bool) → (b == 32) ≡ same → squeezed_from 0 Code column (b ∷ line) ≡ []
    go rest true is = rw is (rest (rw is at e))
    go rest false is = let no_match : Some column ≡ None = rw is at e in absurd cc
