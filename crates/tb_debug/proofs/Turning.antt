-- Lists in which one element is set or cleared.
use Rattle.std.proofs.Common.{◌≡◌, ℕ, nat_eq, Bool, true, false, ◌||◌, ◌&&◌, List, [], ◌∷◌, ◌++◌, take, drop, cond, refl, sym, ap, ◌∙◌}
use Rattle.std.specs.Prelude.{filter, not, if◌then◌else◌}
use Rattle.std.specs.List.{insert}
use Rattle.std.proofs.lemmas.Bool.{eqb-true}
use Rattle.std.proofs.lemmas.List.{take-append-drop}
use Rattle.std.proofs.Math.Bool.{or-false}
use Rattle.tb_words.specs.declared.Letter.{Letter}
use Rattle.tb_words.specs.Letters.{letter_index}
use Rattle.tb_debug.specs.Breakpoints.{Turned, WatchTurned, is_among, is_watched}

-- ---- on tests

moved : (a t b : Bool) → (a || (t || b)) ≡ (t || (a || b))
moved true true b = refl
moved true false b = refl
moved false t b = refl

grouped : (t a b : Bool) → (t || (a || b)) ≡ ((t || a) || b)
grouped true a b = refl
grouped false a b = refl

-- one that was not there is set
set_where : (t b : Bool) → ((t ≡ true) → b ≡ false) → (t || b) ≡ (if t then not b else b)
set_where true b h = sym (ap not (h refl))
set_where false b h = refl

-- one that was there is cleared
cleared_where : (t b : Bool) → ((t ≡ true) → b ≡ true) → (not t && b) ≡ (if t then not b else b)
cleared_where true b h = sym (ap not (h refl))
cleared_where false b h = refl

-- an element that stays, u whether it is the one that is asked for and t whether it is to be cleared
kept : (u t b : Bool) → ((u ≡ true) → t ≡ false) → (u || (not t && b)) ≡ (not t && (u || b))
kept true t b h = sym (ap (λ x. not x && true) (h refl))
kept false t b h = refl

-- one that is left out
left_out : (u t b : Bool) → ((u ≡ true) → t ≡ true) → (not t && b) ≡ (not t && (u || b))
left_out true t b h = ap (λ x. not x && b) (h refl) ∙ sym (ap (λ x. not x && true) (h refl))
left_out false t b h = refl

-- ---- lines

among_append : (xs ys : List ℕ) (n : ℕ) → is_among (xs ++ ys) n ≡ (is_among xs n || is_among ys n)
among_append [] ys n = refl
among_append (x ∷ xs) ys n = ap (λ b. nat_eq n x || b) (among_append xs ys n) ∙ grouped (nat_eq n x) (is_among xs n) (is_among ys n)

-- a line that is inserted is among the others then
pub among_insert : (xs : List ℕ) (line i n : ℕ) → is_among (insert xs i line) n ≡ (nat_eq n line || is_among xs n)
among_insert xs line i n =
    among_append (take i xs) (line ∷ drop i xs) n ∙ moved (is_among (take i xs) n) (nat_eq n line) (is_among (drop i xs) n)
    ∙ ap (λ b. nat_eq n line || b) (sym (among_append (take i xs) (drop i xs) n) ∙ ap (λ ys. is_among ys n) (take-append-drop i xs))

-- a breakpoint that is put among the others is set, and no other changes
pub line_set : (xs ys : List ℕ) (line : ℕ) → is_among xs line ≡ false → ((n : ℕ) → is_among ys n ≡ (nat_eq n line || is_among xs n))
    → Turned line xs ys
line_set xs ys line none placed n =
    let there : (nat_eq n line ≡ true) → is_among xs n ≡ false = λ e. ap (is_among xs) (eqb-true n line e) ∙ none in
    placed n ∙ set_where (nat_eq n line) (is_among xs n) there

present : (t b : Bool) → ((t ≡ true) → b ≡ true) → b ≡ (t || b)
present true b h = h refl
present false b h = refl

-- a line that is there already is among the others as they are
pub among_there : (xs : List ℕ) (line n : ℕ) → is_among xs line ≡ true → is_among xs n ≡ (nat_eq n line || is_among xs n)
among_there xs line n there = present (nat_eq n line) (is_among xs n) (λ e. ap (is_among xs) (eqb-true n line e) ∙ there)

no_more : (b : Bool) → false ≡ (b && false)
no_more true = refl
no_more false = refl

lines_kept : (xs : List ℕ) (line n : ℕ) → is_among (filter (λ x. not (nat_eq x line)) xs) n ≡ (not (nat_eq n line) && is_among xs n)
lines_kept [] line n = no_more (not (nat_eq n line))
lines_kept (x ∷ xs) line n = go (nat_eq x line) refl (lines_kept xs line n)
  where
    rest : List ℕ
    rest = filter (λ y. not (nat_eq y line)) xs

    go : (t : Bool) → nat_eq x line ≡ t → is_among rest n ≡ (not (nat_eq n line) && is_among xs n)
        → is_among (cond (not t) (x ∷ rest) rest) n ≡ (not (nat_eq n line) && (nat_eq n x || is_among xs n))
    go true e h = h ∙ left_out (nat_eq n x) (nat_eq n line) (is_among xs n) (λ q. ap (λ k. nat_eq k line) (eqb-true n x q) ∙ e)
    go false e h = ap (λ b. nat_eq n x || b) h ∙ kept (nat_eq n x) (nat_eq n line) (is_among xs n) (λ q. ap (λ k. nat_eq k line) (eqb-true n x q) ∙ e)

-- a breakpoint that is left out is cleared, and no other changes
pub line_cleared : (xs : List ℕ) (line : ℕ) → is_among xs line ≡ true → Turned line xs (filter (λ x. not (nat_eq x line)) xs)
line_cleared xs line there n =
    lines_kept xs line n ∙ cleared_where (nat_eq n line) (is_among xs n) (λ e. ap (is_among xs) (eqb-true n line e) ∙ there)

-- ---- watched variables

watched_append : (xs ys : List Letter) (n : ℕ) → is_watched (xs ++ ys) n ≡ (is_watched xs n || is_watched ys n)
watched_append [] ys n = refl
watched_append (x ∷ xs) ys n = ap (λ b. nat_eq n (letter_index x) || b) (watched_append xs ys n) ∙ grouped (nat_eq n (letter_index x)) (is_watched xs n) (is_watched ys n)

-- a watch that is added is set, and no other changes
pub watch_set : (xs : List Letter) (w : Letter) → is_watched xs (letter_index w) ≡ false → WatchTurned (letter_index w) xs (xs ++ w ∷ [])
watch_set xs w none n =
    watched_append xs (w ∷ []) n ∙ moved (is_watched xs n) (nat_eq n (letter_index w)) false ∙ ap (λ b. nat_eq n (letter_index w) || b) (or-false (is_watched xs n))
    ∙ set_where (nat_eq n (letter_index w)) (is_watched xs n) (λ e. ap (is_watched xs) (eqb-true n (letter_index w) e) ∙ none)

watches_kept : (xs : List Letter) (index n : ℕ) → is_watched (filter (λ x. not (nat_eq (letter_index x) index)) xs) n ≡ (not (nat_eq n index) && is_watched xs n)
watches_kept [] index n = no_more (not (nat_eq n index))
watches_kept (x ∷ xs) index n = go (nat_eq (letter_index x) index) refl (watches_kept xs index n)
  where
    rest : List Letter
    rest = filter (λ y. not (nat_eq (letter_index y) index)) xs

    go : (t : Bool) → nat_eq (letter_index x) index ≡ t → is_watched rest n ≡ (not (nat_eq n index) && is_watched xs n)
        → is_watched (cond (not t) (x ∷ rest) rest) n ≡ (not (nat_eq n index) && (nat_eq n (letter_index x) || is_watched xs n))
    go true e h = h ∙ left_out (nat_eq n (letter_index x)) (nat_eq n index) (is_watched xs n) (λ q. ap (λ k. nat_eq k index) (eqb-true n (letter_index x) q) ∙ e)
    go false e h =
        ap (λ b. nat_eq n (letter_index x) || b) h ∙ kept (nat_eq n (letter_index x)) (nat_eq n index) (is_watched xs n) (λ q. ap (λ k. nat_eq k index) (eqb-true n (letter_index x) q) ∙ e)

-- a watch that is left out is cleared, and no other changes
pub watch_cleared : (xs : List Letter) (index : ℕ) → is_watched xs index ≡ true → WatchTurned index xs (filter (λ x. not (nat_eq (letter_index x) index)) xs)
watch_cleared xs index there n =
    watches_kept xs index n ∙ cleared_where (nat_eq n index) (is_watched xs n) (λ e. ap (is_watched xs) (eqb-true n index e) ∙ there)
