-- Line numbers: the last is the highest line's, and a search by halves finds a number if it is one of them.
use Rattle.std.proofs.Common.{◌≡◌, ℕ, zero, suc, ◌+◌, ◌<◌, ◌≤◌, Bool, true, false, List, [], ◌∷◌, length, refl, sym, ap, ◌∙◌, arith, get_or, Result, Ok, Err, ◌-◌}
use Rattle.std.specs.Prelude.{◌||◌, nat_eq, nat_lt, is_ok, slice_get, unwrap_or}
use Rattle.std.specs.Ordering.{nat_cmp}
use Rattle.std.specs.List.Sorted.{IsBinarySearchResult}
use Rattle.std.proofs.lemmas.List.Sorted.{searched}
use Rattle.std.proofs.lemmas.Bool.Decides.{nat_tests}
use Rattle.std.proofs.lemmas.Bool.{or_right}
use Rattle.tb_basic_syntax.specs.Source.{Rises}
use Rattle.tb_basic_meaning.specs.Control.{has_line, highest}

last_at : (n : ℕ) (ns : List ℕ) → unwrap_or (slice_get (n ∷ ns) (length ns)) 0 ≡ highest (n ∷ ns)
last_at n [] = refl
last_at n (m ∷ ns) = last_at m ns

-- the last number, 0 if there is none, is the highest line's
pub last_is : (ns : List ℕ) → unwrap_or (slice_get ns (length ns - 1)) 0 ≡ highest ns
last_is [] = refl
last_is (n ∷ ns) = ap (λ k. unwrap_or (slice_get (n ∷ ns) k) 0) (let e : length (n ∷ ns) - 1 ≡ length ns = omega arith in e) ∙ last_at n ns

-- each of the numbers is at least the lowest
at_least : (low : ℕ) (ns : List ℕ) (i : ℕ) → Rises low 65536 ns → i < length ns → low ≤ get_or ns i 0
at_least low [] i r h = absurd (let no : ⊥ = omega (arith, h) in no)
at_least low (n ∷ ns) zero r h = r.0
at_least low (n ∷ ns) (suc i) r h = let k = at_least (n + 1) ns i r.2 (omega (arith, h)) in let l = r.0 in omega (arith, k, l)

rises : (low : ℕ) (ns : List ℕ) → Rises low 65536 ns → (i j : ℕ) → i ≤ j → j < length ns → get_or ns i 0 ≤ get_or ns j 0
rises low [] r i j le h = absurd (let no : ⊥ = omega (arith, h) in no)
rises low (n ∷ ns) r zero zero le h = omega arith
rises low (n ∷ ns) r zero (suc j) le h = let k = at_least (n + 1) ns j r.2 (omega (arith, h)) in omega (arith, k)
rises low (n ∷ ns) r (suc i) zero le h = absurd (let no : ⊥ = omega (arith, le) in no)
rises low (n ∷ ns) r (suc i) (suc j) le h = rises (n + 1) ns r.2 i j (omega (arith, le)) (omega (arith, h))

there : (ns : List ℕ) (i x : ℕ) → i < length ns → get_or ns i 0 ≡ x → has_line ns x ≡ true
there [] i x h e = absurd (let no : ⊥ = omega (arith, h) in no)
there (n ∷ ns) zero x h e = ap (λ b. b || has_line ns x) (let same : nat_eq n x ≡ true = grind (arith, nat_tests, e) in same)
there (n ∷ ns) (suc i) x h e = or_right (nat_eq n x) (has_line ns x) (there ns i x (omega (arith, h)) e)

absent : (ns : List ℕ) (x : ℕ) → ((k : ℕ) → k < length ns → get_or ns k 0 ≡ x → ⊥) → has_line ns x ≡ false
absent [] x none = refl
absent (n ∷ ns) x none = by (nat_eq n x) refl (absent ns x (λ k h e. none (suc k) (omega (arith, h)) e))
  where
    by : (t : Bool) → nat_eq n x ≡ t → has_line ns x ≡ false → (t || has_line ns x) ≡ false
    by true e rest = absurd (none 0 (omega arith) (let same : n ≡ x = grind (arith, nat_tests, e) in same))
    by false e rest = rest

-- a binary search finds a line number exactly if there is one
pub found : (low : ℕ) (ns : List ℕ) → Rises low 65536 ns → (x : ℕ) (r : Result ℕ ℕ) → IsBinarySearchResult (λ y. nat_cmp y x) ns r → is_ok r ≡ has_line ns x
found low ns rising x (Ok i) h = let s = searched ns x (Ok i) h (rises low ns rising) in sym (there ns i x s.0 s.1)
found low ns rising x (Err i) h = sym (absent ns x (λ k l e. other k l e (nat_lt k i) refl (searched ns x (Err i) h (rises low ns rising))))
  where
    other : (k : ℕ) → k < length ns → get_or ns k 0 ≡ x → (t : Bool) → nat_lt k i ≡ t
        → (i ≤ length ns) × ((k : ℕ) → k < i → get_or ns k 0 < x) × ((k : ℕ) → i ≤ k → k < length ns → x < get_or ns k 0) → ⊥
    other k l e true t s = let b = s.1 k (let b : k < i = grind (arith, nat_tests, t) in b) in omega (arith, b, e)
    other k l e false t s = let b = s.2 k (let b : i ≤ k = grind (arith, nat_tests, t) in b) l in omega (arith, b, e)
