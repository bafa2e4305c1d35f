-- The way back from a column to the bytes before it.
use Rattle.std.proofs.Common.{◌≡◌, ℕ, ◌+◌, ◌-◌, ◌≤◌, suc, zero, Bool, true, false, List, [], ◌∷◌, take, drop, length, refl, sym, ap, ◌∙◌, arith, nat_le, nat_lt, ◌&&◌, if◌then◌else◌, Option, Some, None, option_map, unwrap_or}
use Rattle.std.proofs.lemmas.Bool.Decides.{nat_tests}
use Rattle.tb_basic_places.specs.Columns.{Begins, goes_on, left_after, place_at, units, units_of}
use Rattle.std.proofs.lemmas.List.Sums.{sum-map, sum_by-cons}

-- a byte that begins a character begins a unit
begins_some : (b : ℕ) → goes_on b ≡ false → nat_lt 0 (units b) ≡ true
begins_some b is = grind (arith, nat_tests)

-- a byte that begins none begins no unit
goes_on_none : (b : ℕ) → goes_on b ≡ true → units b ≡ 0
goes_on_none b is = grind (arith, nat_tests)

-- what is passed is no more than the column
passed : (u v : ℕ) → nat_lt (u + v) u ≡ false
passed u v = grind (arith, nat_tests)

rest : (u v : ℕ) → u + v - u ≡ v
rest u v = omega arith

nothing : (u v : ℕ) → u ≡ 0 → u + v ≡ v
nothing u v is = omega (arith, is)

none : (u : ℕ) → nat_lt 0 u ≡ true → (if nat_lt 0 u then None else Some (0 - u)) ≡ None
none u is = rw is refl

-- what is left of a column after a byte that it is counted with
left : (b v : ℕ) → left_after (units b + v) b ≡ Some v
left b v = go (goes_on b) refl
  where
    go : (on : Bool) → goes_on b ≡ on → (if on then Some (units b + v) else if nat_lt (units b + v) (units b) then None else Some (units b + v - units b)) ≡ Some v
    go true is = ap (λ n. Some n) (nothing (units b) v (goes_on_none b is))
    go false is = rw (passed (units b) v, rest (units b) v) refl

-- nothing is left of none after a byte that begins a character
stops : (b : ℕ) → goes_on b ≡ false → left_after 0 b ≡ None
stops b is = rw is (none (units b) (begins_some b is))

one_byte : (b : ℕ) (bytes : List ℕ) → units_of (b ∷ bytes) ≡ units b + units_of bytes
one_byte b bytes = sum-map units (b ∷ bytes) ∙ (sum_by-cons units b bytes ∙ ap (λ n. units b + n) (sym (sum-map units bytes)))

one_more : (i : ℕ) → i + 1 ≡ suc i
one_more i = omega arith

-- the column of a place where a character begins leads back to it
pub back : (text : List ℕ) (i : ℕ) → i ≤ length text → Begins (drop i text) → place_at (units_of (take i text)) text ≡ i
back [] i few begins = omega (arith, few)
back (b ∷ text) zero few begins = rw (stops b begins) refl
back (b ∷ text) (suc i) few begins =
    ap (λ column. place_at column (b ∷ text)) (one_byte b (take i text))
    ∙ (ap (λ o. unwrap_or (option_map (λ l. place_at l text + 1) o) 0) (left b (units_of (take i text)))
    ∙ (ap (λ n. n + 1) (back text i (omega (arith, few)) begins) ∙ one_more i))
