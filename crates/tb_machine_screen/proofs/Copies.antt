-- What writes to a list and copies in it come to.
use Rattle.std.proofs.Common.{◌≡◌, ℕ, suc, ◌+◌, ◌-◌, ◌<◌, ◌≤◌, List, [], ◌++◌, length, take, drop, replicate, get_or, set, ◌∙◌, arith, append_assoc, add-one, length-append, length-take, length-drop}
use Rattle.std.proofs.Math.Seq.{drop-cons, take-suc}
use Rattle.std.proofs.lemmas.List.{set_at, replicate_more, length-replicate, drop_all, append-nil, take-append-le, take-take, take_at, drop_at, take-append-drop}
use Rattle.std.specs.List.{copy_within}
use Rattle.tb_machine_screen.specs.Shifting.{filled, scrolled, opened, pulled, pushed}

-- nothing is set yet
pub filled_none : {A : Type 0} (from : ℕ) (f : A) (xs : List A) → filled from from f xs ≡ xs
unfolding filled
filled_none from f xs =
    let none : from - from ≡ 0 = omega arith in
    rw (none, append-nil (take from xs)) (take-append-drop from xs)

-- one more element of a filler is set
pub filled_more : {A : Type 0} (from i : ℕ) (f : A) (xs : List A) → from ≤ i → i < length xs → set (filled from i f xs) i f ≡ filled from (i + 1) f xs
unfolding filled
filled_more from i f xs h lt =
    let n : (i + 1) - from ≡ (i - from) + 1 = omega arith in
    let here : length (take from xs ++ replicate (i - from) f) ≡ i =
    simp (length-append, length-take, length-replicate) (omega arith) in
    rw (drop-cons xs i f lt, n, ← replicate_more (i - from) f)
    (set_at (take from xs ++ replicate (i - from) f) (get_or xs i f) (drop (suc i) xs) f i here
    ∙ simp (append_assoc, add-one))

-- copying to the front and setting the end
pub pulled_by_copy : {A : Type 0} (at end : ℕ) (f : A) (xs : List A) → at ≤ end → end < length xs → set (copy_within xs (at + 1) (end + 1) at) end f ≡ pulled at end f xs
unfolding pulled
pulled_by_copy at end f xs h lt =
    let n : (end + 1) - (at + 1) ≡ end - at = omega arith in
    let m : at + (end - at) ≡ end = omega arith in
    let here : length (take at xs ++ take (end - at) (drop (at + 1) xs)) ≡ end =
    simp (length-append, length-take, length-drop) (omega arith) in
    rw (n, m, drop-cons xs end f lt)
    (set_at (take at xs ++ take (end - at) (drop (at + 1) xs)) (get_or xs end f) (drop (suc end) xs) f end here
    ∙ simp add-one)

-- copying to the back and setting the start
pub pushed_by_copy : {A : Type 0} (at end : ℕ) (f : A) (xs : List A) → at ≤ end → end < length xs → set (copy_within xs at end (at + 1)) at f ≡ pushed at end f xs
unfolding pushed
pushed_by_copy at end f xs h lt =
    let m : (at + 1) + (end - at) ≡ end + 1 = omega arith in
    let within : at < length xs = omega arith in
    let here : length (take at xs) ≡ at = simp length-take (omega arith) in
    rw (m, add-one at, take-suc xs at f within)
    (simp append_assoc (set_at (take at xs) (get_or xs at f) (take (end - at) (drop at xs) ++ drop (end + 1) xs) f at here))

-- copying rows to the back and filling the gap
pub opened_by_copy : {A : Type 0} (at count : ℕ) (f : A) (xs : List A) → at + count ≤ length xs →
    filled at (at + count) f (copy_within xs at (length xs - count) (at + count)) ≡ opened at count f xs
unfolding filled opened
opened_by_copy at count f xs h =
    let n : (length xs - count) - at ≡ length xs - (at + count) = omega arith in
    let k : (at + count) - at ≡ count = omega arith in
    let here : length (take (at + count) xs) ≡ at + count = simp length-take (omega arith) in
    let none : drop (at + count + (length xs - (at + count))) xs ≡ [] = drop_all _ xs (omega arith) in
    let moved : copy_within xs at (length xs - count) (at + count) ≡ take (at + count) xs ++ take (length xs - (at + count)) (drop at xs) =
    rw (n, none) (append-nil (take (at + count) xs ++ take (length xs - (at + count)) (drop at xs))) in
    rw (
      moved,
      k,
      take-append-le at (take (at + count) xs) (take (length xs - (at + count)) (drop at xs)) (omega (arith, here)),
      take-take at (at + count) xs (omega arith),
      drop_at (take (at + count) xs) (take (length xs - (at + count)) (drop at xs)) (at + count) here,
    )

-- turning the first to the end and filling that
pub scrolled_by_turn : {A : Type 0} (count : ℕ) (f : A) (xs : List A) → count ≤ length xs →
    filled (length xs - count) (length xs - count + count) f (drop count xs ++ take count xs) ≡ scrolled count f xs
unfolding filled scrolled
scrolled_by_turn count f xs h =
    let k : (length xs - count + count) - (length xs - count) ≡ count = omega arith in
    let all : length (drop count xs ++ take count xs) ≤ length xs - count + count =
    simp (length-append, length-drop, length-take) (omega arith) in
    rw (
      k,
      take_at (drop count xs) (take count xs) (length xs - count) (length-drop count xs),
      drop_all (length xs - count + count) (drop count xs ++ take count xs) all,
    )
    (append-nil (drop count xs ++ replicate count f))
