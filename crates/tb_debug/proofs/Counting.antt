-- How many lines a run has begun.
use Rattle.std.proofs.Common.{◌≡◌, ℕ, zero, suc, ◌+◌, ◌-◌, ◌≤◌, Bool, true, false, List, ap, subst, arith}
use Rattle.std.specs.Prelude.{if◌then◌else◌}
use Rattle.tb_debug.specs.Roms.{event_at}
use Rattle.tb_debug.specs.Runs.{Point, is_begin, point_at}
use Rattle.tb_debug.proofs.Running.{at_next, at_start}

at_most_one : (b : Bool) → (if b then 1 else 0) ≤ 1
at_most_one true = omega arith
at_most_one false = omega arith

-- whether the event after n others begins a line
abbrev begin_at : List Bool → Point → ℕ → Bool
begin_at marks start n = is_begin marks (point_at marks start n).state (event_at (point_at marks start n).rom (point_at marks start n).state.regs)

one_counted : (marks : List Bool) (start : Point) (n : ℕ)
    → (point_at marks start (suc n)).begun ≡ (point_at marks start n).begun + (if begin_at marks start n then 1 else 0)
one_counted marks start n = ap (λ p. p.begun) (at_next marks start n)

-- no more lines than events
pub begun_few : (marks : List Bool) (start : Point) (n : ℕ) → (point_at marks start n).begun ≤ start.begun + n
begun_few marks start zero = let e = ap (λ p. p.begun) (at_start marks start) in omega (arith, e)
begun_few marks start (suc n) =
    let before = begun_few marks start n in
    let one = at_most_one (begin_at marks start n) in
    let e = one_counted marks start n in
    omega (arith, before, one, e)

begun_on : (marks : List Bool) (start : Point) (n more : ℕ) → (point_at marks start n).begun ≤ (point_at marks start (more + n)).begun
begun_on marks start n zero =
    let e : zero + n ≡ n = omega arith in
    let same = ap (λ k. (point_at marks start k).begun) e in
    omega (arith, same)
begun_on marks start n (suc more) =
    let before = begun_on marks start n more in
    let e : suc more + n ≡ suc (more + n) = omega arith in
    let same = ap (λ k. (point_at marks start k).begun) e in
    let next = one_counted marks start (more + n) in
    omega (arith, before, same, next)

-- lines that were begun stay begun
pub begun_later : (marks : List Bool) (start : Point) (n m : ℕ) → n ≤ m → (point_at marks start n).begun ≤ (point_at marks start m).begun
begun_later marks start n m few =
    let e : (m - n) + n ≡ m = omega (arith, few) in
    subst (λ k. (point_at marks start n).begun ≤ (point_at marks start k).begun) e (begun_on marks start n (m - n))
