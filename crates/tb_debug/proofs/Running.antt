-- Points of a run.
use Rattle.std.proofs.Common.{◌≡◌, ℕ, zero, suc, ◌+◌, ◌-◌, ◌≤◌, Bool, List, length, take, refl, sym, ap, ◌∙◌, subst, add-one, arith}
use Rattle.std.proofs.Math.Seq.{take-append_seam}
use borrow.Author.Count.{below_more}
use Rattle.tb_kernal.specs.declared.events.Event.{Event}
use Rattle.tb_kernal.specs.declared.status.Status.TheVariants.{Running}
use Rattle.tb_kernal.specs.Machine.{status, happens}
use Rattle.tb_words.specs.Prefixes.{IsPrefix}
use Rattle.tb_words.proofs.Prefixes.{prefix_same, prefix_trans}
use Rattle.tb_kernal.proofs.EventLists.{sends_on}
use Rattle.std.specs.Prelude.{ℤ, ◌&&◌, true, false, if◌then◌else◌}
use Rattle.tb_debug.specs.Roms.{after, event_at}
use Rattle.tb_debug_inspection.specs.Readings.{values_in}
use Rattle.tb_debug.specs.Runs.{Point, RunsUpTo, behind, is_begin, next_point, point_at}

-- the point after no event is the start
pub at_start : (marks : List Bool) (start : Point) → point_at marks start 0 ≡ start
unfolding point_at
at_start marks start = refl

-- the point after one event more
pub at_next : (marks : List Bool) (start : Point) (n : ℕ) → point_at marks start (suc n) ≡ next_point marks (point_at marks start n)
unfolding point_at
at_next marks start n = refl

-- what an event leaves, part by part
pub behind_by : (marks : List Bool) (p q : Point) (e : Event) (begins : Bool) → q.state ≡ happens p.state e → q.rom ≡ after p.rom
    → begins ≡ is_begin marks p.state e → q.begun ≡ p.begun + (if begins then 1 else 0) → q.last ≡ (if begins then p.state.regs.pc else p.last)
    → q.opened ≡ (if begins then values_in p.state.mem else p.opened) → q ≡ behind marks p e
behind_by marks p q e begins happened left is counted moved told =
    let count : q.begun ≡ p.begun + (if is_begin marks p.state e then 1 else 0) = counted ∙ ap (λ x. p.begun + (if x then 1 else 0)) is in
    let place : q.last ≡ (if is_begin marks p.state e then p.state.regs.pc else p.last) = moved ∙ ap (λ x. if x then p.state.regs.pc else p.last) is in
    let values : q.opened ≡ (if is_begin marks p.state e then values_in p.state.mem else p.opened) =
    told ∙ ap (λ x. if x then values_in p.state.mem else p.opened) is in
    λ i. record { state = happened i; rom = left i; begun = count i; last = place i; opened = values i }

-- no event begins a line where none is marked
pub none_begins : (own marked : Bool) → marked ≡ false → false ≡ (own && marked)
none_begins true marked h = sym h
none_begins false marked h = refl

-- where one is, each of the program's own does
pub own_begins : (own marked : Bool) → marked ≡ true → own ≡ (own && marked)
own_begins true marked h = sym h
own_begins false marked h = refl

-- one event more
pub one_more : (marks : List Bool) (start p q : Point) (n m : ℕ) (e : Event) → p ≡ point_at marks start n → e ≡ event_at p.rom p.state.regs
    → q ≡ behind marks p e → m ≡ n + 1 → q ≡ point_at marks start m
one_more marks start p q n m e here given moved counted =
    moved ∙ ap (behind marks p) given ∙ ap (next_point marks) here ∙ sym (at_next marks start n) ∙ ap (point_at marks start) (sym (counted ∙ add-one n))

-- the machine ran up to there, and runs
pub runs_on : (marks : List Bool) (start p : Point) (n m : ℕ) → RunsUpTo marks start n → p ≡ point_at marks start n → status p.state ≡ Running
    → m ≡ n + 1 → RunsUpTo marks start m
runs_on marks start p n m ran here runs counted =
    let now : status (point_at marks start n).state ≡ Running = ap (λ q. status q.state) (sym here) ∙ runs in
    subst (RunsUpTo marks start) (sym counted) (below_more (λ k. status (point_at marks start k).state ≡ Running) n ran now)

-- what was sent stays sent
sent_on : (marks : List Bool) (start : Point) (n more : ℕ) → IsPrefix (point_at marks start n).state.sent (point_at marks start (more + n)).state.sent
sent_on marks start n zero =
    let e : zero + n ≡ n = omega arith in
    prefix_same _ _ (ap (λ k. (point_at marks start k).state.sent) e)
sent_on marks start n (suc more) =
    let p = point_at marks start (more + n) in
    let next = sends_on (event_at p.rom p.state.regs) p.state in
    let one : suc more + n ≡ suc (more + n) = omega arith in
    let e : (point_at marks start (suc more + n)).state.sent ≡ (next_point marks p).state.sent =
    ap (λ k. (point_at marks start k).state.sent) one ∙ ap (λ q. q.state.sent) (at_next marks start (more + n)) in
    subst (IsPrefix (point_at marks start n).state.sent) (sym e) (prefix_trans _ _ _ (sent_on marks start n more) next)

cut : (xs ys : List ℕ) → IsPrefix xs ys → take (length xs) ys ≡ xs
cut xs ys p = ap (take (length xs)) (sym p.1) ∙ take-append_seam xs p.0

-- what was sent up to a point is the beginning of what was sent up to a later one
pub sent_before : (marks : List Bool) (start : Point) (n m : ℕ) → n ≤ m
    → take (length (point_at marks start n).state.sent) (point_at marks start m).state.sent ≡ (point_at marks start n).state.sent
sent_before marks start n m few =
    let e : m ≡ (m - n) + n = omega (arith, few) in
    ap (λ k. take (length (point_at marks start n).state.sent) (point_at marks start k).state.sent) e
    ∙ cut _ _ (sent_on marks start n (m - n))
