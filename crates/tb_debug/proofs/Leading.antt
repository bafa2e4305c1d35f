-- Where ways end.
use Rattle.std.proofs.Common.{◌≡◌, ℕ, ◌+◌, ◌<◌, ◌≤◌, ◌&&◌, Bool, true, false, List, length, refl, sym, ap, ◌∙◌, subst, inl, inr, arith}
use Rattle.std.specs.Prelude.{if◌then◌else◌, ◌==◌, nat_lt, ◌-◌}
use Rattle.std.proofs.lemmas.Bool.{cases_lt}
use Rattle.std.proofs.lemmas.Bool.Decides.{nat_tests}
use Rattle.tb_kernal.specs.declared.status.Status.{Status}
use Rattle.tb_kernal.specs.declared.status.Status.TheVariants.{Returned, Running, Waits, Wrong}
use Rattle.tb_kernal.specs.Machine.{state_of, status}
use Rattle.tb_debug.specs.Begins.{Advances, BeginsThere, IsLimited, StandsBy, standing_by, standing_of}
use Rattle.tb_debug.specs.Debuggers.{IsAtTime, OnRun, begun_by}
use Rattle.tb_debug.specs.Runs.{Point, IsOfRun, is_marked, newest, newest_events, point_at, spacing}
use Rattle.tb_debug.specs.Searching.{IsUntil}
use Rattle.tb_debug.specs.Stopping.{IsNewest, IsThere, breaks_at, changes, leads_from}
use Rattle.tb_debug.specs.declared.debugger.Debugger.{Debugger}
use Rattle.tb_debug.specs.declared.history.Checkpoint.{Checkpoint}
use Rattle.tb_debug.specs.declared.searching.Destination.{Destination}
use Rattle.tb_debug.specs.declared.moment.Moment.{Moment}
use Rattle.tb_debug.specs.declared.moment.Reached.{Reached}
use Rattle.tb_debug.specs.declared.moment.Reached.TheVariants.{Line, Within, Ended, Limit}
use Rattle.tb_debug.proofs.Counting.{begun_few, begun_later}

-- ---- how a moment stands

-- how a moment stands is told so
pub stands_so : (marks : List Bool) (m : Moment) → StandsBy marks (standing_of marks m) m
stands_so marks m = by (status (state_of m.machine)) (is_marked marks m.machine.regs.pc) refl refl
  where
    by : (why : Status) (marked : Bool) → status (state_of m.machine) ≡ why → is_marked marks m.machine.regs.pc ≡ marked
        → StandsBy marks (standing_by why marked) m
    by Running true is marked = marked
    by Running false is marked = (is, marked)
    by Waits marked is e = (is, λ k. absurd (cc))
    by Returned marked is e = (is, λ k. absurd (cc))
    by (Wrong w) marked is e = (is, λ k. absurd (cc))

-- a step tells how the moment stands
pub stands_as : (marks : List Bool) (m : Moment) (reached : Reached) → reached ≡ standing_of marks m → StandsBy marks reached m
stands_as marks m reached is = subst (λ r. StandsBy marks r m) (sym is) (stands_so marks m)

-- ---- to a point

-- a way that ends at no line has nothing to say of a line
pub not_there : (to : Destination) (reached : Reached) (d : Debugger) → ((reached ≡ Line) → ⊥) → IsThere to reached d
not_there to Line d other = absurd (other refl)
not_there to Within d other = tt
not_there to (Ended why) d other = tt
not_there to Limit d other = tt

-- ---- to a time

-- a way to a time that ends at no line, at most at its limit
pub no_time : (time : ℕ) (marks : List Bool) (reached : Reached) (p q : Moment) → ((reached ≡ Line) → ⊥) → Advances reached p q
    → IsAtTime time marks reached q
no_time time marks Line p q other on = absurd (other refl)
no_time time marks Within p q other on = on
no_time time marks (Ended why) p q other on = tt
no_time time marks Limit p q other on = tt

-- nor of where one begins
pub no_line : (marks : List Bool) (start : Point) (reached : Reached) (p q : Moment) → ((reached ≡ Line) → ⊥) → BeginsThere marks start reached p q
no_line marks start Line p q other = absurd (other refl)
no_line marks start Within p q other = tt
no_line marks start (Ended why) p q other = tt
no_line marks start Limit p q other = tt

-- a line that is begun before a time doesn't pass it
pub time_more : (time b c : ℕ) (marked : Bool) → (b == time && marked) ≡ false → b ≤ time → c ≤ b + (if marked then 1 else 0) → c ≤ time
time_more time b c true off few more = grind (arith, nat_tests)
time_more time b c false off few more = omega (arith, few, more)

-- a line that is begun makes the count larger
pub earlier : (marks : List Bool) (start : Point) (p q : Moment) (time : ℕ) → IsOfRun marks start p → IsOfRun marks start q → time < p.begun → q.begun ≤ time
    → q.events < p.events
earlier marks start p q time of_p of_q past few =
    elim (cases_lt q.events p.events) [
      | inl before ↦ before
      | inr after ↦
          let later = begun_later marks start p.events q.events after in
          let one = ap (λ x. x.begun) of_p.stands in
          let other = ap (λ x. x.begun) of_q.stands in
          absurd (omega (arith, later, one, other, past, few))
    ]

-- a way back to a time that has passed comes to its line: the run went on there, and the limit lies no nearer
pub comes_back : (marks : List Bool) (start : Point) (p k q : Moment) (time limit : ℕ) (reached : Reached) → IsOfRun marks start p → IsOfRun marks start q
    → time < p.begun → q.begun ≤ time → IsAtTime time marks reached q → StandsBy marks reached q → IsLimited limit reached k q
    → start.begun ≡ 0 → p.events ≤ limit → p.events ≤ 18446744073709551615 → reached ≡ Line
comes_back marks start p k q time limit Line of_p of_q past few at stands used none far small = refl
comes_back marks start p k q time limit Within of_p of_q past few at stands used none far small = absurd at
comes_back marks start p k q time limit (Ended why) of_p of_q past few at stands used none far small =
    let before = earlier marks start p q time of_p of_q past few in
    let runs : status (point_at marks start q.events).state ≡ Running = of_p.ran q.events before in
    absurd (stands.1 (sym stands.0 ∙ ap (λ x. status x.state) of_q.stands ∙ runs))
comes_back marks start p k q time limit Limit of_p of_q past few at stands used none far small =
    let before = earlier marks start p q time of_p of_q past few in
    elim used [
      | inl e ↦ absurd (omega (arith, e, before, far))
      | inr (inl e) ↦ absurd (omega (arith, e, before, small))
      | inr (inr e) ↦
          let count = ap (λ x. x.begun) of_p.stands in
          let begun = begun_few marks start p.events in
          absurd (omega (arith, e, few, past, small, count, begun, none))
    ]

-- a way back from the newest checkpoint is short
pub short_back : (d : Debugger) (start : Point) (k q : Moment) (time : ℕ) → OnRun start d → IsOfRun d.starts start q → time < begun_by d
    → q.begun ≤ time → k.events ≡ newest_events d.history.first d.history.later.items → BeginsThere d.starts start Line k q
    → q.events < newest_events d.history.first d.history.later.items + spacing
short_back d start k q time on of_q past few newest (inl stays) = omega (arith, stays, newest)
short_back d start k q time on of_q past few newest (inr comes) =
    let before = earlier d.starts start d.present q time on.of_run of_q past few in
    on.near q.events (omega (arith, before)) comes

-- the newest checkpoint that doesn't come after a time is the newest of all, if that doesn't
pub all_until : (time count index : ℕ) (first : Checkpoint) (ks : List Checkpoint) → length ks ≡ count → IsUntil time ks count index
    → (newest first ks).moment.begun ≤ time → index ≡ count
all_until time count index first ks many until few =
    elim (cases_lt index count) [
      | inl under ↦
          let late = until.behind (length ks - 1) first (omega (arith, under, many)) (omega (arith, under, many)) in
          absurd (omega (arith, late, few))
      | inr past ↦ omega (arith, past, until.few)
    ]

-- ---- back to the newest stop

-- a point leads back to a time that has passed
leads_under : (stops changed : Bool) (n now : ℕ) → n ≤ now → 0 < now → (if nat_lt n now && stops then n else if changed then n - 1 else 0) < now
leads_under stops changed n now few some = by (nat_lt n now) refl stops changed
  where
    by : (t : Bool) → nat_lt n now ≡ t → (a b : Bool) → (if t && a then n else if b then n - 1 else 0) < now
    by true e true b = grind (arith, nat_tests)
    by true e false true = omega (arith, few, some)
    by true e false false = some
    by false e a true = omega (arith, few, some)
    by false e a false = some

from_under : (d : Debugger) (start : Point) (k : ℕ) → OnRun start d → 0 < begun_by d → k ≤ d.present.events → leads_from d start k < begun_by d
from_under d start k on some inside =
    let p = point_at d.starts start k in
    let later = begun_later d.starts start k d.present.events inside in
    let count = ap (λ x. x.begun) on.of_run.stands in
    leads_under (breaks_at d.debuggee d.stops p) (changes d.stops p) p.begun (begun_by d) (omega (arith, later, count)) some

-- so the newest of these times has passed
pub newest_past : (d : Debugger) (start : Point) (time : ℕ) → OnRun start d → 0 < begun_by d → IsNewest d start time → time < begun_by d
newest_past d start time on some newest =
    elim newest.leads [
      | inl none ↦ omega (arith, none, some)
      | inr (inl here) ↦ let under = from_under d start d.present.events on some (omega arith) in omega (arith, under, here)
      | inr (inr (k, inside, comes, is)) ↦ let under = from_under d start k on some inside in omega (arith, under, is)
    ]
