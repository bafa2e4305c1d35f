-- Where going on and going back stop.
use Rattle.std.proofs.Common.{◌≡◌, ℕ, suc, ◌+◌, ◌-◌, ◌≤◌, ◌&&◌, Bool, true, false, refl, sym, ap, ◌∙◌, subst, inl, inr, ◌⊎◌, arith}
use Rattle.std.specs.Prelude.{if◌then◌else◌, min, nat_lt}
use Rattle.std.proofs.lemmas.Bool.{cases_lt}
use Rattle.tb_kernal.specs.declared.status.Status.TheVariants.{Running}
use Rattle.tb_kernal.specs.Machine.{status}
use Rattle.tb_debug.specs.Begins.{EndsAt, GoesTo, IsLimited, IsNowhere, NoneBegins}
use Rattle.tb_debug.specs.Debuggers.{KeepsRun, OnRun}
use Rattle.tb_debug.specs.Runs.{Point, IsOfRun, IsFirst, IsCheckpoint, point_at, shown}
use Rattle.tb_debug.specs.Searching.{KnowsAfter, NewestBetween}
use Rattle.tb_debug.specs.Stopping.{IsNewest, LeadsTo, breaks_at, changes, comes_where, is_sought, leads_back, leads_from}
use Rattle.tb_debug.specs.declared.searching.Destination.{Destination}
use Rattle.tb_debug.specs.declared.debugger.Debugger.{Debugger}
use Rattle.tb_debug.specs.declared.history.Checkpoint.{Checkpoint}
use Rattle.tb_debug.specs.declared.moment.Moment.{Moment}
use Rattle.tb_debug.specs.declared.moment.Reached.{Reached}
use Rattle.tb_debug.specs.declared.moment.Reached.TheVariants.{Line, Within, Ended, Limit}
use Rattle.tb_debug.proofs.Counting.{begun_few, begun_later}

-- ---- going on

-- two steps that keep the run keep it together
pub then_keeps : (d e f : Debugger) → KeepsRun d e → KeepsRun e f → KeepsRun d f
then_keeps d e f one other = (other.0 ∙ one.0, other.1 ∙ one.1, λ start on. other.2 start (one.2 start on))

-- what a debugger d on its way, now e, has passed
pub record Passed (to : Destination) (start : Point) (d e : Debugger) : Type 0 where
  pub later : d.present.events ≤ e.present.events
  pub nowhere : IsNowhere (comes_where (is_sought to d) d.starts start) d.present (suc e.present.events)

-- a way that has not begun has passed nothing
pub passed_here : (to : Destination) (start : Point) (d : Debugger) → Passed to start d d
passed_here to start d = record { later = omega arith; nowhere = λ k above below. absurd (omega (arith, above, below)) }

-- a way goes on from a debugger e to one f, on the same run
module _ (to : Destination) (start : Point) (d e f : Debugger) (limit : ℕ) (keep : KeepsRun d e) (passed : Passed to start d e) where
  -- if no line begins, there is none that is looked for
  none_at : (n : ℕ) → NoneBegins e.starts start e.present.events n → IsNowhere (comes_where (is_sought to d) d.starts start) d.present n
  none_at n none k above below =
      let here = subst (λ ms. NoneBegins ms start e.present.events n) keep.1 none in
      elim (cases_lt e.present.events k) [
        | inl behind ↦ ap (λ c. c && is_sought to d (point_at d.starts start k)) (here k behind below)
        | inr before ↦ passed.nowhere k above (omega (arith, before))
      ]

  -- it isn't at a line's beginning
  pub off : (whole : ℕ) (reached : Reached) → ((reached ≡ Line) → ⊥) → EndsAt e.starts start limit e.present reached f.present
      → IsLimited whole reached d.present f.present → GoesTo (comes_where (is_sought to d) d.starts start) whole reached d.present f.present
  off whole Line other h used = absurd (other refl)
  off whole Within other h used = h
  off whole (Ended why) other h used = (none_at _ h.0, h.1, h.2)
  off whole Limit other h used = (none_at _ h.0, used)

-- the last event that may be taken
pub last_is : (n limit last : ℕ) → last ≡ min (n + limit) 18446744073709551615 → (last ≡ n + limit) ⊎ (last ≡ 18446744073709551615)
last_is n limit last is =
    elim (cases_lt 18446744073709551615 (n + limit)) [
      | inl more ↦ inr (omega (arith, is, more))
      | inr few ↦ inl (omega (arith, is, few))
    ]

-- a limit that is used up after a part of the way
pub limited_on : (whole last left : ℕ) (reached : Reached) (d e f : Moment) → IsLimited left reached e f → left ≡ last - e.events → e.events ≤ last
    → (last ≡ d.events + whole) ⊎ (last ≡ 18446744073709551615) → IsLimited whole reached d f
limited_on whole last left Line d e f used is few which = tt
limited_on whole last left Within d e f used is few which = tt
limited_on whole last left (Ended why) d e f used is few which = tt
limited_on whole last left Limit d e f (inl at) is few (inl sum) = inl (omega (arith, at, is, few, sum))
limited_on whole last left Limit d e f (inl at) is few (inr most) = inr (inl (omega (arith, at, is, few, most)))
limited_on whole last left Limit d e f (inr most) is few which = inr most

-- ---- going back

bounded : (a b : Bool) (n : ℕ) → (if a then n else if b then n - 1 else 0) ≤ n
bounded true b n = omega arith
bounded false true n = omega arith
bounded false false n = omega arith

leads_few : (d : Debugger) (start : Point) (k : ℕ) → leads_from d start k ≤ (point_at d.starts start k).begun
leads_few d start k =
    let p = point_at d.starts start k in
    bounded (nat_lt p.begun d.present.begun && breaks_at d.debuggee d.stops p) (changes d.stops p) p.begun

-- a moment of the run leads back to what its point does
pub leads_there : (d : Debugger) (start : Point) (m : Moment) → IsOfRun d.starts start m
    → leads_back d.debuggee d.stops d.present.begun (shown m) ≡ leads_from d start m.events
leads_there d start m h = ap (leads_back d.debuggee d.stops d.present.begun) h.stands

-- a later time, or an earlier one
pub leads_either : (d : Debugger) (start : Point) (a b c : ℕ) → LeadsTo d start a → LeadsTo d start b → (c ≡ a) ⊎ (c ≡ b) → LeadsTo d start c
leads_either d start a b c one other (inl e) = subst (LeadsTo d start) (sym e) one
leads_either d start a b c one other (inr e) = subst (LeadsTo d start) (sym e) other

-- a walk that has come to a moment, and the newest time so far
pub record Walked (d : Debugger) (start : Point) (from : ℕ) (m : Moment) (time : ℕ) : Type 0 where
  pub of_run : IsOfRun d.starts start m
  pub known : NewestBetween d start from m.events time

-- one line more
pub one_between : (d : Debugger) (start : Point) (from : ℕ) (p q : Moment) (limit a led time : ℕ) → OnRun start d → IsOfRun d.starts start q
    → EndsAt d.starts start limit p Line q → q.events ≤ d.present.events
    → led ≡ leads_back d.debuggee d.stops d.present.begun (shown q) → a ≤ time → led ≤ time → (time ≡ a) ⊎ (time ≡ led)
    → NewestBetween d start from p.events a → NewestBetween d start from q.events time
one_between d start from p q limit a led time on of_run ends inside is one other which h =
    let there : led ≡ leads_from d start q.events = is ∙ leads_there d start q of_run in
    record {
      leads = leads_either d start a led time h.leads (inr (inr (q.events, inside, ends.1, sym there))) which;
      all = λ k above below comes. elim (cases_lt p.events k) [
        | inl behind ↦ elim (cases_lt k q.events) [
          | inl before ↦ let never = sym comes ∙ ends.2 k behind before in absurd (cc)
          | inr same ↦
              let e : k ≡ q.events = omega (arith, same, below) in
              let f = ap (leads_from d start) e in
              omega (arith, f, there, other)
        ]
        | inr before ↦ let few = h.all k above before comes in omega (arith, few, one)
      ];
    }

-- a way on that ends at no line has passed all lines up to the last of its events
pub past_last : (d : Debugger) (start : Point) (p q : Moment) (last limit : ℕ) (reached : Reached) → start.begun ≡ 0 → OnRun start d
    → IsOfRun d.starts start q → ((reached ≡ Line) → ⊥) → EndsAt d.starts start limit p reached q → last ≤ d.present.events → last ≤ p.events + limit
    → last ≤ 18446744073709551615 → (last ≤ q.events) × NoneBegins d.starts start p.events (suc q.events)
past_last d start p q last limit Line none on of_run other h few room small = absurd (other refl)
past_last d start p q last limit Within none on of_run other h few room small = absurd h
past_last d start p q last limit (Ended why) none on of_run other h few room small = (
  elim (cases_lt q.events last) [
    | inl before ↦
        let runs : status (point_at d.starts start q.events).state ≡ Running = on.of_run.ran q.events (omega (arith, before, few)) in
        absurd (h.2 (sym h.1 ∙ ap (λ x. status x.state) of_run.stands ∙ runs))
    | inr past ↦ past
  ],
  h.0,
)
past_last d start p q last limit Limit none on of_run other h few room small =
    let count = ap (λ x. x.begun) of_run.stands in
    let most = begun_few d.starts start q.events in (
      elim h.1 [
        | inl e ↦ omega (arith, e, room)
        | inr (inl e) ↦ omega (arith, e, small)
        | inr (inr e) ↦ omega (arith, e, small, count, most, none)
      ],
      h.0,
    )

-- what is known up to a moment is known up to the last event, if no line begins between
pub all_passed : (d : Debugger) (start : Point) (from last time : ℕ) (p q : Moment) → (last ≤ q.events) × NoneBegins d.starts start p.events (suc q.events)
    → NewestBetween d start from p.events time → NewestBetween d start from last time
all_passed d start from last time p q past h =
    record {
      leads = h.leads;
      all = λ k above below comes. elim (cases_lt p.events k) [
        | inl behind ↦ let never = sym comes ∙ past.1 k behind (omega (arith, below, past.0)) in absurd (cc)
        | inr before ↦ h.all k above before comes
      ];
    }

-- no line before a point leads to a time after that point's
pub enough : (d : Debugger) (start : Point) (k : Checkpoint) (time : ℕ) → IsCheckpoint d.starts start k → k.moment.begun ≤ time
    → KnowsAfter d start k.moment.events time → IsNewest d start time
enough d start k time kept few h =
    record {
      leads = h.leads;
      here = h.here;
      before = λ j inside comes. elim (cases_lt k.moment.events j) [
        | inl behind ↦ h.all j behind inside comes
        | inr before ↦
            let led = leads_few d start j in
            let later = begun_later d.starts start j k.moment.events before in
            let count = ap (λ x. x.begun) kept.stands in
            omega (arith, led, later, count, few)
      ];
    }

-- before the first moment there is none
pub from_first : (d : Debugger) (start : Point) (k : Checkpoint) (time : ℕ) → start.begun ≡ 0 → IsFirst d.starts start k → KnowsAfter d start k.moment.events time
    → IsNewest d start time
from_first d start k time none first h =
    let count = ap (λ x. x.begun) first.0.stands in
    let few = begun_few d.starts start k.moment.events in
    enough d start k time first.0 (omega (arith, count, few, none, first.1)) h

-- if no line was begun, going back leads to the start
pub none_begun : (d : Debugger) (start : Point) → OnRun start d → d.present.begun ≡ 0 → IsNewest d start 0
none_begun d start on none =
    let count = ap (λ x. x.begun) on.of_run.stands in
    let few : (j : ℕ) → j ≤ d.present.events → leads_from d start j ≤ 0 = λ j inside.
    let led = leads_few d start j in
    let later = begun_later d.starts start j d.present.events inside in
    omega (arith, led, later, count, none) in
    record { leads = inl refl; here = few d.present.events (omega arith); before = λ j inside comes. few j inside }
