-- Where going on stops by a fault.
use Rattle.std.proofs.Common.{◌≡◌, ℕ, ◌-◌, ◌<◌, ◌&&◌, Bool, true, false, refl, sym, ap, ◌∙◌, subst, arith}
use Rattle.std.specs.Prelude.{if◌then◌else◌, nat_lt}
use Rattle.std.proofs.lemmas.Bool.{and_parts}
use Rattle.std.proofs.lemmas.Bool.Decides.{nat_tests}
use Rattle.tb_debug.specs.Debuggers.{IsAtTime, KeepsRun, OnRun, begun_by}
use Rattle.tb_debug.specs.Leading.{GoesAlong, GoesOn, RunsUntil, StopsBack}
use Rattle.tb_debug.specs.Runs.{IsOfRun, Point, is_marked}
use Rattle.tb_debug.specs.Stopping.{has_faulted, stops_by_fault, stops_here}
use Rattle.tb_debug.specs.Breakpoints.{stops_at_faults}
use Rattle.tb_debug.specs.declared.debugger.Debugger.{Debugger}
use Rattle.tb_debug.specs.declared.moment.Moment.{Moment}
use Rattle.tb_debug.specs.declared.moment.Reached.{Reached}
use Rattle.tb_debug.specs.declared.moment.Reached.TheVariants.{Line}
use Rattle.tb_debug.specs.declared.searching.Destination.{Destination}

-- a line was begun if one was begun later than here
some_later : (begins : Bool) (begun n : ℕ) → nat_lt begun (if begins then n - 1 else n) ≡ true → n - 1 < n
some_later true begun n later = grind (arith, nat_tests, later)
some_later false begun n later = grind (arith, nat_tests, later)

some_begun : (stops faulted begins : Bool) (begun n : ℕ) → (stops && (faulted && nat_lt begun (if begins then n - 1 else n))) ≡ true → n - 1 < n
some_begun stops faulted begins begun n holds =
    let later = (and_parts faulted _ (and_parts stops _ holds).1).1 in
    some_later begins begun n later

-- a way on from a debugger d, now e
module _ (to : Destination) (limit : ℕ) (d e : Debugger) (way : Reached) (keep : KeepsRun d e) (runs : RunsUntil to limit d way e.present) where
  -- it is a way on the same run
  along : GoesAlong to limit d way e.present
  along = record { runs = runs; of_run = λ start on. subst (λ marks. IsOfRun marks start e.present) keep.1 (keep.2 start on).of_run }

  -- whether it stops by a fault, as the code tells it
  pub as_told : (stops begins : Bool) → e.stops ≡ d.stops → begins ≡ is_marked d.starts d.present.machine.regs.pc
      → stops ≡ stops_by_fault e.stops d.present.begun begins way e.present → stops ≡ stops_here d way e.present
  as_told stops begins same marked told =
      told ∙ ap (λ s. stops_by_fault s d.present.begun begins way e.present) same
      ∙ ap (λ b. stops_by_fault d.stops d.present.begun b way e.present) marked

  -- it ends there if it doesn't stop by a fault
  pub ends_there : stops_here d way e.present ≡ false → GoesOn to limit d way e.present
  ends_there never = (way, e.present, along, subst (λ b. StopsBack b d way e.present way e.present) (sym never) (refl, refl))

  -- if it does, it goes back to the line that was begun last
  pub goes_back : (reached : Reached) (m : Moment) (time : ℕ) → time ≡ e.present.begun - 1 → stops_here d way e.present ≡ true
      → IsAtTime time e.starts reached m
      → ((start : Point) → start.begun ≡ 0 → OnRun start e → time < begun_by e → reached ≡ Line) → GoesOn to limit d reached m
  goes_back reached m time last holds at back =
      let here = subst (λ marks. IsAtTime time marks reached m) keep.1 at in
      let past = some_begun (stops_at_faults d.stops) (has_faulted way e.present) (is_marked d.starts d.present.machine.regs.pc)
      d.present.begun e.present.begun holds in (
        way,
        e.present,
        along,
        subst (λ b. StopsBack b d way e.present reached m) (sym holds) (
          subst (λ t. IsAtTime t d.starts reached m) last here,
          λ start none on. back start none (keep.2 start on) (subst (λ t. t < begun_by e) (sym last) past),
        ),
      )
