-- The goals of `Moment::go_between` in src/moment.rt.
use Rattle.std.proofs.Common.{rules, ◌≡◌, ◌+◌, ◌<◌, ◌∙◌, length, refl, sym, subst, arith}
use Rattle.tb_kernal.specs.Runs.{WentQuietly}
use Rattle.tb_debug.specs.Runs.{Point, IsOfRun, is_marked, shown}
use Rattle.tb_debug.specs.declared.rom.Rom.TheVariants.{Quiet}
use Rattle.tb_debug.proofs.Quietly.{GoneOn, goes_on}
use Rattle.tb_debug.proofs.moment.Moment.go_between.Goals as goal

pub returns-then-went-gt0-clause-run : goal.returns-then-went-gt0-clause-run
returns-then-went-gt0-clause-run c =
    let before = c.args.self.now in
    let (es, many, went) = c.go_to_mark-went.ensures.went in
    let free = subst (λ marks. WentQuietly marks before.machine es c.go_to_mark-went.new.self) c.marks.ensures.marks went in
    let quiet : before.rom ≡ Quiet = search rules in
    record {
      on = λ start h.
          let gone = goes_on c.args.starts.now start (shown before) before.events (before.events + c.go_to_mark-went.result) before.machine es
          c.go_to_mark-went.new.self free h.stands refl quiet h.ran (omega (arith, many)) in
          record { stands = gone.stands; ran = gone.ran };
      later = omega arith;
    }

pub returns-then-went-gt0-clause-between : goal.returns-then-went-gt0-clause-between
returns-then-went-gt0-clause-between c = λ start h.
    let before = c.args.self.now in
    let (es, many, went) = c.go_to_mark-went.ensures.went in
    let free = subst (λ marks. WentQuietly marks before.machine es c.go_to_mark-went.new.self) c.marks.ensures.marks went in
    let quiet : before.rom ≡ Quiet = search rules in
    let gone = goes_on c.args.starts.now start (shown before) before.events (before.events + c.go_to_mark-went.result) before.machine es
    c.go_to_mark-went.new.self free h.stands refl quiet h.ran (omega (arith, many)) in
    record { none = gone.none; comes = λ more. gone.comes more ∙ sym c.begins.ensures }
