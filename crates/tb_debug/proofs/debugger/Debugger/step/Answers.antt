-- The goals of `Debugger::step` in src/debugger.rt.
use Rattle.std.proofs.Common.{refl}
use Rattle.tb_debug.proofs.Spacing.{kept_on}
use Rattle.tb_debug.proofs.debugger.Debugger.step.Goals as goal

pub returns-clause-run : goal.returns-clause-run
returns-clause-run c = (
  refl,
  refl,
  λ start h.
      let kept = c.in_ok-keep.ensures in
      kept_on c.args.self.now.debuggee start c.args.self.now.starts c.args.self.now.history c.keep.new.self c.args.self.now.present
      c.step.new.self c.in_ok-step.ensures.run kept.first kept.later kept.few kept.spaced kept.near h,
)
