-- The goals of `Debugger::next_line` in src/debugger.rt.
use Rattle.std.proofs.Common.{refl}
use Rattle.tb_debug.proofs.Spacing.{kept_on}
use Rattle.tb_debug.proofs.debugger.Debugger.next_line.Goals as goal

pub returns-in_ok-keep-clause-run : goal.returns-in_ok-keep-clause-run
returns-in_ok-keep-clause-run c = (
  refl,
  refl,
  λ start h.
      let kept = c.in_ok-keep.ensures in
      kept_on c.args.self.now.debuggee start c.args.self.now.starts c.args.self.now.history c.keep.new.self c.args.self.now.present
      c.to_next_start.new.self c.in_ok-reached.ensures.run kept.first kept.later kept.few kept.spaced kept.near h,
)
