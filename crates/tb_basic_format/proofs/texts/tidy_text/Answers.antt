-- The goals of `tidy_text` in src/texts.rt.
use Rattle.tb_basic_format.proofs.SameText.{same_said}
use Rattle.tb_basic_format.proofs.TextSteps.{finished, pushed}
use Rattle.std.proofs.Common.{false}
use Rattle.tb_basic_format.proofs.texts.tidy_text.Goals as goal

pub loop-line-preserved : goal.loop-line-preserved
loop-line-preserved c =
    let split = c.in-Some.ensures in
    pushed c.args.notation c.loop-line.behind_return c.is_between-is_bound.result c.args.source.now c.loop-line.rest.now c.in-Some.line.now c.in-Some.after.now c.loop-line.text.items
    c.push_line.new.text.items c.push.new.self.items c.in-Some.ending c.loop-line.invariant split.0 split.1 split.2 c.is_between-is_bound.ensures
    c.in_ok-push_line.ensures c.in_ok-push.ensures.items

pub returns-clause-tidy : goal.returns-clause-tidy
returns-clause-tidy c =
    finished c.args.notation c.loop-line.behind_return c.args.source.now c.loop-line.rest.now c.loop-line.text.items c.push_line-2.new.text.items c.loop-line.invariant
    c.in_default.ensures c.in_ok-push_line-2.ensures

pub returns-clause-same : goal.returns-clause-same
returns-clause-same c =
    same_said c.args.notation false c.args.source.now c.push_line-2.new.text.items
    (finished c.args.notation c.loop-line.behind_return c.args.source.now c.loop-line.rest.now c.loop-line.text.items c.push_line-2.new.text.items c.loop-line.invariant
    c.in_default.ensures c.in_ok-push_line-2.ensures)
