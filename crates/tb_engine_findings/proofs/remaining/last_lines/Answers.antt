-- The goals of `last_lines` in src/remaining.rt.
use Rattle.std.proofs.Common.{◌+◌, false, drop, get_or, sym, ◌∙◌}
use Rattle.std.specs.Option.{option_or}
use Rattle.std.specs.BTreeMap as tree
use Rattle.std.specs.Ordering.{nat_cmp}
use Rattle.std.proofs.lemmas.List.{at_drop_more}
use Rattle.tb_engine_findings.specs.Warnings.{last_with}
use Rattle.tb_engine_findings.specs.declared.lines.NumberedLine.{NumberedLine}
use Rattle.tb_engine_findings.proofs.Later.{last_step}
use Rattle.tb_engine_findings.proofs.remaining.last_lines.Goals as goal

pub loop-line-preserved : goal.loop-line-preserved
loop-line-preserved c = λ n.
    (let none : NumberedLine = record { line = 0; number = 0; is_bare = false } in
    let more = at_drop_more (λ ls. option_or (last_with n ls) (tree.get nat_cmp c.loop-line.last n)) c.args.lines.now c.loop-line.line-index none c.loop-line-test.true in
    last_step n (drop (c.loop-line.line-index + 1) c.args.lines.now) (get_or c.args.lines.now c.loop-line.line-index none) _ _ _
    (sym more ∙ c.loop-line.invariant n) (c.in_ok-insert.ensures.updates.0 n))
