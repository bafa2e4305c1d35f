-- The goals of `judge` in src/judging.rt.
use Rattle.tb_engine_findings.proofs.Agreed.{agree_on}
use Rattle.tb_engine_findings.proofs.Judged.{judged_on, made_some, small}
use Rattle.tb_engine_findings.proofs.judging.judge.Goals as goal

pub verdict_on-requires-clause-small : goal.verdict_on-requires-clause-small
verdict_on-requires-clause-small g c = small c.args.settings.notation c.args.source.now c.in_ok-lines.lines c.in_ok-lines.ensures

pub verdict_on-requires-clause-made : goal.verdict_on-requires-clause-made
verdict_on-requires-clause-made g c = made_some c.args.settings.notation c.args.source.now c.in_ok-lines.lines c.in_ok-lines.ensures

pub returns-clause-judged : goal.returns-clause-judged
returns-clause-judged g c = judged_on g.K.Compile.own c.args.settings c.args.source.now c.in_ok-lines.lines c.in_ok-lines.ensures c.verdict_on.result c.verdict_on.ensures

pub returns-clause-agrees : goal.returns-clause-agrees
returns-clause-agrees g c = agree_on g.K.Compile.own c.args.settings c.args.source.now c.verdict_on.result (returns-clause-judged g c)
