-- The goals of `examine` in src/examination.rt.
use Rattle.std.proofs.Common.{ap, map}
use Rattle.tb_engine_findings.proofs.Judged.{found_on, made_some, small}
use Rattle.tb_engine_findings.proofs.examination.examine.Goals as goal

pub verdict_on-requires-clause-small : goal.verdict_on-requires-clause-small
verdict_on-requires-clause-small g c = small c.args.settings.notation c.args.source.now c.in_ok-lines.lines c.in_ok-lines.ensures

pub verdict_on-requires-clause-made : goal.verdict_on-requires-clause-made
verdict_on-requires-clause-made g c = made_some c.args.settings.notation c.args.source.now c.in_ok-lines.lines c.in_ok-lines.ensures

pub returns-clause-findings : goal.returns-clause-findings
returns-clause-findings g c =
    found_on g.K.Compile.own c.args.settings c.args.source.now c.in_ok-lines.lines c.in_ok-lines.ensures c.in_ok-verdict.verdict c.in_ok-findings.findings
    (map (λ t. t.now) c.deref.result.now) c.deref-2.result.now (ap (map (λ t. t.now)) c.deref.ensures.value) c.deref-2.ensures.value
    c.in_ok-verdict.ensures c.in_ok-findings.ensures
