-- The goals of `bad_lines` in src/lines.rt.
use Rattle.tb_engine_findings.proofs.Checked.{first_is}
use Rattle.tb_engine_findings.proofs.lines.bad_lines.Goals as goal

pub returns-clause-first : goal.returns-clause-first
returns-clause-first c = first_is c.args.notation c.args.source.now c.in_ok-lines.lines.bad.items c.in_ok-lines.ensures.bad
