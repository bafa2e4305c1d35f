-- The goals of `fits_end` in src/patterns.rt.
use Rattle.tb_engine_findings.proofs.Unfit.{nothing_ends}
use Rattle.tb_engine_findings.proofs.patterns.+fits_end.Goals as goal

pub returns-in-empty-text : goal.returns-in-empty-text
returns-in-empty-text t c = nothing_ends c.args.pattern.now c.args.text.now c.in-len1-up.len_at_least c.in-empty-text.len_below
