-- What holds at each turn of the loop of `noted` in src/examination.rt.
use Rattle.std.proofs.Common.{◌≡◌, map, take}
use Rattle.tb_engine_findings.specs.Findings.{noted}
use Rattle.tb_engine_findings.proofs.examination.noted.Given as goal

abbrev pub invariant-loop-error : goal.invariant-loop-error
invariant-loop-error l = l.found.items ≡ map (noted l.looked.notation (map (λ t. t.now) l.looked.texts.now)) (take l.error-index l.errors)
