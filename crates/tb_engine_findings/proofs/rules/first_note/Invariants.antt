-- What holds at each turn of the loop of `first_note` in src/rules.rt.
use Rattle.std.proofs.Common.{◌≡◌, drop, map}
use Rattle.tb_engine_findings.specs.Rules.{first_note, rule}
use Rattle.tb_engine_findings.specs.Surroundings.{around_of}
use Rattle.tb_engine_findings.proofs.rules.first_note.Given as goal

abbrev pub invariant-loop-rule : goal.invariant-loop-rule
invariant-loop-rule l =
    first_note (map (λ r. rule r.0 r.1.now r.2.now r.3) (drop l.rule-index l.rules)) (around_of l.around)
    ≡ first_note (map (λ r. rule r.0 r.1.now r.2.now r.3) l.rules) (around_of l.around)
