-- What holds at each turn of the loop of `warn_of_jumps` in src/warnings.rt.
use Rattle.std.proofs.Common.{◌≡◌, ◌++◌, drop, map}
use Rattle.tb_words.specs.Words.{word_of}
use Rattle.tb_engine_findings.specs.Warnings.{at, targets_at, to_targets}
use Rattle.tb_engine_findings.proofs.warnings.warn_of_jumps.Given as goal

abbrev pub invariant-loop-jump : goal.invariant-loop-jump
invariant-loop-jump l =
    l.found.items ++ at l.line.line (to_targets (targets_at l.line.number (map (λ w. (w.line, word_of w.target)) (drop l.jump-index l.jumps))))
    ≡ l.initial.found.items ++ at l.line.line (to_targets (targets_at l.line.number (map (λ w. (w.line, word_of w.target)) l.jumps)))
