-- What holds at each turn of the loop of `settle` in src/expressions.rt.
use Rattle.std.proofs.Common.{◌≡◌, length}
use Rattle.tb_assembly_text.specs.Expressions.{marks_of, settled}
use Rattle.tb_assembly_text.proofs.expressions.settle.Given as goal

abbrev pub invariant-loop-due : goal.invariant-loop-due
invariant-loop-due l =
    settled l.level l.reading.pending (marks_of l.reading.steps.items)
    ≡ settled l.level l.initial.reading.pending (marks_of l.initial.reading.steps.items)

abbrev pub decreases-loop-due : goal.decreases-loop-due
decreases-loop-due l = length l.reading.pending
