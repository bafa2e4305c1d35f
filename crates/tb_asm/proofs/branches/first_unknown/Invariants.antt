-- What holds at each turn of the loop of `first_unknown` in src/branches.rt.
use Rattle.std.proofs.Common.{◌≡◌, [], map}
use Rattle.tb_asm.specs.Layout.{entry_of, first_fault}
use Rattle.tb_asm.specs.Settle.{unknown_fault}
use Rattle.tb_asm.proofs.Passes.{before, behind}
use Rattle.tb_asm.proofs.branches.first_unknown.Given as goal

abbrev pub invariant-loop-index : goal.invariant-loop-index
invariant-loop-index l =
    first_fault (λ front e. unknown_fault l.fn.labels.entries e) (before l.items l.index) (behind l.items l.index)
    ≡ first_fault (λ front e. unknown_fault l.fn.labels.entries e) [] (map entry_of l.items)
