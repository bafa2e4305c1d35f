-- What holds at each turn of the loop of `round` in src/branches.rt.
use Rattle.std.proofs.Common.{map, drop}
use Rattle.tb_asm.specs.Layout.{entry_of}
use Rattle.tb_asm.specs.Marks.{marks_from, new_mark}
use Rattle.tb_asm.proofs.Passes.{behind}
use Rattle.tb_asm.proofs.Rounds.{RoundTo}
use Rattle.tb_asm.proofs.branches.round.Given as goal

abbrev pub invariant-loop-index : goal.invariant-loop-index
invariant-loop-index l =
    RoundTo l.labels.entries (behind l.items l.index) (drop l.index l.long) l.next.items l.changed l.address
    (marks_from l.labels.entries l.at (map entry_of l.items) l.long)
    (new_mark l.labels.entries l.at (map entry_of l.items) l.long)
