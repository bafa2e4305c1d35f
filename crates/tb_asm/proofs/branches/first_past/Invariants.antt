-- What holds at each turn of the loop of `first_past` in src/branches.rt.
use Rattle.std.proofs.Common.{◌≡◌, ◌≤◌, map, drop}
use Rattle.tb_asm.specs.Layout.{entry_of}
use Rattle.tb_asm.specs.Settle.{past_from}
use Rattle.tb_asm.specs.Marks.{forms_of}
use Rattle.tb_asm.proofs.Passes.{behind}
use Rattle.tb_asm.proofs.branches.first_past.Given as goal

abbrev pub invariant-loop-index : goal.invariant-loop-index
invariant-loop-index l =
    (past_from l.index l.address (forms_of (behind l.items l.index) (drop l.index l.long)) ≡ past_from 0 l.at (forms_of (map entry_of l.items) l.long))
    × (l.address ≤ 65536)
