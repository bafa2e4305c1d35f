-- What holds at each turn of the loop of `rebuild` in src/branches.rt.
use Rattle.std.proofs.Common.{map, drop}
use Rattle.tb_asm.specs.Layout.{entry_of}
use Rattle.tb_asm.specs.Settle.{items_from}
use Rattle.tb_asm.specs.Marks.{forms_of}
use Rattle.tb_asm.proofs.Passes.{behind}
use Rattle.tb_asm.proofs.RoundLabels.{BuildsTo}
use Rattle.tb_asm.proofs.branches.rebuild.Given as goal

abbrev pub invariant-loop-index : goal.invariant-loop-index
invariant-loop-index l =
    BuildsTo (forms_of (behind l.items l.index) (drop l.index l.long)) (map entry_of l.settled.items) l.address (items_from l.at (forms_of (map entry_of l.items) l.long))
