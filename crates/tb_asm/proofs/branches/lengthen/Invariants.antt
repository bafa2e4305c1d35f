-- What holds at each turn of the loop of `lengthen` in src/branches.rt.
use Rattle.std.proofs.Common.{◌≡◌, List, length, map}
use Rattle.tb_asm.specs.Layout.{entry_of}
use Rattle.tb_asm.specs.Settle.{Form, kept, Settles}
use Rattle.tb_asm.specs.Marks.{forms_of}
use Rattle.tb_asm.proofs.Rounds.{shorts}
use Rattle.tb_asm.proofs.branches.lengthen.Given as goal

abbrev pub invariant-rounds : goal.invariant-rounds
invariant-rounds l =
    (length l.long.items ≡ length l.items)
    × ((end : List Form) → Settles l.at (forms_of (map entry_of l.items) l.long.items) end → Settles l.at (map kept (map entry_of l.items)) end)

abbrev pub decreases-rounds : goal.decreases-rounds
decreases-rounds l = shorts l.long.items
