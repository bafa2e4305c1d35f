-- What holds at each turn of the loop of `place_forms` in src/branches.rt.
use Rattle.std.proofs.Common.{map, drop}
use Rattle.tb_asm.specs.Layout.{entry_of}
use Rattle.tb_asm.specs.Settle.{round_labels}
use Rattle.tb_asm.specs.Marks.{forms_of}
use Rattle.tb_asm.proofs.Passes.{behind}
use Rattle.tb_asm.proofs.RoundLabels.{PlacesTo}
use Rattle.tb_asm.proofs.branches.place_forms.Given as goal

abbrev pub invariant-loop-index : goal.invariant-loop-index
invariant-loop-index l =
    PlacesTo (forms_of (behind l.items l.index) (drop l.index l.long)) l.labels.entries l.address (round_labels l.at (forms_of (map entry_of l.items) l.long))
