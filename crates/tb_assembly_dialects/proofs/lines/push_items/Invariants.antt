-- What holds at each turn of the loop of `push_items` in src/lines.rt.
use Rattle.std.proofs.Common.{◌≡◌, ◌++◌, drop, map}
use Rattle.tb_asm.specs.Layout.{entry_of}
use Rattle.tb_assembly_dialects.specs.Lines.{items_spelled}
use Rattle.tb_assembly_dialects.proofs.lines.push_items.Given as goal

abbrev pub invariant-loop-item : goal.invariant-loop-item
invariant-loop-item l =
    l.text.items ++ items_spelled l.dialect (map entry_of (drop l.item-index l.items)) ≡ l.initial.text.items ++ items_spelled l.dialect (map entry_of l.items)
