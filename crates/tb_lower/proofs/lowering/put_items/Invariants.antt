-- What holds at each turn of the loop of `put_items` in src/lowering.rt.
use Rattle.std.proofs.Common.{◌≡◌, ◌++◌, ◌≤◌, map, drop}
use Rattle.tb_basic_syntax.specs.PlainData.{item_of}
use Rattle.tb_lower.specs.Lowered.{items_code}
use Rattle.tb_basic_meaning.specs.Need.{items_need}
use Rattle.tb_lower.specs.PlainData.{instr_of}
use Rattle.tb_lower.proofs.lowering.put_items.Given as goal

abbrev pub invariant-loop-item : goal.invariant-loop-item
invariant-loop-item l =
    (items_need (map item_of (drop l.item-index l.items)) ≤ 16)
    × (map instr_of l.code.items ++ items_code (map item_of (drop l.item-index l.items)) ≡ map instr_of l.initial.code.items ++ items_code (map item_of l.items))
