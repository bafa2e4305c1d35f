-- What holds at each turn of the loop of `items_need` in src/needs.rt.
use Rattle.std.proofs.Common.{◌≡◌, map, max, min, drop}
use Rattle.tb_basic_syntax.specs.PlainData.{item_of}
use Rattle.tb_basic_meaning.specs.Need.{items_need}
use Rattle.tb_basic_meaning.proofs.needs.items_need.Given as goal

abbrev pub invariant-loop-item : goal.invariant-loop-item
invariant-loop-item l = max l.most (min (items_need (map item_of (drop l.item-index l.items))) 17) ≡ min (items_need (map item_of l.items)) 17
