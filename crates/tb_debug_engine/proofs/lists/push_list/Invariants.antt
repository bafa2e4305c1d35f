-- What holds at each turn of the loop of `push_list` in src/lists.rt.
use Rattle.std.proofs.Common.{◌≡◌, ◌++◌, take}
use Rattle.std.specs.Prelude.{flat_map, map}
use Rattle.tb_basic_source.specs.Lines.{pair_of}
use Rattle.tb_debug_engine.specs.Lists.{marked}
use Rattle.tb_debug_engine.proofs.lists.push_list.Given as goal

abbrev pub invariant-loop-number : goal.invariant-loop-number
invariant-loop-number l = l.text.items ≡ l.fn.text.items ++ flat_map (marked (map pair_of l.lines) l.here) (take l.number-index l.near)
