-- What holds at each turn of the loop of `push_values` in src/parts.rt.
use Rattle.std.proofs.Common.{◌≡◌, ◌++◌, drop, map}
use Rattle.std.specs.Prelude.{flat_map}
use Rattle.tb_basic_syntax.specs.Parts.{item_expressions}
use Rattle.tb_basic_syntax.specs.PlainData.{expression_of, item_of}
use Rattle.tb_basic_syntax.proofs.parts.push_values.Given as goal

abbrev pub invariant-loop-item : goal.invariant-loop-item
invariant-loop-item l =
    map (λ e. expression_of e.now) l.found.items ++ flat_map item_expressions (map item_of (drop l.item-index l.items))
    ≡ map (λ e. expression_of e.now) l.initial.found.items ++ flat_map item_expressions (map item_of l.items)
