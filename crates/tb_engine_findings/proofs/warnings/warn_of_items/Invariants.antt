-- What holds at each turn of the loop of `warn_of_items` in src/warnings.rt.
use Rattle.std.proofs.Common.{◌≡◌, ◌++◌, drop, map}
use Rattle.std.specs.Prelude.{flat_map}
use Rattle.tb_basic_syntax.specs.PlainData.{item_of}
use Rattle.tb_engine_findings.specs.Warnings.{at, item_highs}
use Rattle.tb_engine_findings.proofs.warnings.warn_of_items.Given as goal

abbrev pub invariant-loop-item : goal.invariant-loop-item
invariant-loop-item l =
    l.found.items ++ at l.line (flat_map item_highs (map item_of (drop l.item-index l.items)))
    ≡ l.initial.found.items ++ at l.line (flat_map item_highs (map item_of l.items))
