-- What holds at each turn of the loop of `symbols` in src/outline.rt.
use Rattle.std.proofs.Common.{◌≡◌, ◌++◌, drop, map}
use Rattle.serde_json.specs.View.{view}
use Rattle.tb_editor_navigation.specs.Symbols.{symbols_from}
use Rattle.tb_editor_navigation.proofs.outline.symbols.Given as goal

abbrev pub invariant-loop-i : goal.invariant-loop-i
invariant-loop-i l = map view l.found.items ++ symbols_from l.source.lines.items l.i (drop l.i l.source.lines.items) ≡ symbols_from l.source.lines.items 0 l.source.lines.items
