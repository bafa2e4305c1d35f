-- What holds at each turn of the loop of `calls` in src/outline.rt.
use Rattle.std.proofs.Common.{◌≡◌, ℕ, drop, is_some}
use Rattle.std.specs.BTreeMap as tree
use Rattle.std.specs.Ordering.{nat_cmp}
use Rattle.tb_basic_names.specs.Sources.{edits_of}
use Rattle.tb_editor_navigation.specs.Symbols.{called_from, is_called}
use Rattle.tb_editor_navigation.proofs.outline.calls.Given as goal

abbrev pub invariant-loop-i : goal.invariant-loop-i
invariant-loop-i l = (n : ℕ) → called_from (edits_of l.source.lines.items) n l.i (is_some (tree.get nat_cmp l.found n)) (drop l.i l.source.lines.items) ≡ is_called n l.source.lines.items
