-- What holds at each turn of the loop of `numbers_of` in src/tokens.rt.
use Rattle.std.proofs.Common.{◌≡◌, ◌++◌, drop, map}
use Rattle.serde_json.specs.View.{view}
use Rattle.tb_basic_places.specs.Spans.{whole_span}
use Rattle.tb_editor_navigation.specs.Tokens.{numbers_from}
use Rattle.tb_editor_navigation.proofs.tokens.numbers_of.Given as goal

abbrev pub invariant-loop-mark : goal.invariant-loop-mark
invariant-loop-mark l = map view l.numbers.items ++ numbers_from l.before (drop l.mark-index l.marks) ≡ numbers_from whole_span l.marks
