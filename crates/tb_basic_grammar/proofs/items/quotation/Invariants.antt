-- What holds at each turn of the loop of `quotation` in src/items.rt.
use Rattle.std.proofs.Common.{◌≡◌, length}
use Rattle.tb_basic_grammar.specs.StatementReading.{text_item_at}
use Rattle.tb_basic_grammar.proofs.ListLoops.{text_behind}
use Rattle.tb_basic_grammar.proofs.items.quotation.Given as goal

abbrev pub invariant-loop-rest : goal.invariant-loop-rest
invariant-loop-rest l = text_behind l.bytes.items l.rest ≡ text_item_at l.fn.inside

abbrev pub decreases-loop-rest : goal.decreases-loop-rest
decreases-loop-rest l = length l.rest
