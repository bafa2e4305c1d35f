-- What holds at each turn of the loop of `print` in src/items.rt.
use Rattle.std.proofs.Common.{◌≡◌, ℕ, ◌≤◌, length, map, true}
use Rattle.tb_basic_syntax.specs.PlainData.{item_of}
use Rattle.tb_basic_grammar.specs.StatementReading.{items_at}
use Rattle.tb_basic_grammar.proofs.ListLoops.{printed_behind}
use Rattle.tb_basic_grammar.proofs.items.print.Given as goal

abbrev pub invariant-loop-rest : goal.invariant-loop-rest
invariant-loop-rest l = (k : ℕ) × (length l.rest ≤ k) × (printed_behind k l.ends_line (map item_of l.items.items) l.large l.rest ≡ items_at (length l.fn.text) true l.fn.text)

abbrev pub decreases-loop-rest : goal.decreases-loop-rest
decreases-loop-rest l = length l.rest
