-- What holds at each turn of the loop of `input` in src/items.rt.
use Rattle.std.proofs.Common.{◌≡◌, ℕ, ◌≤◌, length}
use Rattle.tb_basic_syntax.specs.PlainData.{letters_of}
use Rattle.tb_basic_grammar.specs.StatementReading.{letters_at}
use Rattle.tb_basic_grammar.proofs.ListLoops.{letters_behind}
use Rattle.tb_basic_grammar.proofs.items.input.Given as goal

abbrev pub invariant-loop-letter : goal.invariant-loop-letter
invariant-loop-letter l = (k : ℕ) × (length l.rest ≤ k) × (letters_behind k (letters_of l.letters.items) l.rest ≡ letters_at (length l.fn.text) l.fn.text)

abbrev pub decreases-loop-letter : goal.decreases-loop-letter
decreases-loop-letter l = length l.rest
