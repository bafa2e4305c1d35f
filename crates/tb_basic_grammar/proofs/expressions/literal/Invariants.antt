-- What holds at each turn of the loop of `literal` in src/expressions.rt.
use Rattle.std.proofs.Common.{◌≡◌, ℕ, length}
use Rattle.tb_basic_grammar.specs.Reading.{digits_at}
use Rattle.tb_basic_grammar.proofs.Literal.{capped}
use Rattle.tb_basic_grammar.proofs.expressions.literal.Given as goal

abbrev pub invariant-loop-digit : goal.invariant-loop-digit
invariant-loop-digit l = (n : ℕ) × (digits_at n l.rest ≡ digits_at 0 l.fn.text) × (l.value ≡ capped n)

abbrev pub decreases-loop-digit : goal.decreases-loop-digit
decreases-loop-digit l = length l.rest
