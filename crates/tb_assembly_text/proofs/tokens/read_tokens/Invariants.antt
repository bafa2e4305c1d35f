-- What holds at each turn of the loop of `read_tokens` in src/tokens.rt.
use Rattle.std.proofs.Common.{◌≡◌, ◌+◌, length, map}
use Rattle.tb_assembly_text.specs.Tokens.{token_of, tokens_from}
use Rattle.tb_assembly_text.proofs.Passing.{after_all}
use Rattle.tb_assembly_text.proofs.tokens.read_tokens.Given as goal

abbrev pub invariant-loop-rest : goal.invariant-loop-rest
invariant-loop-rest l = (after_all (map token_of l.tokens.items) (tokens_from 0 l.column l.rest) ≡ tokens_from 0 1 l.line) × (l.column + length l.rest ≡ length l.line + 1)

abbrev pub decreases-loop-rest : goal.decreases-loop-rest
decreases-loop-rest l = length l.rest
