-- What holds at each turn of the loop of `digits_end` in src/lexer.rt.
use Rattle.std.proofs.Common.{◌≡◌, ℕ, ◌-◌, ◌<◌, ◌≤◌, ◌⊎◌, length, slice_index}
use Rattle.tb_basic_grammar.specs.Grammar.{IsDigit}
use Rattle.tb_parser.proofs.lexer.digits_end.Given as goal

abbrev pub invariant-loop-place : goal.invariant-loop-place
invariant-loop-place l = record {
  some : l.fn.start < l.end;
  within : l.end ≤ length l.line;
  digits : (k : ℕ) → l.fn.start ≤ k → k < l.end → IsDigit (slice_index l.line k) ⊎ (slice_index l.line k ≡ 32);
  last : IsDigit (slice_index l.line (l.end - 1));
}

abbrev pub decreases-loop-place : goal.decreases-loop-place
decreases-loop-place l = length l.line - l.end
