-- What holds at each turn of the loop of `word_end` in src/lexer.rt.
use Rattle.std.proofs.Common.{ℕ, ◌≤◌, drop, length}
use Rattle.tb_parser.specs.Kinds.{IsWord}
use Rattle.tb_parser.proofs.lexer.word_end.Given as goal

abbrev pub invariant-loop-letter : goal.invariant-loop-letter
invariant-loop-letter l = record {
  within : l.end ≤ length l.line;
  so_far : (place : ℕ) → IsWord l.line l.end (drop l.letter-index l.word) place → IsWord l.line l.fn.from l.word place;
  only : (place : ℕ) → IsWord l.line l.fn.from l.word place → IsWord l.line l.end (drop l.letter-index l.word) place;
}
