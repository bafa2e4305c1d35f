-- What holds at each turn of the loop of `parse_in` in src/parser.rt.
use Rattle.std.proofs.Common.{[], ◌+◌, ◌≤◌, length}
use Rattle.tb_basic_syntax.specs.PlainData.{lines_of}
use Rattle.tb_parser.specs.Files.{LinesIn, Outcome}
use Rattle.tb_basic_text.specs.Lines.{lines_of_file}
use Rattle.tb_parser.proofs.parser.parse_in.Given as goal

abbrev pub invariant-loop-line : goal.invariant-loop-line
invariant-loop-line l = record {
  so_far : (outcome : Outcome) → LinesIn l.notation l.number (lines_of l.program) (lines_of_file l.rest) outcome → LinesIn l.notation 1 [] (lines_of_file l.fn.source) outcome;
  count : l.number + length l.rest ≤ length l.fn.source + 1;
}

abbrev pub decreases-loop-line : goal.decreases-loop-line
decreases-loop-line l = length l.rest
