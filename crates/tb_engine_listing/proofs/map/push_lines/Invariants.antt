-- What holds at each turn of the loop of `push_lines` in src/map.rt.
use Rattle.std.proofs.Common.{◌≡◌, ◌+◌, ◌++◌, map, sum_by}
use Rattle.tb_basic_syntax.specs.PlainData.{lines_of}
use Rattle.tb_basic_meaning.specs.Cost.{statement_cost, cost}
use Rattle.tb_compiled.specs.Compiled.{pair_of}
use Rattle.tb_engine_listing.specs.Map.{line_parts, rows_text}
use Rattle.tb_engine_listing.proofs.map.push_lines.Given as goal

abbrev pub invariant-loop-number : goal.invariant-loop-number
invariant-loop-number l = record {
  costs : l.sum + sum_by (λ line. 36 + statement_cost line.content) (lines_of l.number-iterator) ≡ cost (lines_of l.program);
  rows : l.text.items ++ rows_text (line_parts (map pair_of l.rest) l.table (lines_of l.number-iterator)) ≡ l.initial.text.items ++ rows_text
      (line_parts (map pair_of l.starts) l.table (lines_of l.program));
}
