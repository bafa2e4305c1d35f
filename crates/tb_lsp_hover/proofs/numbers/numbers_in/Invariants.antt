-- What holds at each turn of the loop of `numbers_in` in src/numbers.rt.
use Rattle.std.proofs.Common.{◌≡◌, ◌+◌, ◌<◌, map, sum_by}
use Rattle.tb_basic_syntax.specs.PlainData.{lines_of}
use Rattle.tb_basic_meaning.specs.Cost.{statement_cost}
use Rattle.tb_compiled.specs.Compiled.{pair_of}
use Rattle.tb_lsp_hover.specs.Numbers.{part_of}
use Rattle.tb_lsp_hover.proofs.numbers.numbers_in.Given as goal

abbrev pub invariant-loop-line : goal.invariant-loop-line
invariant-loop-line l = record {
  costs : sum_by (λ line. 36 + statement_cost line.content) (lines_of l.line-iterator) < 4294967296;
  finds : part_of l.number (map pair_of l.rest) l.table (lines_of l.line-iterator) ≡ part_of l.number (map pair_of l.starts) l.table (lines_of l.program);
}
