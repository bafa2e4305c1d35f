-- What holds at each turn of the loop of `Numbering::new_number` in src/numbering.rt.
use Rattle.std.proofs.Common.{◌≡◌}
use Rattle.tb_basic_syntax.specs.PlainData.{lines_of}
use Rattle.tb_basic_syntax.specs.Source.{numbers}
use Rattle.tb_basic_renumber.specs.Renumbered.{are_low, new_number}
use Rattle.tb_basic_renumber.proofs.numbering.Numbering.new_number.Given as goal

-- the number by the rest is the number by all, and all numbers are low if those of the rest are
abbrev pub invariant-loop-line : goal.invariant-loop-line
invariant-loop-line l = record {
  number : new_number l.new l.self.step (numbers (lines_of l.line-iterator)) l.number ≡ new_number l.self.first l.self.step (numbers (lines_of l.program)) l.number;
  low : are_low l.new l.self.step (numbers (lines_of l.line-iterator)) ≡ are_low l.self.first l.self.step (numbers (lines_of l.program));
}
