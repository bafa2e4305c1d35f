-- What holds at each turn of the loop of `Numbering::fits` in src/numbering.rt.
use Rattle.std.proofs.Common.{◌≡◌}
use Rattle.tb_basic_syntax.specs.PlainData.{lines_of}
use Rattle.tb_basic_syntax.specs.Source.{numbers}
use Rattle.tb_basic_renumber.specs.Renumbered.{are_low}
use Rattle.tb_basic_renumber.proofs.numbering.Numbering.fits.Given as goal

-- all numbers are low if those of the rest are
abbrev pub invariant-loop : goal.invariant-loop
invariant-loop l =
    are_low l.number l.self.step (numbers (lines_of l.iterator')) ≡ are_low l.self.first l.self.step (numbers (lines_of l.program))
