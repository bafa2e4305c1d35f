-- What holds at each turn of the loop of `is_renumbered` in src/comparing.rt.
use Rattle.std.proofs.Common.{◌≡◌, ◌↔◌}
use Rattle.tb_basic_syntax.specs.PlainData.{lines_of}
use Rattle.tb_basic_syntax.specs.Source.{numbers}
use Rattle.tb_basic_renumber.specs.Renumbered.{new_number, put_through, renumbered}
use Rattle.tb_basic_renumber.proofs.comparing.is_renumbered.Given as goal

-- all is renumbered if the rest is, and only then
abbrev pub invariant-loop-number : goal.invariant-loop-number
invariant-loop-number l =
    (lines_of l.rest ≡ put_through (new_number l.numbering.first l.numbering.step (numbers (lines_of l.old))) (lines_of l.number-iterator))
    ↔ (lines_of l.new ≡ renumbered l.numbering.first l.numbering.step (lines_of l.old))
