-- The goals of `renumber_lines` in src/renumbering.rt.
use Rattle.std.proofs.Common.{subst}
use Rattle.tb_basic_syntax.specs.PlainData.{lines_of}
use Rattle.tb_basic_renumber.specs.Renumbered.{renumbered}
use Rattle.tb_basic_renumber.proofs.Whole.{run_alike}
use Rattle.tb_basic_renumber.specs.Answers.{IsProgramIn}
use Rattle.tb_basic_renumber.proofs.renumbering.renumber_lines.Goals as goal

pub returns : goal.returns
returns c =
    let first = c.args.numbering.first in
    let step = c.args.numbering.step in
    let movable = c.in_ok-check.ensures in
    let made = c.in_ok-new.ensures in
    let read = c.in_ok-read_again.ensures in (
      movable,
      made.0,
      made.1,
      subst (λ text. IsProgramIn c.args.notation text (renumbered first step (lines_of c.args.program.now))) c.as_slice.ensures.value read.0,
      run_alike first step (lines_of c.args.program.now) c.requires.rising read.1 movable.0,
    )
