-- The goals of `tidy_line` in src/lines.rt.
use Rattle.std.proofs.Common.{List, ℕ}
use Rattle.tb_basic_format.specs.Lines.{IsTidied, bad}
use Rattle.tb_basic_format.proofs.LineCases.{copied, of_good}
use Rattle.tb_basic_format.proofs.lines.tidy_line.Goals as goal

pub returns-then-not-branch : goal.returns-then-not-branch
returns-then-not-branch c =
    let line = c.args.line.now in
    copied line (λ (t : List ℕ). IsTidied c.args.notation line t) c.from_slice.result c.from_slice.ensures.items (bad (rw c.if-not-branch.true at c.in_ok-is_good.ensures))

pub returns : goal.returns
returns c = of_good c.args.notation c.args.line.now c.tidy_good_line.result (rw c.if-not-branch.false at c.in_ok-is_good.ensures) c.tidy_good_line.ensures
