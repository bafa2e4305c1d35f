-- The goals of `push_rows` in src/frames.rt.
use Rattle.std.proofs.Common.{◌≡◌, rules, arith}
use Rattle.std.specs.Prelude.{string_bytes}
use Rattle.tb_machine_screen.proofs.Pushing.{rows_none}
use Rattle.tb_machine_screen.proofs.frames.push_rows.Goals as goal

pub loop-row-init : goal.loop-row-init
loop-row-init c = rows_none (string_bytes c.args.text.now) c.args.set c.args.cells.now

pub returns-in_err-push_row : goal.returns-in_err-push_row
returns-in_err-push_row c = search rules

pub returns : goal.returns
returns c =
    let all : c.loop-row.row ≡ 25 = omega (arith, c.loop-row-test.false, c.loop-row.auto.row-end) in
    rw all at c.loop-row.invariant
