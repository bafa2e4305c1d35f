-- The goals of `push_cells` in src/frames.rt.
use Rattle.std.specs.Prelude.{string_bytes}
use Rattle.tb_machine_screen.specs.declared.cells.Cell.{Cell}
use Rattle.tb_machine_screen.specs.declared.colours.Colour.TheVariants.{Black}
use Rattle.tb_machine_screen.proofs.Pushing.{cells_more, cells_done}
use Rattle.tb_machine_screen.proofs.frames.push_cells.Goals as goal

pub loop-cell-preserved : goal.loop-cell-preserved
loop-cell-preserved c =
    let none : Cell = record { code = 0; colour = Black } in
    cells_more (string_bytes c.loop-cell.text) (string_bytes c.push_cell.new.text) _ c.args.set c.loop-cell.used c.pen_of-used.result
    c.args.cells.now c.loop-cell.cell-index none c.loop-cell-test.true c.in_ok-push_cell.ensures c.pen_of-used.ensures
    c.loop-cell.invariant

pub returns : goal.returns
returns c =
    cells_done (string_bytes c.loop-cell.text) _ c.args.set c.loop-cell.used c.args.cells.now c.loop-cell.cell-index
    c.loop-cell-test.false c.loop-cell.invariant
