-- What holds at each turn of the loop of `push_cells` in src/frames.rt.
use Rattle.std.proofs.Common.{◌≡◌, ◌++◌, drop}
use Rattle.std.specs.Prelude.{string_bytes}
use Rattle.tb_machine_screen.specs.Strokes.{spelled_all}
use Rattle.tb_machine_screen.specs.Frames.{cell_strokes, first_pen}
use Rattle.tb_machine_screen.proofs.frames.push_cells.Given as goal

abbrev pub invariant-loop-cell : goal.invariant-loop-cell
invariant-loop-cell l =
    string_bytes l.text ++ spelled_all (cell_strokes l.set l.used (drop l.cell-index l.cells))
    ≡ string_bytes l.initial.text ++ spelled_all (cell_strokes l.set first_pen l.cells)
