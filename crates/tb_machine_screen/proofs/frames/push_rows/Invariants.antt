-- What holds at each turn of the loop of `push_rows` in src/frames.rt.
use Rattle.std.proofs.Common.{◌≡◌, ◌++◌}
use Rattle.std.specs.Prelude.{string_bytes}
use Rattle.tb_machine_screen.specs.Strokes.{spelled_all}
use Rattle.tb_machine_screen.specs.Frames.{row_strokes}
use Rattle.tb_machine_screen.proofs.frames.push_rows.Given as goal

abbrev pub invariant-loop-row : goal.invariant-loop-row
invariant-loop-row l = string_bytes l.text ≡ string_bytes l.initial.text ++ spelled_all (row_strokes l.row l.set l.cells)
