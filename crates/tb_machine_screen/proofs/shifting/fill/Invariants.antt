-- What holds at each turn of the loop of `fill` in src/shifting.rt.
use Rattle.std.proofs.Common.{◌≡◌}
use Rattle.tb_machine_screen.specs.Shifting.{filled}
use Rattle.tb_machine_screen.proofs.shifting.fill.Given as goal

abbrev pub invariant-loop-i : goal.invariant-loop-i
invariant-loop-i g l = l.elements ≡ filled l.fn.from l.i l.filler l.fn.elements
