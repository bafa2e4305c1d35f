-- What holds at each turn of the loop of `stray` in src/strays.rt.
use Rattle.std.proofs.Common.{◌≡◌, ◌+◌, drop}
use Rattle.tb_assembly_reasons.specs.Strays.{stray, stray_from}
use Rattle.tb_assembly_reasons.proofs.strays.stray.Given as goal

abbrev pub invariant-loop-index : goal.invariant-loop-index
invariant-loop-index l = stray_from (l.index + 1) l.inside (drop l.index l.line) ≡ stray l.line
