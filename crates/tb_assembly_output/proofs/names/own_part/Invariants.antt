-- What holds at each turn of the loop of `own_part` in src/names.rt.
use Rattle.std.proofs.Common.{◌≡◌, drop}
use Rattle.tb_assembly_output.specs.Names.{own_from, own_part}
use Rattle.tb_assembly_output.proofs.names.own_part.Given as goal

abbrev pub invariant-loop-i : goal.invariant-loop-i
invariant-loop-i l = own_from l.found (drop l.i l.name) ≡ own_part l.name
