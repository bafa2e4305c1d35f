-- What holds at each turn of the loop of `touched` in src/names.rt.
use Rattle.std.proofs.Common.{◌≡◌, drop}
use Rattle.tb_basic_names.specs.Names.{touched, touched_from}
use Rattle.tb_basic_names.proofs.names.touched.Given as goal

abbrev pub invariant-loop-i : goal.invariant-loop-i
invariant-loop-i l = touched_from l.i l.found (drop l.i l.tokens) l.place ≡ touched l.tokens l.place
