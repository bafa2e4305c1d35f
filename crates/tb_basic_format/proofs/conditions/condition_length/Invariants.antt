-- What holds at each turn of the loop of `condition_length` in src/conditions.rt.
use Rattle.std.proofs.Common.{◌≡◌, ◌+◌, drop}
use Rattle.tb_basic_format.specs.Conditions.{condition_length}
use Rattle.tb_basic_format.specs.declared.conditions.Place.TheVariants.{Operand}
use Rattle.tb_basic_format.proofs.conditions.condition_length.Given as goal

abbrev pub invariant-loop-i : goal.invariant-loop-i
invariant-loop-i l = l.i + condition_length l.place (drop l.i l.text) ≡ condition_length Operand l.text
