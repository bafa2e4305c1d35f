-- What holds at each turn of the loop of `push_variables` in src/places.rt.
use Rattle.std.proofs.Common.{◌≡◌, ◌++◌, drop}
use Rattle.tb_basic_names.specs.Places.{of_variables}
use Rattle.tb_basic_names.proofs.places.push_variables.Given as goal

abbrev pub invariant-loop-variable : goal.invariant-loop-variable
invariant-loop-variable l =
    l.found.items ++ of_variables l.number l.text l.name (drop l.variable-index l.variables)
    ≡ l.initial.found.items ++ of_variables l.number l.text l.name l.variables
