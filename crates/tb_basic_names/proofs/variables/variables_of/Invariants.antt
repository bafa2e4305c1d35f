-- What holds at each turn of the loop of `variables_of` in src/variables.rt.
use Rattle.std.proofs.Common.{◌≡◌, ◌++◌, drop}
use Rattle.tb_basic_names.specs.Variables.{variables_from, variables_of}
use Rattle.tb_basic_names.proofs.variables.variables_of.Given as goal

abbrev pub invariant-loop-token : goal.invariant-loop-token
invariant-loop-token l = l.found.items ++ variables_from l.mode (drop l.token-index l.tokens) ≡ variables_of l.tokens
