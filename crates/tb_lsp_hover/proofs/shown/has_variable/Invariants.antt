-- What holds at each turn of the loop of `has_variable` in src/shown.rt.
use Rattle.std.proofs.Common.{◌≡◌, drop}
use Rattle.tb_lsp_hover.specs.Shown.{has_variable}
use Rattle.tb_lsp_hover.proofs.shown.has_variable.Given as goal

abbrev pub invariant-loop-variable : goal.invariant-loop-variable
invariant-loop-variable l = has_variable l.so.name l.so.gets (drop l.variable-index l.variables) ≡ has_variable l.so.name l.so.gets l.variables
