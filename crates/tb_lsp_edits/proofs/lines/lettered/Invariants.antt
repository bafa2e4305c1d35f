-- What holds at each turn of the loop of `lettered` in src/lines.rt.
use Rattle.std.proofs.Common.{◌≡◌, drop}
use Rattle.tb_lsp_edits.specs.Renamed.{lettered_at}
use Rattle.tb_lsp_edits.proofs.lines.lettered.Given as goal

abbrev pub invariant-loop-variable : goal.invariant-loop-variable
invariant-loop-variable l = lettered_at l.letters l.new.items (drop l.variable-index l.variables) ≡ lettered_at l.letters l.text l.variables
