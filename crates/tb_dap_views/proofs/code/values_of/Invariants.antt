-- What holds at each turn of the loop of `values_of` in src/code.rt.
use Rattle.std.proofs.Common.{◌≡◌, map}
use Rattle.serde_json.specs.View.{view}
use Rattle.tb_memmap.specs.Bytes.{at}
use Rattle.tb_dap_views.specs.Code.{values_to}
use Rattle.tb_dap_views.proofs.code.values_of.Given as goal

abbrev pub invariant-loop-k : goal.invariant-loop-k
invariant-loop-k l = map view l.values.items ≡ values_to l.file (at l.memory) l.end l.places l.range l.k
