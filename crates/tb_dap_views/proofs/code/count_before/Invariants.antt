-- What holds at each turn of the loop of `count_before` in src/code.rt.
use Rattle.std.proofs.Common.{◌≡◌, ◌≤◌, ◌+◌, drop}
use Rattle.tb_dap_views.specs.Code.{count_before}
use Rattle.tb_dap_views.proofs.code.count_before.Given as goal

abbrev pub invariant-loop-other : goal.invariant-loop-other
invariant-loop-other l = (l.count + count_before l.place (drop l.other-index l.places) ≡ count_before l.place l.places) × (l.count ≤ l.other-index)
