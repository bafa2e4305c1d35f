-- What holds at each turn of the loop of `elsewhere_body` in src/setting.rt.
use Rattle.std.proofs.Common.{◌≡◌, map, codes}
use Rattle.std.specs.Prelude.{replicate}
use Rattle.serde_json.specs.View.{view}
use Rattle.tb_dap_values.specs.Stops.{unverified_value}
use Rattle.tb_dap_requests.proofs.setting.elsewhere_body.Given as goal

abbrev pub invariant-loop : goal.invariant-loop
invariant-loop l = map view l.values.items ≡ replicate l.counter (unverified_value (codes "the program is another file"))
