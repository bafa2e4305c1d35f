-- What holds at each turn of the loop of `all_wanted` in src/setting.rt.
use Rattle.std.proofs.Common.{◌≡◌, ◌++◌, map, drop}
use Rattle.std.specs.Prelude.{option_map}
use Rattle.serde_json.specs.View.{view}
use Rattle.tb_dap_requests.specs.Setting.{all_wanted}
use Rattle.tb_dap_requests.proofs.setting.all_wanted.Given as goal

abbrev pub invariant-loop-value : goal.invariant-loop-value
invariant-loop-value l = option_map (λ ws. l.found.items ++ ws) (all_wanted (map view (drop l.value-index l.values))) ≡ all_wanted (map view l.values)
