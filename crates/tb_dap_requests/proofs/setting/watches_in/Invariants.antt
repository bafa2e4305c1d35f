-- What holds at each turn of the loop of `watches_in` in src/setting.rt.
use Rattle.std.proofs.Common.{◌≡◌, map, take}
use Rattle.serde_json.specs.View.{view}
use Rattle.tb_dap_requests.specs.Setting.{index_of, watch_in}
use Rattle.tb_dap_requests.proofs.setting.watches_in.Given as goal

abbrev pub invariant-loop-value : goal.invariant-loop-value
invariant-loop-value l = map index_of l.found.items ≡ map watch_in (map view (take l.value-index l.value-items))
