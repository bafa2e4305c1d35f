-- What holds at each turn of the loop of `placed_body` in src/setting.rt.
use Rattle.std.proofs.Common.{◌≡◌, map, take}
use Rattle.serde_json.specs.View.{view}
use Rattle.tb_dap_requests.specs.Setting.{placed_value}
use Rattle.tb_dap_requests.proofs.setting.placed_body.Given as goal

abbrev pub invariant-loop-one : goal.invariant-loop-one
invariant-loop-one l = map view l.values.items ≡ map (placed_value l.file) (take l.one-index l.wanted)
