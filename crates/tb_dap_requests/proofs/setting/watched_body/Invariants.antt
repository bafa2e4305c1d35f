-- What holds at each turn of the loop of `watched_body` in src/setting.rt.
use Rattle.std.proofs.Common.{◌≡◌, map, take}
use Rattle.serde_json.specs.View.{view}
use Rattle.tb_dap_requests.specs.Setting.{watch_value}
use Rattle.tb_dap_requests.proofs.setting.watched_body.Given as goal

abbrev pub invariant-loop-one : goal.invariant-loop-one
invariant-loop-one l = map view l.values.items ≡ map watch_value (take l.one-index l.wanted)
