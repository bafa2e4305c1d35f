-- What holds at each turn of the loop of `lines_of` in src/setting.rt.
use Rattle.std.proofs.Common.{◌≡◌, ◌++◌, drop}
use Rattle.tb_dap_requests.specs.Setting.{lines_of}
use Rattle.tb_dap_requests.proofs.setting.lines_of.Given as goal

abbrev pub invariant-loop-one : goal.invariant-loop-one
invariant-loop-one l = l.lines.items ++ lines_of l.file (drop l.one-index l.wanted) ≡ lines_of l.file l.wanted
