-- What holds at each turn of the loop of `opening` in src/session.rt.
use Rattle.std.proofs.Common.{◌≡◌, ◌++◌, map, take}
use Rattle.tb_dap_requests.specs.Said.{seen}
use Rattle.tb_dap_adapter.specs.Sessions.{beginning, warning_of}
use Rattle.tb_dap_adapter.proofs.session.Session.opening.Given as goal

abbrev pub invariant-loop-one : goal.invariant-loop-one
invariant-loop-one l =
    map seen l.said.items ≡ beginning l.self.plan.drawn ++ map warning_of (take l.one-index l.self.file.program.now.warnings.items)
