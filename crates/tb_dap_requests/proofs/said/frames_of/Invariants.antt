-- What holds at each turn of the loop of `frames_of` in src/said.rt.
use Rattle.std.proofs.Common.{◌≡◌, ◌+◌, length, map}
use Rattle.tb_dap_requests.specs.Said.{AreFrames, seen}
use Rattle.tb_dap_requests.proofs.said.frames_of.Given as goal

abbrev pub invariant-loop-one : goal.invariant-loop-one
invariant-loop-one l =
    AreFrames l.seq l.asker.seq l.asker.command.now (map seen l.yielded) l.frames.items × (l.number ≡ l.seq + length l.yielded)
