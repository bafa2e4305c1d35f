-- What holds at each turn of the loop of `seen_at` in src/checks.rt.
use Rattle.std.proofs.Common.{take}
use Rattle.tb_engine_files.specs.Checks.{AreSeen}
use Rattle.tb_engine_files.proofs.checks.seen_at.Given as goal

abbrev pub invariant-loop-output : goal.invariant-loop-output
invariant-loop-output g l = AreSeen g.F.FileSystem.shows l.files (take l.output-index l.outputs) l.seen.items
