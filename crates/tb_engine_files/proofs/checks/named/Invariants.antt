-- What holds at each turn of the loop of `named` in src/checks.rt.
use Rattle.std.proofs.Common.{map, take}
use Rattle.tb_engine_files.specs.Checks.{AreNamed}
use Rattle.tb_engine_files.proofs.checks.named.Given as goal

abbrev pub invariant-loop-path : goal.invariant-loop-path
invariant-loop-path g l = AreNamed g.F.FileSystem.leads l.files (map (λ p. p.now) (take l.path-index l.paths)) l.named.items
