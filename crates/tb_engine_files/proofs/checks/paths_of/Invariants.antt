-- What holds at each turn of the loop of `paths_of` in src/checks.rt.
use Rattle.std.proofs.Common.{◌≡◌, map, take}
use Rattle.tb_engine_files.specs.Checks.{path_of}
use Rattle.tb_engine_files.proofs.checks.paths_of.Given as goal

abbrev pub invariant-loop-output : goal.invariant-loop-output
invariant-loop-output l = map (λ p. p.now) l.paths.items ≡ map path_of (take l.output-index l.outputs)
