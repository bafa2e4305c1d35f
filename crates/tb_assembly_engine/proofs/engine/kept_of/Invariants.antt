-- What holds at each turn of the loop of `kept_of` in src/engine.rt.
use Rattle.std.proofs.Common.{◌≡◌, ◌++◌, drop, map}
use Rattle.tb_assembly_files.specs.Libraries.{source_of}
use Rattle.tb_assembly_engine.specs.Gathering.{kept_of}
use Rattle.tb_assembly_engine.proofs.engine.kept_of.Given as goal

abbrev pub invariant-loop-file : goal.invariant-loop-file
invariant-loop-file l = map (λ p. p.now) l.paths.items ++ kept_of (map source_of (drop l.file-index l.library)) ≡ kept_of (map source_of l.library)
