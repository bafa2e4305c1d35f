-- What holds at each turn of the loop of `paths_of` in src/disks.rt.
use Rattle.std.proofs.Common.{◌≡◌, take, map}
use Rattle.std.specs.Prelude.{string_bytes}
use Rattle.tb_program_files.proofs.disks.paths_of.Given as goal

abbrev pub invariant-loop-path : goal.invariant-loop-path
invariant-loop-path l = map (λ p. p.now) l.texts.items ≡ map string_bytes (take l.path-index l.paths)
