-- What holds at each turn of the loop of `folder_size` in src/paths.rt.
use Rattle.std.proofs.Common.{◌≡◌, ◌≤◌, drop}
use Rattle.tb_assembly_files.specs.Paths.{folder_size}
use Rattle.tb_assembly_files.proofs.paths.folder_size.Given as goal

abbrev pub invariant-loop-i : goal.invariant-loop-i
invariant-loop-i l = (folder_size l.found l.i (drop l.i l.path) ≡ folder_size 0 0 l.path) × (l.found ≤ l.i)
