-- What holds at each turn of the loop of `file_with` in src/library.rt.
use Rattle.std.proofs.Common.{◌≡◌, drop, map}
use Rattle.tb_assembly_files.specs.Libraries.{found, found_from, source_of}
use Rattle.tb_assembly_files.proofs.library.file_with.Given as goal

abbrev pub invariant-loop-i : goal.invariant-loop-i
invariant-loop-i l = found_from l.i l.path (map source_of (drop l.i l.library)) ≡ found l.path (map source_of l.library)
