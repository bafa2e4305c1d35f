-- What holds at each turn of the loop of `gather` in src/gathering.rt.
use Rattle.std.proofs.Common.{[], map, length, ◌-◌, ◌≤◌}
use Rattle.tb_assembly_files.specs.Libraries.{source_of}
use Rattle.tb_assembly_engine.specs.Gathering.{Gathers}
use Rattle.tb_assembly_engine.proofs.gathering.gather.Given as goal

abbrev pub invariant-reading : goal.invariant-reading
invariant-reading g l = record {
  gathered : Gathers g.F.FileSystem.does g.F.FileSystem.holds l.text l.fn.files [] (map source_of l.library.items) l.files;
  within : length l.library.items ≤ 257;
}

abbrev pub decreases-reading : goal.decreases-reading
decreases-reading g l = 257 - length l.library.items
