-- What holds at each turn of the loop of `files_in` in src/files.rt.
use Rattle.std.proofs.Common.{◌≡◌, take, map}
use Rattle.tb_engine_disk.specs.Files.{entry_in, entry_of}
use Rattle.tb_engine_disk.proofs.files.files_in.Given as goal

abbrev pub invariant-loop-file : goal.invariant-loop-file
invariant-loop-file l = map entry_in l.files.items ≡ map entry_of (take l.file-index l.taken)
