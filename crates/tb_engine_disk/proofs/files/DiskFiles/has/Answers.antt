-- The goals of `DiskFiles::has` in src/files.rt.
use Rattle.std.proofs.Common.{rules}
use Rattle.tb_engine_disk.proofs.Used.{is_used, is_unused}
use Rattle.tb_engine_disk.proofs.files.DiskFiles.has.Goals as goal

pub returns-then-eq : goal.returns-then-eq
returns-then-eq c = is_used c.args.self.now.files.items c.loop-file.file-index c.file-item.result c.args.name.now.field (search rules) (search rules) (search rules)

pub returns : goal.returns
returns c = is_unused c.args.self.now.files.items c.loop-file.file-index c.args.name.now.field (search rules) c.loop-file.invariant
