-- The goal of `added` in src/disks.rt.
use Rattle.tb_program_files.proofs.Entries.{joined}
use Rattle.tb_program_files.proofs.disks.added.Goals as goal

pub returns-clause-joined : goal.returns-clause-joined
returns-clause-joined c = joined c.args.files c.args.path.now c.in_ok-name.name c.args.bytes.items c.in_ok-name.ensures c.add.result c.add.ensures
