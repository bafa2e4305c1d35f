-- The goals of `DiskFiles::add` in src/files.rt.
use Rattle.std.proofs.Common.{Err, subst}
use Rattle.tb_engine_disk.specs.Programs.{Judges}
use Rattle.tb_engine_disk.proofs.Adding.{refused}
use Rattle.tb_engine_disk.proofs.files.DiskFiles.add.Goals as goal

pub returns-in-Err : goal.returns-in-Err
returns-in-Err c =
    refused c.args.self c.args.name c.args.bytes.items c.in-Err.refusal c.if-has.ensures
    (subst (λ bytes. Judges bytes (Err c.in-Err.refusal)) c.as_slice.ensures.value c.in-Err.ensures)
