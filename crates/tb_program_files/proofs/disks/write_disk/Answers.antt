-- The goal of `write_disk` in src/disks.rt.
use Rattle.std.proofs.Common.{[], ◌∷◌, ◌∙◌, ap, map, subst}
use Rattle.tb_engine_files.specs.Deeds.{Transfers}
use Rattle.tb_program_files.specs.Texts.{MakesDisk}
use Rattle.tb_program_files.specs.declared.disks.Disk.{Disk}
use Rattle.tb_program_files.proofs.Entries.{of_disk}
use Rattle.tb_program_files.proofs.disks.write_disk.Goals as goal

pub returns : goal.returns
returns g c =
    let out = c.args.out in
    let work : Disk = record { alloc = c.args.alloc; out = out; taken = c.new.result } in
    let inputs = map (λ p. p.now) c.as_slice.result.now in
    subst (λ ps. Transfers g.F.FileSystem.does g.F.FileSystem.holds (MakesDisk ps out.now) c.args.files.now ps (out.now ∷ []) c.transfer.result c.transfer.new.files)
    (ap (map (λ p. p.now)) c.as_slice.ensures.value ∙ c.in-Ok.ensures)
    (of_disk g.F.FileSystem.does g.F.FileSystem.holds work c.new.ensures c.args.files.now inputs (out.now ∷ []) c.transfer.result c.transfer.new.files c.transfer.ensures)
