-- The goals of `DiskFiles::image` in src/files.rt.
use Rattle.std.proofs.Common.{map, ap, ◌∙◌}
use Rattle.tb_engine_disk.specs.Files.{entry_in, entry_of}
use Rattle.tb_engine_disk.proofs.files.DiskFiles.image.Goals as goal

pub returns-in-Ok : goal.returns-in-Ok
returns-in-Ok c = (
  c.in_ok-title.title,
  c.as_slice-2.result.now,
  c.in_ok-title.ensures,
  ap (map entry_in) c.as_slice-2.ensures.value ∙ c.in_ok-files.ensures ∙ ap (map entry_of) c.as_slice.ensures.value,
  c.in-Ok.ensures,
)
