-- The goals of `gather` in src/gathering.rt.
use Rattle.std.proofs.Common.{rules, arith, [], map, refl, ◌∙◌}
use Rattle.tb_assembly_files.specs.Libraries.{source_of}
use Rattle.tb_assembly_engine.proofs.Reading.{asks_for, gathered, longer, stopped}
use Rattle.tb_assembly_engine.proofs.gathering.gather.Goals as goal

pub returns-in_err-take_file : goal.returns-in_err-take_file
returns-in_err-take_file g c =
    stopped g.F.FileSystem.does g.F.FileSystem.holds c.args.text.now c.from_residual-in_err-take_file.result _ _ _ _ [] c.in_ok-path.path.items c.args.manner
    (search rules) refl (c.in_ok-path.ensures.items ∙ c.as_bytes.ensures.value) c.in_err-take_file.ensures.stopped

pub returns-in_err-take_file-in-Ok-Wants : goal.returns-in_err-take_file-in-Ok-Wants
returns-in_err-take_file-in-Ok-Wants g c =
    stopped g.F.FileSystem.does g.F.FileSystem.holds c.args.text.now c.from_residual-in_err-take_file-in-Ok-Wants.result _ _ c.reading.files _
    (map source_of c.reading.library.items) c.in-Ok-Wants.path.items c.args.manner (search rules) c.reading.invariant.gathered
    (asks_for c.args.text.now _ _ c.args.manner c.in-Ok-Wants.field-0 c.in-Ok-Wants.path c.deref.ensures.value c.in-Ok-Wants.field-0-is c.in-Ok-Wants.ensures)
    c.in_err-take_file-in-Ok-Wants.ensures.stopped

pub reading-preserved : goal.reading-preserved
reading-preserved g c =
    let taken = c.in_ok-take_file-in-Ok-Wants.ensures.taken in
    let more = longer c.reading.library.items c.take_file-in-Ok-Wants.new.library.items taken.0 taken.3 in
    record {
      gathered =
          gathered g.F.FileSystem.does g.F.FileSystem.holds c.args.text.now _ c.reading.files _ (map source_of c.reading.library.items) _ c.in-Ok-Wants.path.items
          c.reading.invariant.gathered
          (asks_for c.args.text.now _ _ c.args.manner c.in-Ok-Wants.field-0 c.in-Ok-Wants.path c.deref.ensures.value c.in-Ok-Wants.field-0-is c.in-Ok-Wants.ensures) taken;
      within = omega (arith, more);
    }
