-- The goals of `take_file` in src/gathering.rt.
use Rattle.std.proofs.Common.{refl, subst}
use Rattle.std.specs.Prelude.{option_map}
use Rattle.tb_assembly_engine.specs.Gathering.{LacksMemory, Takes}
use Rattle.tb_assembly_engine.proofs.Reading.{added, on_err}
use Rattle.tb_assembly_engine.proofs.gathering.take_file.Goals as goal

pub returns-clause-taken : goal.returns-clause-taken
returns-clause-taken g c = (
  record { path = c.args.path.items; text = option_map (λ t. t.items) c.in_ok-text.text },
  refl,
  subst (λ p. Takes g.F.FileSystem.does g.F.FileSystem.holds c.args.files.now p (option_map (λ t. t.items) c.in_ok-text.text) c.text_at.new.files)
      c.deref.ensures.value c.in_ok-text.ensures,
  added _ _ _ c.in_ok-push.ensures.items,
)

pub returns-in_err-text-clause-stopped : goal.returns-in_err-text-clause-stopped
returns-in_err-text-clause-stopped g c =
    on_err c.from_residual.result
    (subst (λ p. LacksMemory g.F.FileSystem.does g.F.FileSystem.holds c.args.files.now p c.text_at.new.files) c.deref.ensures.value c.in_err-text.ensures)
