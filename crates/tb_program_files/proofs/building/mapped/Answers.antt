-- The goal of `mapped` in src/building.rt.
use Rattle.std.proofs.Common.{Ok, refl, subst, ◌∙◌}
use Rattle.tb_codegen.specs.Templates.{templates}
use Rattle.tb_compiled.specs.Answers.{IsAnswer}
use Rattle.tb_engine_listing.specs.Builds.{IsMade}
use Rattle.tb_program_files.proofs.building.mapped.Goals as goal

pub returns : goal.returns
returns c =
    let program = c.in_ok-source.source.program in
    let same = c.in_ok-source.ensures.0 in (
      refl,
      program,
      subst (λ t. IsAnswer templates c.args.settings t (Ok program)) same c.in_ok-source.ensures.1.answer,
      c.in_ok-made.made,
      subst (λ t. IsMade c.args.settings.notation t program c.in_ok-made.made) (c.as_slice.ensures.value ∙ same) c.in_ok-made.ensures,
      c.in_ok-only.ensures,
    )
