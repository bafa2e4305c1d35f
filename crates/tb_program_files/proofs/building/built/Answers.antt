-- The goal of `built` in src/building.rt.
use Rattle.std.proofs.Common.{Ok, map, refl, subst}
use Rattle.tb_codegen.specs.Templates.{templates}
use Rattle.tb_compiled.specs.Answers.{IsAnswer}
use Rattle.tb_program_files.specs.Texts.{Tells}
use Rattle.tb_program_files.proofs.building.built.Goals as goal

pub returns : goal.returns
returns c =
    let program = c.in_ok-source.source.program in
    let same = c.in_ok-source.ensures.0 in (
      refl,
      program,
      subst (λ t. IsAnswer templates c.args.settings t (Ok program)) same c.in_ok-source.ensures.1.answer,
      subst (λ t. Tells c.args.names c.args.settings.notation t program (map (λ t. t.items) c.in_ok-texts.texts.items)) same c.in_ok-texts.ensures,
    )
