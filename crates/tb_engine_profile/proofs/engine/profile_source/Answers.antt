-- The goals of `profile_source` in src/engine.rt.
use Rattle.std.proofs.Common.{Ok, subst}
use Rattle.tb_compiled.specs.Answers.{IsAnswer}
use Rattle.tb_engine_profile.specs.Facts.{facts_on}
use Rattle.tb_engine_profile.specs.Profiles.{Profiles}
use Rattle.tb_engine_profile.specs.Running.{given}
use Rattle.tb_engine_profile.proofs.engine.profile_source.Goals as goal

pub profile_compiled-requires : goal.profile_compiled-requires
profile_compiled-requires g c = c.in_ok-source.ensures.1.answer.found

pub returns : goal.returns
returns g c =
    let program = c.in_ok-source.source.program in
    let run = given g.O.Outside.gives c.args.run.now in
    let settings = c.args.settings in
    let made = c.in_ok-made.made in
    let same = c.in_ok-source.ensures.0 in (
      program,
      subst (λ t. IsAnswer g.K.Compile.own settings t (Ok program)) same c.in_ok-source.ensures.1.answer,
      c.into_warnings.ensures,
      subst (λ t. Profiles (facts_on c.args.named.now settings run) settings.notation run t program made.texts made.end) same c.in_ok-made.ensures,
    )
