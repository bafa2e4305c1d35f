-- The goals of `profile_compiled` in src/engine.rt.
use Rattle.std.proofs.Common.{List, ℕ, refl, subst}
use Rattle.tb_engine_profile_table.specs.Texts.{Shows}
use Rattle.tb_engine_sources.proofs.Loadable.{answer_loads}
use Rattle.tb_engine_profile.specs.Facts.{facts_of, facts_on}
use Rattle.tb_engine_profile.specs.Running.{IsProfile, given}
use Rattle.tb_engine_profile.proofs.Profiling.{profiles}
use Rattle.tb_engine_profile.proofs.engine.profile_compiled.Goals as goal

pub profile_program-requires : goal.profile_program-requires
profile_program-requires g c = answer_loads g.K.Compile.own c.args.settings c.args.source.now.text.items c.args.source.now.program c.requires

pub returns : goal.returns
returns g c =
    let source = c.args.source.now in
    let settings = c.args.settings in
    let run = given g.O.Outside.gives c.args.run.now in
    let ran = c.in_ok-ran.ran in
    let copied = c.in_ok-keyboard.ensures in
    let given_by = λ (keys answers : List ℕ). record run { text = keys; answers = answers } in
    profiles g.K.Compile.own (facts_on c.args.named.now settings run) settings run source.text.items source.program
    ran (record { texts = c.in_ok-texts.texts; end = ran.end }) c.requires
    (subst (λ keys. IsProfile (given_by keys run.answers) source.program ran) copied.0
    (subst (λ answers. IsProfile (given_by c.in_ok-keyboard.keyboard.text.items answers) source.program ran) copied.1 c.in_ok-ran.ensures))
    (subst (λ t. Shows (facts_of c.args.named.now settings run.text run.answers run.limit ran.end) t ran.table c.in_ok-texts.texts) c.as_slice.ensures.value c.in_ok-texts.ensures) refl
