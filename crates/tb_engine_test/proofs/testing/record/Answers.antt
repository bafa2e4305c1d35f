-- The goal of `record` in src/testing.rt.
use Rattle.std.proofs.Common.{◌≡◌, ◌∙◌, Ok, None, map, refl, ap, subst}
use Rattle.tb_compiled.specs.Answers.{IsAnswer}
use Rattle.tb_basic_text.specs.Lines.{lines_of_file}
use Rattle.tb_engine_test.specs.Running.{RunsBeside}
use Rattle.tb_engine_test.specs.declared.talk.Manner.{Manner}
use Rattle.tb_engine_test.proofs.testing.record.Goals as goal

pub returns : goal.returns
returns g c =
    let program = c.in_ok-source.source.program in
    let manner : Manner = record { limit = c.args.play.limit; notation = c.args.settings.notation; counted = None } in
    let typed : map (λ v. v.items) c.deref.result.now ≡ lines_of_file c.args.play.typed.now = ap (map (λ v. v.items)) c.deref.ensures.value ∙ c.in_ok-lines.ensures in (
      program,
      manner,
      c.in_ok-ran.ran,
      subst (λ t. IsAnswer g.K.Compile.own c.args.settings t (Ok program)) c.in_ok-source.ensures.0 c.in_ok-source.ensures.1.answer,
      refl,
      subst (λ ls. RunsBeside c.args.play.options.rude manner program ls c.in_ok-ran.ran) typed c.in_ok-ran.ensures,
      refl,
    )
