-- The goals of `test_source` in src/testing.rt.
use Rattle.std.proofs.Common.{◌≡◌, ◌∙◌, true, Ok, map, refl, ap, subst}
use Rattle.tb_compiled.specs.Answers.{IsAnswer}
use Rattle.tb_engine_test.specs.Reaching.{reached}
use Rattle.tb_engine_test.specs.Running.{RunsBeside}
use Rattle.tb_engine_test.specs.Testing.{IsDiffers, lines_of}
use Rattle.tb_engine_transcripts.specs.Contents.{is_writable_end}
use Rattle.tb_engine_transcripts.specs.declared.transcript.Transcript.{Transcript}
use Rattle.tb_engine_test.proofs.Writable.{run_as_transcript}
use Rattle.tb_engine_test.proofs.testing.test_source.Goals as goal

pub returns-clause-tests : goal.returns-clause-tests
returns-clause-tests g c =
    let program = c.in_ok-source.source.program in
    let manner = c.in_ok-manner.manner in
    let run = c.in_ok-turns.field-0 in
    let wanted = c.args.wanted.now in
    let ran : Transcript = record { options = wanted.options; end = run.end; turns = run.turns; last = run.last } in
    let typed : map (λ v. v.items) c.deref.result.now ≡ lines_of wanted = ap (map (λ v. v.items)) c.deref.ensures.value ∙ c.in_ok-lines.ensures in
    let again : map (λ v. v.items) c.deref-2.result.now ≡ lines_of wanted = ap (map (λ v. v.items)) c.deref-2.ensures.value ∙ c.in_ok-lines.ensures in (
      program,
      subst (λ t. IsAnswer g.K.Compile.own c.args.settings t (Ok program)) c.in_ok-source.ensures.0 c.in_ok-source.ensures.1.answer,
      record {
        manner = manner;
        is = c.in_ok-manner.ensures;
        run = run;
        runs = subst (λ ls. RunsBeside wanted.options.rude manner program ls run) typed c.in_ok-turns.ensures;
        ran = refl;
        differs = subst (λ ls. IsDiffers program wanted ran ls manner c.in_ok-differs.differs) again c.in_ok-differs.ensures;
        reached = c.in_ok-reached.ensures ∙ ap (λ rs. reached (map (λ rows. rows.items) rs)) c.deref-3.ensures.value;
        warnings = c.into_warnings.ensures;
      },
    )

pub returns-clause-writable : goal.returns-clause-writable
returns-clause-writable g c =
    let program = c.in_ok-source.source.program in
    let manner = c.in_ok-manner.manner in
    let run = c.in_ok-turns.field-0 in
    let wanted = c.args.wanted.now in
    let ran : Transcript = record { options = wanted.options; end = run.end; turns = run.turns; last = run.last } in
    let typed : map (λ v. v.items) c.deref.result.now ≡ lines_of wanted = ap (map (λ v. v.items)) c.deref.ensures.value ∙ c.in_ok-lines.ensures in
    let runs = subst (λ ls. RunsBeside wanted.options.rude manner program ls run) typed c.in_ok-turns.ensures in
    let ends : is_writable_end run.end ≡ true = c.end_fits.ensures in
    run_as_transcript wanted ran manner program run runs refl ends
