-- The goals of `SourceRun::step_within` in src/stepping.rt.
use Rattle.std.proofs.Common.{◌∙◌}
use Rattle.tb_engine_streams.specs.Uses.{use_of}
use Rattle.tb_engine_play.specs.Plays.{quietly}
use Rattle.tb_engine_sources.specs.Stepping.{StepsThrough, MadeFromTaken}
use Rattle.tb_engine_sources.proofs.Delivered.{delivered, refusal_delivered}
use Rattle.tb_engine_sources.proofs.Loadable.{answer_loads}
use Rattle.tb_engine_sources.proofs.Stepped.{steps_made, steps_refused}
use Rattle.tb_engine_sources.proofs.runs.SourceRun.step_within.Goals as goal

pub step_program-requires : goal.step_program-requires
step_program-requires g c =
    answer_loads g.K.Compile.own c.args.self.settings c.in-Ok-compile_source.source.text.items c.in-Ok-compile_source.source.program c.in-Ok-compile_source.ensures.1.answer.found

pub returns-clause-answers : goal.returns-clause-answers
returns-clause-answers g c =
    let s = quietly c.args.self.run.keyboard.text.items c.args.self.run.keyboard.answers.items c.args.self.run.limit in
    let reader = use_of g.C.Read.remaining c.args.commands.now c.read_input-2.new.reader in
    let source = c.in-Ok-compile_source.source in
    let warnings = c.into_warnings.result.items in
    let (same, is) = c.in-Ok-compile_source.ensures in
    delivered (λ text. MadeFromTaken reader (StepsThrough g.K.Compile.own s c.args.self.settings warnings text)) _ _ source.text.items c.step_program.result _ _ _
    c.in-Ok.ensures.whole same
    (steps_made s g.K.Compile.own c.args.self.settings reader source.text.items _ _ source.program warnings c.step_program.result
    c.in-Ok-read_input.ensures.whole c.in-Ok-read_input.ensures.consumed c.as_slice.ensures.value is.answer c.into_warnings.ensures c.step_program.ensures)
    c.deliver.ensures.answers

pub returns-in-Err-compile_source-clause-answers : goal.returns-in-Err-compile_source-clause-answers
returns-in-Err-compile_source-clause-answers g c =
    let s = quietly c.args.self.run.keyboard.text.items c.args.self.run.keyboard.answers.items c.args.self.run.limit in
    let reader = use_of g.C.Read.remaining c.args.commands.now c.read_input-2.new.reader in
    let new = c.new-in-Err-compile_source in
    refusal_delivered g.K.Compile.own c.args.self.settings (λ w text. MadeFromTaken reader (StepsThrough g.K.Compile.own s c.args.self.settings w text)) _ _
    c.in-Err-compile_source.stop new.result _
    (λ e refused. steps_refused s g.K.Compile.own c.args.self.settings reader _ _ e c.in-Ok-read_input.ensures.whole c.in-Ok-read_input.ensures.consumed refused)
    c.in-Ok.ensures.whole c.in-Err-compile_source.ensures (new.ensures.outcome ∙ c.of.ensures) new.ensures.warnings
