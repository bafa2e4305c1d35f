-- The goals of `SourceRun::run_noted` in src/runs.rt.
use Rattle.std.proofs.Common.{List, ℕ, ◌∙◌, Ok, Err, subst}
use Rattle.tb_opcodes.specs.Bytes.{AreBytes}
use Rattle.tb_prg.specs.Prg.{content_of}
use Rattle.tb_compiled.specs.Compiled.{prg_of}
use Rattle.tb_kernal.specs.Hearing.{hearing_of}
use Rattle.tb_engine_streams.specs.Uses.{use_of}
use Rattle.tb_engines.specs.Outcomes.{Product}
use Rattle.tb_engines.specs.Programs.{settings_of, RunsOn, RunsPrg}
use Rattle.tb_engines.proofs.Ran.{answers_as}
use Rattle.tb_engines.proofs.Start.{not_started, runs_content}
use Rattle.tb_engines.proofs.Undelivered.{unmade}
use Rattle.tb_engine_sources.proofs.Noted.{notes_run, notes_source, untold_source, untold_start}
use Rattle.tb_engine_sources.proofs.Output.{runs_source}
use Rattle.tb_engine_sources.proofs.ReadSources.{nothing_made, nothing_output, file_ran, file_run}
use Rattle.tb_engine_sources.proofs.runs.SourceRun.run_noted.Goals as goal

pub returns-in-Err-clause-answers : goal.returns-in-Err-clause-answers
returns-in-Err-clause-answers g c =
    let makes = RunsPrg (settings_of g.O.Outside.gives c.args.outside.now c.args.self.run.keyboard c.args.self.run.limit c.args.self.settings.notation) in
    nothing_made g.K.Compile.own c.args.self.settings c.in-Err.stop c.new.result _ _ c.in-Err.ensures.answers (c.new.ensures.outcome ∙ c.of.ensures) c.new.ensures.warnings
    (λ source p. makes (prg_of p))

pub returns-in-Err-clause-output : goal.returns-in-Err-clause-output
returns-in-Err-clause-output g c =
    nothing_output g.K.Compile.own c.args.self.settings c.args.self.run.keyboard.text.items c.args.self.run.keyboard.answers.items c.in-Err.stop c.new.result _ _ c.in-Err.ensures.answers
    (c.new.ensures.outcome ∙ c.of.ensures)

pub returns-in-Err-clause-note : goal.returns-in-Err-clause-note
returns-in-Err-clause-note g c =
    untold_source g.K.Compile.own (settings_of g.O.Outside.gives c.args.outside.now c.args.self.run.keyboard c.args.self.run.limit c.args.self.settings.notation) _ c.args.self.settings
    (use_of g.R.Read.remaining c.args.reader.now c.read_source.new.reader) c.in-Err.stop c.new.result c.in-Err.ensures.answers (c.new.ensures.outcome ∙ c.of.ensures)

pub returns-in-Err-start_program-clause-answers : goal.returns-in-Err-start_program-clause-answers
returns-in-Err-start_program-clause-answers g c =
    let s = settings_of g.O.Outside.gives c.args.outside.now c.args.self.run.keyboard c.args.self.run.limit c.args.self.settings.notation in
    let reader = use_of g.R.Read.remaining c.args.reader.now c.read_source.new.reader in
    let writer = use_of g.W.Write.contents c.args.writer.now c.args.writer.now in
    let file = prg_of c.in-Ok.source.program in
    file_ran g.K.Compile.own c.args.self.settings reader c.in-Ok.source c.in-Ok.ensures.answers c.from.result writer (RunsPrg s) c.into_warnings.result.items c.into_warnings.ensures
    (unmade (RunsPrg s file) c.in-Err-start_program.stop c.from.result writer.old c.from.ensures
    (not_started s (content_of file) c.in-Err-start_program.stop c.in-Err-start_program.ensures.prg))

pub returns-in-Err-start_program-clause-output : goal.returns-in-Err-start_program-clause-output
returns-in-Err-start_program-clause-output g c =
    let s = settings_of g.O.Outside.gives c.args.outside.now c.args.self.run.keyboard c.args.self.run.limit c.args.self.settings.notation in
    let reader = use_of g.R.Read.remaining c.args.reader.now c.read_source.new.reader in
    let writer = use_of g.W.Write.contents c.args.writer.now c.args.writer.now in
    let file = prg_of c.in-Ok.source.program in
    file_run g.K.Compile.own c.args.self.settings reader c.in-Ok.source c.in-Ok.ensures.answers c.from.result writer (RunsPrg s file)
    c.args.self.run.keyboard.text.items c.args.self.run.keyboard.answers.items
    (λ kept x runs. runs_source s c.args.self.settings c.in-Ok.source.text.items file kept (subst AreBytes c.prg.ensures c.are_bytes.ensures)
    (subst AreBytes c.as_slice.ensures.value c.are_bytes-2.ensures) (subst AreBytes c.as_slice-2.ensures.value c.are_bytes-3.ensures) x runs)
    (unmade (RunsPrg s file) c.in-Err-start_program.stop c.from.result writer.old c.from.ensures
    (not_started s (content_of file) c.in-Err-start_program.stop c.in-Err-start_program.ensures.prg))

pub returns-in-Err-start_program-clause-note : goal.returns-in-Err-start_program-clause-note
returns-in-Err-start_program-clause-note g c =
    untold_start g.K.Compile.own (settings_of g.O.Outside.gives c.args.outside.now c.args.self.run.keyboard c.args.self.run.limit c.args.self.settings.notation) (hearing_of g.V.Watch.hears c.args.watch.now c.args.watch.now)
    c.args.self.settings (use_of g.R.Read.remaining c.args.reader.now c.read_source.new.reader) c.in-Err-start_program.stop c.from.result c.from.ensures

pub returns-clause-answers : goal.returns-clause-answers
returns-clause-answers g c =
    let s = settings_of g.O.Outside.gives c.args.outside.now c.args.self.run.keyboard c.args.self.run.limit c.args.self.settings.notation in
    let reader = use_of g.R.Read.remaining c.args.reader.now c.read_source.new.reader in
    let writer = use_of g.W.Write.contents c.args.writer.now c.run_machine-outcome.new.writer in
    let file = prg_of c.in-Ok.source.program in
    let start = c.in-Ok-start_program.machine in
    file_ran g.K.Compile.own c.args.self.settings reader c.in-Ok.source c.in-Ok.ensures.answers c.run_machine-outcome.result writer (RunsPrg s) c.into_warnings-2.result.items
    c.into_warnings-2.ensures
    (answers_as (RunsOn s.gives s.outside start s.limit s.notation) (RunsPrg s file) (λ x ran. runs_content s (content_of file) start x c.in-Ok-start_program.ensures.prg ran)
    c.run_machine-outcome.result writer.old writer.new c.run_machine-outcome.ensures.answers)

pub returns-clause-output : goal.returns-clause-output
returns-clause-output g c =
    let s = settings_of g.O.Outside.gives c.args.outside.now c.args.self.run.keyboard c.args.self.run.limit c.args.self.settings.notation in
    let reader = use_of g.R.Read.remaining c.args.reader.now c.read_source.new.reader in
    let writer = use_of g.W.Write.contents c.args.writer.now c.run_machine-outcome.new.writer in
    let file = prg_of c.in-Ok.source.program in
    let start = c.in-Ok-start_program.machine in
    file_run g.K.Compile.own c.args.self.settings reader c.in-Ok.source c.in-Ok.ensures.answers c.run_machine-outcome.result writer (RunsOn s.gives s.outside start s.limit s.notation)
    c.args.self.run.keyboard.text.items c.args.self.run.keyboard.answers.items
    (λ kept x ran. runs_source s c.args.self.settings c.in-Ok.source.text.items file kept (subst AreBytes c.prg.ensures c.are_bytes.ensures)
    (subst AreBytes c.as_slice.ensures.value c.are_bytes-2.ensures) (subst AreBytes c.as_slice-2.ensures.value c.are_bytes-3.ensures) x
    (runs_content s (content_of file) start x c.in-Ok-start_program.ensures.prg ran)) c.run_machine-outcome.ensures.answers

pub returns-clause-note : goal.returns-clause-note
returns-clause-note g c =
    let s = settings_of g.O.Outside.gives c.args.outside.now c.args.self.run.keyboard c.args.self.run.limit c.args.self.settings.notation in
    let watch = hearing_of g.V.Watch.hears c.args.watch.now c.run_machine-outcome.new.watch in
    let start = c.in-Ok-start_program.machine in
    notes_source g.K.Compile.own s watch c.args.self.settings (use_of g.R.Read.remaining c.args.reader.now c.read_source.new.reader) c.in-Ok.source start
    c.run_machine-outcome.result c.note_after-note.result c.in-Ok.ensures.answers c.in-Ok-start_program.ensures.prg
    (notes_run s.gives s.outside s.limit watch c.in-Ok.source.program start _ _ _ c.run_machine-outcome.ensures.left c.note_after-note.ensures)
