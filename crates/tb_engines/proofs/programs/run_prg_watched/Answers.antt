-- The goals of `run_prg_watched` in src/programs.rt.
use Rattle.std.proofs.Common.{List, ℕ, Err, Ok}
use Rattle.tb_prg.specs.Prg.{content_of}
use Rattle.tb_kernal.specs.Hearing.{hearing_of}
use Rattle.tb_engine_streams.specs.Uses.{use_of}
use Rattle.tb_engines.specs.Outcomes.{MadeFrom, Product}
use Rattle.tb_engines.specs.Programs.{plain_settings_of, RunsPrg, RunsOn, StartsPrg}
use Rattle.tb_engines.proofs.Ran.{answers_as, tells_place}
use Rattle.tb_engines.proofs.Start.{not_started, runs_content}
use Rattle.tb_engines.proofs.Undelivered.{unmade}
use Rattle.tb_engines.proofs.programs.run_prg_watched.Goals as goal

pub returns-in-Err-start_file-clause-answers : goal.returns-in-Err-start_file-clause-answers
returns-in-Err-start_file-clause-answers g c =
    let s = plain_settings_of g.O.Outside.gives c.args.outside.now c.args.run.keyboard c.args.run.limit in
    let file = c.in-Ok.file.items in
    let had = g.R.Read.remaining c.args.reader.now.stream in
    let none : StartsPrg s.text s.answers file (Err c.in-Err-start_file.stop) = rw c.as_slice.ensures.value at c.in-Err-start_file.ensures in
    let more : (product : Product) → RunsPrg s file product → MadeFrom had (RunsPrg s) product = λ product made. (file, c.in-Ok.ensures.whole, made) in
    answers_as (RunsPrg s file) (MadeFrom had (RunsPrg s)) more _ _ _
    (unmade (RunsPrg s file) c.in-Err-start_file.stop _ _ c.from-in-Err-start_file.ensures (not_started s (content_of file) c.in-Err-start_file.stop none))

pub returns-clause-answers : goal.returns-clause-answers
returns-clause-answers g c =
    let s = plain_settings_of g.O.Outside.gives c.args.outside.now c.args.run.keyboard c.args.run.limit in
    let file = c.in-Ok.file.items in
    let had = g.R.Read.remaining c.args.reader.now.stream in
    let start = c.in-Ok-start_file.machine in
    let started : StartsPrg s.text s.answers file (Ok start) = rw c.as_slice.ensures.value at c.in-Ok-start_file.ensures in
    let more : (product : Product) → RunsOn s.gives s.outside start s.limit s.notation product → MadeFrom had (RunsPrg s) product =
    λ product made. (file, c.in-Ok.ensures.whole, runs_content s (content_of file) start product started made) in
    answers_as (RunsOn s.gives s.outside start s.limit s.notation) (MadeFrom had (RunsPrg s)) more _ _ _ c.run_machine-outcome.ensures.answers

pub returns-clause-place : goal.returns-clause-place
returns-clause-place g c =
    let s = plain_settings_of g.O.Outside.gives c.args.outside.now c.args.run.keyboard c.args.run.limit in
    let file = c.in-Ok.file.items in
    let start = c.in-Ok-start_file.machine in
    let started : StartsPrg s.text s.answers file (Ok start) = rw c.as_slice.ensures.value at c.in-Ok-start_file.ensures in
    tells_place s (hearing_of g.V.Watch.hears c.args.watch.now c.run_machine-outcome.new.watch) (use_of g.R.Read.remaining c.args.reader.now c.read_input.new.reader) file start _ _ _ c.in-Ok.ensures.whole
    started c.run_machine-outcome.ensures.left c.place_after.ensures
