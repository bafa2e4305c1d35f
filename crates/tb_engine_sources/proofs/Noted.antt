-- What is told of the run of a source.
use Rattle.std.proofs.Common.{◌≡◌, ℕ, List, Option, Some, None, Ok, Err, refl, subst, sym}
use Rattle.tb_kernal.specs.declared.events.Event.{Event}
use Rattle.tb_kernal.specs.Machine.{Content}
use Rattle.tb_kernal.specs.Sending.{with_earlier}
use Rattle.tb_kernal.specs.Hearing.{Hearing}
use Rattle.tb_compiled.specs.Compiled.{prg_of}
use Rattle.tb_compiled.specs.declared.compiled.Compiled.{Compiled}
use Rattle.tb_compiled.specs.declared.settings.CompileSettings.{CompileSettings}
use Rattle.tb_engine_streams.specs.Outcomes.{ended_by}
use Rattle.tb_engine_streams.specs.Uses.{Use}
use Rattle.tb_engine_streams.specs.declared.outcome.Outcome.TheVariants.{Ended, Refused, ReadFault, WriteFault, NoMemory}
use Rattle.tb_engines.specs.Delivery.{outcome_without}
use Rattle.tb_engines.specs.Ends.{ByOutcome, LeavesRun}
use Rattle.tb_engines.specs.Outcomes.{Failure, Outcome}
use Rattle.tb_engines.specs.Programs.{Settings, StartsPrg}
use Rattle.tb_engines.specs.declared.delivery.NoText.{NoText}
use Rattle.tb_engines.specs.declared.delivery.NoText.TheVariants.{Refused as NoTextRefused, NoMemory as NoTextNoMemory}
use Rattle.tb_engines.specs.declared.outcome.End.{End}
use Rattle.tb_engines.specs.declared.report.Report.{Report}
use Rattle.tb_engine_play.specs.Plays.{LeavesOfFile}
use Rattle.tb_engine_sources.specs.Playing.{TellsLeft, TellsPlay}
use Rattle.tb_engine_sources.specs.Reading.{ReadsSource}
use Rattle.tb_engine_sources.specs.Runs.{NotesEnd, NotesRun, TellsSource}
use Rattle.tb_engine_sources.specs.declared.notes.EndNote.{EndNote}
use Rattle.tb_engine_sources.specs.declared.reading.CompiledSource.{CompiledSource}
use Rattle.tb_compiled.specs.Promise.{Own}

-- the machine that a run leaves tells what it would tell with all that it sent
pub notes_run : {O W : Type 0} (gives : O → Content → Event → O → Type 0) (o : O) (limit : ℕ) (watch : Hearing W) (program : Compiled) (m n : Content)
    (outcome : Outcome) (said : Option EndNote) → LeavesRun gives o limit watch m outcome n → NotesRun program outcome n said
    → ByOutcome (NotesEnd gives o limit watch m program) outcome said
notes_run gives o limit watch program m n (Ended end) said left tells = (with_earlier left.earlier n, left.ran, tells left.earlier left.known)
notes_run gives o limit watch program m n WriteFault said (end, left) tells = (end, (with_earlier left.earlier n, left.ran, tells left.earlier left.known))
notes_run gives o limit watch program m n (Refused e) said left tells = absurd left
notes_run gives o limit watch program m n ReadFault said left tells = absurd left
notes_run gives o limit watch program m n NoMemory said left tells = subst (λ x. ByOutcome (NotesEnd gives o limit watch m program) NoMemory x) (sym tells) tt

-- what is told of the run of a program is told of its source
pub notes_source : {O W : Type 0} (own : Own) (s : Settings O) (watch : Hearing W) (settings : CompileSettings) (reader : Use) (source : CompiledSource) (m : Content)
    (outcome : Outcome) (said : Option EndNote) → ReadsSource own settings (Ok source) reader → StartsPrg s.text s.answers (prg_of source.program) (Ok m)
    → ByOutcome (NotesEnd s.gives s.outside s.limit watch m source.program) outcome said → ByOutcome (TellsSource own s watch settings reader) outcome said
notes_source own s watch settings reader source m outcome said is started = by outcome said
  where
    told : (end : End) (said : Option EndNote) → NotesEnd s.gives s.outside s.limit watch m source.program end said → TellsSource own s watch settings reader end said
    told end said (n, ran, tells) = (source.text.items, is.0, (source.program, is.1.answer, (n, (m, started, ran), tells)))

    by : (outcome : Outcome) (said : Option EndNote) → ByOutcome (NotesEnd s.gives s.outside s.limit watch m source.program) outcome said
        → ByOutcome (TellsSource own s watch settings reader) outcome said
    by (Ended end) said tells = told end said tells
    by WriteFault said (end, tells) = (end, told end said tells)
    by (Refused e) said none = none
    by ReadFault said none = none
    by NoMemory None tells = tt
    by NoMemory (Some one) (end, tells) = (end, told end (Some one) tells)

-- a program that is not started tells nothing
pub untold_start : {O W : Type 0} (own : Own) (s : Settings O) (watch : Hearing W) (settings : CompileSettings) (reader : Use) (stop : NoText) (outcome : Outcome)
    → outcome ≡ outcome_without stop → ByOutcome (TellsSource own s watch settings reader) outcome None
untold_start own s watch settings reader stop outcome is = subst (λ o. ByOutcome (TellsSource own s watch settings reader) o None) (sym is) (by stop)
  where
    by : (stop : NoText) → ByOutcome (TellsSource own s watch settings reader) (outcome_without stop) None
    by (NoTextRefused e) = refl
    by NoTextNoMemory = tt

-- what the machine tells that played a program
pub tells_play : (limit : ℕ) (program : Compiled) (outcome : Outcome) (typed : List ℕ) (left : Option Content) (said : Option EndNote)
    → LeavesOfFile limit (prg_of program) outcome typed left → TellsLeft program outcome left said → TellsPlay limit program outcome typed said
tells_play limit program (Ended end) typed (Some n) said (m, start, (earlier, known, leaves)) tells =
    (m, with_earlier earlier n, start, leaves, tells earlier known)
tells_play limit program (Ended end) typed None said none tells = absurd none
tells_play limit program (Refused e) typed left said leaves tells = tells
tells_play limit program ReadFault typed left said leaves tells = tells
tells_play limit program WriteFault typed left said leaves tells = tells
tells_play limit program NoMemory typed left said leaves tells = tells

-- of a source that is not read or not compiled nothing is told
pub untold_source : {O W : Type 0} (own : Own) (s : Settings O) (watch : Hearing W) (settings : CompileSettings) (reader : Use) (stop : Failure) (report : Report)
    → ReadsSource own settings (Err stop) reader → report.outcome ≡ ended_by (Err stop) → ByOutcome (TellsSource own s watch settings reader) report.outcome None
untold_source own s watch settings reader stop report reads is = subst (λ o. ByOutcome (TellsSource own s watch settings reader) o None) (sym is) (by stop reads)
  where
    by : (stop : Failure) → ReadsSource own settings (Err stop) reader → ByOutcome (TellsSource own s watch settings reader) (ended_by (Err stop)) None
    by (Refused why) reads = refl
    by ReadFault reads = refl
    by NoMemory reads = tt
    by (Ended never) reads = absurd reads
    by WriteFault reads = absurd reads
