-- What is delivered of a source that was read.
use Rattle.std.proofs.Common.{◌≡◌, ℕ, List, [], Option, Result, Ok, Err, refl, subst, sym}
use Rattle.tb_memmap.specs.Regions.{BASIC_START}
use Rattle.tb_basic_meaning.specs.declared.missing.Warning.{Warning}
use Rattle.tb_basic_syntax.specs.Source.{Program}
use Rattle.tb_compiled_kept.specs.Keeps.{Keeps}
use Rattle.tb_compiled_kept.specs.LineStarts.{MarksLines}
use Rattle.tb_parser.specs.Files.{Outcome as FileOutcome}
use Rattle.tb_compiled_errors.specs.declared.refusals.CompileError.{CompileError}
use Rattle.tb_compiled_errors.specs.declared.refusals.CompileError.TheVariants.{Source as BadSource, Lower, TooLarge, NoMemory as NoCompilerMemory}
use Rattle.tb_compiled.specs.Answers.{HasOutcome, OutcomeAnswer, SourceMakes, Compiles}
use Rattle.tb_compiled.specs.Compiled.{prg_of, loaded_of, start_of, warnings_of}
use Rattle.tb_compiled.specs.declared.compiled.Compiled.{Compiled}
use Rattle.tb_compiled.specs.declared.settings.CompileSettings.{CompileSettings}
use Rattle.tb_engine_streams.specs.Streams.{Reads}
use Rattle.tb_engine_streams.specs.Uses.{Use, NeverFails}
use Rattle.tb_engines.specs.Outcomes.{Failure, Outcome, Product, Answers, AnswersInput, MadeFrom}
use Rattle.tb_engines.specs.Delivery.{Makes, Shows}
use Rattle.tb_engine_sources.specs.Sources.{stop_of, FromSource}
use Rattle.tb_engine_sources.specs.Output.{KeepsSource, RunsKept, RunsSource}
use Rattle.tb_engine_sources.specs.Reading.{IsCompilation, CompilesText, ReadsSource}
use Rattle.tb_engine_sources.specs.declared.reading.CompiledSource.{CompiledSource}
use Rattle.tb_engines.specs.declared.delivery.Text.{Text}
use Rattle.tb_engines.specs.declared.delivery.NoText.{NoText}
use Rattle.tb_engine_streams.specs.Outcomes.{ended_by}
use Rattle.tb_engine_streams.specs.declared.outcome.Outcome.TheVariants.{Ended, Refused, ReadFault, WriteFault, NoMemory}
use Rattle.tb_engines.specs.declared.outcome.Refusal.TheVariants.{Source}
use Rattle.tb_engines.specs.declared.report.Report.{Report}
use Rattle.tb_engines.proofs.Ran.{answers_as}
use Rattle.tb_engine_sources.proofs.Delivered.{kept, shown}
use Rattle.tb_engine_sources.proofs.Output.{keeps_source, kept_runs}
use Rattle.tb_engine_sources.proofs.Refused.{is_refused}
use Rattle.tb_compiled.specs.Promise.{Own}

-- ---- what was read

-- the program that the compiler answered for a source
pub compiled : (own : Own) (settings : CompileSettings) (text source : List ℕ) (c : Compiled) → source ≡ text → HasOutcome own settings source (Ok c)
    → ((outcome : FileOutcome) → SourceMakes settings.notation source outcome → OutcomeAnswer own settings outcome (Ok c))
    → (program : Program) × SourceMakes settings.notation source (Ok program) × Keeps BASIC_START (loaded_of c) program settings.seed
    → (program : Program) × SourceMakes settings.notation source (Ok program) × MarksLines BASIC_START (loaded_of c) program settings.seed (start_of c) → IsCompilation own settings text c
compiled own settings text source c same found only keeps (program, made, marks) =
    subst (λ s. IsCompilation own settings s c) same (record {
      answer = record { found = found; only = only };
      keeps = keeps_source own settings source c found keeps;
      lines = program;
      makes = made;
      compiled = (only (Ok program) made).1;
      marks = marks;
    })

-- why the compiler answered none
pub not_compiled : (own : Own) (settings : CompileSettings) (text source : List ℕ) (e : CompileError) (stop : Failure) → source ≡ text → HasOutcome own settings source (Err e)
    → ((outcome : FileOutcome) → SourceMakes settings.notation source outcome → OutcomeAnswer own settings outcome (Err e)) → stop ≡ stop_of e → CompilesText own settings text (Err stop)
not_compiled own settings text source e stop same found only is =
    subst (λ s. CompilesText own settings s (Err stop)) same (subst (λ t. CompilesText own settings source (Err t)) (sym is) (by e found only))
  where
    by : (e : CompileError) → HasOutcome own settings source (Err e) → ((outcome : FileOutcome) → SourceMakes settings.notation source outcome → OutcomeAnswer own settings outcome (Err e))
        → CompilesText own settings source (Err (stop_of e))
    by (BadSource e) found only = (BadSource e, record { found = found; only = only }, refl)
    by (Lower e) found only = (Lower e, record { found = found; only = only }, refl)
    by (TooLarge n) found only = (TooLarge n, record { found = found; only = only }, refl)
    by NoCompilerMemory found only = tt

-- a source that was read and compiled
source_read : (own : Own) (settings : CompileSettings) (reader : Use) (text : List ℕ) (s : CompiledSource) → Reads reader.old text
    → CompilesText own settings text (Ok s) → NeverFails reader → ReadsSource own settings (Ok s) reader
source_read own settings reader text s reads (same, is) sound = (subst (Reads reader.old) (sym same) reads, is, sound)

-- one that was read and is not compiled
source_refused : (own : Own) (settings : CompileSettings) (reader : Use) (text : List ℕ) (stop : Failure) → Reads reader.old text
    → CompilesText own settings text (Err stop) → NeverFails reader → ReadsSource own settings (Err stop) reader
source_refused own settings reader text (Refused why) reads (e, refused, same) sound = (text, e, reads, refused, same, sound)
source_refused own settings reader text NoMemory reads refused sound = sound
source_refused own settings reader text ReadFault reads never sound = absurd never
source_refused own settings reader text WriteFault reads never sound = absurd never
source_refused own settings reader text (Ended end) reads never sound = absurd never

-- what reading and compiling it answers
pub source_answered : (own : Own) (settings : CompileSettings) (reader : Use) (text : List ℕ) (answer : Result CompiledSource Failure) → Reads reader.old text
    → CompilesText own settings text answer → NeverFails reader → ReadsSource own settings answer reader
source_answered own settings reader text (Ok s) = source_read own settings reader text s
source_answered own settings reader text (Err stop) = source_refused own settings reader text stop

-- ---- if there is no program

-- nothing was written, and a refusal is the compiler's
not_made : (own : Own) (settings : CompileSettings) (makes : List ℕ → Product → Type 0) → ((source : List ℕ) (e : CompileError) → Compiles own settings source (Err e) → makes source (Err (Source e)))
    → (stop : Failure) (reader : Use) (bytes : Option (List ℕ)) → ReadsSource own settings (Err stop) reader
    → Answers (MadeFrom reader.old makes) (ended_by (Err stop)) bytes bytes
not_made own settings makes refusal (Refused why) reader bytes (source, e, reads, refused, is, same) =
    ((source, reads, subst (λ w. makes source (Err w)) (sym is) (refusal source e refused)), kept bytes)
not_made own settings makes refusal ReadFault reader bytes fault = kept bytes
not_made own settings makes refusal NoMemory reader bytes same = kept bytes
not_made own settings makes refusal (Ended never) reader bytes none = absurd none
not_made own settings makes refusal WriteFault reader bytes none = absurd none

-- for a report without warnings: nothing was written, and a refusal is the compiler's
pub nothing_made : (own : Own) (settings : CompileSettings) (stop : Failure) (report : Report) (reader : Use) (bytes : Option (List ℕ)) → ReadsSource own settings (Err stop) reader
    → report.outcome ≡ ended_by (Err stop) → report.warnings.items ≡ [] → (makes : List ℕ → Compiled → Product → Type 0)
    → Answers (MadeFrom reader.old (λ source. FromSource own settings (makes source) report.warnings.items source)) report.outcome bytes bytes
nothing_made own settings stop report reader bytes is ends none makes =
    subst (λ w. Answers (MadeFrom reader.old (λ source. FromSource own settings (makes source) w source)) report.outcome bytes bytes) (sym none)
    (subst (λ o. Answers (MadeFrom reader.old (λ source. FromSource own settings (makes source) [] source)) o bytes bytes) (sym ends)
    (not_made own settings (λ source. FromSource own settings (makes source) [] source) (λ source e refused. (Err e, refused, (refl, refl))) stop reader bytes is))

-- and for a source's output, which is said of the source alone
pub nothing_output : (own : Own) (settings : CompileSettings) (text answers : List ℕ) (stop : Failure) (report : Report) (reader : Use) (bytes : Option (List ℕ))
    → ReadsSource own settings (Err stop) reader → report.outcome ≡ ended_by (Err stop)
    → Answers (MadeFrom reader.old (RunsSource own settings text answers)) report.outcome bytes bytes
nothing_output own settings text answers stop report reader bytes is ends =
    subst (λ o. Answers (MadeFrom reader.old (RunsSource own settings text answers)) o bytes bytes) (sym ends)
    (not_made own settings (RunsSource own settings text answers) (is_refused own settings) stop reader bytes is)

-- ---- if there is one

module _ (own : Own) (settings : CompileSettings) (reader : Use) (s : CompiledSource) (is : ReadsSource own settings (Ok s) reader) (outcome : Outcome) (writer : Use) where
  -- what is written of the program is written of the source
  pub program_made : (makes : List ℕ → Compiled → Product → Type 0) (warnings : List Warning) → warnings ≡ warnings_of s.program
      → Answers (makes s.text.items s.program) outcome writer.old writer.new
      → AnswersInput (λ source. FromSource own settings (makes source) warnings source) outcome reader writer
  program_made makes warnings warned written =
      answers_as (makes s.text.items s.program) (MadeFrom reader.old (λ source. FromSource own settings (makes source) warnings source))
      (λ x h. (s.text.items, is.0, (Ok s.program, is.1.answer, (warned, h)))) outcome writer.old writer.new written

  -- and so is what is made of its file
  pub product_made : (makes : List ℕ → Compiled → Product → Type 0) (warnings : List Warning) (made : Result Text NoText) → warnings ≡ warnings_of s.program
      → Makes (makes s.text.items s.program) made → Answers (Shows made) outcome writer.old writer.new
      → AnswersInput (λ source. FromSource own settings (makes source) warnings source) outcome reader writer
  product_made makes warnings made warned m written =
      let here = makes s.text.items s.program in
      program_made makes warnings warned (answers_as (Shows made) here (shown here made m) outcome writer.old writer.new written)

  -- what is written of a run of its file is written of the source
  pub file_ran : (makes : List ℕ → Product → Type 0) (warnings : List Warning) → warnings ≡ warnings_of s.program
      → Answers (makes (prg_of s.program)) outcome writer.old writer.new
      → AnswersInput (FromSource own settings (λ c. makes (prg_of c)) warnings) outcome reader writer
  file_ran makes warnings warned written = program_made (λ source c. makes (prg_of c)) warnings warned written

  -- running its file is running the source
  pub file_run : (runs : Product → Type 0) (text answers : List ℕ)
      → (KeepsSource settings s.text.items (prg_of s.program) → (x : Product) → runs x → RunsKept settings settings.notation text answers s.text.items x)
      → Answers runs outcome writer.old writer.new → AnswersInput (RunsSource own settings text answers) outcome reader writer
  file_run runs text answers kept written =
      answers_as runs (MadeFrom reader.old (RunsSource own settings text answers))
      (λ x ran. (s.text.items, is.0, kept_runs own settings text answers s.text.items x (kept is.1.keeps x ran))) outcome writer.old writer.new written
