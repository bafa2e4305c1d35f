-- What is delivered of a source and commands.
use Rattle.std.proofs.Common.{◌≡◌, ℕ, List, [], Result, Ok, Err, refl, subst, ◌∙◌}
use Rattle.std.specs.Io.KnownBytes.{Consumes}
use Rattle.tb_memmap.specs.Regions.{BASIC_START}
use Rattle.tb_basic_meaning.specs.declared.missing.Warning.{Warning}
use Rattle.tb_kernal.specs.declared.outside.Quiet.{Quiet}
use Rattle.tb_kernal.specs.Machine.{Content}
use Rattle.tb_compiled.specs.Compiled.{loaded_of, warnings_of}
use Rattle.tb_compiled.specs.declared.compiled.Compiled.{Compiled}
use Rattle.tb_compiled.specs.declared.settings.CompileSettings.{CompileSettings}
use Rattle.tb_stepper.specs.Holding.{Holds}
use Rattle.tb_debug_stepping.specs.Lines.{lines_of}
use Rattle.tb_debug_stepping.specs.Dialogue.{Dialogue}
use Rattle.tb_compiled_errors.specs.declared.refusals.CompileError.{CompileError}
use Rattle.tb_engine_streams.specs.Streams.{Reads}
use Rattle.tb_engines.specs.Delivery.{Makes}
use Rattle.tb_engine_streams.specs.Uses.{Use}
use Rattle.tb_engines.specs.Programs.{start, Settings}
use Rattle.tb_compiled.specs.Answers.{Compiles}
use Rattle.tb_engine_sources.specs.Sources.{FromSource}
use Rattle.tb_engine_sources.specs.Starting.{StartsLoadable}
use Rattle.tb_engine_sources.specs.Stepping.{start_of_history, Steps, StepsThrough, MadeFromTaken}
use Rattle.tb_engines.specs.declared.delivery.Text.{Text}
use Rattle.tb_engines.specs.declared.delivery.NoText.{NoText}
use Rattle.tb_engines.specs.declared.delivery.NoText.TheVariants.{Refused, NoMemory}
use Rattle.tb_engines.specs.declared.outcome.End.TheVariants.{Done}
use Rattle.tb_engines.specs.declared.outcome.Refusal.TheVariants.{Source}
use Rattle.tb_engine_sources.proofs.Delivered.{makes_as, from_compiled}
use Rattle.tb_compiled.specs.Promise.{Own}

module _ (s : Settings Quiet) where
  -- the answers over the machine with which a loadable program starts
  pub stepped : (program : Compiled) (commands : List ℕ) (m : Content) (h k : Holds Quiet) (said : List ℕ)
      → m ≡ start BASIC_START (loaded_of program) s.text s.answers → h ≡ record (start_of_history s program) { machine = m }
      → Dialogue s.gives s.limit h (lines_of commands) said k → Steps s program commands (Ok (said, Done))
  stepped program commands m h k said machine same talked =
      let whole : h ≡ start_of_history s program = same ∙ (λ i. record (start_of_history s program) { machine = machine i }) in
      (k, subst (λ x. Dialogue s.gives s.limit x (lines_of commands) said k) whole talked, refl)

  -- where the machine of a loadable program is not started, memory is wanting
  pub not_stepped : (program : Compiled) (commands : List ℕ) (stop : NoText) → StartsLoadable s.text s.answers program (Err stop)
      → Makes (Steps s program commands) (Err stop)
  not_stepped program commands (Refused e) none = absurd none
  not_stepped program commands NoMemory none = tt

  -- what was made of a source's program and of commands that were read
  pub steps_made : (own : Own) (settings : CompileSettings) (reader : Use) (source typed commands : List ℕ) (program : Compiled) (warnings : List Warning)
      (made : Result Text NoText) → Reads reader.old typed → Consumes reader.old reader.new typed → commands ≡ typed
      → Compiles own settings source (Ok program) → warnings ≡ warnings_of program
      → Makes (Steps s program commands) made → Makes (MadeFromTaken reader (StepsThrough own s settings warnings source)) made
  steps_made own settings reader source typed commands program warnings made reads taken same compiled warned m =
      let here = subst (λ c. Makes (Steps s program c) made) same m in
      makes_as (FromSource own settings (λ p. Steps s p typed) warnings source) (MadeFromTaken reader (StepsThrough own s settings warnings source))
      (λ x h. (typed, reads, taken, h)) made (from_compiled own settings (λ p. Steps s p typed) source program warnings made compiled warned here)

  -- what is made of a source that is refused
  pub steps_refused : (own : Own) (settings : CompileSettings) (reader : Use) (source typed : List ℕ) (e : CompileError) → Reads reader.old typed
      → Consumes reader.old reader.new typed → Compiles own settings source (Err e)
      → MadeFromTaken reader (StepsThrough own s settings [] source) (Err (Source e))
  steps_refused own settings reader source typed e reads taken refused = (typed, reads, taken, (Err e, refused, (refl, refl)))
