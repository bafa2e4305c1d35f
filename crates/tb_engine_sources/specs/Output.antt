-- Running a text writes the source's output: what is said of the source alone.
use Rattle.std.specs.Prelude.{ℕ, ◌≡◌, ◌⊎◌, ◌+◌, ◌≤◌, List, [], length, drop, Ok, Err}
use Rattle.tb_memmap.specs.Regions.{BASIC_START}
use Rattle.tb_basic_syntax.specs.Source.{Program}
use Rattle.tb_basic_meaning.specs.Steps as source
use Rattle.tb_basic_meaning.specs.Steps.{Ended, Faulted, Waits, Over, sent_by}
use Rattle.tb_words.specs.Prefixes.{IsPrefix}
use Rattle.tb_basic_meaning.specs.Meaning.{source_run}
use Rattle.tb_compiled_kept.specs.Keeps.{Keeps}
use Rattle.tb_compiled.specs.Answers.{SourceMakes}
use Rattle.tb_compiled.specs.declared.settings.CompileSettings.{CompileSettings}
use Rattle.tb_prg.specs.Prg.{content_of}
use Rattle.tb_basic_text.specs.declared.notation.Notation.{Notation}
use Rattle.tb_basic_text.specs.declared.notation.Notation.TheVariants.{Plain}
use Rattle.tb_engine_streams.specs.HostForm.{shown_as}
use Rattle.tb_engine_streams.specs.Uses.{Use}
use Rattle.tb_engines.specs.Outcomes.{Outcome, Product}
use Rattle.tb_engine_sources.specs.Refused.{IsRefused}
use Rattle.tb_engines.specs.declared.outcome.End.{End}
use Rattle.tb_engines.specs.declared.outcome.End.TheVariants.{Done, StepLimit, WaitsForKey, WentWrong}
use Rattle.tb_engines.specs.declared.outcome.Refusal.TheVariants.{Source}
use Rattle.tb_engine_play.specs.Plays.{Shows}
use Rattle.tb_compiled.specs.Promise.{Own}

-- what is written is a program's whole output as a notation shows it: all that it sent until its run ended this way
pub record ShowsWhole (notation : Notation) (program : Program) (seed : ℕ) (text answers : List ℕ) (why : source.End) (written : List ℕ) : Type 0 where
  pub lines : ℕ
  pub output : List ℕ
  pub over : source_run program seed text answers lines ≡ Over why output
  pub shown : written ≡ shown_as notation output

-- what is written is a prefix, as a notation shows it, of what some number of a program's lines sends
pub record ShowsPart (notation : Notation) (program : Program) (seed : ℕ) (text answers : List ℕ) (written : List ℕ) : Type 0 where
  pub lines : ℕ
  pub output : List ℕ
  pub prefix : IsPrefix output (sent_by (source_run program seed text answers lines))
  pub shown : written ≡ shown_as notation output

-- what is written of a program, by how the engine ends: done if the source ended or faulted, waiting if it waits, and
-- else at the step limit; it never goes wrong
abbrev pub ShowsOutput : Notation → Program → ℕ → List ℕ → List ℕ → End → List ℕ → Type 0
ShowsOutput notation program seed text answers Done written =
    ShowsWhole notation program seed text answers Ended written ⊎ ShowsWhole notation program seed text answers Faulted written
ShowsOutput notation program seed text answers WaitsForKey written = ShowsWhole notation program seed text answers Waits written
ShowsOutput notation program seed text answers StepLimit written = ShowsPart notation program seed text answers written
ShowsOutput notation program seed text answers (WentWrong wrong pc) written = ⊥

-- what comes of running a file that keeps a source: what is written of the program that its lines make, as a notation shows it
abbrev pub RunsKept : CompileSettings → Notation → List ℕ → List ℕ → List ℕ → Product → Type 0
RunsKept settings notation text answers source (Ok shown) =
    (program : Program) × SourceMakes settings.notation source (Ok program) × ShowsOutput notation program settings.seed text answers shown.1 shown.0
RunsKept settings notation text answers source (Err e) = ⊥

-- what comes of running a source: that of its file, shown by its own notation, or why it is refused
abbrev pub RunsSource : Own → CompileSettings → List ℕ → List ℕ → List ℕ → Product → Type 0
RunsSource own settings text answers source (Ok shown) = RunsKept settings settings.notation text answers source (Ok shown)
RunsSource own settings text answers source (Err (Source e)) = IsRefused own settings source e
RunsSource own settings text answers source (Err e) = ⊥

-- a PRG file, loaded at $0801 and ending below $A000, keeps the program that the source's lines make
pub record KeepsSource (settings : CompileSettings) (source file : List ℕ) : Type 0 where
  pub program : Program
  pub made : SourceMakes settings.notation source (Ok program)
  pub content : content_of file ≡ Ok (BASIC_START, drop 2 file)
  pub ends : BASIC_START + length (drop 2 file) ≤ 0xa000
  pub keeps : Keeps BASIC_START (drop 2 file) program settings.seed

-- what playing a file wrote is, for each source that it keeps, that source's output on what was typed
abbrev pub ShowsSources : List ℕ → Outcome → List ℕ → Use → Type 0
ShowsSources file outcome typed writer =
    (settings : CompileSettings) (source : List ℕ) → KeepsSource settings source file
    → Shows (λ text product. RunsKept settings Plain text [] source product) outcome typed writer
