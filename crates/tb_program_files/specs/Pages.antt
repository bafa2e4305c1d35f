-- What a web page is made of, and what making it does with files.
use Rattle.std.specs.Prelude.{◌≡◌, ℕ, List, [], ◌∷◌, Option, Ok, Err, Result}
use Rattle.tb_engine_streams.specs.declared.outcome.Outcome.{Outcome as AnyOutcome}
use Rattle.tb_engine_files.specs.Deeds.{Deed, OfOne, Product, Refuses, Transfers}
use Rattle.tb_kernal.specs.Machine.{Content}
use Rattle.tb_compiled.specs.Answers.{Compiles}
use Rattle.tb_compiled.specs.Compiled.{warnings_of}
use Rattle.tb_compiled.specs.declared.compiled.Compiled.{Compiled}
use Rattle.tb_compiled.specs.declared.settings.CompileSettings.{CompileSettings}
use Rattle.tb_codegen.specs.Templates.{templates}
use Rattle.tb_engines.specs.Programs.{StartsPrg}
use Rattle.tb_engines.specs.declared.delivery.NoText.{NoText}
use Rattle.tb_engines.specs.declared.delivery.NoText.TheVariants as no_text
use Rattle.tb_engines.specs.declared.outcome.End.{End}
use Rattle.tb_engines.specs.declared.outcome.End.TheVariants.{Done}
use Rattle.tb_engines.specs.declared.outcome.Refusal.{Refusal}
use Rattle.tb_engines.specs.declared.report.Report.{Report}
use Rattle.tb_engine_page.specs.Pages.{page_of, source_page}
use Rattle.tb_program_files.specs.Profiles.{IsReport}
use Rattle.tb_program_files.specs.Texts.{IsNotCompiled}
use Rattle.tb_program_files.specs.declared.profiling.Told.{Told}

-- a source becomes the page of the program that the compiler answers for it by these settings; or the compiler refuses it
abbrev pub MakesSourcePage : List ℕ → CompileSettings → List ℕ → Product Told Refusal → Type 0
MakesSourcePage title settings source (Ok made) =
    (made.0.end ≡ Done) × (program : Compiled) × Compiles templates settings source (Ok program) × (made.0.warnings.items ≡ warnings_of program)
    × (made.1 ≡ source_page title settings.seed source program ∷ [])
MakesSourcePage title settings source (Err e) = IsNotCompiled settings source e

-- a PRG file can be started, with nothing typed; or why it can't
abbrev pub Starts : List ℕ → Result (Unit {0}) NoText → Type 0
Starts file (Ok done) = (m : Content) × StartsPrg [] [] file (Ok m)
Starts file (Err stop) = StartsPrg [] [] file (Err stop)

-- a PRG file that can be started becomes its page
abbrev pub MakesPrgPage : List ℕ → List ℕ → Product End Refusal → Type 0
MakesPrgPage title file (Ok made) = Starts file (Ok tt) × (made ≡ (Done, page_of title [] file [] ∷ []))
MakesPrgPage title file (Err e) = Starts file (Err (no_text.Refused e))

-- what making the page of a source's file does with files, and what it reports
abbrev pub PagesFile : {F : Type 0} → (F → Deed → F → Type 0) → (F → List ℕ → Option (List ℕ) → Type 0)
    → F → (source out title : List ℕ) → CompileSettings → Report → F → Type 0
PagesFile does holds f source out title settings report g =
    (ended : AnyOutcome Told Refusal) × IsReport ended report
    × Transfers does holds (OfOne (MakesSourcePage title settings)) f (source ∷ []) (out ∷ []) ended g
    × Refuses holds (MakesSourcePage title settings) f source ended
