-- What a profile writes, and what it does with files.
use Rattle.std.specs.Prelude.{◌≡◌, ℕ, Bool, true, false, List, [], ◌∷◌, Option, Some, None, Ok, Err}
use Rattle.tb_engine_streams.specs.declared.outcome.Outcome.{Outcome as AnyOutcome}
use Rattle.tb_engine_streams.specs.declared.outcome.Outcome.TheVariants.{Ended, Refused, ReadFault, WriteFault, NoMemory}
use Rattle.tb_engine_files.specs.Deeds.{Deed, OfOne, Product, Refuses, Transfers}
use Rattle.tb_engine_files.specs.Names.{standard}
use Rattle.tb_compiled.specs.declared.settings.CompileSettings.{CompileSettings}
use Rattle.tb_engines.specs.Programs.{Settings}
use Rattle.tb_engines.specs.declared.outcome.End.{End}
use Rattle.tb_engines.specs.declared.outcome.Refusal.{Refusal}
use Rattle.tb_engines.specs.declared.report.Report.{Report}
use Rattle.tb_engine_profile_table.specs.declared.texts.Texts.{Texts}
use Rattle.tb_engine_profile.specs.Prgs.{ProfilesPrg}
use Rattle.tb_codegen.specs.Templates.{templates}
use Rattle.tb_engine_profile.specs.Profiles.{MakesProfile}
use Rattle.tb_engine_profile.specs.declared.engine.Named.{Named}
use Rattle.tb_engine_profile.specs.declared.engine.Profiled.{Profiled}
use Rattle.tb_program_files.specs.Texts.{IsNotCompiled, IsOnly}
use Rattle.tb_program_files.specs.declared.profiling.Told.{Told}

-- the table of a profile, and the page behind it, if it is wanted
abbrev pub pages : Bool → Texts → List (List ℕ)
pages false texts = texts.table.items ∷ []
pages true texts = texts.table.items ∷ texts.page.items ∷ []

-- profiling makes the table of a source's run, and its page, if that is wanted; or the compiler refuses the source
abbrev pub MakesPages : {O : Type 0} → Named → Settings O → CompileSettings → Bool → List ℕ → Product Told Refusal → Type 0
MakesPages named s settings is_wanted source (Ok made) =
    (p : Profiled) × MakesProfile templates named s settings source (Ok p)
    × (made.0.end ≡ p.end) × (made.0.warnings ≡ p.warnings) × (made.1 ≡ pages is_wanted p.texts)
MakesPages named s settings is_wanted source (Err e) = IsNotCompiled settings source e

-- profiling makes the table of a PRG file's run
abbrev pub MakesTable : {O : Type 0} → Settings O → List ℕ → Product End Refusal → Type 0
MakesTable s file product = IsOnly (ProfilesPrg s file) product

-- a page is wanted if its path is named
abbrev pub wants_page : Option (List ℕ) → Bool
wants_page None = false
wants_page (Some path) = true

-- the paths that a profile writes, in order
abbrev pub outputs : Option (List ℕ) → List (List ℕ)
outputs None = standard ∷ []
outputs (Some path) = standard ∷ path ∷ []

-- what is reported of a source whose texts were made, by how that ended
abbrev pub IsReport : AnyOutcome Told Refusal → Report → Type 0
IsReport (Ended told) report = (report.outcome ≡ Ended told.end) × (report.warnings ≡ told.warnings)
IsReport (Refused e) report = (report.outcome ≡ Refused e) × (report.warnings.items ≡ [])
IsReport ReadFault report = (report.outcome ≡ ReadFault) × (report.warnings.items ≡ [])
IsReport WriteFault report = (report.outcome ≡ WriteFault) × (report.warnings.items ≡ [])
IsReport NoMemory report = (report.outcome ≡ NoMemory) × (report.warnings.items ≡ [])

-- what profiling a source's file does with files, and what it reports
abbrev pub ProfilesFile : {F O : Type 0} → (F → Deed → F → Type 0) → (F → List ℕ → Option (List ℕ) → Type 0)
    → F → Named → Option (List ℕ) → CompileSettings → Settings O → Report → F → Type 0
ProfilesFile does holds f named page settings s report g =
    (ended : AnyOutcome Told Refusal) × IsReport ended report
    × Transfers does holds (OfOne (MakesPages named s settings (wants_page page))) f (named.name.now ∷ []) (outputs page) ended g
    × Refuses holds (MakesPages named s settings (wants_page page)) f named.name.now ended
