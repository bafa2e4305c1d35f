-- What comes of profiling a source.
use Rattle.std.specs.Prelude.{ℕ, ◌≡◌, List, map, Result, Ok, Err}
use Rattle.tb_basic_syntax.specs.Source.{Program, numbers}
use Rattle.tb_compiled.specs.Compiled.{warnings_of}
use Rattle.tb_compiled.specs.declared.compiled.Compiled.{Compiled}
use Rattle.tb_compiled.specs.declared.settings.CompileSettings.{CompileSettings}
use Rattle.tb_compiled.specs.Answers.{SourceMakes, Compiles}
use Rattle.tb_basic_text.specs.declared.notation.Notation.{Notation}
use Rattle.tb_engine_sources.specs.Reading.{CompilesText}
use Rattle.tb_engines.specs.Outcomes.{Failure}
use Rattle.tb_engines.specs.Programs.{Settings}
use Rattle.tb_engines.specs.declared.delivery.NoText.{NoText}
use Rattle.tb_engines.specs.declared.delivery.NoText.TheVariants.{Refused, NoMemory}
use Rattle.tb_engine_profile_table.specs.Rows.{AddsUp}
use Rattle.tb_engine_profile_table.specs.Lines.{stated}
use Rattle.tb_engine_profile_table.specs.Table.{table_of}
use Rattle.tb_engine_profile_table.specs.Page.{page_of}
use Rattle.tb_engine_profile_table.specs.About.{Facts}
use Rattle.tb_engine_profile_table.specs.declared.texts.Texts.{Texts}
use Rattle.tb_engines.specs.declared.outcome.End.{End}
use Rattle.tb_engine_profile.specs.Facts.{facts_on}
use Rattle.tb_engine_profile.specs.declared.engine.Named.{Named}
use Rattle.tb_engine_profile.specs.declared.engine.Made.{Made}
use Rattle.tb_engine_profile.specs.declared.engine.Profiled.{Profiled}
use Rattle.tb_engine_profile.specs.declared.running.Ran.{Ran}
use Rattle.tb_engine_profile.specs.Running.{IsProfile}
use Rattle.tb_compiled.specs.Promise.{Own}

-- A profile of the program that a source makes: a row for each of its lines in order, rows that add up to the whole
-- run, and the table and the page of these rows with the statements of the source; the page says what the run was too.
pub record IsProfileOf {O : Type 0} (facts : End → Facts) (notation : Notation) (s : Settings O) (source : List ℕ) (c : Compiled) (html shown : List ℕ) (ran : Ran) : Type 0 where
  pub program : Program
  pub made : SourceMakes notation source (Ok program)
  pub is : IsProfile s c ran
  pub lines : map (λ r. r.line) ran.table.rows.items ≡ numbers program
  pub adds_up : AddsUp ran.table
  pub table : shown ≡ table_of ran.table.whole (stated source ran.table.rows.items)
  pub page : html ≡ page_of (facts ran.end) ran.table.whole (stated source ran.table.rows.items)

-- the table and the page of a profile, and how its run ended
abbrev pub Profiles : {O : Type 0} → (End → Facts) → Notation → Settings O → List ℕ → Compiled → Texts → End → Type 0
Profiles facts notation s source c texts end =
    (ran : Ran) × IsProfileOf facts notation s source c texts.page.items texts.table.items ran × (end ≡ ran.end)

-- what was made of a program; there is nothing if memory ran out
abbrev pub MakesTexts : (Texts → End → Type 0) → Result Made NoText → Type 0
MakesTexts makes (Ok made) = makes made.texts made.end
MakesTexts makes (Err (Refused e)) = ⊥
MakesTexts makes (Err NoMemory) = Unit {0}

-- what profiling a source makes: the table and the page of its program's run, with the compiler's warnings; or there is no
-- program, or memory ran out
abbrev pub MakesProfile : {O : Type 0} → Own → Named → Settings O → CompileSettings → List ℕ → Result Profiled Failure → Type 0
MakesProfile own named s settings source (Ok made) =
    (c : Compiled) × Compiles own settings source (Ok c) × (made.warnings.items ≡ warnings_of c)
    × Profiles (facts_on named settings s) settings.notation s source c made.texts made.end
MakesProfile own named s settings source (Err stop) = CompilesText own settings source (Err stop)
