-- Why a source is refused, said of the source alone.
use Rattle.std.specs.Prelude.{ℕ, List}
use Rattle.tb_parser.specs.Files.{Outcome}
use Rattle.tb_compiled_errors.specs.declared.refusals.CompileError.{CompileError}
use Rattle.tb_compiled.specs.declared.settings.CompileSettings.{CompileSettings}
use Rattle.tb_compiled.specs.Answers.{SourceMakes}
use Rattle.tb_compiled.specs.Refusals.{Refuses}
use Rattle.tb_compiled.specs.Promise.{Own}

-- why a source is refused: its lines make something, and whatever they make is refused for this
pub record IsRefused (own : Own) (settings : CompileSettings) (source : List ℕ) (e : CompileError) : Type 0 where
  pub outcome : Outcome
  pub made : SourceMakes settings.notation source outcome
  pub refused : Refuses own settings outcome e
  pub only : (other : Outcome) → SourceMakes settings.notation source other → Refuses own settings other e
