-- How much of the memory a source takes.
use Rattle.std.specs.Prelude.{ℕ, ◌≡◌, ◌-◌, List, length, Ok}
use Rattle.tb_compiled_kept.specs.Addresses.{LINES_AT}
use Rattle.tb_engine_streams.specs.Streams.{Reads}
use Rattle.tb_engine_streams.specs.Uses.{Use}
use Rattle.tb_compiled.specs.Compiled.{prg_of}
use Rattle.tb_compiled.specs.Texts.{offset_of}
use Rattle.tb_compiled.specs.declared.compiled.Compiled.{Compiled}
use Rattle.tb_compiled.specs.declared.settings.CompileSettings.{CompileSettings}
use Rattle.tb_compiled.specs.declared.settings.SizeLimit.TheVariants.{Memory}
use Rattle.tb_compiled.specs.Answers.{Compiles}
use Rattle.tb_compiled.specs.Promise.{Own}

-- all that a reader had compiles with these settings and the memory as its limit; from the first line's address on its
-- file has so many bytes
pub record FitsWith (own : Own) (settings : CompileSettings) (bytes : ℕ) (reader : Use) : Type 0 where
  pub source : List ℕ
  pub program : Compiled
  pub reads : Reads reader.old source
  pub compiles : Compiles own (record (settings) { size = Memory }) source (Ok program)
  pub takes : bytes ≡ length (prg_of program) - offset_of LINES_AT
