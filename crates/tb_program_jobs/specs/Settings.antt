-- How a source is compiled, by what the words of the command line ask for and by its own.
use Rattle.std.specs.Prelude.{Bool, ◌||◌, unwrap_or, if◌then◌else◌}
use Rattle.std.specs.Option.{option_or}
use Rattle.tb_compiled.specs.Numbers.{USUAL_SEED}
use Rattle.tb_compiled.specs.declared.settings.CompileSettings.{CompileSettings}
use Rattle.tb_compiled.specs.declared.settings.SizeLimit.{SizeLimit}
use Rattle.tb_compiled.specs.declared.settings.SizeLimit.TheVariants.{Cost, Memory}
use Rattle.tb_program_jobs.specs.declared.jobs.SourceOptions.{SourceOptions}
use Rattle.tb_basic_options.specs.Options.{notation_by}
use Rattle.tb_basic_options.specs.declared.options.OwnOptions.{OwnOptions}

-- when a program is too large: by what it costs, or only if it doesn't fit the memory
abbrev pub size_limit : Bool → SizeLimit
size_limit fit = if fit then Memory else Cost

-- how a source is compiled: a seed of the words goes before its own, and the usual one comes last
abbrev pub settings_of : SourceOptions → OwnOptions → CompileSettings
settings_of options own = record {
  seed = unwrap_or (option_or options.seed own.seed) USUAL_SEED;
  size = size_limit (options.fit || own.fit);
  notation = notation_by options.notation own;
}
