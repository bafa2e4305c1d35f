-- What a source's own words change of its check.
use Rattle.std.specs.Prelude.{ℕ, List, if◌then◌else◌}
use Rattle.tb_engine_findings.specs.declared.settings.CheckSettings.{CheckSettings}
use Rattle.tb_compiled.specs.declared.settings.SizeLimit.TheVariants.{Memory}
use Rattle.tb_basic_options.specs.Options.{notation_by, options_of}
use Rattle.tb_basic_options.specs.declared.options.OwnOptions.{OwnOptions}

-- how a source is checked, by what is asked for and by its options
abbrev pub settings_by : CheckSettings → OwnOptions → CheckSettings
settings_by settings o = record { size = if o.fit then Memory else settings.size; notation = notation_by settings.notation o }

-- how a source is checked, by what is asked for and by the options in the source
abbrev pub settings_for : CheckSettings → List ℕ → CheckSettings
settings_for settings source = settings_by settings (options_of source)
