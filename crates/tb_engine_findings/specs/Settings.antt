-- How sources are checked.
use Rattle.tb_basic_text.specs.declared.notation.Notation.{Notation}
use Rattle.tb_compiled.specs.declared.settings.SizeLimit.TheVariants.{Cost, Memory}
use Rattle.tb_engine_findings.specs.declared.settings.CheckSettings.{CheckSettings}

-- with a notation, and too large by the cost
abbrev pub by_cost : Notation → CheckSettings
by_cost notation = record { size = Cost; notation = notation }

-- with a notation, and too large only if it doesn't fit the memory
abbrev pub by_memory : Notation → CheckSettings
by_memory notation = record { size = Memory; notation = notation }
