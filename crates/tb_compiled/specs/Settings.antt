-- How sources are compiled by the calls that take no settings.
use Rattle.std.specs.Prelude.{ℕ}
use Rattle.tb_basic_text.specs.declared.notation.Notation.TheVariants.{Plain}
use Rattle.tb_compiled.specs.declared.settings.CompileSettings.{CompileSettings}
use Rattle.tb_compiled.specs.declared.settings.SizeLimit.TheVariants.{Cost, Memory}

-- with a first state of RND, refused by the cost, and without signs
abbrev pub by_cost : ℕ → CompileSettings
by_cost seed = record { seed = seed; size = Cost; notation = Plain }

-- with a first state of RND, refused by the memory that is taken, and without signs
abbrev pub by_memory : ℕ → CompileSettings
by_memory seed = record { seed = seed; size = Memory; notation = Plain }
