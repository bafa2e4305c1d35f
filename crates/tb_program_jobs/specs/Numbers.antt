-- The numbers that are promised, and that the code has the same ones.
use Rattle.std.specs.Prelude.{ℕ, ◌≡◌}
use Rattle.tb_program_jobs.specs.declared.jobs.TheConstants as code
use Rattle.tb_program_jobs.specs.declared.seeds.TheConstants as seeds

-- the first new line number, and the step to the next one, if the words do not say
abbrev pub USUAL_STEP : ℕ
USUAL_STEP = 10

-- how many seeds the clock gives: 1 to this one
abbrev pub CLOCK_SEEDS : ℕ
CLOCK_SEEDS = 65535

-- the constants of the code are these numbers
abbrev pub ConstantsAreNumbers : Type 0
ConstantsAreNumbers = (code.USUAL_STEP ≡ USUAL_STEP) × (seeds.CLOCK_SEEDS ≡ CLOCK_SEEDS)
