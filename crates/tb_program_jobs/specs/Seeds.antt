-- The first states of RND that the clock gives.
use Rattle.std.specs.Prelude.{ℕ, ◌+◌, ◌%◌}
use Rattle.tb_program_jobs.specs.Numbers.{CLOCK_SEEDS}

-- the seed that is made of a time in milliseconds: one of 1 to CLOCK_SEEDS, and the next one a millisecond later
abbrev pub clock_seed : ℕ → ℕ
clock_seed milliseconds = milliseconds % CLOCK_SEEDS + 1
