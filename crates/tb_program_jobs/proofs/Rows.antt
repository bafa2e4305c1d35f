-- Worked rows: the seeds that times give.
use Rattle.std.proofs.Common.{◌≡◌, refl}
use Rattle.tb_program_jobs.specs.Seeds.{clock_seed}

-- the beginning of 1970
row_first : clock_seed 0 ≡ 1
row_first = refl

-- the last seed, and the first one again
row_last : clock_seed 65534 ≡ 65535
row_last = refl

row_around : clock_seed 65535 ≡ 1
row_around = refl

-- 1,700,000,000.123 seconds: 1,700,000,000,123 is 25,940,337 times 65,535, and 14,828 more
row_seconds : clock_seed 1700000000123 ≡ 14829
row_seconds = refl
