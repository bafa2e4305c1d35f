-- The count of a stream's failures.
use Rattle.std.specs.Prelude.{ℕ}
use Rattle.tb_engine_streams.specs.declared.tracked.Tracked.{Tracked}

-- how many calls on a stream failed, modulo 2^64
abbrev pub failures_of : {T : Type 0} → Tracked T → ℕ
failures_of s = s.failures
