-- A count of failures changes at a failure.
use Rattle.std.proofs.Common.{◌≡◌, ◌≢◌, ℕ, true, arith}
use Rattle.tb_engine_streams.specs.Streams.{counted}

-- a count after a failure is not the count before it
pub counted_differs : (n m : ℕ) → m ≡ counted n true → m ≢ n
counted_differs n m e same = omega arith
