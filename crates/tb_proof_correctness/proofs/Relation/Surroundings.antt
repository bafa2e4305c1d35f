-- What surrounds a group's code while a program runs.
use Rattle.std.specs.Prelude.{ℕ}
use Rattle.tb_machine_reaching.specs.View.{Setup}
use Rattle.tb_runtime16.specs.Routines.{Routines}
use Rattle.tb_proof_simulation.specs.Layout.{Layout}

-- the program's addresses, the machine's setup, the start's return address on the stack, and the keyboard's greatest length
pub record Surroundings : Type 0 where
  pub ly : Layout
  pub f : Setup
  pub lo : ℕ
  pub hi : ℕ
  pub keys : ℕ

-- the routines' laws there, with one bound
abbrev pub Serves : Surroundings → ℕ → Type 0
Serves around = Routines around.ly.table around.ly.seed around.ly.numbers around.ly.start around.f around.lo around.hi around.keys
