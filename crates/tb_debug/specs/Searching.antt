-- What is known while the newest stop is looked for, or the newest checkpoint.
use Rattle.std.specs.Prelude.{◌≡◌, ℕ, ◌+◌, ◌<◌, ◌≤◌, true, List, slice_index_or}
use Rattle.tb_debug.specs.Begins.{comes_to}
use Rattle.tb_debug.specs.Runs.{Point}
use Rattle.tb_debug.specs.Stopping.{LeadsTo, leads_from}
use Rattle.tb_debug.specs.declared.debugger.Debugger.{Debugger}
use Rattle.tb_debug.specs.declared.history.Checkpoint.{Checkpoint}

-- of the first `count` checkpoints, the one before this index comes before a time, or at it, and all from this index on come
-- after it
pub record IsUntil (time : ℕ) (ks : List Checkpoint) (count index : ℕ) : Type 0 where
  pub few : index ≤ count
  pub before : (k : ℕ) (d : Checkpoint) → index ≡ k + 1 → (slice_index_or ks k d).moment.begun ≤ time
  pub behind : (k : ℕ) (d : Checkpoint) → index ≤ k → k < count → time < (slice_index_or ks k d).moment.begun

-- the newest time to which the lines lead back that begin after more than `from` events and at most `to`
pub record NewestBetween (d : Debugger) (start : Point) (from to time : ℕ) : Type 0 where
  pub leads : LeadsTo d start time
  pub all : (k : ℕ) → from < k → k ≤ to → comes_to d.starts start k ≡ true → leads_from d start k ≤ time

-- the newest time to which the present point leads back, and the lines that begin after more than `from` events
pub record KnowsAfter (d : Debugger) (start : Point) (from time : ℕ) : Type 0 where
  pub leads : LeadsTo d start time
  pub here : leads_from d start d.present.events ≤ time
  pub all : (k : ℕ) → from < k → k ≤ d.present.events → comes_to d.starts start k ≡ true → leads_from d start k ≤ time
