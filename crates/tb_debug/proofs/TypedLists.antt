-- A list of checkpoints to which bytes are typed one after the other.
use Rattle.std.proofs.Common.{◌≡◌, ℕ, ◌<◌, ◌≤◌, List, length, slice_index_or}
use Rattle.tb_debug.specs.Runs.{IsTyped}
use Rattle.tb_debug.specs.declared.history.Checkpoint.{Checkpoint}

-- as AreTyped, of the first n of them
pub record TypedTo (more : List ℕ) (n : ℕ) (ks ls : List Checkpoint) : Type 0 where
  pub many : length ls ≡ length ks
  pub each : (i : ℕ) (d : Checkpoint) → i < n → i < length ks → IsTyped more (slice_index_or ks i d).moment (slice_index_or ls i d).moment
  pub sent : (i : ℕ) (d : Checkpoint) → i < n → i < length ks → (slice_index_or ls i d).sent ≡ (slice_index_or ks i d).sent
  pub left : (i : ℕ) (d : Checkpoint) → n ≤ i → i < length ks → slice_index_or ls i d ≡ slice_index_or ks i d
