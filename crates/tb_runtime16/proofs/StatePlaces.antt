-- No address that keeps a program's state is one that routines change.
use Rattle.std.proofs.Common.{◌≡◌, ◌≢◌, ℕ, ◌+◌, ◌≤◌, Bool, true, false, not, refl, sym, arith}
use Rattle.std.specs.Prelude.{◌==◌}
use Rattle.std.proofs.lemmas.Bool.Decides.{nat_tests}
use Rattle.tb_compiled_kept.specs.Addresses.{VARS, HELD, POINTER, COLUMN, OPEN, SEEDED, SEED, NOTES, LENGTH, SCRATCH}
use Rattle.tb_runtime16.specs.Laws.{is_argument, is_seed}
use Rattle.tb_runtime16.specs.Input.{is_changed}
use Rattle.tb_runtime16.specs.Returns.{push_changes, pop_changes}
use Rattle.tb_runtime16.specs.Search.{search_changes}
use Rattle.tb_runtime16.specs.Routines.{is_state, is_scratch}

-- an address that is not scratch keeps state
pub unless_scratch : (a : ℕ) → is_scratch a ≡ false → is_state a ≡ true
unless_scratch a e = by (is_state a) e
  where
    by : (b : Bool) → not b ≡ false → b ≡ true
    by true e = refl
    by false e = sym e

-- no argument keeps state
pub not_argument : (a : ℕ) → is_state a ≡ true → is_argument a ≡ false
not_argument a h = grind (arith, nat_tests)

-- SCRATCH keeps no state
pub not_scratch : (a : ℕ) → is_state a ≡ true → (a == SCRATCH) ≡ false
not_scratch a h = grind (arith, nat_tests)

-- only SEEDED and SEED are the RND state's
pub not_seed : (a : ℕ) → a ≢ SEEDED → a ≢ SEED → a ≢ SEED + 1 → is_seed a ≡ false
not_seed a p q r = grind (arith, nat_tests)

-- Search changes no state
pub not_searched : (a : ℕ) → is_state a ≡ true → search_changes a ≡ false
not_searched a h = grind (arith, nat_tests)

-- of the state, Pop changes only NOTES
pub not_popped : (a : ℕ) → is_state a ≡ true → a ≢ NOTES → a ≢ NOTES + 1 → pop_changes a ≡ false
not_popped a h p q = grind (arith, nat_tests)

-- of the state, Push changes only NOTES
pub not_pushed : (a : ℕ) → VARS ≤ a → a ≤ HELD + 1 → a ≢ NOTES → a ≢ NOTES + 1 → push_changes a ≡ false
not_pushed a from to p q = grind (arith, nat_tests)

-- of the state, Input changes only OPEN and COLUMN
pub not_asked : (a : ℕ) → is_state a ≡ true → a ≢ OPEN → a ≢ COLUMN → is_changed a ≡ false
not_asked a h p q = grind (arith, nat_tests)

-- neither POINTER nor LENGTH keeps state
pub not_pointer : (a : ℕ) → is_state a ≡ true → (a ≢ POINTER) × (a ≢ POINTER + 1) × (a ≢ LENGTH)
not_pointer a h = ((λ e. grind (arith, nat_tests)), (λ e. grind (arith, nat_tests)), (λ e. grind (arith, nat_tests)))
