-- What holds when a routine of the block has returned.
use Rattle.std.proofs.Common.{◌≡◌, ◌≢◌, ℕ, ◌+◌, ◌/◌, ◌%◌, ◌≤◌, true, false, List, [], ◌∷◌, refl, sym, ap, ◌∙◌, arith}
use Rattle.tb_machine_reaching.specs.View.{Setup, View, back_at}
use Rattle.tb_compiled_kept.specs.Addresses.{HOME_S}
use Rattle.tb_runtime16.specs.Laws.{Leaves}
use Rattle.tb_runtime16.specs.Routines.{Entered, Here, is_state}
use Rattle.tb_proof_simulation.proofs.Resolved.{highest_code}

-- memory with the same HOME_S is still entered
pub homed_kept : {f : Setup} {lo hi : ℕ} (m m' : ℕ → ℕ) → m' HOME_S ≡ m HOME_S → Entered f lo hi m → Entered f lo hi m'
homed_kept m m' e h = record { homed = h.homed; kept = omega (arith, e, h.kept) }

-- an address of the state is not one of scratch
pub apart : (a b : ℕ) → is_state a ≡ true → is_state b ≡ false → a ≢ b
apart a b h k e = let no : true ≡ false = sym h ∙ ap is_state e ∙ k in cc

-- a call returns to what follows it
pub behind_call : (at : ℕ) → at + 3 ≤ highest_code → back_at ((at + 2) % 256) ((at + 2) / 256) ≡ at + 3
behind_call at r = omega arith

-- back at the caller, at an address with another name
pub back_here : {lo hi : ℕ} (at at' : ℕ) (t answers : List ℕ) (q : (ℕ → ℕ) → Type 0) (u : View) → Leaves at (lo ∷ hi ∷ []) t answers q u → at ≡ at'
    → Here at' (lo ∷ hi ∷ []) u.mem t answers u
back_here at at' t answers q u b e = record { pc = b.pc ∙ e; stack = b.stack_is; binary = b.binary; mem = refl; text = b.same_text; answers = b.same_answers }

-- at an address with another name
pub moved : (at at' : ℕ) (bs : List ℕ) (m : ℕ → ℕ) (t answers : List ℕ) (u : View) → Here at bs m t answers u → at ≡ at' → Here at' bs m t answers u
moved at at' bs m t answers u b e = record { pc = b.pc ∙ e; stack = b.stack; binary = b.binary; mem = b.mem; text = b.text; answers = b.answers }
