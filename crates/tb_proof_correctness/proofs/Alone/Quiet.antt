-- The laws of Put and Load as groups of their own.
use Rattle.std.proofs.Common.{◌≡◌, ℕ, ◌+◌, ◌/◌, ◌%◌, List, [], ◌∷◌, refl, subst, arith}
use Rattle.std.specs.Prelude.{slice_index}
use Rattle.tb_words.specs.Words.{word}
use Rattle.tb_basic_meaning.specs.Control.{State}
use Rattle.tb_lower.specs.Slots.{Instr, Put, Load, Slots, SlotCode, with_word}
use Rattle.tb_machine_reaching.proofs.Comes.{looser}
use Rattle.tb_machine_reaching.specs.View.{Comes, Fits, View}
use Rattle.tb_compiler_templates.specs.Templates.{slot_at}
use Rattle.tb_compiled_kept.specs.Addresses.{var_at}
use Rattle.tb_proof_simulation.proofs.Pieces.{sets, word_in_data}
use Rattle.tb_proof_simulation.proofs.Resolved.{copied, size}
use Rattle.tb_compiler_selection.specs.Groups.{IntoSlot, Single}
use Rattle.tb_compiler_selection.specs.Liveness.{live}
use Rattle.tb_compiler_selection.specs.Select.{select}
use Rattle.tb_proof_correctness.proofs.CodeBytes.GroupCode.{GroupsLie}
use Rattle.tb_proof_correctness.proofs.Relation.Matching.{Matches}
use Rattle.tb_proof_correctness.proofs.Slots.SlotSide.{Lasting, line, written_reads}
use Rattle.tb_proof_correctness.proofs.Relation.GroupInvariants.{kept, word_lands}
use Rattle.tb_proof_correctness.proofs.Relation.Ready.{Ready, here}
use Rattle.tb_proof_correctness.proofs.Pieces.Sums.{copies}
use Rattle.tb_proof_correctness.proofs.Relation.Surroundings.{Surroundings}

module _ (around : Surroundings) (fits : Fits around.f 16) (code : SlotCode) (n : ℕ) (is : List Instr) (s : State) (r : Slots) (w : View) where
  open around use {ly, f, lo, hi}

  abbrev own : List ℕ
  own = lo ∷ hi ∷ []

  -- the law of Put
  pub put_law : (k v : ℕ) → Ready around n (Single (Put k v)) (Put k v ∷ is) is s r w → Comes f w (Matches around (line code n is s (with_word r k (word v)))) [] 4
  put_law k v h =
      let fit = h.ranged.0.0 in
      looser f w _ _ [] 4 4 (omega arith)
      (word_lands around code n h.small (live (Put k v ∷ is)) (IntoSlot k) is s r r (word v) (word v % 256) (word v / 256)
      (w.regs.pc + 10) w.mem w.text w.answers refl refl (omega arith) fit lasting h.rest (kept h) h.text h.answers h.short)
      (sets f 16 fits w.regs.pc own w.mem w.text w.answers refl (word v) (slot_at k) h.lies.0 (word_in_data (slot_at k) (omega arith) (omega (arith, fit))) h.lies.1 w (here h))
    where
      lasting : Lasting (live (Put k v ∷ is)) (IntoSlot k) is r r
      lasting = record { all = refl; same_held = refl; dead = tt; others = λ j lt ne. (written_reads j k (live is) lt ne, refl); held = λ q. q }

  -- the law of Load
  pub load_law : (k x : ℕ) → Ready around n (Single (Load k x)) (Load k x ∷ is) is s r w → Comes f w (Matches around (line code n is s (with_word r k (slice_index s.vars x)))) [] 4
  load_law k x h =
      let fit = h.ranged.0 in
      let v = h.state.vars x fit.1 in
      let text = copied (var_at x) (slot_at k) in
      let behind : w.regs.pc + (size text + 0) ≡ w.regs.pc + size text = omega arith in
      looser f w _ _ [] 4 4 (omega arith)
      (word_lands around code n h.small (live (Load k x ∷ is)) (IntoSlot k) is s r r (slice_index s.vars x) _ _ (w.regs.pc + size text) w.mem w.text
      w.answers v.low v.high v.small fit.0 lasting (subst (λ p. GroupsLie ly f.code n p (select is)) behind h.rest) (kept h) h.text h.answers h.short)
      (copies f 16 fits w.regs.pc own w.mem w.text w.answers refl (var_at x) (slot_at k) h.lies.0 (word_in_data (var_at x) (omega arith)
      (omega (arith, fit.1))) (word_in_data (slot_at k) (omega arith) (omega (arith, fit.0))) (λ e. omega (arith, e, fit.1)) h.lies.1 w (here h))
    where
      lasting : Lasting (live (Load k x ∷ is)) (IntoSlot k) is r r
      lasting = record { all = refl; same_held = refl; dead = tt; others = λ j lt ne. (written_reads j k (live is) lt ne, refl); held = λ q. q }
