-- The laws of END, and of jumps to a line's number.
use Rattle.std.proofs.Common.{◌≡◌, ℕ, ◌+◌, Bool, true, false, List, [], ◌∷◌, refl, sym, subst, arith}
use Rattle.tb_basic_meaning.specs.Control.{At, State, fault_text, has_line}
use Rattle.tb_lower.specs.Slots.{Instr, JumpTo, End, Slots, SlotCode, Whole}
use Rattle.tb_machine_reaching.proofs.Comes.{looser}
use Rattle.tb_machine_reaching.proofs.Instr.{ins}
use Rattle.tb_machine_reaching.proofs.Placed.{placed_last}
use Rattle.tb_machine_reaching.specs.Start.{IsHome}
use Rattle.tb_machine_reaching.specs.View.{Comes, Fits, View, view}
use Rattle.tb_proof_simulation.proofs.Pieces.{jumps, whatever}
use Rattle.tb_proof_simulation.proofs.Resolved.{Code, Lies, faulting, jump_to}
use Rattle.tb_compiler_selection.specs.Groups.{Single}
use Rattle.tb_proof_correctness.proofs.Alone.Faults.{faults_at}
use Rattle.tb_proof_correctness.proofs.Relation.Frames.{state_placed}
use Rattle.tb_proof_correctness.proofs.Relation.GroupInvariants.{arrived}
use Rattle.tb_proof_correctness.proofs.Relation.Matching.{Matches}
use Rattle.tb_proof_correctness.proofs.CodeBytes.GroupCode.{GroupsLaid}
use Rattle.tb_proof_correctness.proofs.Relation.Ready.{Ready, here}
use Rattle.tb_proof_correctness.proofs.Relation.Surroundings.{Serves, Surroundings}

module _ (around : Surroundings) (fits : Fits around.f 16) where
  open around use {ly, f, lo, hi}

  -- the law of END
  pub end_law : (n : ℕ) (is : List Instr) (s : State) (r : Slots) (w : View) → Ready around n (Single End) (End ∷ is) is s r w → Comes f w (IsHome f) [] 1
  end_law n is s r w h =
      whatever f 16 fits w.regs.pc (lo ∷ hi ∷ []) w.mem w.text w.answers (IsHome f) [] 1 (λ a x y n v i z c.
      placed_last f 16 fits (ins 0x60 0) (view a x y n v i z c w.regs.pc (lo ∷ hi ∷ []) w.mem w.text w.answers) _ _ refl h.lies.1.0 refl
      (record { pc = sym h.homed.homed.home; stack = refl; binary = refl })) w (here h)

  module _ (limit : ℕ) (rs : Serves around limit) (code : SlotCode) (laid : GroupsLaid ly f.code f.whole code) (n : ℕ) (is : List Instr) (s : State) (r : Slots) (w : View) (t : ℕ) where
    abbrev own : List ℕ
    own = lo ∷ hi ∷ []

    -- there is no such line
    faults : (i : Instr) (h : Ready around n (Single i) (i ∷ is) is s r w) → Lies f.code w.regs.pc (Code (faulting n 1) ∷ []) → Comes f w (IsHome f) (fault_text 1 n) (4 + limit)
    faults i h lies = faults_at around fits limit rs n 1 h.small (omega arith) w.regs.pc w.mem w.text w.answers lies h.homed w (here h)

    module _ (h : Ready around n (Single (JumpTo t)) (JumpTo t ∷ is) is s r w) where
      jump_lies : (b : Bool) → has_line ly.numbers t ≡ b → Lies f.code w.regs.pc (jump_to ly n b t)
      jump_lies b e = subst (λ b. Lies f.code w.regs.pc (jump_to ly n b t)) e h.lies

      -- a jump to a line that there is
      pub to_found : has_line ly.numbers t ≡ true → Comes f w (Matches around (record { state = record s { place = At t }; rest = Whole; slots = r })) [] 1
      to_found found =
          let lies = jump_lies true found in
          looser f w _ _ [] 1 1 (omega arith)
          (arrived around (record s { place = At t }) r (ly.start t) w.mem w.text w.answers refl (state_placed ly (At t) s w.mem h.state) h.read.all_words h.homed h.text h.answers h.short)
          (jumps f 16 fits w.regs.pc own w.mem w.text w.answers refl (ly.start t) lies.1 w (here h))

      -- a jump to a line that there is not is fault 1
      pub to_fails : has_line ly.numbers t ≡ false → Comes f w (IsHome f) (fault_text 1 n) (4 + limit)
      to_fails lost = faults (JumpTo t) h (jump_lies false lost)
