-- When a group begins, and what holds after a calculation.
use Rattle.std.proofs.Common.{◌≡◌, ℕ, ◌+◌, ◌≤◌, ◌<◌, true, false, List, [], ◌∷◌, ◌++◌, refl, sym, ap, ◌∙◌, subst}
use Rattle.tb_basic_meaning.specs.Control.{State}
use Rattle.tb_lower.specs.Ranges.{AreInRange}
use Rattle.tb_lower.specs.Slots.{Instr, Slots, SlotCode}
use Rattle.tb_machine_reaching.specs.View.{Comes, View}
use Rattle.tb_runtime16.specs.Routines.{Entered, Here}
use Rattle.tb_proof_simulation.proofs.Joins.{sent_in}
use Rattle.tb_proof_simulation.proofs.Mirrors.{HoldsState, Typable}
use Rattle.tb_proof_simulation.proofs.Resolved.{Lies, pieces_size}
use Rattle.tb_compiler_selection.specs.Groups.{IntoVariable, IntoHeld, Destination, IntoSlot, IntoHome, Group, expand, expand_all}
use Rattle.tb_compiler_selection.specs.Liveness.{live}
use Rattle.tb_compiler_selection.specs.Select.{may_stand, omits_only_dead, select}
use Rattle.tb_compiler_selection.specs.GroupSteps.{steps, first_group, first}
use Rattle.tb_compiler_selection.proofs.Bracketed.{brackets}
use Rattle.tb_compiler_selection.specs.Laws.{AreChosen}
use Rattle.tb_compiler_selection.proofs.Chosen.{chosen}
use Rattle.tb_proof_correctness.proofs.CodeBytes.GroupCode.{Way, group_code, Behind, GroupsLie, BranchesReach}
use Rattle.tb_proof_correctness.proofs.Slots.SlotsRead.{groups_few, range_few, range_split}
use Rattle.tb_proof_correctness.proofs.Relation.Matching.{HoldsLive, Matches, Target}
use Rattle.tb_proof_correctness.proofs.Slots.SlotSide.{line, landed}
use Rattle.tb_proof_correctness.proofs.Relation.Surroundings.{Surroundings}

-- the list is the group's and the one after it
pub parted : (g : Group) (gs : List Group) (js : List Instr) → select js ≡ g ∷ gs → js ≡ expand g ++ expand_all gs
parted g gs js e = sym (brackets js) ∙ ap expand_all e

module _ (around : Surroundings) where
  open around use {ly, f, lo, hi, keys}

  -- a view at the beginning of a group of line n, with the list js from there on; is follows the group
  pub record Ready (n : ℕ) (g : Group) (js is : List Instr) (s : State) (r : Slots) (w : View) : Type 0 where
    pub small : n < 65536
    pub first : Way
    pub second : Way
    pub lies : Lies f.code w.regs.pc (group_code ly n w.regs.pc first second g)
    pub ranged : AreInRange 256 (expand g)
    pub rest : Behind g (GroupsLie ly f.code n (w.regs.pc + pieces_size (group_code ly n w.regs.pc first second g)) (select is))
    pub reach : BranchesReach ly n w.regs.pc first second g
    pub above : 0x0800 ≤ w.regs.pc
    pub free : omits_only_dead g (live is) ≡ true
    pub stands : may_stand g (select is) ≡ true
    pub stack : w.stack ≡ lo ∷ hi ∷ []
    pub binary : w.regs.flags.d ≡ false
    pub text : w.text ≡ s.text
    pub answers : w.answers ≡ s.answers
    pub state : HoldsState ly s w.mem
    pub read : HoldsLive (live js) r w.mem
    pub some_read : (live js).slots ≤ 16
    pub few_behind : (live is).slots ≤ 16
    pub homed : Entered f lo hi w.mem
    pub short : Typable keys s.text s.answers

  -- the relation gives it for the first group
  pub ready : (code : SlotCode) (n : ℕ) (g : Group) (gs : List Group) (js : List Instr) (s : State) (r : Slots) (w : View) → select js ≡ g ∷ gs
      → Matches around (line code n js s r) w → Ready n g js (expand_all gs) s r w
  ready code n g gs js s r w e h =
      let lies : GroupsLie ly f.code n w.regs.pc (g ∷ gs) = subst (GroupsLie ly f.code n w.regs.pc) e h.pc.0 in
      let good : AreChosen (g ∷ gs) = subst AreChosen e (chosen js) in
      let range = range_split (expand g) (expand_all gs) lies.2 in
      record {
        small = h.pc.1;
        first = lies.0;
        second = lies.1;
        ranged = range.0;
        lies = lies.3;
        rest = subst (λ hs. Behind g (GroupsLie ly f.code n (w.regs.pc + pieces_size (group_code ly n w.regs.pc lies.0 lies.1 g)) hs)) (sym good.1) lies.4;
        reach = lies.5;
        above = lies.6;
        free = good.0;
        stands = subst (λ gs. may_stand g gs ≡ true) (sym good.1) good.2;
        stack = h.stack;
        binary = h.binary;
        text = h.text;
        answers = h.answers;
        state = h.state;
        read = h.read;
        some_read = subst (λ l. (live l).slots ≤ 16) (brackets js) (groups_few ly f.code n w.regs.pc (select js) h.pc.0);
        few_behind = range_few (expand_all gs) range.1;
        homed = h.homed;
        short = h.short;
      }

  -- a law of its slot steps is one of the group's step
  pub opened : (code : SlotCode) (n : ℕ) (g : Group) (gs : List Group) (js : List Instr) (s : State) (r : Slots) (w : View) (k : ℕ)
      → select js ≡ g ∷ gs → Comes f w (Target around (steps code (expand g) (line code n js s r)))
      (sent_in (steps code (expand g) (line code n js s r))) k → Comes f w (Target around (first_group code (line code n js s r)))
      (sent_in (first_group code (line code n js s r))) k
  opened code n g gs js s r w k e h =
      subst (λ l. Comes f w (Target around (first code l (line code n js s r))) (sent_in (first code l (line code n js s r))) k) (sym e) h

  -- ---- after a group
  pub stood : (code : SlotCode) (n : ℕ) → n < 65536 → (is : List Instr) (s : State) (r : Slots) (at : ℕ) (m : ℕ → ℕ) (t answers : List ℕ)
      → GroupsLie ly f.code n at (select is) → HoldsState ly s m → HoldsLive (live is) r m → Entered f lo hi m → t ≡ s.text → answers ≡ s.answers
      → Typable keys s.text s.answers → (w : View) → Here at (lo ∷ hi ∷ []) m t answers w → Matches around (line code n is s r) w
  stood code n number is s r at m t answers rl hs hr en text got short w e = record {
    pc = (subst (λ p. GroupsLie ly f.code n p (select is)) (sym e.pc) rl, number);
    stack = e.stack;
    binary = e.binary;
    text = e.text ∙ text;
    answers = e.answers ∙ got;
    state = subst (HoldsState ly s) (sym e.mem) hs;
    read = subst (HoldsLive (live is) r) (sym e.mem) hr;
    homed = subst (Entered f lo hi) (sym e.mem) en;
    short = short;
  }

-- where it begins
pub here : {around : Surroundings} {n : ℕ} {g : Group} {js is : List Instr} {s : State} {r : Slots} {w : View} → Ready around n g js is s r w
    → Here w.regs.pc (around.lo ∷ around.hi ∷ []) w.mem w.text w.answers w
here h = record { pc = refl; stack = h.stack; binary = h.binary; mem = refl; text = refl; answers = refl }

-- a result that is stored leaves the keyboard's text
pub landed_text : (d : Destination) (v : ℕ) (s : State) → (landed d v s).text ≡ s.text
landed_text (IntoSlot k) v s = refl
landed_text (IntoHome (IntoVariable x)) v s = refl
landed_text (IntoHome IntoHeld) v s = refl

-- a result that is stored leaves the answers
pub landed_answers : (d : Destination) (v : ℕ) (s : State) → (landed d v s).answers ≡ s.answers
landed_answers (IntoSlot k) v s = refl
landed_answers (IntoHome (IntoVariable x)) v s = refl
landed_answers (IntoHome IntoHeld) v s = refl
