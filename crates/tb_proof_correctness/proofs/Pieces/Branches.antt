-- A branch, short or over a jump, leads to its target or to what follows it.
use Rattle.std.proofs.Common.{not, ◌≡◌, ℕ, ◌+◌, ◌%◌, ◌≤◌, Bool, true, false, cond, List, [], ◌∷◌, length, refl, sym, ap, ◌∙◌, subst, arith, leb, Some}
use Rattle.std.specs.Prelude.{if◌then◌else◌, nat_lt, nat_le, ◌||◌}
use Rattle.std.proofs.lemmas.Bool.{lt-ltb, ltb-true, leb-true}
use Rattle.tb_asm.specs.Layout.{distance, is_near}
use Rattle.tb_machine_reaching.proofs.Comes.{chained, known, looser}
use Rattle.tb_machine_reaching.proofs.Instr.{Stands, act_instr, ins, instr_bytes}
use Rattle.tb_machine_reaching.proofs.Placed.{placed_last}
use Rattle.tb_machine_reaching.specs.View.{Bytes, Comes, Fits, Setup, View, view}
use Rattle.tb_runtime16.specs.Routines.{Here}
use Rattle.tb_proof_simulation.proofs.Resolved.{Code, Lies, Piece, highest_code, jump, size}
use Rattle.tb_proof_correctness.proofs.CodeBytes.GroupCode.{BranchReaches, Flag, Negative, Overflow, Carry, Zero, Long, Short, Way, branch_code, branch_on, opposite, way_size}
use Rattle.tb_proof_correctness.proofs.Testing.SignedOrder.{turned}

-- a flag's value
abbrev pub asked : Flag → (n v c z : Bool) → Bool
asked Negative n v c z = n
asked Overflow n v c z = v
asked Carry n v c z = c
asked Zero n v c z = z

abbrev pub asked_in : Flag → View → Bool
asked_in which w = asked which w.regs.flags.n w.regs.flags.v w.regs.flags.c w.regs.flags.z

-- whether a branch is taken that asks for this value of the flag
abbrev pub is_taken : (wanted there : Bool) → Bool
is_taken true there = there
is_taken false there = not there

other_way : (wanted there : Bool) → is_taken (not wanted) there ≡ not (is_taken wanted there)
other_way true there = refl
other_way false true = refl
other_way false false = refl

-- the last branch of a test leads on if the flag, turned if the test wants that, is set
pub last_leads : (turn flag : Bool) (next behind : ℕ) → cond (is_taken turn flag) next behind ≡ cond (turned turn flag) behind next
last_leads true true next behind = refl
last_leads true false next behind = refl
last_leads false true next behind = refl
last_leads false false next behind = refl

-- ---- the text
opposite_is : (which : Flag) (wanted : Bool) → opposite (branch_on which wanted) ≡ branch_on which (not wanted)
opposite_is Negative false = refl
opposite_is Negative true = refl
opposite_is Overflow false = refl
opposite_is Overflow true = refl
opposite_is Carry false = refl
opposite_is Carry true = refl
opposite_is Zero false = refl
opposite_is Zero true = refl

length_is : (which : Flag) (wanted : Bool) (d : ℕ) → length (instr_bytes (ins (branch_on which wanted) d)) ≡ 2
length_is Negative false d = refl
length_is Negative true d = refl
length_is Overflow false d = refl
length_is Overflow true d = refl
length_is Carry false d = refl
length_is Carry true d = refl
length_is Zero false d = refl
length_is Zero true d = refl

-- a branch has the size of its way
pub branch_size : (way : Way) (which : Flag) (wanted : Bool) (at to : ℕ) → size (branch_code way (branch_on which wanted) at to) ≡ way_size way
branch_size Short which wanted at to = ap (λ l. l + 0) (length_is which wanted (distance at to % 256))
branch_size Long which wanted at to = ap (λ op. length (instr_bytes (ins op 3)) + 3) (opposite_is which wanted) ∙ ap (λ l. l + 3) (length_is which (not wanted) 3)

-- the instructions of a branch are there, and what follows it
pub branch_behind : (f : Setup) (at : ℕ) (way : Way) (which : Flag) (wanted : Bool) (to : ℕ) (ps : List Piece)
    → Lies f.code at (Code (branch_code way (branch_on which wanted) at to) ∷ ps) → (at + way_size way ≤ highest_code) × Lies f.code (at + way_size way) ps
branch_behind f at way which wanted to ps lies =
    let e = branch_size way which wanted at to in
    (subst (λ n. at + n ≤ highest_code) e lies.0, subst (λ n. Lies f.code (at + n) ps) e lies.2)

-- where a distance leads
abbrev pub added : ℕ → ℕ → ℕ
added at d = ((at + 2) % 65536 + (if nat_lt d 128 then d else d + 65280)) % 65536

-- a near distance leads to the branch's target
pub gets_there : (at to : ℕ) → at + 2 ≤ highest_code → to ≤ highest_code → is_near (distance at to) ≡ true → added at (distance at to % 256) ≡ to
gets_there at to below there near = by (nat_lt (distance at to) 128) refl near
  where
    d : ℕ
    d = distance at to

    on : (t : Bool) → nat_lt (d % 256) 128 ≡ t → ((at + 2) % 65536 + (if t then d % 256 else d % 256 + 65280)) % 65536 ≡ to → added at (d % 256) ≡ to
    on t e h = ap (λ t. ((at + 2) % 65536 + (if t then d % 256 else d % 256 + 65280)) % 65536) e ∙ h

    by : (t : Bool) → nat_lt d 128 ≡ t → (t || nat_le 65408 d) ≡ true → added at (d % 256) ≡ to
    by true e n = on true (lt-ltb (d % 256) 128 (omega (arith, ltb-true d 128 e))) (omega (arith, below, there, ltb-true d 128 e))
    by false e n = back (nat_lt (d % 256) 128) refl
      where
        back : (t : Bool) → nat_lt (d % 256) 128 ≡ t → added at (d % 256) ≡ to
        back true q = absurd (omega (arith, ltb-true (d % 256) 128 q, leb-true 65408 d n))
        back false q = on false q (omega (arith, below, there, leb-true 65408 d n))

module _ (f : Setup) (room : ℕ) (fits : Fits f room) (bs : List ℕ) (m : ℕ → ℕ) (text answers : List ℕ) (small : leb (length bs) room ≡ true) where
  -- at an address, with A, X, N and C unchanged
  pub record Led (w : View) (to : ℕ) (u : View) : Type 0 where
    pub here : Here to bs m text answers u
    pub number : u.regs.a ≡ w.regs.a
    pub index : u.regs.x ≡ w.regs.x
    pub negative : u.regs.flags.n ≡ w.regs.flags.n
    pub carry : u.regs.flags.c ≡ w.regs.flags.c

  same_view : (at : ℕ) (w : View) (q : View → Type 0) → Here at bs m text answers w
      → Comes f (view w.regs.a w.regs.x w.regs.y w.regs.flags.n w.regs.flags.v w.regs.flags.i w.regs.flags.z w.regs.flags.c at bs m text answers) q [] 1 → Comes f w q [] 1
  same_view at w q h c =
      known f w at bs text answers q [] 1 h.pc h.stack h.binary h.text h.answers
      (subst (λ m. Comes f (view w.regs.a w.regs.x w.regs.y w.regs.flags.n w.regs.flags.v w.regs.flags.i w.regs.flags.z w.regs.flags.c at bs m text answers) q [] 1) (sym h.mem) c)

  acts : (at : ℕ) (which : Flag) (wanted : Bool) (d a x y : ℕ) (n v i z c : Bool) → act_instr f.code room (ins (branch_on which wanted) d)
      (view a x y n v i z c at bs m text answers) ≡ Some (view a x y n v i z c (if is_taken wanted (asked which n v c z) then added at d else (at + 2) % 65536) bs m text answers)
  acts at Negative false d a x y n v i z c = refl
  acts at Negative true d a x y n v i z c = refl
  acts at Overflow false d a x y n v i z c = refl
  acts at Overflow true d a x y n v i z c = refl
  acts at Carry false d a x y n v i z c = refl
  acts at Carry true d a x y n v i z c = refl
  acts at Zero false d a x y n v i z c = refl
  acts at Zero true d a x y n v i z c = refl

  -- a branch by itself
  steps : (at : ℕ) (which : Flag) (wanted there : Bool) (d to : ℕ) → at + 2 ≤ highest_code → added at d ≡ to
      → Bytes f.code at (instr_bytes (ins (branch_on which wanted) d)) → (w : View) → Here at bs m text answers w → asked_in which w ≡ there
      → Comes f w (Led w (cond (is_taken wanted there) to (at + 2))) [] 1
  steps at which wanted there d to below leads st w h e =
      same_view at w _ h
      (placed_last f room fits (ins (branch_on which wanted) d) (view w.regs.a w.regs.x w.regs.y w.regs.flags.n w.regs.flags.v w.regs.flags.i
      w.regs.flags.z w.regs.flags.c at bs m text answers) _ _ small st
      (acts at which wanted d w.regs.a w.regs.x w.regs.y w.regs.flags.n w.regs.flags.v w.regs.flags.i w.regs.flags.z w.regs.flags.c)
      (record {
        here = record {
          pc = ap (λ t. if is_taken wanted t then added at d else (at + 2) % 65536) e ∙ by (is_taken wanted there);
          stack = refl;
          binary = refl;
          mem = refl;
          text = refl;
          answers = refl;
        };
        number = refl;
        index = refl;
        negative = refl;
        carry = refl;
      }))
    where
      by : (t : Bool) → (if t then added at d else (at + 2) % 65536) ≡ cond t to (at + 2)
      by true = leads
      by false = omega (arith, below)

  jumps_on : (at to : ℕ) → Bytes f.code at (instr_bytes (ins 0x4C to)) → (w : View) → Here at bs m text answers w → Comes f w (Led w to) [] 1
  jumps_on at to st w h =
      same_view at w _ h
      (placed_last f room fits (ins 0x4C to) (view w.regs.a w.regs.x w.regs.y w.regs.flags.n w.regs.flags.v w.regs.flags.i w.regs.flags.z w.regs.flags.c at bs m text answers) _ _ small st refl
      (record { here = record { pc = refl; stack = refl; binary = refl; mem = refl; text = refl; answers = refl }; number = refl; index = refl; negative = refl; carry = refl }))

  -- where a branch leads
  pub branches : (at : ℕ) (way : Way) (which : Flag) (wanted there : Bool) (to : ℕ) → at + way_size way ≤ highest_code → BranchReaches way at to
      → Stands f.code at (branch_code way (branch_on which wanted) at to) → (w : View) → Here at bs m text answers w → asked_in which w ≡ there
      → Comes f w (Led w (cond (is_taken wanted there) to (at + way_size way))) [] 2
  branches at Short which wanted there to below reach st w h e =
      looser f w _ _ [] 1 2 (omega arith) (λ u g. g)
      (steps at which wanted there (distance at to % 256) to below (gets_there at to below reach.1 reach.0) st.0 w h e)
  branches at Long which wanted there to below reach st w h e = by (is_taken wanted there) refl
    where
      over : Stands f.code at (ins (branch_on which (not wanted)) 3 ∷ jump to)
      over = subst (λ op. Stands f.code at (ins op 3 ∷ jump to)) (opposite_is which wanted) st

      jump_stands : Bytes f.code (at + 2) (instr_bytes (ins 0x4C to))
      jump_stands = subst (λ p. Bytes f.code p (instr_bytes (ins 0x4C to)))
          (let q : (at + length (instr_bytes (ins (branch_on which (not wanted)) 3))) % 65536 ≡ at + 2 = omega (arith, below, length_is which (not wanted) 3) in q) over.1.0

      first : (t : Bool) → is_taken wanted there ≡ t → Comes f w (Led w (cond (not t) (at + 5) (at + 2))) [] 1
      first t taken =
          subst (λ t. Comes f w (Led w (cond t (at + 5) (at + 2))) [] 1) (other_way wanted there ∙ ap not taken)
          (steps at which (not wanted) there 3 (at + 5) (omega (arith, below)) (omega (arith, below)) over.0 w h e)

      by : (t : Bool) → is_taken wanted there ≡ t → Comes f w (Led w (cond t to (at + 5))) [] 2
      by true taken =
          chained f w _ _ [] [] 1 1 (first true taken) (λ u g.
          looser f u _ _ [] 1 1 (omega arith) (λ v k. record {
            here = k.here;
            number = k.number ∙ g.number;
            index = k.index ∙ g.index;
            negative = k.negative ∙ g.negative;
            carry = k.carry ∙ g.carry;
          }) (jumps_on (at + 2) to jump_stands u g.here))
      by false taken = looser f w _ _ [] 1 2 (omega arith) (λ u g. g) (first false taken)
