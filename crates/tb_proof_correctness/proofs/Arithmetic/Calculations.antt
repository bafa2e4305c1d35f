-- The laws of sums and differences.
use Rattle.std.proofs.Common.{not, ◌≡◌, ℕ, ◌+◌, ◌-◌, ◌/◌, ◌%◌, ◌<◌, Bool, true, false, List, [], ◌∷◌, refl, subst, arith, Some}
use Rattle.std.specs.Prelude.{nat_lt, nat_le}
use Rattle.std.proofs.lemmas.Bool.{leb-true, leb-false}
use Rattle.tb_cpu.specs.Effects.{bit}
use Rattle.tb_words.specs.Words.{word}
use Rattle.tb_basic_syntax.specs.declared.expressions.Operator.{Operator}
use Rattle.tb_basic_syntax.specs.declared.expressions.Operator.TheVariants as op
use Rattle.tb_basic_meaning.specs.Control.{State}
use Rattle.tb_lower.specs.Slots.{Instr, Slots, SlotCode}
use Rattle.tb_machine_reaching.proofs.Comes.{looser}
use Rattle.tb_machine_reaching.specs.View.{Comes, Fits, View}
use Rattle.tb_runtime16.proofs.Words.{one_carry}
use Rattle.tb_proof_simulation.proofs.Resolved.{Lies, pieces_size, size}
use Rattle.tb_compiler_selection.specs.Groups.{Operand, Destination, Calculate}
use Rattle.tb_compiler_selection.specs.Select.{select}
use Rattle.tb_proof_correctness.proofs.CodeBytes.GroupCode.{GroupsLie, calc_code, summed, taken}
use Rattle.tb_proof_correctness.proofs.Relation.GroupInvariants.{kept}
use Rattle.tb_proof_correctness.proofs.Slots.SlotSide.{spread}
use Rattle.tb_proof_correctness.proofs.Relation.Operands.{operand_grounded, dest_in_data}
use Rattle.tb_proof_correctness.proofs.Pieces.Sums.{sums, differs}
use Rattle.tb_proof_correctness.proofs.Relation.Ready.{Ready, here}
use Rattle.tb_proof_correctness.proofs.Relation.Surroundings.{Surroundings}
use Rattle.tb_proof_correctness.proofs.Arithmetic.Calculated.{Leads, calculation, fit, leads_on, left_holds, result_lands, right_holds}
use Rattle.tb_proof_simulation.proofs.Pieces.{put_word}
use Rattle.tb_basic_meaning.specs.Values.{apply}
use Rattle.tb_runtime16.specs.Routines.{Here}

-- the sum of two words, and their difference, by bytes
added_word : (al ah bl bh a b : ℕ) → al ≡ a % 256 → ah ≡ a / 256 → bl ≡ b % 256 → bh ≡ b / 256 → a < 65536 → b < 65536
    → ((al + bl + 0) % 256 ≡ word (a + b) % 256) × ((ah + bh + bit (nat_lt 255 (al + bl + 0))) % 256 ≡ word (a + b) / 256)
added_word al ah bl bh a b p q s t ra rb =
    let c = one_carry (al + bl + 0) (omega (arith, p, s)) in
    (omega (arith, p, s), omega (arith, c, p, q, s, t, ra, rb))

-- the difference of two words, by bytes
pub subtracted_word : (al ah bl bh a b : ℕ) → al ≡ a % 256 → ah ≡ a / 256 → bl ≡ b % 256 → bh ≡ b / 256 → a < 65536 → b < 65536
    → ((al + 256 - (bl + 0)) % 256 ≡ word (a + (65536 - b)) % 256) × ((ah + 256 - (bh + bit (not (nat_le (bl + 0) al)))) % 256 ≡ word (a + (65536 - b)) / 256)
subtracted_word al ah bl bh a b p q s t ra rb = (omega (arith, p, s, rb), go (nat_le (bl + 0) al) refl)
  where
    go : (x : Bool) → nat_le (bl + 0) al ≡ x → (ah + 256 - (bh + bit (not x))) % 256 ≡ word (a + (65536 - b)) / 256
    go true e = omega (arith, leb-true _ _ e, p, q, s, t, ra, rb)
    go false e = omega (arith, leb-false _ _ e, p, q, s, t, ra, rb)

-- a result that code without a call writes
module _ {around : Surroundings} {n : ℕ} {op : Operator} {a b : Operand} {d : Destination} {is : List Instr} {s : State} {r : Slots} {w : View}
    (h : Ready around n (Calculate op a b d) (spread op a b d is) is s r w) (code : SlotCode) where
  open around use {ly, f, lo, hi}
  open calculation a b d s r use {x, y, to}

  writes : (v l g j : ℕ) → apply op x y ≡ Some v → l ≡ v % 256 → g ≡ v / 256 → v < 65536 → GroupsLie ly f.code n (w.regs.pc + (j + 0)) (select is)
      → Comes f w (Here (w.regs.pc + j) (lo ∷ hi ∷ []) (put_word w.mem to l g) w.text w.answers) [] 7 → Leads h code 7
  writes v l g j e low high small rest c =
      let behind : w.regs.pc + (j + 0) ≡ w.regs.pc + j = omega arith in
      leads_on h code v 7 e
      (looser f w _ _ [] 7 7 (omega arith) (result_lands h code v l g (w.regs.pc + j) w.mem low high small (subst (λ p. GroupsLie ly f.code n p (select is)) behind rest) (kept h)) c)

module _ {around : Surroundings} {n : ℕ} {a b : Operand} {d : Destination} {is : List Instr} {s : State} {r : Slots} {w : View}
    (h : Ready around n (Calculate op.Add a b d) (spread op.Add a b d is) is s r w) (fits : Fits around.f 16) (code : SlotCode) where
  open around use {ly, f, lo, hi}
  open calculation a b d s r use {k, x, y, left, right, to}

  -- the law of a sum
  pub add_law : Lies f.code w.regs.pc (calc_code n op.Add left right to) → GroupsLie ly f.code n (w.regs.pc + pieces_size (calc_code n op.Add left right to)) (select is) → Leads h code 7
  add_law lies rest =
      let p = left_holds h w.mem (kept h) in
      let q = right_holds h w.mem (kept h) in
      let c = fit h in
      let bytes = added_word _ _ _ _ x y p.low_byte p.high_byte q.low_byte q.high_byte p.small q.small in
      writes h code (word (x + y)) _ _ (size (summed left right to)) refl bytes.0 bytes.1 (omega arith) rest
      (sums f 16 fits w.regs.pc (lo ∷ hi ∷ []) w.mem w.text w.answers refl left right to lies.0
      (operand_grounded k a d (omega (arith, c.slot)) c.left) (operand_grounded (k + 1) b d c.slot c.right) (dest_in_data d c.dest) lies.1 w (here h))

module _ {around : Surroundings} {n : ℕ} {a b : Operand} {d : Destination} {is : List Instr} {s : State} {r : Slots} {w : View}
    (h : Ready around n (Calculate op.Subtract a b d) (spread op.Subtract a b d is) is s r w) (fits : Fits around.f 16) (code : SlotCode) where
  open around use {ly, f, lo, hi}
  open calculation a b d s r use {k, x, y, left, right, to}

  -- the law of a difference
  pub subtract_law : Lies f.code w.regs.pc (calc_code n op.Subtract left right to)
      → GroupsLie ly f.code n (w.regs.pc + pieces_size (calc_code n op.Subtract left right to)) (select is) → Leads h code 7
  subtract_law lies rest =
      let p = left_holds h w.mem (kept h) in
      let q = right_holds h w.mem (kept h) in
      let c = fit h in
      let bytes = subtracted_word _ _ _ _ x y p.low_byte p.high_byte q.low_byte q.high_byte p.small q.small in
      writes h code (word (x + (65536 - y))) _ _ (size (taken left right to)) refl bytes.0 bytes.1 (omega arith) rest
      (differs f 16 fits w.regs.pc (lo ∷ hi ∷ []) w.mem w.text w.answers refl left right to lies.0
      (operand_grounded k a d (omega (arith, c.slot)) c.left) (operand_grounded (k + 1) b d c.slot c.right) (dest_in_data d c.dest) lies.1 w (here h))
