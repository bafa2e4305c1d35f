-- The laws of products and quotients: by routines, or, if one word is a constant, by its bits and by shifts.
use Rattle.std.proofs.Common.{◌≡◌, ◌≢◌, ℕ, ◌+◌, ◌*◌, ◌^◌, ◌≤◌, ◌<◌, true, false, true≢false, List, refl, sym, ap}
use Rattle.std.proofs.Common.{◌∙◌, subst, arith, Option, ⊎_elim, mul_comm}
use Rattle.std.specs.Prelude.{nat_le}
use Rattle.std.proofs.lemmas.Bool.{and_parts, cases_eq, eq-eqb, leb-true}
use Rattle.tb_words.specs.Words.{word}
use Rattle.tb_basic_syntax.specs.declared.expressions.Operator.TheVariants as op
use Rattle.tb_basic_meaning.specs.Control.{State}
use Rattle.tb_lower.specs.Slots.{Instr, Slots, SlotCode}
use Rattle.tb_machine_reaching.proofs.Comes.{looser}
use Rattle.tb_machine_reaching.specs.View.{Fits, View}
use Rattle.tb_compiled_kept.specs.Addresses.{LEFT}
use Rattle.tb_proof_simulation.proofs.Resolved.{Lies, pieces_size}
use Rattle.tb_compiler_selection.specs.Groups.{Operand, Destination, Calculate}
use Rattle.tb_compiler_selection.specs.Select.{select}
use Rattle.tb_compiler_templates.specs.declared.sources.Source.{Source}
use Rattle.tb_compiler_templates.specs.declared.sources.Source.TheVariants.{AtAddress, FixedWord}
use Rattle.tb_compiler_templates.specs.GroupTemplates.{may_be_zero}
use Rattle.tb_compiler_templates.specs.Scaled.{bits_size, is_factor}
use Rattle.tb_compiler_program.proofs.Factors.{IsScaling, by_right, by_left, by_routine, IsShifting, by_shifts, by_call}
use Rattle.tb_proof_correctness.proofs.CodeBytes.GroupCode.{GroupsLie, product_code, quotient_code}
use Rattle.tb_proof_correctness.proofs.Arithmetic.Divisions.{divide_fails, divide_law}
use Rattle.tb_proof_correctness.proofs.Pieces.Halves.{power_size}
use Rattle.tb_proof_correctness.proofs.Arithmetic.Multiples.{times_law}
use Rattle.tb_proof_correctness.proofs.Relation.Operands.{SourceHolds, operand_beyond}
use Rattle.tb_proof_correctness.proofs.Arithmetic.Products.{multiply_law}
use Rattle.tb_proof_correctness.proofs.Relation.Ready.{Ready}
use Rattle.tb_proof_correctness.proofs.Arithmetic.Shifts.{shift_law}
use Rattle.tb_proof_correctness.proofs.Slots.SlotSide.{spread}
use Rattle.tb_proof_correctness.proofs.Relation.Surroundings.{Serves, Surroundings}
use Rattle.tb_proof_correctness.proofs.Arithmetic.Calculated.{Leads, calculation, left_apart, left_holds, right_apart, right_holds}
use Rattle.tb_proof_correctness.proofs.Relation.GroupInvariants.{kept}

-- a constant is the word that it holds
pub constant_is : (m : ℕ → ℕ) (v y : ℕ) (a : Source) → a ≡ FixedWord v → SourceHolds m a y → (v ≡ y) × (y < 65536)
constant_is m v y a e h = (let k = subst (λ a. SourceHolds m a y) e h in let l = k.low_byte in let g = k.high_byte in omega (arith, l, g), h.small)

-- a constant that is not 0 is known
pub never_zero : (m : ℕ → ℕ) (y : ℕ) (b : Source) → SourceHolds m b y → may_be_zero b ≡ false → y ≢ 0
never_zero m y (FixedWord v) k e = λ zero. let same = constant_is m v y (FixedWord v) refl k in absurd (true≢false (sym (eq-eqb v 0 (same.0 ∙ zero)) ∙ e))
never_zero m y (AtAddress p) k e = absurd (true≢false e)

module _ {around : Surroundings} (fits : Fits around.f 16) (limit : ℕ) (rs : Serves around limit) (wide : 200 ≤ limit) (code : SlotCode) {n : ℕ}
    {a b : Operand} {d : Destination} {is : List Instr} {s : State} {r : Slots} {w : View} (h : Ready around n (Calculate op.Divide a b d)
    (spread op.Divide a b d is) is s r w) where
  open around use {ly, f}
  open calculation a b d s r use {y, left, right, to}

  -- the law of a quotient, by shifts or by the routine
  pub quotient_law : (o : Option ℕ) → IsShifting right o → Lies f.code w.regs.pc (quotient_code n o left right to)
      → GroupsLie ly f.code n (w.regs.pc + pieces_size (quotient_code n o left right to)) (select is) → Leads h code (17 + limit)
  quotient_law _ (by_shifts v j e few power) lies rest =
      let same = constant_is w.mem v y right e (right_holds h w.mem (kept h)) in
      let is_power : y ≡ 2 ^ (j + 1) = sym same.0 ∙ power in
      let some : y ≢ 0 = λ z. let p = power_size j few in omega (arith, p.0, is_power, z) in
      looser f w _ _ _ 31 (17 + limit) (omega (arith, wide)) (λ u z. z) (shift_law fits code h j few lies rest is_power some)
  quotient_law _ by_call lies rest =
      ⊎_elim (λ zero. divide_fails fits limit rs code h lies rest zero) (λ some. divide_law fits limit rs code h lies rest some) (cases_eq y 0)

module _ {around : Surroundings} (fits : Fits around.f 16) (limit : ℕ) (rs : Serves around limit) (wide : 200 ≤ limit) (code : SlotCode) {n : ℕ}
    {a b : Operand} {d : Destination} {is : List Instr} {s : State} {r : Slots} {w : View} (h : Ready around n (Calculate op.Multiply a b d)
    (spread op.Multiply a b d is) is s r w) where
  open around use {ly, f}
  open calculation a b d s r use {k, x, y, left, right, to}

  above_one : (v : ℕ) → is_factor v ≡ true → 2 ≤ v
  above_one v e = leb-true 2 v (and_parts (nat_le 2 v) (nat_le (bits_size 15 v) 60) e).0

  -- the law of a product, by a constant's bits or by the routine
  pub product_law : (o : Option (ℕ × Source)) → IsScaling left right o → Lies f.code w.regs.pc (product_code o left right to)
      → GroupsLie ly f.code n (w.regs.pc + pieces_size (product_code o left right to)) (select is) → Leads h code (13 + limit)
  product_law _ (by_right v e good) lies rest =
      let same = constant_is w.mem v y right e (right_holds h w.mem (kept h)) in
      let two = above_one v good in
      looser f w _ _ _ 141 (13 + limit) (omega (arith, wide)) (λ u z. z)
      (times_law fits code h v (omega (arith, two)) (omega (arith, same)) left x (left_apart h) (operand_beyond k a) (left_holds h w.mem (kept h)) lies rest (ap (λ z. word (x * z)) (sym same.0)))
  product_law _ (by_left v e good) lies rest =
      let same = constant_is w.mem v x left e (left_holds h w.mem (kept h)) in
      let two = above_one v good in
      looser f w _ _ _ 141 (13 + limit) (omega (arith, wide)) (λ u z. z)
      (times_law fits code h v (omega (arith, two)) (omega (arith, same)) right y (right_apart h LEFT (omega arith)) (operand_beyond (k + 1) b)
      (right_holds h w.mem (kept h)) lies rest (ap word (mul_comm x y) ∙ ap (λ z. word (y * z)) (sym same.0)))
  product_law _ by_routine lies rest = multiply_law fits limit rs code h lies rest
