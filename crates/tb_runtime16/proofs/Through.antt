-- Instructions through a pointer to a byte of the program; sums of words.
use Rattle.std.proofs.Common.{◌≡◌, ℕ, ◌+◌, ◌-◌, ◌*◌, ◌/◌, ◌%◌, ◌<◌, Bool, true, false, not, List, [], ◌∷◌, length, refl, ap, ◌∙◌, arith, eqb, leb, Some}
use Rattle.std.specs.Prelude.{Ok, nat_le, nat_lt}
use Rattle.tb_opcodes.specs.declared.Mnemonic.TheVariants.{Lda, Cmp, Sbc}
use Rattle.tb_opcodes.specs.declared.Mode.TheVariants.{IndirectY}
use Rattle.tb_cpu.specs.declared.registers.Regs.{Regs}
use Rattle.tb_cpu.specs.Effects.{bit}
use Rattle.tb_cpu.specs.Operands.{and_then, word_from}
use Rattle.tb_machine_reaching.specs.View.{View, Setup, Part, Fits, Comes, view, is_data, Bytes}
use Rattle.tb_machine_reaching.proofs.Acting.{read_view}
use Rattle.tb_machine_reaching.proofs.Instr.{ins, operand_by}
use Rattle.tb_machine_reaching.proofs.Placed.{placing, takes_at, reads_data, reads_code}
use Rattle.tb_runtime16.proofs.Words.{doubled, added, borrow}

-- the address of (o),Y
pointed : (code : Part) (m : ℕ → ℕ) (r : Regs) (o at : ℕ) → is_data o ≡ true → is_data ((o + 1) % 256) ≡ true
    → (m o + 256 * m ((o + 1) % 256) + r.y) % 65536 ≡ at → operand_by IndirectY o r (read_view code m) ≡ Ok at
pointed code m r o at l h e =
    ap (λ x. and_then (and_then x (λ low. and_then (read_view code m ((o + 1) % 256)) (λ high. Ok (word_from low high)))) (λ p. Ok ((p + r.y) % 65536))) (reads_data code m o l)
    ∙ ap (λ x. and_then (and_then x (λ high. Ok (word_from (m o) high))) (λ p. Ok ((p + r.y) % 65536))) (reads_data code m ((o + 1) % 256) h)
    ∙ ap (λ a. Ok a) e

module _ (f : Setup) (room : ℕ) (fits : Fits f room) (o pc at b : ℕ) (a x y : ℕ) (n v i z c : Bool) (stack : List ℕ) (m : ℕ → ℕ)
    (text answers : List ℕ) (q : View → Type 0) (t : List ℕ) (k : ℕ) where
  -- LDA (o),Y
  pub loading : Bytes f.code pc (0xb1 ∷ o ∷ []) → leb (length stack) room ≡ true → is_data o ≡ true → is_data ((o + 1) % 256) ≡ true
      → (m o + 256 * m ((o + 1) % 256) + y) % 65536 ≡ at → is_data at ≡ false → f.code at ≡ Some b
      → Comes f (view b x y (eqb (b / 128 % 2) 1) v i (eqb b 0) c ((pc + 2) % 65536) stack m text answers) q t k
      → Comes f (view a x y n v i z c pc stack m text answers) q t (1 + k)
  loading here small l h e d s next =
      let w = view a x y n v i z c pc stack m text answers in
      placing f room fits (ins 0xb1 o) w _ q t k small here (takes_at f.code room (ins 0xb1 o) w Lda IndirectY at refl refl refl refl
      (pointed f.code m w.regs o at l h e) b _ (reads_code f.code m at b d s) refl) next

  -- CMP (o),Y
  pub comparing : Bytes f.code pc (0xd1 ∷ o ∷ []) → leb (length stack) room ≡ true → is_data o ≡ true → is_data ((o + 1) % 256) ≡ true
      → (m o + 256 * m ((o + 1) % 256) + y) % 65536 ≡ at → is_data at ≡ false → f.code at ≡ Some b
      → ((n z : Bool) → Comes f (view a x y n v i z (nat_le b a) ((pc + 2) % 65536) stack m text answers) q t k)
      → Comes f (view a x y n v i z c pc stack m text answers) q t (1 + k)
  comparing here small l h e d s next =
      let w = view a x y n v i z c pc stack m text answers in
      placing f room fits (ins 0xd1 o) w _ q t k small here (takes_at f.code room (ins 0xd1 o) w Cmp IndirectY at refl refl refl refl
      (pointed f.code m w.regs o at l h e) b _ (reads_code f.code m at b d s) refl) (next _ _)

  -- SBC (o),Y: all but the carry is forgotten
  pub subtracting : Bytes f.code pc (0xf1 ∷ o ∷ []) → leb (length stack) room ≡ true → is_data o ≡ true → is_data ((o + 1) % 256) ≡ true
      → (m o + 256 * m ((o + 1) % 256) + y) % 65536 ≡ at → is_data at ≡ false → f.code at ≡ Some b
      → ((a1 : ℕ) (n v z : Bool) → Comes f (view a1 x y n v i z (nat_le (b + bit (not c)) a) ((pc + 2) % 65536) stack m text answers) q t k)
      → Comes f (view a x y n v i z c pc stack m text answers) q t (1 + k)
  subtracting here small l h e d s next =
      let w = view a x y n v i z c pc stack m text answers in
      placing f room fits (ins 0xf1 o) w _ q t k small here (takes_at f.code room (ins 0xf1 o) w Sbc IndirectY at refl refl refl refl
      (pointed f.code m w.regs o at l h e) b _ (reads_code f.code m at b d s) refl) (next _ _ _ _)

-- ---- sums
-- four times a word, after ASL, ROL, ASL, ROL
pub times_four : (l h n : ℕ) → l < 256 → h < 256 → l + 256 * h ≡ n → 4 * n < 65536 →
    let a1 = 2 * l % 256 in let f1 = 2 * h % 256 + bit (eqb (l / 128 % 2) 1) in
    (2 * a1 % 256 < 256) × (2 * f1 % 256 + bit (eqb (a1 / 128 % 2) 1) < 256) × (2 * a1 % 256 + 256 * (2 * f1 % 256 + bit (eqb (a1 / 128 % 2) 1)) ≡ 4 * n)
times_four l h n p q e small =
    let a1 = 2 * l % 256 in
    let f1 = 2 * h % 256 + bit (eqb (l / 128 % 2) 1) in
    let once : a1 + 256 * f1 ≡ 2 * n = omega (arith, doubled l h p q) in
    let f1_small : f1 < 256 = omega (arith, once) in
    let a1_small : a1 < 256 = omega arith in
    let twice = again a1 f1 n a1_small f1_small once small in
    let a2_small : 2 * a1 % 256 < 256 = omega arith in
    (a2_small, high (2 * a1 % 256) (2 * f1 % 256 + bit (eqb (a1 / 128 % 2) 1)) n twice small, twice)
  where
    again : (a f n : ℕ) → a < 256 → f < 256 → a + 256 * f ≡ 2 * n → 4 * n < 65536 → 2 * a % 256 + 256 * (2 * f % 256 + bit (eqb (a / 128 % 2) 1)) ≡ 4 * n
    again a f n p q e s = omega (arith, doubled a f p q)

    high : (a f n : ℕ) → a + 256 * f ≡ 4 * n → 4 * n < 65536 → f < 256
    high a f n e s = omega arith

-- a sum that stays a word
pub summed : (a f b0 b1 n at : ℕ) → a < 256 → f < 256 → b0 < 256 → b1 < 256 → a + 256 * f ≡ n → b0 + 256 * b1 ≡ at → at + n < 65536
    → ((a + b0 + 0) % 256 < 256) × ((f + b1 + bit (nat_lt 255 (a + b0 + 0))) % 256 < 256) × ((a + b0 + 0) % 256 + 256 * ((f + b1 + bit (nat_lt 255 (a + b0 + 0))) % 256) ≡ at + n)
summed a f b0 b1 n at p q r s e g small = (omega arith, omega arith, omega (arith, added a f b0 b1 p q r s))

-- a difference
pub difference : (l h k j n u d : ℕ) → l < 256 → h < 256 → k < 256 → j < 256 → l + 256 * h ≡ n → k + 256 * j ≡ u → u + d ≡ n →
    ((l + 256 - (k + 0)) % 256 < 256) × ((h + 256 - (j + bit (not (nat_le (k + 0) l)))) % 256 < 256)
    × ((l + 256 - (k + 0)) % 256 + 256 * ((h + 256 - (j + bit (not (nat_le (k + 0) l)))) % 256) ≡ d)
difference l h k j n u d p q r s e g t =
    let less = borrow (k + 0) l (omega arith) p in
    (omega arith, omega arith, omega (arith, less))
