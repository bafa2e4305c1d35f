-- A remainder by a power of two: what its code does, and that it is the remainder with the word's sign.
use Rattle.std.proofs.Common.{not, ◌≡◌, ℕ, zero, suc, ◌+◌, ◌-◌, ◌/◌, ◌%◌, ◌^◌, ◌≤◌, ◌<◌, Bool, true, false, List, [], ◌∷◌, length, refl, sym, ap, ◌∙◌, subst, arith, leb, bit_and, ⊎_elim}
use Rattle.std.specs.Prelude.{nat_le}
use Rattle.std.proofs.lemmas.Bool.{cases_lt, le-leb, lt-leb}
use Rattle.std.proofs.lemmas.Grind.{and_numeral}
use Rattle.tb_cpu.specs.Effects.{bit, has_bit}
use Rattle.tb_cpu.specs.Instructions.{advanced}
use Rattle.tb_memmap.specs.Bytes.{with_byte}
use Rattle.tb_opcodes.specs.declared.Mnemonic.TheVariants.{Ldy, Stx}
use Rattle.tb_opcodes.specs.declared.Mode.TheVariants.{Absolute}
use Rattle.tb_machine_reaching.proofs.Comes.{known}
use Rattle.tb_machine_reaching.proofs.Instr.{Stands, ins}
use Rattle.tb_machine_reaching.proofs.Placed.{placed_last, placing, stores_at}
use Rattle.tb_machine_reaching.specs.View.{Comes, Fits, Setup, View, view}
use Rattle.tb_runtime16.specs.Routines.{Here, Moves, WithA}
use Rattle.tb_proof_simulation.proofs.Pieces.{InData, loads_last, moves_then, put_word, stores, whatever_a}
use Rattle.tb_proof_simulation.proofs.Resolved.{highest_code}
use Rattle.tb_compiler_templates.specs.declared.sources.Source.TheVariants.{AtAddress}
use Rattle.tb_proof_correctness.proofs.Arithmetic.Remainders.{turned_size}
use Rattle.tb_proof_correctness.proofs.CodeBytes.GroupCode.{both_stored, rest_and_sign, rest_below}
use Rattle.tb_proof_correctness.proofs.Pieces.Sources.{At, behind, loads_byte}

-- ---- numbers
-- what the bits of a word below 0 are once they are taken away from the next multiple, in two bytes
abbrev again : (bits r : ℕ) → ℕ
again bits r = bit_and ((r + bits + 0) % 256) bits

abbrev pub below_low : (bits r : ℕ) → ℕ
below_low bits r = (again bits r + 256 - (bits + 0)) % 256

abbrev pub below_high : (bits r : ℕ) → ℕ
below_high bits r = (0 + 256 - (0 + bit (not (nat_le (bits + 0) (again bits r))))) % 256

-- what holds of 0 to 7 holds of each number below 8
below_eight : (P : ℕ → Type 0) → P 0 → P 1 → P 2 → P 3 → P 4 → P 5 → P 6 → P 7 → (k : ℕ) → k < 8 → P k
below_eight P a b c d e f g j zero h = a
below_eight P a b c d e f g j (suc zero) h = b
below_eight P a b c d e f g j (suc (suc zero)) h = c
below_eight P a b c d e f g j (suc (suc (suc zero))) h = d
below_eight P a b c d e f g j (suc (suc (suc (suc zero)))) h = e
below_eight P a b c d e f g j (suc (suc (suc (suc (suc zero))))) h = f
below_eight P a b c d e f g j (suc (suc (suc (suc (suc (suc zero)))))) h = g
below_eight P a b c d e f g j (suc (suc (suc (suc (suc (suc (suc zero))))))) h = j
below_eight P a b c d e f g j (suc (suc (suc (suc (suc (suc (suc (suc k)))))))) h = absurd (omega (arith, h))

-- the lowest bits of a word are its remainder
pub above_rest : (k : ℕ) → k < 8 → (x : ℕ) → (bit_and (x % 256) (2 ^ (k + 1) - 1) ≡ x % 2 ^ (k + 1) % 256) × (0 ≡ x % 2 ^ (k + 1) / 256)
above_rest k few x =
    below_eight (λ k. (bit_and (x % 256) (2 ^ (k + 1) - 1) ≡ x % 2 ^ (k + 1) % 256) × (0 ≡ x % 2 ^ (k + 1) / 256))
    (omega (arith, and_numeral (x % 256) 0 refl), omega arith) (omega (arith, and_numeral (x % 256) 2 refl), omega arith)
    (omega (arith, and_numeral (x % 256) 6 refl), omega arith) (omega (arith, and_numeral (x % 256) 14 refl), omega arith)
    (omega (arith, and_numeral (x % 256) 30 refl), omega arith) (omega (arith, and_numeral (x % 256) 62 refl), omega arith)
    (omega (arith, and_numeral (x % 256) 126 refl), omega arith) (omega (arith, and_numeral (x % 256) 254 refl), omega arith) k few

-- the high byte, by whether anything was borrowed
high_by : (bits r q : ℕ) → (again bits r < bits → q ≡ 255) → (bits ≤ again bits r → q ≡ 0) → below_high bits r ≡ q
high_by bits r q less more =
    let e : bits + 0 ≡ bits = omega arith in
    ap (λ b. (0 + 256 - (0 + bit (not (nat_le b (again bits r))))) % 256) e
    ∙ ⊎_elim
    (λ lt. ap (λ t. (0 + 256 - (0 + bit (not t))) % 256) (lt-leb bits (again bits r) lt) ∙ sym (less lt))
    (λ le. ap (λ t. (0 + 256 - (0 + bit (not t))) % 256) (le-leb bits (again bits r) le) ∙ sym (more le))
    (cases_lt (again bits r) bits)

-- the lowest bits of a word below 0 give its remainder, which is negated
abbrev Below : (k x : ℕ) → Type 0
Below k x = (below_low (2 ^ (k + 1) - 1) (bit_and (x % 256) (2 ^ (k + 1) - 1)) ≡ turned_size true ((65536 - x) % 2 ^ (k + 1)) % 256)
    × (below_high (2 ^ (k + 1) - 1) (bit_and (x % 256) (2 ^ (k + 1) - 1)) ≡ turned_size true ((65536 - x) % 2 ^ (k + 1)) / 256)

pub below_rest : (k : ℕ) → k < 8 → (x : ℕ) → x < 65536 → 32768 ≤ x → Below k x
below_rest k few x h le = below_eight (λ k. Below k x) one two three four five six seven eight k few
  where
    one : Below 0 x
    one =
        let r = bit_and (x % 256) 1 in let a = and_numeral (x % 256) 0 refl in let b = and_numeral ((r + 1 + 0) % 256) 0 refl in
        (omega (arith, h, le, a, b), high_by 1 r _ (λ lt. omega (arith, h, le, a, b, lt)) (λ g. omega (arith, h, le, a, b, g)))

    two : Below 1 x
    two =
        let r = bit_and (x % 256) 3 in let a = and_numeral (x % 256) 2 refl in let b = and_numeral ((r + 3 + 0) % 256) 2 refl in
        (omega (arith, h, le, a, b), high_by 3 r _ (λ lt. omega (arith, h, le, a, b, lt)) (λ g. omega (arith, h, le, a, b, g)))

    three : Below 2 x
    three =
        let r = bit_and (x % 256) 7 in let a = and_numeral (x % 256) 6 refl in let b = and_numeral ((r + 7 + 0) % 256) 6 refl in
        (omega (arith, h, le, a, b), high_by 7 r _ (λ lt. omega (arith, h, le, a, b, lt)) (λ g. omega (arith, h, le, a, b, g)))

    four : Below 3 x
    four =
        let r = bit_and (x % 256) 15 in let a = and_numeral (x % 256) 14 refl in let b = and_numeral ((r + 15 + 0) % 256) 14 refl in
        (omega (arith, h, le, a, b), high_by 15 r _ (λ lt. omega (arith, h, le, a, b, lt)) (λ g. omega (arith, h, le, a, b, g)))

    five : Below 4 x
    five =
        let r = bit_and (x % 256) 31 in let a = and_numeral (x % 256) 30 refl in let b = and_numeral ((r + 31 + 0) % 256) 30 refl in
        (omega (arith, h, le, a, b), high_by 31 r _ (λ lt. omega (arith, h, le, a, b, lt)) (λ g. omega (arith, h, le, a, b, g)))

    six : Below 5 x
    six =
        let r = bit_and (x % 256) 63 in let a = and_numeral (x % 256) 62 refl in let b = and_numeral ((r + 63 + 0) % 256) 62 refl in
        (omega (arith, h, le, a, b), high_by 63 r _ (λ lt. omega (arith, h, le, a, b, lt)) (λ g. omega (arith, h, le, a, b, g)))

    seven : Below 6 x
    seven =
        let r = bit_and (x % 256) 127 in let a = and_numeral (x % 256) 126 refl in let b = and_numeral ((r + 127 + 0) % 256) 126 refl in
        (omega (arith, h, le, a, b), high_by 127 r _ (λ lt. omega (arith, h, le, a, b, lt)) (λ g. omega (arith, h, le, a, b, g)))

    eight : Below 7 x
    eight =
        let r = bit_and (x % 256) 255 in let a = and_numeral (x % 256) 254 refl in let b = and_numeral ((r + 255 + 0) % 256) 254 refl in
        (omega (arith, h, le, a, b), high_by 255 r _ (λ lt. omega (arith, h, le, a, b, lt)) (λ g. omega (arith, h, le, a, b, g)))

-- ---- addresses
-- an address after one that is known
pub next : (p q k : ℕ) → p ≡ q → q + k < 65536 → (p + k) % 65536 ≡ q + k
next p q k e r = ap (λ p. (p + k) % 65536) e ∙ omega (arith, r)

-- the address after the ten instructions for a word below 0
after_ten : (at : ℕ) → at + 15 ≤ highest_code
    → ((((((((((at + 1) % 65536 + 2) % 65536 + 2) % 65536 + 1) % 65536 + 2) % 65536 + 1) % 65536 + 2) % 65536 + 2) % 65536 + 1) % 65536 + 1) % 65536 ≡ at + 15
after_ten at r =
    let p1 = next at at 1 refl (omega (arith, r)) in let p2 = next _ (at + 1) 2 p1 (omega (arith, r)) in
    let p3 = next _ (at + 1 + 2) 2 p2 (omega (arith, r)) in let p4 = next _ (at + 1 + 2 + 2) 1 p3 (omega (arith, r)) in
    let p5 = next _ (at + 1 + 2 + 2 + 1) 2 p4 (omega (arith, r)) in let p6 = next _ (at + 1 + 2 + 2 + 1 + 2) 1 p5 (omega (arith, r)) in
    let p7 = next _ (at + 1 + 2 + 2 + 1 + 2 + 1) 2 p6 (omega (arith, r)) in let p8 = next _ (at + 1 + 2 + 2 + 1 + 2 + 1 + 2) 2 p7 (omega (arith, r)) in
    let p9 = next _ (at + 1 + 2 + 2 + 1 + 2 + 1 + 2 + 2) 1 p8 (omega (arith, r)) in
    next _ (at + 1 + 2 + 2 + 1 + 2 + 1 + 2 + 2 + 1) 1 p9 (omega (arith, r)) ∙ omega arith

-- ---- pieces
-- with a known A and X, and with N
pub record Both (at a x : ℕ) (bs : List ℕ) (m : ℕ → ℕ) (text answers : List ℕ) (w : View) : Type 0 where
  pub here : Here at bs m text answers w
  pub number : w.regs.a ≡ a
  pub index : w.regs.x ≡ x

pub record Looked (at a x : ℕ) (n : Bool) (bs : List ℕ) (m : ℕ → ℕ) (text answers : List ℕ) (w : View) : Type 0 where
  pub here : Here at bs m text answers w
  pub number : w.regs.a ≡ a
  pub index : w.regs.x ≡ x
  pub negative : w.regs.flags.n ≡ n

module _ (f : Setup) (room : ℕ) (fits : Fits f room) (at : ℕ) (bs : List ℕ) (m : ℕ → ℕ) (text answers : List ℕ) (small : leb (length bs) room ≡ true) where
  -- whatever the other registers and flags
  pub whatever_both : (a x : ℕ) (q : View → Type 0) (t : List ℕ) (l : ℕ) → ((y : ℕ) (n v i z c : Bool) → Comes f (view a x y n v i z c at bs m text answers) q t l)
      → Moves f (Both at a x bs m text answers) q t l
  whatever_both a x q t l h w e =
      known f w at bs text answers q t l e.here.pc e.here.stack e.here.binary e.here.text e.here.answers
      (subst (λ m. Comes f (view w.regs.a w.regs.x w.regs.y w.regs.flags.n w.regs.flags.v w.regs.flags.i w.regs.flags.z w.regs.flags.c at bs m text answers) q t l) (sym e.here.mem)
      (subst (λ x. Comes f (view w.regs.a x w.regs.y w.regs.flags.n w.regs.flags.v w.regs.flags.i w.regs.flags.z w.regs.flags.c at bs m text answers) q t l) (sym e.index)
      (subst (λ a. Comes f (view a x w.regs.y w.regs.flags.n w.regs.flags.v w.regs.flags.i w.regs.flags.z w.regs.flags.c at bs m text answers) q t l) (sym e.number) (h _ _ _ _ _ _))))

  -- the lowest bits of a word go to A, 0 to X, its sign to N
  pub looks_both : (bits p : ℕ) → InData p → at + 10 ≤ highest_code → Stands f.code at (rest_and_sign bits (AtAddress p))
      → Moves f (Here at bs m text answers) (Looked (at + 10) (bit_and (m p) bits) 0 (has_bit (m (p + 1)) 128) bs m text answers) [] 4
  looks_both bits p d r st =
      let s = behind f.code at (ins 0xAD p) (ins 0x29 bits ∷ ins 0xA2 0 ∷ ins 0xAC (p + 1) ∷ []) (omega (arith, r)) st in
      moves_then f _ _ _ [] [] 1 3 (loads_byte f room fits at bs m text answers small (At p) d.0 (omega (arith, r)) st.0)
      (whatever_a f room fits (at + 3) (m p) bs m text answers _ [] 3 (λ x y n v i z c.
      placing f room fits (ins 0x29 bits) (view (m p) x y n v i z c (at + 3) bs m text answers) _ _ [] 2 small s.0 refl
      (placing f room fits (ins 0xA2 0) (view _ x y _ v i _ c ((at + 3 + 2) % 65536) bs m text answers) _ _ [] 1 small s.1.0 refl
      (loads_last f room fits 0xAC (p + 1) Ldy (view _ _ y _ v i _ c (((at + 3 + 2) % 65536 + 2) % 65536) bs m text answers) _ _ refl refl refl small s.1.1.0 d.1 refl
      (record {
        here = record { pc = omega (arith, r); stack = refl; binary = refl; mem = refl; text = refl; answers = refl };
        number = refl;
        index = refl;
        negative = refl;
      })))))

  -- of a word below 0
  pub turns_below : (bits a : ℕ) → at + 15 ≤ highest_code → Stands f.code at (rest_below bits)
      → Moves f (WithA at a bs m text answers) (Both (at + 15) (below_low bits a) (below_high bits a) bs m text answers) [] 10
  turns_below bits a r st = whatever_a f room fits at a bs m text answers _ [] 10 (λ x y n v i z c.
      placing f room fits (ins 0x18 0) (view a x y n v i z c at bs m text answers) _ _ [] 9 small st.0 refl
      (placing f room fits (ins 0x69 bits) (view a x y n v i z false ((at + 1) % 65536) bs m text answers) _ _ [] 8 small st.1.0 refl
      (placing f room fits (ins 0x29 bits) (view _ x y _ _ i _ _ (((at + 1) % 65536 + 2) % 65536) bs m text answers) _ _ [] 7 small st.1.1.0 refl
      (placing f room fits (ins 0x38 0) (view _ x y _ _ i _ _ ((((at + 1) % 65536 + 2) % 65536 + 2) % 65536) bs m text answers) _ _ [] 6 small st.1.1.1.0 refl
      (placing f room fits (ins 0xE9 bits) (view _ x y _ _ i _ true (((((at + 1) % 65536 + 2) % 65536 + 2) % 65536 + 1) % 65536) bs m text answers) _ _ [] 5 small st.1.1.1.1.0 refl
      (placing f room fits (ins 0xA8 0) (view _ x y _ _ i _ _ ((((((at + 1) % 65536 + 2) % 65536 + 2) % 65536 + 1) % 65536 + 2) % 65536) bs m text answers) _ _ [] 4 small
      st.1.1.1.1.1.0 refl
      (placing f room fits (ins 0xA9 0) (view _ x _ _ _ i _ _ (((((((at + 1) % 65536 + 2) % 65536 + 2) % 65536 + 1) % 65536 + 2) % 65536 + 1) % 65536) bs m text answers) _ _ [] 3
      small st.1.1.1.1.1.1.0 refl
      (placing f room fits (ins 0xE9 0) (view _ x _ _ _ i _ _ ((((((((at + 1) % 65536 + 2) % 65536 + 2) % 65536 + 1) % 65536 + 2) % 65536 + 1) % 65536 + 2) % 65536) bs m text answers)
      _ _ [] 2 small st.1.1.1.1.1.1.1.0 refl
      (placing f room fits (ins 0xAA 0) (view _ x _ _ _ i _ _ (((((((((at + 1) % 65536 + 2) % 65536 + 2) % 65536 + 1) % 65536 + 2) % 65536 + 1) % 65536 + 2) % 65536 + 2) % 65536)
      bs m text answers) _ _ [] 1 small st.1.1.1.1.1.1.1.1.0 refl
      (placed_last f room fits (ins 0x98 0) (view _ _ _ _ _ i _ _ ((((((((((at + 1) % 65536 + 2) % 65536 + 2) % 65536 + 1) % 65536 + 2) % 65536 + 1) % 65536 + 2) % 65536 + 2) % 65536 + 1)
      % 65536) bs m text answers) _ _ small st.1.1.1.1.1.1.1.1.1.0 refl
      (record {
        here = record { pc = after_ten at r; stack = refl; binary = refl; mem = refl; text = refl; answers = refl };
        number = refl;
        index = refl;
      })))))))))))

  -- A and X are stored
  pub stores_both : (to a x : ℕ) → InData to → at + 6 ≤ highest_code → Stands f.code at (both_stored to)
      → Moves f (Both at a x bs m text answers) (Here (at + 6) bs (put_word m to a x) text answers) [] 2
  stores_both to a x d r st = whatever_both a x _ [] 2 (λ y n v i z c.
      let u = view a x y n v i z c ((at + 3) % 65536) bs (with_byte m to a) text answers in
      stores f room fits to (view a x y n v i z c at bs m text answers) _ [] 1 small st.0 d.0
      (placed_last f room fits (ins 0x8E (to + 1)) u (record u { regs = advanced u.regs Absolute; mem = with_byte u.mem (to + 1) u.regs.x }) _ small st.1.0
      (stores_at f.code room (ins 0x8E (to + 1)) u Stx Absolute (to + 1) refl refl refl refl refl u.regs.x d.1 refl)
      (record { pc = omega (arith, r); stack = refl; binary = refl; mem = refl; text = refl; answers = refl })))
