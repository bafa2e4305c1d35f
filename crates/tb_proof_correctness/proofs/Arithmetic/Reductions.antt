-- What the code of a remainder by a constant's multiples does: what is left of a word in A and X is its remainder.
use Rattle.std.proofs.Common.{not, ◌≡◌, ℕ, zero, suc, ◌+◌, ◌-◌, ◌*◌, ◌/◌, ◌%◌, ◌^◌, ◌≤◌, ◌<◌, Bool, true, false, List, [], ◌∷◌, ◌++◌, length}
use Rattle.std.proofs.Common.{refl, sym, ap, ◌∙◌, subst, arith, leb, eqb, ⊎_elim, append_assoc}
use Rattle.std.proofs.lemmas.List.{append-nil}
use Rattle.std.specs.Prelude.{if◌then◌else◌, nat_le, nat_lt, bit_xor}
use Rattle.std.proofs.lemmas.Bool.{cases_eq, cases_lt, eq-eqb, le-leb, le-ltb, lt-leb, lt-ltb, ltb-false, ltb-true, ne_eqb}
use Rattle.std.proofs.lemmas.Nat.{div-add-mod', mod_below, mod-mul-add, xor_block}
use Rattle.std.proofs.Math.Nat.{mod-eq_of_lt, mod-le, mul-add-mod_self_right}
use Rattle.tb_words.specs.Words.{is_negative, magnitude}
use Rattle.tb_cpu.specs.Effects.{bit, has_bit}
use Rattle.tb_opcodes.specs.declared.Mnemonic.TheVariants.{Ldx, Ldy}
use Rattle.tb_machine_reaching.proofs.Comes.{known, looser}
use Rattle.tb_machine_reaching.proofs.Instr.{Instr, Stands, ins, instr_bytes}
use Rattle.tb_machine_reaching.proofs.Placed.{placed_last, placing}
use Rattle.tb_machine_reaching.specs.View.{Bytes, Comes, Fits, Setup, View, is_data, view}
use Rattle.tb_runtime16.specs.Routines.{Here, Moves}
use Rattle.tb_proof_simulation.proofs.Pieces.{InData, loads, loads_last, moves_looser, moves_then, put_word, whatever_a}
use Rattle.tb_proof_simulation.proofs.Resolved.{highest_code, size}
use Rattle.tb_compiler_templates.specs.declared.sources.Source.TheVariants.{AtAddress}
use Rattle.tb_compiler_templates.proofs.Multiples.{six_on, some_power, twice}
use Rattle.tb_proof_correctness.proofs.Arithmetic.MaskedRests.{Both, next, stores_both, whatever_both}
use Rattle.tb_proof_correctness.proofs.Arithmetic.Remainders.{turned_size}
use Rattle.tb_proof_correctness.proofs.CodeBytes.GroupCode.{both_loaded, both_stored, byte_round, high_compared, low_compared, negated, reduced, round, rounds, sign_tested, taken_away}
use Rattle.tb_proof_correctness.proofs.Pieces.Sources.{At, loads_byte}
use Rattle.tb_proof_correctness.proofs.Pieces.ShiftSteps.{size_append, stands_split}

-- ---- numbers
last_bit : (b : ℕ) → b < 2 → bit_xor b 1 + b ≡ 1
last_bit zero h = refl
last_bit (suc zero) h = refl
last_bit (suc (suc b)) h = absurd (omega (arith, h))

-- the lowest n bits, turned
bits_turned : (n a : ℕ) → a < 2 ^ n → bit_xor a (2 ^ n - 1) + a ≡ 2 ^ n - 1
bits_turned zero a h = let z : a ≡ 0 = omega (arith, h) in ap (λ a. bit_xor a 0 + a) z
bits_turned (suc n) a h =
    let p : 2 ^ suc n ≡ 2 * 2 ^ n = omega arith in
    let some = some_power n in
    let half = bits_turned n (a / 2) (omega (arith, h, p)) in
    let low = last_bit (a % 2) (omega arith) in
    let whole : a / 2 * 2 ^ 1 + a % 2 ≡ a = omega arith in
    let ones : (2 ^ n - 1) * 2 ^ 1 + 1 ≡ 2 ^ suc n - 1 = omega (arith, p, some) in
    let parts = xor_block 1 (a / 2) (2 ^ n - 1) (a % 2) 1 (omega arith) (omega arith) in
    let e : bit_xor a (2 ^ suc n - 1) ≡ bit_xor (a / 2) (2 ^ n - 1) * 2 ^ 1 + bit_xor (a % 2) 1 = (λ i. bit_xor (sym whole i) (sym ones i)) ∙ parts in
    omega (arith, e, half, low, p, some)

-- all bits of a byte, turned
byte_turned : (a : ℕ) → a < 256 → bit_xor a 255 + a ≡ 255
byte_turned a h = bits_turned 8 a (omega (arith, h))

-- what is left of a number below twice a divisor
one_left : (k v : ℕ) → k ≤ v → v < 2 * k → v % k ≡ v - k
one_left k v le lt =
    let rest : v - k < k = omega (arith, le, lt) in
    let whole : 1 * k + (v - k) ≡ v = omega (arith, le) in
    ap (λ v. v % k) (sym whole) ∙ mod-mul-add 1 k (v - k) rest

-- what is left by twice a divisor leaves the same by the divisor
left_again : (k v : ℕ) → v % (2 * k) % k ≡ v % k
left_again k v =
    let whole = div-add-mod' v (2 * k) in
    let turn : v / (2 * k) * (2 * k) ≡ v / (2 * k) * 2 * k = grind arith in
    sym (ap (λ v. v % k) (sym whole ∙ ap (λ q. q + v % (2 * k)) turn) ∙ mul-add-mod_self_right (v / (2 * k) * 2) k (v % (2 * k)))

-- the word less another one, in two bytes
record Less (k v a x : ℕ) : Type 0 where
  low : a ≡ (v - k) % 256
  high : x ≡ (v - k) / 256

less_bytes : (k v : ℕ) → k ≤ v → v < 65536 → Less k v ((v % 256 + 256 - (k % 256 + 0)) % 256) ((v / 256 + 256 - (k / 256 + bit (not (nat_le (k % 256 + 0) (v % 256))))) % 256)
less_bytes k v le small = ⊎_elim
    (λ lt. record {
      low = omega (arith, le, small, lt);
      high = ap (λ t. (v / 256 + 256 - (k / 256 + bit (not t))) % 256) (lt-leb (k % 256 + 0) (v % 256) lt) ∙ omega (arith, le, small, lt);
    })
    (λ g. record {
      low = omega (arith, le, small, g);
      high = ap (λ t. (v / 256 + 256 - (k / 256 + bit (not t))) % 256) (le-leb (k % 256 + 0) (v % 256) g) ∙ omega (arith, le, small, g);
    })
    (cases_lt (v % 256) (k % 256 + 0))

-- ---- addresses
after_six : (at : ℕ) → at + 8 ≤ highest_code → ((((((at + 2) % 65536 + 1) % 65536 + 1) % 65536 + 2) % 65536 + 1) % 65536 + 1) % 65536 ≡ at + 8
after_six at r =
    let p1 = next at at 2 refl (omega (arith, r)) in let p2 = next _ (at + 2) 1 p1 (omega (arith, r)) in
    let p3 = next _ (at + 2 + 1) 1 p2 (omega (arith, r)) in let p4 = next _ (at + 2 + 1 + 1) 2 p3 (omega (arith, r)) in
    let p5 = next _ (at + 2 + 1 + 1 + 2) 1 p4 (omega (arith, r)) in
    next _ (at + 2 + 1 + 1 + 2 + 1) 1 p5 (omega (arith, r)) ∙ omega arith

after_nine : (at : ℕ) → at + 13 ≤ highest_code
    → (((((((((at + 2) % 65536 + 1) % 65536 + 2) % 65536 + 1) % 65536 + 1) % 65536 + 2) % 65536 + 2) % 65536 + 1) % 65536 + 1) % 65536 ≡ at + 13
after_nine at r =
    let p1 = next at at 2 refl (omega (arith, r)) in let p2 = next _ (at + 2) 1 p1 (omega (arith, r)) in
    let p3 = next _ (at + 2 + 1) 2 p2 (omega (arith, r)) in let p4 = next _ (at + 2 + 1 + 2) 1 p3 (omega (arith, r)) in
    let p5 = next _ (at + 2 + 1 + 2 + 1) 1 p4 (omega (arith, r)) in let p6 = next _ (at + 2 + 1 + 2 + 1 + 1) 2 p5 (omega (arith, r)) in
    let p7 = next _ (at + 2 + 1 + 2 + 1 + 1 + 2) 2 p6 (omega (arith, r)) in let p8 = next _ (at + 2 + 1 + 2 + 1 + 1 + 2 + 2) 1 p7 (omega (arith, r)) in
    next _ (at + 2 + 1 + 2 + 1 + 1 + 2 + 2 + 1) 1 p8 (omega (arith, r)) ∙ omega arith

-- ---- sizes
-- a round for a multiple from 128 on takes 18 bytes
wide_round : (k : ℕ) → 128 ≤ k → size (round k) ≡ 18
wide_round k h = ap (λ t. size (if t then byte_round k else high_compared k ++ (low_compared k ++ taken_away k))) (le-ltb k 128 h)

-- six of them
six_rounds : (k : ℕ) → 512 < k → size (rounds 6 k) ≡ 108
six_rounds k h = rounds_wide 6 k (omega (arith, h))
  where
    rounds_wide : (n k : ℕ) → 128 ≤ k → size (rounds n k) ≡ 18 * n
    rounds_wide zero k h = refl
    rounds_wide (suc n) k h =
        let e = size_append (rounds n (2 * k)) (round k) in let a = rounds_wide n (2 * k) (omega (arith, h)) in let b = wide_round k h in omega (arith, e, a, b)

-- where the code of a remainder ends
pub reduced_end : (p to j d : ℕ) → size (reduced j d (AtAddress p) to) ≡ 23 + (size (rounds (j + 6) d) + 24)
reduced_end p to j d = let e = size_append (rounds (j + 6) d) (sign_tested (AtAddress p) ++ (negated ++ both_stored to)) in omega (arith, e)

-- ---- rounds
module _ (f : Setup) (room : ℕ) (fits : Fits f room) (bs : List ℕ) (m : ℕ → ℕ) (text answers : List ℕ) (small : leb (length bs) room ≡ true) where
  -- a word in A and X
  abbrev pub Held : (at v : ℕ) → View → Type 0
  Held at v = Both at (v % 256) (v / 256) bs m text answers

  -- A and X, with C set
  record Ready (at a x : ℕ) (w : View) : Type 0 where
    here : Here at bs m text answers w
    number : w.regs.a ≡ a
    index : w.regs.x ≡ x
    carry : w.regs.flags.c ≡ true

  whatever_ready : (at a x : ℕ) (q : View → Type 0) (l : ℕ) → ((y : ℕ) (n v i z : Bool) → Comes f (view a x y n v i z true at bs m text answers) q [] l)
      → Moves f (Ready at a x) q [] l
  whatever_ready at a x q l h w e =
      known f w at bs text answers q [] l e.here.pc e.here.stack e.here.binary e.here.text e.here.answers
      (subst (λ m. Comes f (view w.regs.a w.regs.x w.regs.y w.regs.flags.n w.regs.flags.v w.regs.flags.i w.regs.flags.z w.regs.flags.c at bs m text answers) q [] l) (sym e.here.mem)
      (subst (λ c. Comes f (view w.regs.a w.regs.x w.regs.y w.regs.flags.n w.regs.flags.v w.regs.flags.i w.regs.flags.z c at bs m text answers) q [] l) (sym e.carry)
      (subst (λ x. Comes f (view w.regs.a x w.regs.y w.regs.flags.n w.regs.flags.v w.regs.flags.i w.regs.flags.z true at bs m text answers) q [] l) (sym e.index)
      (subst (λ a. Comes f (view a x w.regs.y w.regs.flags.n w.regs.flags.v w.regs.flags.i w.regs.flags.z true at bs m text answers) q [] l) (sym e.number) (h _ _ _ _ _)))))

  -- a round for a byte
  byte_less : (k v at : ℕ) → k < 128 → v < 2 * k → at + 6 ≤ highest_code → Stands f.code at (byte_round k)
      → Moves f (Both at v 0 bs m text answers) (Both (at + 6) (v % k) 0 bs m text answers) [] 3
  byte_less k v at low less r st = whatever_both f room fits at bs m text answers small v 0 _ [] 3 (λ y n o i z c. ⊎_elim
      (λ lt. let t : nat_le k v ≡ false = lt-leb k v lt in
      looser f _ _ _ [] 2 3 (omega arith) (λ w h. h)
      (placing f room fits (ins 0xC9 k) (view v 0 y n o i z c at bs m text answers) _ _ [] 1 small st.0 refl
      (rw t (placed_last f room fits (ins 0x90 2) (view v 0 y _ o i _ false ((at + 2) % 65536) bs m text answers) _ _ small st.1.0 refl
      (record {
        here = record { pc = omega (arith, r); stack = refl; binary = refl; mem = refl; text = refl; answers = refl };
        number = sym (mod-eq_of_lt lt);
        index = refl;
      })))))
      (λ le. let t : nat_le k v ≡ true = le-leb k v le in
      placing f room fits (ins 0xC9 k) (view v 0 y n o i z c at bs m text answers) _ _ [] 2 small st.0 refl
      (rw t (placing f room fits (ins 0x90 2) (view v 0 y _ o i _ true ((at + 2) % 65536) bs m text answers) _ _ [] 1 small st.1.0 refl
      (placed_last f room fits (ins 0xE9 k) (view v 0 y _ o i _ true (((at + 2) % 65536 + 2) % 65536) bs m text answers) _ _ small st.1.1.0 refl
      (record {
        here = record { pc = omega (arith, r); stack = refl; binary = refl; mem = refl; text = refl; answers = refl };
        number = let e : (v + 256 - (k + 0)) % 256 ≡ v - k = omega (arith, le, less, low) in e ∙ sym (one_left k v le less);
        index = refl;
      })))))
      (cases_lt v k))

  -- the high bytes are compared: a lower one goes past the round, a higher one to the difference
  high_below : (k a x at : ℕ) → x < k / 256 → at + 18 ≤ highest_code → Stands f.code at (high_compared k)
      → Moves f (Both at a x bs m text answers) (Both (at + 18) a x bs m text answers) [] 2
  high_below k a x at lt r st = whatever_both f room fits at bs m text answers small a x _ [] 2 (λ y n o i z c.
      let t : nat_le (k / 256) x ≡ false = lt-leb (k / 256) x lt in
      placing f room fits (ins 0xE0 (k / 256)) (view a x y n o i z c at bs m text answers) _ _ [] 1 small st.0 refl
      (rw t (placed_last f room fits (ins 0x90 14) (view a x y _ o i _ false ((at + 2) % 65536) bs m text answers) _ _ small st.1.0 refl
      (record {
        here = record { pc = omega (arith, r); stack = refl; binary = refl; mem = refl; text = refl; answers = refl };
        number = refl;
        index = refl;
      }))))

  high_same : (k a x at : ℕ) → x ≡ k / 256 → at + 18 ≤ highest_code → Stands f.code at (high_compared k)
      → Moves f (Both at a x bs m text answers) (Both (at + 6) a x bs m text answers) [] 3
  high_same k a x at e r st = whatever_both f room fits at bs m text answers small a x _ [] 3 (λ y n o i z c.
      let t : nat_le (k / 256) x ≡ true = le-leb (k / 256) x (omega (arith, e)) in
      let none : eqb ((x + 256 - k / 256) % 256) 0 ≡ true = eq-eqb _ _ (omega (arith, e)) in
      placing f room fits (ins 0xE0 (k / 256)) (view a x y n o i z c at bs m text answers) _ _ [] 2 small st.0 refl
      (rw t (rw none (placing f room fits (ins 0x90 14) (view a x y _ o i true true ((at + 2) % 65536) bs m text answers) _ _ [] 1 small st.1.0 refl
      (placed_last f room fits (ins 0xD0 4) (view a x y _ o i true true (((at + 2) % 65536 + 2) % 65536) bs m text answers) _ _ small st.1.1.0 refl
      (record {
        here = record { pc = omega (arith, r); stack = refl; binary = refl; mem = refl; text = refl; answers = refl };
        number = refl;
        index = refl;
      }))))))

  high_above : (k a x at : ℕ) → k / 256 < x → x < 256 → at + 18 ≤ highest_code → Stands f.code at (high_compared k)
      → Moves f (Both at a x bs m text answers) (Ready (at + 10) a x) [] 3
  high_above k a x at lt byte r st = whatever_both f room fits at bs m text answers small a x _ [] 3 (λ y n o i z c.
      let t : nat_le (k / 256) x ≡ true = le-leb (k / 256) x (omega (arith, lt)) in
      let some : eqb ((x + 256 - k / 256) % 256) 0 ≡ false = ne_eqb _ _ (λ e. omega (arith, e, lt, byte)) in
      placing f room fits (ins 0xE0 (k / 256)) (view a x y n o i z c at bs m text answers) _ _ [] 2 small st.0 refl
      (rw t (rw some (placing f room fits (ins 0x90 14) (view a x y _ o i false true ((at + 2) % 65536) bs m text answers) _ _ [] 1 small st.1.0 refl
      (placed_last f room fits (ins 0xD0 4) (view a x y _ o i false true (((at + 2) % 65536 + 2) % 65536) bs m text answers) _ _ small st.1.1.0 refl
      (record {
        here = record { pc = omega (arith, r); stack = refl; binary = refl; mem = refl; text = refl; answers = refl };
        number = refl;
        index = refl;
        carry = refl;
      }))))))

  -- the low bytes are compared: a lower one goes past the round
  low_below : (k a x at : ℕ) → a < k % 256 → at + 12 ≤ highest_code → Stands f.code at (low_compared k)
      → Moves f (Both at a x bs m text answers) (Both (at + 12) a x bs m text answers) [] 2
  low_below k a x at lt r st = whatever_both f room fits at bs m text answers small a x _ [] 2 (λ y n o i z c.
      let t : nat_le (k % 256) a ≡ false = lt-leb (k % 256) a lt in
      placing f room fits (ins 0xC9 (k % 256)) (view a x y n o i z c at bs m text answers) _ _ [] 1 small st.0 refl
      (rw t (placed_last f room fits (ins 0x90 8) (view a x y _ o i _ false ((at + 2) % 65536) bs m text answers) _ _ small st.1.0 refl
      (record {
        here = record { pc = omega (arith, r); stack = refl; binary = refl; mem = refl; text = refl; answers = refl };
        number = refl;
        index = refl;
      }))))

  low_reached : (k a x at : ℕ) → k % 256 ≤ a → at + 12 ≤ highest_code → Stands f.code at (low_compared k)
      → Moves f (Both at a x bs m text answers) (Ready (at + 4) a x) [] 2
  low_reached k a x at le r st = whatever_both f room fits at bs m text answers small a x _ [] 2 (λ y n o i z c.
      let t : nat_le (k % 256) a ≡ true = le-leb (k % 256) a le in
      placing f room fits (ins 0xC9 (k % 256)) (view a x y n o i z c at bs m text answers) _ _ [] 1 small st.0 refl
      (rw t (placed_last f room fits (ins 0x90 8) (view a x y _ o i _ true ((at + 2) % 65536) bs m text answers) _ _ small st.1.0 refl
      (record {
        here = record { pc = omega (arith, r); stack = refl; binary = refl; mem = refl; text = refl; answers = refl };
        number = refl;
        index = refl;
        carry = refl;
      }))))

  -- a multiple is taken away
  takes : (k a x at : ℕ) → at + 8 ≤ highest_code → Stands f.code at (taken_away k)
      → Moves f (Ready at a x) (Both (at + 8) ((a + 256 - (k % 256 + 0)) % 256) ((x + 256 - (k / 256 + bit (not (nat_le (k % 256 + 0) a)))) % 256) bs m text answers) [] 6
  takes k a x at r st = whatever_ready at a x _ 6 (λ y n o i z.
      placing f room fits (ins 0xE9 (k % 256)) (view a x y n o i z true at bs m text answers) _ _ [] 5 small st.0 refl
      (placing f room fits (ins 0xA8 0) (view _ x y _ _ i _ _ ((at + 2) % 65536) bs m text answers) _ _ [] 4 small st.1.0 refl
      (placing f room fits (ins 0x8A 0) (view _ x _ _ _ i _ _ (((at + 2) % 65536 + 1) % 65536) bs m text answers) _ _ [] 3 small st.1.1.0 refl
      (placing f room fits (ins 0xE9 (k / 256)) (view _ x _ _ _ i _ _ ((((at + 2) % 65536 + 1) % 65536 + 1) % 65536) bs m text answers) _ _ [] 2 small st.1.1.1.0 refl
      (placing f room fits (ins 0xAA 0) (view _ x _ _ _ i _ _ (((((at + 2) % 65536 + 1) % 65536 + 1) % 65536 + 2) % 65536) bs m text answers) _ _ [] 1 small st.1.1.1.1.0 refl
      (placed_last f room fits (ins 0x98 0) (view _ _ _ _ _ i _ _ ((((((at + 2) % 65536 + 1) % 65536 + 1) % 65536 + 2) % 65536 + 1) % 65536) bs m text answers) _ _ small
      st.1.1.1.1.1.0 refl
      (record {
        here = record { pc = after_six at r; stack = refl; binary = refl; mem = refl; text = refl; answers = refl };
        number = refl;
        index = refl;
      })))))))

  -- a round for a word
  module _ (k v at : ℕ) (some : 1 ≤ k) (less : v < 2 * k) (word : v < 65536) (r : at + 18 ≤ highest_code) (st : Stands f.code at (high_compared k ++ (low_compared k ++ taken_away k))) where
    first : Stands f.code at (high_compared k) × Stands f.code (at + 6) (low_compared k ++ taken_away k)
    first = stands_split f.code at (high_compared k) (low_compared k ++ taken_away k) (omega (arith, r)) st

    second : Stands f.code (at + 6) (low_compared k) × Stands f.code (at + 10) (taken_away k)
    second =
        let s = stands_split f.code (at + 6) (low_compared k) (taken_away k) (omega (arith, r)) first.1 in
        (s.0, subst (λ p. Stands f.code p (taken_away k)) (let e : at + 6 + 4 ≡ at + 10 = omega arith in e) s.1)

    -- it is below the multiple
    stays : v < k → (w : View) → Both (at + 18) (v % 256) (v / 256) bs m text answers w → Held (at + 18) (v % k) w
    stays lt w h = subst (λ v. Held (at + 18) v w) (sym (mod-eq_of_lt lt)) h

    -- it is not
    goes : k ≤ v → Moves f (Ready (at + 10) (v % 256) (v / 256)) (Held (at + 18) (v % k)) [] 6
    goes le =
        let b = less_bytes k v le word in
        let e = sym (one_left k v le less) in
        moves_looser f _ _ _ [] 6 6 (omega arith)
        (λ w h. record {
          here = subst (λ p. Here p bs m text answers w) (let q : at + 10 + 8 ≡ at + 18 = omega arith in q) h.here;
          number = h.number ∙ b.low ∙ ap (λ v. v % 256) e;
          index = h.index ∙ b.high ∙ ap (λ v. v / 256) e;
        })
        (takes k (v % 256) (v / 256) (at + 10) (omega (arith, r)) second.1)

    -- the high bytes are the same
    by_low : v / 256 ≡ k / 256 → Moves f (Both (at + 6) (v % 256) (v / 256) bs m text answers) (Held (at + 18) (v % k)) [] 8
    by_low same = ⊎_elim
        (λ lt. moves_looser f _ _ _ [] 2 8 (omega arith)
        (λ w h. stays (omega (arith, same, lt)) w (record {
          here = subst (λ p. Here p bs m text answers w) (let q : at + 6 + 12 ≡ at + 18 = omega arith in q) h.here;
          number = h.number;
          index = h.index;
        }))
        (low_below k (v % 256) (v / 256) (at + 6) lt (omega (arith, r)) second.0))
        (λ le. moves_then f _ _ _ [] [] 2 6
        (moves_looser f _ _ _ [] 2 2 (omega arith)
        (λ w h. record {
          here = subst (λ p. Here p bs m text answers w) (let q : at + 6 + 4 ≡ at + 10 = omega arith in q) h.here;
          number = h.number;
          index = h.index;
          carry = h.carry;
        })
        (low_reached k (v % 256) (v / 256) (at + 6) le (omega (arith, r)) second.0))
        (goes (omega (arith, same, le))))
        (cases_lt (v % 256) (k % 256))

    word_less : Moves f (Held at v) (Held (at + 18) (v % k)) [] 11
    word_less = ⊎_elim
        (λ lt. moves_looser f _ _ _ [] 2 11 (omega arith) (λ w h. stays (omega (arith, lt)) w h) (high_below k (v % 256) (v / 256) at lt r first.0))
        (λ le. ⊎_elim
        (λ same. moves_then f _ _ _ [] [] 3 8 (high_same k (v % 256) (v / 256) at same r first.0) (by_low same))
        (λ apart. moves_looser f _ _ _ [] 9 11 (omega arith) (λ w h. h)
        (moves_then f _ _ _ [] [] 3 6 (high_above k (v % 256) (v / 256) at (omega (arith, le, apart)) (omega (arith, word)) r first.0) (goes (omega (arith, le, apart)))))
        (cases_eq (v / 256) (k / 256)))
        (cases_lt (v / 256) (k / 256))

  -- a round leaves what the multiple leaves
  round_leaves : (k v at : ℕ) → 1 ≤ k → v < 2 * k → v < 65536 → at + size (round k) ≤ highest_code → Stands f.code at (round k)
      → Moves f (Held at v) (Held (at + size (round k)) (v % k)) [] 11
  round_leaves k v at some less word = by (nat_lt k 128) refl
    where
      by : (t : Bool) → nat_lt k 128 ≡ t → at + size (if t then byte_round k else high_compared k ++ (low_compared k ++ taken_away k)) ≤ highest_code
          → Stands f.code at (if t then byte_round k else high_compared k ++ (low_compared k ++ taken_away k))
          → Moves f (Held at v) (Held (at + size (if t then byte_round k else high_compared k ++ (low_compared k ++ taken_away k))) (v % k)) [] 11
      by true e r st =
          let low = ltb-true k 128 e in
          let rest = mod_below v k some in
          let byte : v % 256 ≡ v = omega (arith, less, low) in
          let none : v / 256 ≡ 0 = omega (arith, less, low) in
          moves_looser f _ _ _ [] 3 11 (omega arith)
          (λ w h. record {
            here = h.here;
            number = h.number ∙ (let q : v % k ≡ v % k % 256 = omega (arith, rest, low) in q);
            index = h.index ∙ (let q : 0 ≡ v % k / 256 = omega (arith, rest, low) in q);
          })
          (λ w h. byte_less k v at low less r st w (record { here = h.here; number = h.number ∙ byte; index = h.index ∙ none }))
      by false e r st = word_less k v at some less word r st

  -- rounds leave what the last one's multiple leaves, and then a law
  pub rounds_leave : (n k v at : ℕ) → 1 ≤ k → v < k * 2 ^ n → v < 65536 → at + size (rounds n k) ≤ highest_code → Stands f.code at (rounds n k) → (q : View → Type 0)
      (l : ℕ) → Moves f (Held (at + size (rounds n k)) (v % k)) q [] l → Moves f (Held at v) q [] (11 * n + l)
  rounds_leave zero k v at some less word r st q l law =
      let same : v % k ≡ v = mod-eq_of_lt (omega (arith, less)) in
      let here : at + 0 ≡ at = omega arith in
      moves_looser f _ _ _ [] l (11 * 0 + l) (omega arith) (λ w h. h) (subst (λ p. Moves f (Held p v) q [] l) here (subst (λ v. Moves f (Held (at + 0) v) q [] l) same law))
  rounds_leave (suc n) k v at some less word r st q l law =
      let both = size_append (rounds n (2 * k)) (round k) in
      let parts = stands_split f.code at (rounds n (2 * k)) (round k) (omega (arith, r, both)) st in
      let twofold = mod_below v (2 * k) (omega (arith, some)) in
      let left = mod-le v (2 * k) in
      let end : at + size (rounds n (2 * k)) + size (round k) ≡ at + size (rounds (suc n) k) = omega (arith, both) in
      moves_looser f _ _ _ [] (11 * n + (11 + l)) (11 * suc n + l) (omega arith) (λ w h. h)
      (rounds_leave n (2 * k) v at (omega (arith, some)) (subst (λ q. v < q) (sym (twice k n)) less) word (omega (arith, r, both)) parts.0 q (11 + l)
      (moves_then f _ _ _ [] [] 11 l
      (round_leaves k (v % (2 * k)) (at + size (rounds n (2 * k))) some twofold (omega (arith, word, left)) (omega (arith, r, both)) parts.1)
      (subst (λ p. Moves f (Held p (v % (2 * k) % k)) q [] l) (sym end) (subst (λ v. Moves f (Held (at + size (rounds (suc n) k)) v) q [] l) (sym (left_again k v)) law))))

  -- six rounds, and the others
  pub rounds_parted : (n k : ℕ) → rounds (n + 6) k ≡ rounds 6 (k * 2 ^ n) ++ rounds n k
  rounds_parted zero k = let e : k * 2 ^ 0 ≡ k = omega arith in ap (λ j. rounds 6 j) (sym e) ∙ sym (append-nil (rounds 6 (k * 2 ^ 0)))
  rounds_parted (suc n) k =
      let e : suc n + 6 ≡ suc (n + 6) = omega arith in
      ap (λ j. rounds j k) e
      ∙ ap (λ is. is ++ round k) (rounds_parted n (2 * k))
      ∙ append_assoc (rounds 6 (2 * k * 2 ^ n)) (rounds n (2 * k)) (round k)
      ∙ ap (λ j. rounds 6 j ++ rounds (suc n) k) (twice k n)

  -- ---- the sign
  -- the word in A and X is negated
  pub negates : (v at : ℕ) → v < 65536 → at + 13 ≤ highest_code → Stands f.code at negated → Moves f (Held at v) (Held (at + 13) ((65536 - v) % 65536)) [] 9
  negates v at word r st =
      let low = byte_turned (v % 256) (omega arith) in
      let high = byte_turned (v / 256) (omega (arith, word)) in
      let a = bit_xor (v % 256) 255 in
      let x = bit_xor (v / 256) 255 in
      whatever_both f room fits at bs m text answers small (v % 256) (v / 256) _ [] 9 (λ y n o i z c.
      placing f room fits (ins 0x49 255) (view (v % 256) (v / 256) y n o i z c at bs m text answers) _ _ [] 8 small st.0 refl
      (placing f room fits (ins 0x18 0) (view a (v / 256) y _ o i _ c ((at + 2) % 65536) bs m text answers) _ _ [] 7 small st.1.0 refl
      (placing f room fits (ins 0x69 1) (view a (v / 256) y _ o i _ false (((at + 2) % 65536 + 1) % 65536) bs m text answers) _ _ [] 6 small st.1.1.0 refl
      (placing f room fits (ins 0xA8 0) (view _ (v / 256) y _ _ i _ _ ((((at + 2) % 65536 + 1) % 65536 + 2) % 65536) bs m text answers) _ _ [] 5 small st.1.1.1.0 refl
      (placing f room fits (ins 0x8A 0) (view _ (v / 256) _ _ _ i _ _ (((((at + 2) % 65536 + 1) % 65536 + 2) % 65536 + 1) % 65536) bs m text answers) _ _ [] 4 small st.1.1.1.1.0 refl
      (placing f room fits (ins 0x49 255) (view _ (v / 256) _ _ _ i _ _ ((((((at + 2) % 65536 + 1) % 65536 + 2) % 65536 + 1) % 65536 + 1) % 65536) bs m text answers) _ _ [] 3 small
      st.1.1.1.1.1.0 refl
      (placing f room fits (ins 0x69 0) (view x (v / 256) _ _ _ i _ _ (((((((at + 2) % 65536 + 1) % 65536 + 2) % 65536 + 1) % 65536 + 1) % 65536 + 2) % 65536) bs m text answers) _ _ [] 2
      small st.1.1.1.1.1.1.0 refl
      (placing f room fits (ins 0xAA 0) (view _ (v / 256) _ _ _ i _ _ ((((((((at + 2) % 65536 + 1) % 65536 + 2) % 65536 + 1) % 65536 + 1) % 65536 + 2) % 65536 + 2) % 65536) bs m text answers)
      _ _ [] 1 small st.1.1.1.1.1.1.1.0 refl
      (placed_last f room fits (ins 0x98 0) (view _ _ _ _ _ i _ _ (((((((((at + 2) % 65536 + 1) % 65536 + 2) % 65536 + 1) % 65536 + 1) % 65536 + 2) % 65536 + 2) % 65536 + 1) % 65536)
      bs m text answers) _ _ small st.1.1.1.1.1.1.1.1.0 refl
      (record {
        here = record { pc = after_nine at r; stack = refl; binary = refl; mem = refl; text = refl; answers = refl };
        number = let e : (a + 1 + 0) % 256 ≡ (65536 - v) % 65536 % 256 = omega (arith, low, word) in e;
        index = ⊎_elim
            (λ lt. ap (λ t. (x + 0 + bit t) % 256) (lt-ltb 255 (a + 1 + 0) lt) ∙ omega (arith, low, high, word, lt))
            (λ le. ap (λ t. (x + 0 + bit t) % 256) (le-ltb 255 (a + 1 + 0) le) ∙ omega (arith, low, high, word, le))
            (cases_lt 255 (a + 1 + 0));
      }))))))))))

  -- ---- a word is loaded, and its sign looked at
  -- with a known A and X, and what a load tells
  record Loaded (at a x : ℕ) (z n : Bool) (w : View) : Type 0 where
    here : Here at bs m text answers w
    number : w.regs.a ≡ a
    index : w.regs.x ≡ x
    zero : w.regs.flags.z ≡ z
    negative : w.regs.flags.n ≡ n

  whatever_loaded : (at a x : ℕ) (z n : Bool) (q : View → Type 0) (l : ℕ) → ((y : ℕ) (o i c : Bool) → Comes f (view a x y n o i z c at bs m text answers) q [] l)
      → Moves f (Loaded at a x z n) q [] l
  whatever_loaded at a x z n q l h w e =
      known f w at bs text answers q [] l e.here.pc e.here.stack e.here.binary e.here.text e.here.answers
      (subst (λ m. Comes f (view w.regs.a w.regs.x w.regs.y w.regs.flags.n w.regs.flags.v w.regs.flags.i w.regs.flags.z w.regs.flags.c at bs m text answers) q [] l) (sym e.here.mem)
      (subst (λ n. Comes f (view w.regs.a w.regs.x w.regs.y n w.regs.flags.v w.regs.flags.i w.regs.flags.z w.regs.flags.c at bs m text answers) q [] l) (sym e.negative)
      (subst (λ z. Comes f (view w.regs.a w.regs.x w.regs.y n w.regs.flags.v w.regs.flags.i z w.regs.flags.c at bs m text answers) q [] l) (sym e.zero)
      (subst (λ x. Comes f (view w.regs.a x w.regs.y n w.regs.flags.v w.regs.flags.i z w.regs.flags.c at bs m text answers) q [] l) (sym e.index)
      (subst (λ a. Comes f (view a x w.regs.y n w.regs.flags.v w.regs.flags.i z w.regs.flags.c at bs m text answers) q [] l) (sym e.number) (h _ _ _ _))))))

  loads_both : (p at : ℕ) → InData p → at + 6 ≤ highest_code → Stands f.code at (ins 0xAD p ∷ ins 0xAE (p + 1) ∷ [])
      → Moves f (Here at bs m text answers) (Loaded (at + 6) (m p) (m (p + 1)) (eqb (m (p + 1)) 0) (has_bit (m (p + 1)) 128)) [] 2
  loads_both p at d r st =
      moves_then f _ _ _ [] [] 1 1 (loads_byte f room fits at bs m text answers small (At p) d.0 (omega (arith, r)) st.0)
      (whatever_a f room fits (at + 3) (m p) bs m text answers _ [] 1 (λ x y n o i z c.
      loads_last f room fits 0xAE (p + 1) Ldx (view (m p) x y n o i z c (at + 3) bs m text answers) _ _ refl refl refl small
      (subst (λ q. Bytes f.code q (instr_bytes (ins 0xAE (p + 1)))) (let e : (at + 3) % 65536 ≡ at + 3 = omega (arith, r) in e) st.1.0) d.1 refl
      (record {
        here = record { pc = omega (arith, r); stack = refl; binary = refl; mem = refl; text = refl; answers = refl };
        number = refl;
        index = refl;
        zero = refl;
        negative = refl;
      })))

  -- a byte goes past six rounds
  past : (a x at : ℕ) (n : Bool) → at + 125 ≤ highest_code → Stands f.code at (ins 0xF0 123 ∷ ins 0x10 13 ∷ [])
      → Moves f (Loaded at a x true n) (Both (at + 125) a x bs m text answers) [] 1
  past a x at n r st = whatever_loaded at a x true n _ 1 (λ y o i c.
      placed_last f room fits (ins 0xF0 123) (view a x y n o i true c at bs m text answers) _ _ small st.0 refl
      (record { here = record { pc = omega (arith, r); stack = refl; binary = refl; mem = refl; text = refl; answers = refl }; number = refl; index = refl }))

  -- a word from 256 to 32767 goes to the rounds
  above : (a x at : ℕ) → at + 17 ≤ highest_code → Stands f.code at (ins 0xF0 123 ∷ ins 0x10 13 ∷ [])
      → Moves f (Loaded at a x false false) (Both (at + 17) a x bs m text answers) [] 2
  above a x at r st = whatever_loaded at a x false false _ 2 (λ y o i c.
      placing f room fits (ins 0xF0 123) (view a x y false o i false c at bs m text answers) _ _ [] 1 small st.0 refl
      (placed_last f room fits (ins 0x10 13) (view a x y false o i false c ((at + 2) % 65536) bs m text answers) _ _ small st.1.0 refl
      (record { here = record { pc = omega (arith, r); stack = refl; binary = refl; mem = refl; text = refl; answers = refl }; number = refl; index = refl })))

  -- a word below 0 is negated first
  below : (a x at : ℕ) → at + 17 ≤ highest_code → Stands f.code at (ins 0xF0 123 ∷ ins 0x10 13 ∷ [])
      → Moves f (Loaded at a x false true) (Both (at + 4) a x bs m text answers) [] 2
  below a x at r st = whatever_loaded at a x false true _ 2 (λ y o i c.
      placing f room fits (ins 0xF0 123) (view a x y true o i false c at bs m text answers) _ _ [] 1 small st.0 refl
      (placed_last f room fits (ins 0x10 13) (view a x y true o i false c ((at + 2) % 65536) bs m text answers) _ _ small st.1.0 refl
      (record { here = record { pc = omega (arith, r); stack = refl; binary = refl; mem = refl; text = refl; answers = refl }; number = refl; index = refl })))

  -- what is left is negated unless the word's sign is clear
  stays_above : (p a x at : ℕ) → is_data (p + 1) ≡ true → has_bit (m (p + 1)) 128 ≡ false → at + 18 ≤ highest_code → Stands f.code at (sign_tested (AtAddress p))
      → Moves f (Both at a x bs m text answers) (Both (at + 18) a x bs m text answers) [] 2
  stays_above p a x at d e r st = whatever_both f room fits at bs m text answers small a x _ [] 2 (λ y n o i z c.
      loads f room fits 0xAC (p + 1) Ldy (view a x y n o i z c at bs m text answers) _ _ [] 1 refl refl refl small st.0 d refl
      (rw e (placed_last f room fits (ins 0x10 13) (view a x _ false o i _ c ((at + 3) % 65536) bs m text answers) _ _ small st.1.0 refl
      (record { here = record { pc = omega (arith, r); stack = refl; binary = refl; mem = refl; text = refl; answers = refl }; number = refl; index = refl }))))

  goes_below : (p a x at : ℕ) → is_data (p + 1) ≡ true → has_bit (m (p + 1)) 128 ≡ true → at + 18 ≤ highest_code → Stands f.code at (sign_tested (AtAddress p))
      → Moves f (Both at a x bs m text answers) (Both (at + 5) a x bs m text answers) [] 2
  goes_below p a x at d e r st = whatever_both f room fits at bs m text answers small a x _ [] 2 (λ y n o i z c.
      loads f room fits 0xAC (p + 1) Ldy (view a x y n o i z c at bs m text answers) _ _ [] 1 refl refl refl small st.0 d refl
      (rw e (placed_last f room fits (ins 0x10 13) (view a x _ true o i _ c ((at + 3) % 65536) bs m text answers) _ _ small st.1.0 refl
      (record { here = record { pc = omega (arith, r); stack = refl; binary = refl; mem = refl; text = refl; answers = refl }; number = refl; index = refl }))))

  -- ---- the whole remainder
  module _ (p to j d x at : ℕ) (data_p : InData p) (data_to : InData to) (low : m p ≡ x % 256) (high : m (p + 1) ≡ x / 256) (word : x < 65536)
      (over : 512 < d * 2 ^ j) (r : at + size (reduced j d (AtAddress p) to) ≤ highest_code) (st : Stands f.code at (reduced j d (AtAddress p) to)) where
    abbrev after_rounds : List Instr
    after_rounds = sign_tested (AtAddress p) ++ (negated ++ both_stored to)

    abbrev rounds_size : ℕ
    rounds_size = size (rounds (j + 6) d)

    -- where the rounds are, and where what is left is looked at and stored
    abbrev rounds_at : ℕ
    rounds_at = at + 23

    abbrev sign_at : ℕ
    sign_at = rounds_at + rounds_size

    abbrev store_at : ℕ
    store_at = sign_at + 18

    sizes : size (reduced j d (AtAddress p) to) ≡ 23 + (rounds_size + 24)
    sizes = reduced_end p to j d

    loading : Stands f.code at (both_loaded (AtAddress p)) × Stands f.code (at + 10) (negated ++ (rounds (j + 6) d ++ after_rounds))
    loading = stands_split f.code at (both_loaded (AtAddress p)) (negated ++ (rounds (j + 6) d ++ after_rounds)) (omega (arith, r, sizes)) st

    turning : Stands f.code (at + 10) negated × Stands f.code rounds_at (rounds (j + 6) d ++ after_rounds)
    turning =
        let s = stands_split f.code (at + 10) negated (rounds (j + 6) d ++ after_rounds) (omega (arith, r, sizes)) loading.1 in
        (s.0, subst (λ p. Stands f.code p (rounds (j + 6) d ++ after_rounds)) (let e : at + 10 + 13 ≡ rounds_at = omega arith in e) s.1)

    rounding : Stands f.code rounds_at (rounds (j + 6) d) × Stands f.code sign_at after_rounds
    rounding = stands_split f.code rounds_at (rounds (j + 6) d) after_rounds (omega (arith, r, sizes)) turning.1

    signing : Stands f.code sign_at (sign_tested (AtAddress p)) × Stands f.code (sign_at + 5) (negated ++ both_stored to)
    signing = stands_split f.code sign_at (sign_tested (AtAddress p)) (negated ++ both_stored to) (omega (arith, r, sizes)) rounding.1

    storing : Stands f.code (sign_at + 5) negated × Stands f.code store_at (both_stored to)
    storing =
        let s = stands_split f.code (sign_at + 5) negated (both_stored to) (omega (arith, r, sizes)) signing.1 in
        (s.0, subst (λ p. Stands f.code p (both_stored to)) (let e : sign_at + 5 + 13 ≡ store_at = omega arith in e) s.1)

    -- a divisor is not 0, and its largest multiple is above every size
    some : 1 ≤ d
    some = ⊎_elim (λ z. let e : d * 2 ^ j ≡ 0 = ap (λ d. d * 2 ^ j) z ∙ none_times (2 ^ j) in absurd (omega (arith, e, over))) (λ n. omega (arith, n)) (cases_eq d 0)
      where
        none_times : (b : ℕ) → 0 * b ≡ 0
        none_times b = grind arith

    -- what is left of the word's size
    abbrev left : ℕ
    left = magnitude x % d

    size_small : magnitude x ≤ 32768
    size_small = by (is_negative x) refl
      where
        by : (t : Bool) → is_negative x ≡ t → (if t then 65536 - x else x) ≤ 32768
        by true e = let l = ltb-true 32767 x e in omega (arith, l)
        by false e = let l = ltb-false 32767 x e in omega (arith, l)

    left_small : left < 32769
    left_small = let l = mod-le (magnitude x) d in let s = size_small in omega (arith, l, s)

    sign_is : has_bit (m (p + 1)) 128 ≡ is_negative x
    sign_is = ap (λ b. has_bit b 128) high ∙ by (nat_lt 32767 x) refl
      where
        by : (t : Bool) → nat_lt 32767 x ≡ t → has_bit (x / 256) 128 ≡ t
        by true e = eq-eqb (x / 256 / 128 % 2) 1 (omega (arith, word, ltb-true 32767 x e))
        by false e = ne_eqb (x / 256 / 128 % 2) 1 (λ q. omega (arith, q, ltb-false 32767 x e))

    abbrev Stored : View → Type 0
    Stored = Here (store_at + 6) bs (put_word m to (turned_size (is_negative x) left % 256) (turned_size (is_negative x) left / 256)) text answers

    stores_left : Moves f (Held store_at (turned_size (is_negative x) left)) Stored [] 2
    stores_left = stores_both f room fits store_at bs m text answers small to _ _ data_to (omega (arith, r, sizes)) storing.1

    -- with its sign
    signs : Moves f (Held sign_at left) Stored [] 13
    signs = by (is_negative x) refl
      where
        by : (t : Bool) → is_negative x ≡ t → Moves f (Held sign_at left) Stored [] 13
        by false e =
            moves_looser f _ _ _ [] (2 + 2) 13 (omega arith) (λ w h. h)
            (moves_then f _ _ _ [] [] 2 2 (stays_above p (left % 256) (left / 256) sign_at data_p.1 (sign_is ∙ e) (omega (arith, r, sizes)) signing.0)
            (subst (λ t. Moves f (Held store_at (turned_size t left)) Stored [] 2) e stores_left))
        by true e =
            let same : (65536 - left) % 65536 ≡ turned_size true left = omega arith in
            moves_then f _ _ _ [] [] 2 11 (goes_below p (left % 256) (left / 256) sign_at data_p.1 (sign_is ∙ e) (omega (arith, r, sizes)) signing.0)
            (moves_then f _ _ _ [] [] 9 2 (negates left (sign_at + 5) (let l = left_small in omega (arith, l)) (omega (arith, r, sizes)) storing.0)
            (subst (λ p. Moves f (Held p ((65536 - left) % 65536)) Stored [] 2) (let q : store_at ≡ sign_at + 5 + 13 = omega arith in q)
            (subst (λ v. Moves f (Held store_at v) Stored [] 2) (sym same) (subst (λ t. Moves f (Held store_at (turned_size t left)) Stored [] 2) e stores_left))))

    -- all rounds
    all_rounds : Moves f (Held rounds_at (magnitude x)) Stored [] (11 * (j + 6) + 13)
    all_rounds =
        let e = six_on d j in
        rounds_leave (j + 6) d (magnitude x) rounds_at some (let s = size_small in omega (arith, s, e, over)) (let s = size_small in omega (arith, s)) (omega (arith, r, sizes)) rounding.0 Stored 13 signs

    -- those after the first six
    few_rounds : x < 256 → Moves f (Held (rounds_at + 108) x) Stored [] (11 * j + 13)
    few_rounds byte =
        let parted = rounds_parted j d in
        let six = six_rounds (d * 2 ^ j) over in
        let both = size_append (rounds 6 (d * 2 ^ j)) (rounds j d) in
        let all = ap size parted in
        let own = stands_split f.code rounds_at (rounds 6 (d * 2 ^ j)) (rounds j d) (omega (arith, r, sizes, both, all)) (subst (Stands f.code rounds_at) parted rounding.0) in
        let begin : rounds_at + size (rounds 6 (d * 2 ^ j)) ≡ rounds_at + 108 = ap (λ n. rounds_at + n) six in
        let end : rounds_at + 108 + size (rounds j d) ≡ sign_at = omega (arith, both, all, six) in
        let same : x % d ≡ left = let plain : is_negative x ≡ false = le-ltb 32767 x (omega (arith, byte)) in ap (λ t. (if t then 65536 - x else x) % d) (sym plain) in
        rounds_leave j d x (rounds_at + 108) some (omega (arith, byte, over)) word (omega (arith, r, sizes, end)) (subst (λ p. Stands f.code p (rounds j d)) begin own.1) Stored 13
        (subst (λ q. Moves f (Held q (x % d)) Stored [] 13) (sym end) (subst (λ v. Moves f (Held sign_at v) Stored [] 13) (sym same) signs))

    abbrev Told : (z n : Bool) → View → Type 0
    Told z n = Loaded (at + 6) (m p) (m (p + 1)) z n

    held : (q : ℕ) (w : View) → Both q (m p) (m (p + 1)) bs m text answers w → Held q x w
    held q w h = record { here = h.here; number = h.number ∙ low; index = h.index ∙ high }

    abbrev tests : List Instr
    tests = ins 0xF0 123 ∷ ins 0x10 13 ∷ []

    -- a word from 256 on, and one below 0
    by_sign : Stands f.code (at + 6) tests → (t : Bool) → is_negative x ≡ t → Moves f (Told false t) Stored [] (11 * (j + 6) + 24)
    by_sign there false e =
        let same : x ≡ magnitude x = ap (λ t. if t then 65536 - x else x) (sym e) in
        moves_looser f _ _ _ [] (2 + (11 * (j + 6) + 13)) (11 * (j + 6) + 24) (omega arith) (λ w h. h)
        (moves_then f _ _ _ [] [] 2 (11 * (j + 6) + 13)
        (moves_looser f _ _ _ [] 2 2 (omega arith)
        (λ w h. subst (λ v. Held rounds_at v w) same (subst (λ q. Held q x w) (let q : at + 6 + 17 ≡ rounds_at = omega arith in q) (held _ w h)))
        (above (m p) (m (p + 1)) (at + 6) (omega (arith, r, sizes)) there))
        all_rounds)
    by_sign there true e =
        let least = ltb-true 32767 x e in
        let size : (65536 - x) % 65536 ≡ 65536 - x = omega (arith, least) in
        let same : (65536 - x) % 65536 ≡ magnitude x = size ∙ ap (λ t. if t then 65536 - x else x) (sym e) in
        moves_looser f _ _ _ [] (2 + (9 + (11 * (j + 6) + 13))) (11 * (j + 6) + 24) (omega arith) (λ w h. h)
        (moves_then f _ _ _ [] [] 2 (9 + (11 * (j + 6) + 13))
        (moves_looser f _ _ _ [] 2 2 (omega arith) (λ w h. subst (λ q. Held q x w) (let q : at + 6 + 4 ≡ at + 10 = omega arith in q) (held _ w h))
        (below (m p) (m (p + 1)) (at + 6) (omega (arith, r, sizes)) there))
        (moves_then f _ _ _ [] [] 9 (11 * (j + 6) + 13)
        (moves_looser f _ _ _ [] 9 9 (omega arith)
        (λ w h. subst (λ v. Held rounds_at v w) same (subst (λ q. Held q ((65536 - x) % 65536) w) (let q : at + 10 + 13 ≡ rounds_at = omega arith in q) h))
        (negates x (at + 10) word (omega (arith, r, sizes)) turning.0))
        all_rounds))

    -- a byte, and any other word
    by_size : Stands f.code (at + 6) tests → Moves f (Told (eqb (m (p + 1)) 0) (has_bit (m (p + 1)) 128)) Stored [] (11 * (j + 6) + 24)
    by_size there = ⊎_elim
        (λ z. let e : eqb (m (p + 1)) 0 ≡ true = eq-eqb _ _ z in
        let byte : x < 256 = omega (arith, high, z) in
        let s = six_rounds (d * 2 ^ j) over in let a = ap size (rounds_parted j d) in let b = size_append (rounds 6 (d * 2 ^ j)) (rounds j d) in
        moves_looser f _ _ _ [] (1 + (11 * j + 13)) (11 * (j + 6) + 24) (omega arith) (λ w h. h)
        (subst (λ z. Moves f (Told z (has_bit (m (p + 1)) 128)) Stored [] (1 + (11 * j + 13))) (sym e)
        (moves_then f _ _ _ [] [] 1 (11 * j + 13)
        (moves_looser f _ _ _ [] 1 1 (omega arith)
        (λ w h. subst (λ q. Held q x w) (let q : at + 6 + 125 ≡ rounds_at + 108 = omega arith in q) (held _ w h))
        (past (m p) (m (p + 1)) (at + 6) _ (omega (arith, r, sizes, s, a, b)) there))
        (few_rounds byte))))
        (λ o. let e : eqb (m (p + 1)) 0 ≡ false = ne_eqb _ _ o in
        subst (λ z. Moves f (Told z (has_bit (m (p + 1)) 128)) Stored [] (11 * (j + 6) + 24)) (sym e)
        (subst (λ n. Moves f (Told false n) Stored [] (11 * (j + 6) + 24)) (sym sign_is) (by_sign there (is_negative x) refl)))
        (cases_eq (m (p + 1)) 0)

    -- the remainder by a constant's multiples, with the word's sign
    pub reduces : Moves f (Here at bs m text answers) Stored [] (11 * (j + 6) + 26)
    reduces =
        let two = stands_split f.code at (ins 0xAD p ∷ ins 0xAE (p + 1) ∷ []) tests (omega (arith, r, sizes)) loading.0 in
        moves_looser f _ _ _ [] (2 + (11 * (j + 6) + 24)) (11 * (j + 6) + 26) (omega arith) (λ w h. h)
        (moves_then f _ _ _ [] [] 2 (11 * (j + 6) + 24) (loads_both p at data_p (omega (arith, r, sizes)) two.0) (by_size two.1))
