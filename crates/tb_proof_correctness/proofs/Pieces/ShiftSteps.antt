-- Shifts and sums on a word of which one byte is in A and the other in LEFT, each from view to view.
use Rattle.std.proofs.Common.{◌≡◌, ◌≢◌, ℕ, zero, suc, ◌+◌, ◌-◌, ◌*◌, ◌/◌, ◌%◌, ◌^◌, ◌≤◌, ◌<◌, Bool, true, false}
use Rattle.std.proofs.Common.{List, [], ◌∷◌, ◌++◌, length, refl, sym, ap, ◌∙◌, subst, arith, leb, eqb}
use Rattle.std.specs.Prelude.{if◌then◌else◌, nat_lt, nat_le, bit_and, bit_xor}
use Rattle.std.proofs.lemmas.Bool.{eqb-true}
use Rattle.tb_cpu.specs.Effects.{bit, has_bit}
use Rattle.tb_memmap.specs.Bytes.{with_byte}
use Rattle.tb_opcodes.specs.declared.Mnemonic.TheVariants.{Adc}
use Rattle.tb_machine_reaching.proofs.Comes.{known}
use Rattle.tb_machine_reaching.proofs.Memory.{put_other}
use Rattle.tb_machine_reaching.proofs.Placed.{placed_last, placing}
use Rattle.tb_machine_reaching.proofs.Instr.{Instr, Stands, ins, instr_bytes}
use Rattle.tb_machine_reaching.specs.View.{Bytes, Comes, Part, Fits, Setup, View, view}
use Rattle.tb_compiled_kept.specs.Addresses.{LEFT}
use Rattle.tb_runtime16.specs.Routines.{Here, WithA, Moves}
use Rattle.tb_proof_simulation.proofs.Mirrors.{Carrying}
use Rattle.tb_proof_simulation.proofs.Pieces.{InData, loads, moves_then, moves_looser, put_word, whatever_a}
use Rattle.tb_proof_simulation.proofs.Resolved.{highest_code, size}
use Rattle.tb_compiler_templates.specs.declared.sources.Source.{Source}
use Rattle.tb_compiler_templates.specs.Scaled.{all_but_lowest}
use Rattle.tb_proof_correctness.proofs.Pieces.Halves.{more}
use Rattle.tb_proof_correctness.proofs.CodeBytes.GroupCode.{low, high, rounded, signed, carried, halved, high_first, widened, doubled, increased, begun, low_first}
use Rattle.tb_proof_correctness.proofs.Pieces.Sources.{Byte, Fixed, At, value, IsRead, lda, adc, cmp, len, Known, behind, loads_with, loads_byte, adds_byte, compares_byte, writes_byte}
use Rattle.tb_proof_correctness.proofs.Pieces.Sources.{puts_byte, whatever_known}
use Rattle.tb_proof_correctness.proofs.Pieces.Sums.{Grounded, low_read, high_read, high_same}

-- ---- code one after another
pub size_append : (is js : List Instr) → size (is ++ js) ≡ size is + size js
size_append [] js = omega arith
size_append (i ∷ is) js = let e = size_append is js in omega (arith, e)

-- the instructions of two lists are there one after the other
pub stands_split : (code : Part) (at : ℕ) (is js : List Instr) → at + size is ≤ highest_code → Stands code at (is ++ js) → Stands code at is × Stands code (at + size is) js
stands_split code at [] js r h = (tt, subst (λ p. Stands code p js) (let e : at ≡ at + 0 = omega arith in e) h)
stands_split code at (i ∷ is) js r h =
    let e : (at + len i) % 65536 ≡ at + len i = omega (arith, r) in
    let rest = stands_split code (at + len i) is js (omega (arith, r)) (subst (λ p. Stands code p (is ++ js)) e h.1) in
    ((h.0, subst (λ p. Stands code p is) (sym e) rest.0), subst (λ p. Stands code p js) (let q : at + len i + size is ≡ at + (len i + size is) = omega arith in q) rest.1)

-- ---- two bytes written
-- in either order
pub swapped : (m : ℕ → ℕ) (p q b c : ℕ) → p ≢ q → with_byte (with_byte m p b) q c ≡ with_byte (with_byte m q c) p b
swapped m p q b c apart = λ i. λ a. by a (eqb a q) (eqb a p) refl refl i
  where
    by : (a : ℕ) (s t : Bool) → eqb a q ≡ s → eqb a p ≡ t → (if s then c else if t then b else m a) ≡ (if t then b else if s then c else m a)
    by a true true e e' = absurd (apart (sym (eqb-true a p e') ∙ eqb-true a q e))
    by a true false e e' = refl
    by a false true e e' = refl
    by a false false e e' = refl

-- a word that is not at LEFT's address
abbrev pub Beyond : ℕ → Type 0
Beyond to = InData to × (0xC000 ≤ to)

-- with a known X and C
pub record Aside (at x : ℕ) (c : Bool) (bs : List ℕ) (m : ℕ → ℕ) (text answers : List ℕ) (w : View) : Type 0 where
  pub here : Here at bs m text answers w
  pub aside : w.regs.x ≡ x
  pub carry : w.regs.flags.c ≡ c

-- whatever the other registers and flags
whatever_aside : (f : Setup) (room : ℕ) (fits : Fits f room) (at x : ℕ) (c : Bool) (bs : List ℕ) (m : ℕ → ℕ) (text answers : List ℕ) (q : View
    → Type 0) (t : List ℕ) (l : ℕ) → ((a y : ℕ) (n v i z : Bool) → Comes f (view a x y n v i z c at bs m text answers) q t l) → Moves f (Aside at x c bs m text answers) q t l
whatever_aside f room fits at x c bs m text answers q t l h w e =
    known f w at bs text answers q t l e.here.pc e.here.stack e.here.binary e.here.text e.here.answers
    (subst (λ m. Comes f (view w.regs.a w.regs.x w.regs.y w.regs.flags.n w.regs.flags.v w.regs.flags.i w.regs.flags.z w.regs.flags.c at bs m text answers) q t l) (sym e.here.mem)
    (subst (λ c. Comes f (view w.regs.a w.regs.x w.regs.y w.regs.flags.n w.regs.flags.v w.regs.flags.i w.regs.flags.z c at bs m text answers) q t l) (sym e.carry)
    (subst (λ x. Comes f (view w.regs.a x w.regs.y w.regs.flags.n w.regs.flags.v w.regs.flags.i w.regs.flags.z c at bs m text answers) q t l) (sym e.aside) (h _ _ _ _ _ _))))

module _ (f : Setup) (room : ℕ) (fits : Fits f room) (at : ℕ) (bs : List ℕ) (m : ℕ → ℕ) (text answers : List ℕ) (small : leb (length bs) room ≡ true) where
  -- ---- single instructions
  masks : (b a : ℕ) (c : Bool) → at + 2 ≤ highest_code → Bytes f.code at (instr_bytes (ins 0x29 b)) → Moves f (Known at a c bs m text answers)
      (Known (at + 2) (bit_and a b) c bs m text answers) [] 1
  masks b a c r st = whatever_known f room fits at a c bs m text answers _ [] 1 (λ x y n v i z.
      placed_last f room fits (ins 0x29 b) (view a x y n v i z c at bs m text answers) _ _ small st refl
      (record {
        here = record {
          pc = let e : (at + 2) % 65536 ≡ at + 2 = omega arith in e;
          stack = refl;
          binary = refl;
          mem = refl;
          text = refl;
          answers = refl;
        };
        number = refl;
        carry = refl;
      }))

  -- EOR with a constant
  pub turns : (b a : ℕ) (c : Bool) → at + 2 ≤ highest_code → Bytes f.code at (instr_bytes (ins 0x49 b)) → Moves f (Known at a c bs m text answers)
      (Known (at + 2) (bit_xor a b) c bs m text answers) [] 1
  turns b a c r st = whatever_known f room fits at a c bs m text answers _ [] 1 (λ x y n v i z.
      placed_last f room fits (ins 0x49 b) (view a x y n v i z c at bs m text answers) _ _ small st refl
      (record {
        here = record {
          pc = let e : (at + 2) % 65536 ≡ at + 2 = omega arith in e;
          stack = refl;
          binary = refl;
          mem = refl;
          text = refl;
          answers = refl;
        };
        number = refl;
        carry = refl;
      }))

  keeps_left : (a : ℕ) (c : Bool) → at + 2 ≤ highest_code → Bytes f.code at (instr_bytes (ins 0x85 LEFT)) → Moves f (Known at a c bs m text answers)
      (Carrying (at + 2) bs (with_byte m LEFT a) text answers c) [] 1
  keeps_left a c r st = whatever_known f room fits at a c bs m text answers _ [] 1 (λ x y n v i z.
      placed_last f room fits (ins 0x85 LEFT) (view a x y n v i z c at bs m text answers) _ _ small st refl
      (record {
        here = record {
          pc = let e : (at + 2) % 65536 ≡ at + 2 = omega arith in e;
          stack = refl;
          binary = refl;
          mem = refl;
          text = refl;
          answers = refl;
        };
        carry = refl;
      }))

  loads_left : at + 2 ≤ highest_code → Bytes f.code at (instr_bytes (ins 0xA5 LEFT)) → Moves f (Here at bs m text answers) (WithA (at + 2) (m LEFT) bs m text answers) [] 1
  loads_left r st w e = whatever_a f room fits at w.regs.a bs m text answers _ [] 1 (λ x y n v i z c.
      placed_last f room fits (ins 0xA5 LEFT) (view w.regs.a x y n v i z c at bs m text answers) _ _ small st refl
      (record {
        here = record {
          pc = let e : (at + 2) % 65536 ≡ at + 2 = omega arith in e;
          stack = refl;
          binary = refl;
          mem = refl;
          text = refl;
          answers = refl;
        };
        number = refl;
      })) w (record { here = e; number = refl })

  -- ---- shifts
  pub halves : (a : ℕ) → at + size halved ≤ highest_code → Stands f.code at halved → Moves f (WithA at a bs m text answers)
      (WithA (at + size halved) (a / 2 + 128 * bit (nat_le 128 a)) bs (with_byte m LEFT (m LEFT / 2 + 128 * bit (has_bit a 1))) text answers) [] 3
  halves a r st = whatever_a f room fits at a bs m text answers _ [] 3 (λ x y n v i z c.
      placing f room fits (ins 0xC9 128) (view a x y n v i z c at bs m text answers) _ _ [] 2 small st.0 refl
      (placing f room fits (ins 0x6A 0) (view a x y _ v i _ (nat_le 128 a) ((at + 2) % 65536) bs m text answers) _ _ [] 1 small st.1.0 refl
      (placed_last f room fits (ins 0x66 LEFT) (view (a / 2 + 128 * bit (nat_le 128 a)) x y _ v i _ (has_bit a 1) ((((at + 2) % 65536) + 1) % 65536) bs m text answers) _ _ small st.1.1.0 refl
      (record { here = record { pc = omega (arith, r); stack = refl; binary = refl; mem = refl; text = refl; answers = refl }; number = refl }))))

  -- the word is shifted to the left: its upper byte in A, what fell out in C
  pub lifts : (a : ℕ) → at + 3 ≤ highest_code → Stands f.code at (ins 0x06 LEFT ∷ ins 0x2A 0 ∷ []) → Moves f (WithA at a bs m text answers)
      (Known (at + 3) (2 * a % 256 + bit (has_bit (m LEFT) 128)) (has_bit a 128) bs (with_byte m LEFT (2 * m LEFT % 256)) text answers) [] 2
  lifts a r st = whatever_a f room fits at a bs m text answers _ [] 2 (λ x y n v i z c.
      placing f room fits (ins 0x06 LEFT) (view a x y n v i z c at bs m text answers) _ _ [] 1 small st.0 refl
      (placed_last f room fits (ins 0x2A 0) (view a x y _ v i _ (has_bit (m LEFT) 128) ((at + 2) % 65536) bs _ text answers) _ _ small st.1.0 refl
      (record {
        here = record { pc = omega (arith, r); stack = refl; binary = refl; mem = refl; text = refl; answers = refl };
        number = refl;
        carry = refl;
      })))

  -- C is the sign of the byte in A
  pub signs_a : (a : ℕ) → at + 2 ≤ highest_code → Stands f.code at (ins 0xC9 128 ∷ []) → Moves f (WithA at a bs m text answers)
      (Known (at + 2) a (nat_le 128 a) bs m text answers) [] 1
  signs_a a r st = whatever_a f room fits at a bs m text answers _ [] 1 (λ x y n v i z c.
      placed_last f room fits (ins 0xC9 128) (view a x y n v i z c at bs m text answers) _ _ small st.0 refl
      (record {
        here = record {
          pc = let e : (at + 2) % 65536 ≡ at + 2 = omega arith in e;
          stack = refl;
          binary = refl;
          mem = refl;
          text = refl;
          answers = refl;
        };
        number = refl;
        carry = refl;
      }))

  -- the product so far is doubled
  pub doubles : (a : ℕ) → at + size doubled ≤ highest_code → Stands f.code at doubled → Moves f (WithA at a bs m text answers)
      (WithA (at + size doubled) (2 * a % 256) bs (with_byte m LEFT (2 * m LEFT % 256 + bit (has_bit a 128))) text answers) [] 2
  doubles a r st = whatever_a f room fits at a bs m text answers _ [] 2 (λ x y n v i z c.
      placing f room fits (ins 0x0A 0) (view a x y n v i z c at bs m text answers) _ _ [] 1 small st.0 refl
      (placed_last f room fits (ins 0x26 LEFT) (view (2 * a % 256) x y _ v i _ (has_bit a 128) ((at + 1) % 65536) bs m text answers) _ _ small st.1.0 refl
      (record { here = record { pc = omega (arith, r); stack = refl; binary = refl; mem = refl; text = refl; answers = refl }; number = refl })))

  -- a byte is added to A and goes to X
  adds_aside : (b : Byte) (l : ℕ) → at + size (ins 0x18 0 ∷ adc b ∷ ins 0xAA 0 ∷ []) ≤ highest_code → IsRead b → Stands f.code at (ins 0x18 0 ∷ adc b ∷ ins 0xAA 0 ∷ [])
      → Moves f (WithA at l bs m text answers) (Aside (at + size (ins 0x18 0 ∷ adc b ∷ ins 0xAA 0 ∷ [])) ((l + value m b + 0) % 256) (nat_lt 255 (l + value m b + 0)) bs m text answers) [] 3
  adds_aside (Fixed b) l r d st = whatever_a f room fits at l bs m text answers _ [] 3 (λ x y n v i z c.
      placing f room fits (ins 0x18 0) (view l x y n v i z c at bs m text answers) _ _ [] 2 small st.0 refl
      (placing f room fits (ins 0x69 b) (view l x y n v i z false ((at + 1) % 65536) bs m text answers) _ _ [] 1 small st.1.0 refl
      (placed_last f room fits (ins 0xAA 0) (view ((l + b + 0) % 256) x y _ _ i _ (nat_lt 255 (l + b + 0)) ((((at + 1) % 65536) + 2) % 65536) bs m text answers) _ _ small st.1.1.0 refl
      (record { here = record { pc = omega (arith, r); stack = refl; binary = refl; mem = refl; text = refl; answers = refl }; aside = refl; carry = refl }))))
  adds_aside (At p) l r d st = whatever_a f room fits at l bs m text answers _ [] 3 (λ x y n v i z c.
      placing f room fits (ins 0x18 0) (view l x y n v i z c at bs m text answers) _ _ [] 2 small st.0 refl
      (loads f room fits 0x6D p Adc (view l x y n v i z false ((at + 1) % 65536) bs m text answers) _ _ [] 1 refl refl refl small st.1.0 d refl
      (placed_last f room fits (ins 0xAA 0) (view ((l + m p + 0) % 256) x y _ _ i _ (nat_lt 255 (l + m p + 0)) ((((at + 1) % 65536) + 3) % 65536) bs m text answers) _ _ small st.1.1.0 refl
      (record { here = record { pc = omega (arith, r); stack = refl; binary = refl; mem = refl; text = refl; answers = refl }; aside = refl; carry = refl }))))

  -- a byte is added to LEFT with that carry, and X goes back to A
  abbrev rest_of : Byte → List Instr
  rest_of b = ins 0xA5 LEFT ∷ adc b ∷ ins 0x85 LEFT ∷ ins 0x8A 0 ∷ []

  adds_back : (b : Byte) (l : ℕ) (c : Bool) → at + size (rest_of b) ≤ highest_code → IsRead b → Stands f.code at (rest_of b)
      → Moves f (Aside at l c bs m text answers) (WithA (at + size (rest_of b)) l bs (with_byte m LEFT ((m LEFT + value m b + bit c) % 256)) text answers) [] 4
  adds_back (Fixed b) l c r d st = whatever_aside f room fits at l c bs m text answers _ [] 4 (λ a y n v i z.
      placing f room fits (ins 0xA5 LEFT) (view a l y n v i z c at bs m text answers) _ _ [] 3 small st.0 refl
      (placing f room fits (ins 0x69 b) (view (m LEFT) l y _ v i _ c ((at + 2) % 65536) bs m text answers) _ _ [] 2 small st.1.0 refl
      (placing f room fits (ins 0x85 LEFT) (view ((m LEFT + b + bit c) % 256) l y _ _ i _ _ ((((at + 2) % 65536) + 2) % 65536) bs m text answers) _ _ [] 1 small st.1.1.0 refl
      (placed_last f room fits (ins 0x8A 0) (view ((m LEFT + b + bit c) % 256) l y _ _ i _ _ ((((((at + 2) % 65536) + 2) % 65536) + 2) % 65536) bs _ text answers) _ _ small st.1.1.1.0 refl
      (record { here = record { pc = omega (arith, r); stack = refl; binary = refl; mem = refl; text = refl; answers = refl }; number = refl })))))
  adds_back (At p) l c r d st = whatever_aside f room fits at l c bs m text answers _ [] 4 (λ a y n v i z.
      placing f room fits (ins 0xA5 LEFT) (view a l y n v i z c at bs m text answers) _ _ [] 3 small st.0 refl
      (loads f room fits 0x6D p Adc (view (m LEFT) l y _ v i _ c ((at + 2) % 65536) bs m text answers) _ _ [] 2 refl refl refl small st.1.0 d refl
      (placing f room fits (ins 0x85 LEFT) (view ((m LEFT + m p + bit c) % 256) l y _ _ i _ _ ((((at + 2) % 65536) + 3) % 65536) bs m text answers) _ _ [] 1 small st.1.1.0 refl
      (placed_last f room fits (ins 0x8A 0) (view ((m LEFT + m p + bit c) % 256) l y _ _ i _ _ ((((((at + 2) % 65536) + 3) % 65536) + 2) % 65536) bs _ text answers) _ _ small st.1.1.1.0 refl
      (record { here = record { pc = omega (arith, r); stack = refl; binary = refl; mem = refl; text = refl; answers = refl }; number = refl })))))

module _ (f : Setup) (room : ℕ) (fits : Fits f room) (at : ℕ) (bs : List ℕ) (m : ℕ → ℕ) (text answers : List ℕ) (small : leb (length bs) room ≡ true) where
  -- one more word
  abbrev pub sum_low : ℕ → Source → ℕ
  sum_low l a = l + value m (low a) + 0

  -- a word is added to the product so far
  pub increases : (l : ℕ) (a : Source) → at + size (increased a) ≤ highest_code → IsRead (low a) → IsRead (high a) → Stands f.code at (increased a)
      → Moves f (WithA at l bs m text answers) (WithA (at + size (increased a)) (sum_low l a % 256) bs
      (with_byte m LEFT ((m LEFT + value m (high a) + bit (nat_lt 255 (sum_low l a))) % 256)) text answers) [] 7
  increases l a r rl rh st =
      let front = ins 0x18 0 ∷ adc (low a) ∷ ins 0xAA 0 ∷ [] in
      let back = ins 0xA5 LEFT ∷ adc (high a) ∷ ins 0x85 LEFT ∷ ins 0x8A 0 ∷ [] in
      let parts = stands_split f.code at front back (omega (arith, r)) st in
      moves_then f _ _ _ [] [] 3 4 (adds_aside f room fits at bs m text answers small (low a) l (omega (arith, r)) rl parts.0)
      (moves_looser f _ _ _ [] 4 4 (omega arith)
      (λ u k. record {
        here = record {
          pc = k.here.pc ∙ (let q : at + size front + size back ≡ at + size (increased a) = omega arith in q);
          stack = k.here.stack;
          binary = k.here.binary;
          mem = k.here.mem;
          text = k.here.text;
          answers = k.here.answers;
        };
        number = k.number;
      })
      (adds_back f room fits (at + size front) bs m text answers small (high a) (sum_low l a % 256) (nat_lt 255 (sum_low l a)) (omega (arith, r)) rh parts.1))

  -- a word is loaded, its low byte into A
  pub begins : (a : Source) → at + size (begun a) ≤ highest_code → Grounded a LEFT → value (with_byte m LEFT (value m (high a))) (low a) ≡ value m (low a) → Stands f.code at (begun a)
      → Moves f (Here at bs m text answers) (WithA (at + size (begun a)) (value m (low a)) bs (with_byte m LEFT (value m (high a))) text answers) [] 3
  begins a r g same st w e =
      let h = value m (high a) in
      let c = w.regs.flags.c in
      let p1 = at + len (lda (high a)) in
      let p2 = p1 + 2 in
      let s1 = behind f.code at (lda (high a)) (ins 0x85 LEFT ∷ lda (low a) ∷ []) (omega (arith, r)) st in
      let s2 = behind f.code p1 (ins 0x85 LEFT) (lda (low a) ∷ []) (omega (arith, r)) s1 in
      moves_then f _ _ _ [] [] 1 2 (loads_with f room fits at bs m text answers small (high a) c (high_read a LEFT g) (omega (arith, r)) st.0)
      (moves_then f _ _ _ [] [] 1 1 (keeps_left f room fits p1 bs m text answers small h c (omega (arith, r)) s1.0)
      (moves_looser f _ _ _ [] 1 1 (omega arith)
      (λ u k. record {
        here = record {
          pc = k.here.pc ∙ (let q : p2 + len (lda (low a)) ≡ at + size (begun a) = omega arith in q);
          stack = k.here.stack;
          binary = k.here.binary;
          mem = k.here.mem;
          text = k.here.text;
          answers = k.here.answers;
        };
        number = k.number ∙ same;
      })
      (λ u k. loads_byte f room fits p2 bs (with_byte m LEFT h) text answers small (low a) (low_read a LEFT g) (omega (arith, r)) s2.0 u k.here))) w (record { here = e; carry = refl })

  -- C is the sign of a word
  pub signs : (a : Source) → at + size (signed a) ≤ highest_code → Grounded a LEFT → Stands f.code at (signed a)
      → Moves f (Here at bs m text answers) (Carrying (at + size (signed a)) bs m text answers (nat_le 128 (value m (high a)))) [] 2
  signs a r g st =
      let p1 = at + len (lda (high a)) in
      let s1 = behind f.code at (lda (high a)) (cmp (Fixed 128) ∷ []) (omega (arith, r)) st in
      moves_then f _ _ _ [] [] 1 1 (loads_byte f room fits at bs m text answers small (high a) (high_read a LEFT g) (omega (arith, r)) st.0)
      (moves_looser f _ _ _ [] 1 1 (omega arith)
      (λ u k. record {
        here = record {
          pc = k.here.pc ∙ (let q : p1 + 2 ≡ at + size (signed a) = omega arith in q);
          stack = k.here.stack;
          binary = k.here.binary;
          mem = k.here.mem;
          text = k.here.text;
          answers = k.here.answers;
        };
        carry = k.carry;
      })
      (compares_byte f room fits p1 bs m text answers small (Fixed 128) (value m (high a)) tt (omega (arith, r)) s1.0))

  masked : (k : ℕ) → k < 7 → (bit_xor (bit_and 255 (all_but_lowest (suc k))) (all_but_lowest (suc k)) ≡ 0)
      × (bit_xor (bit_and 0 (all_but_lowest (suc k))) (all_but_lowest (suc k)) + 1 ≡ 2 ^ (suc k + 1) - 1)
  masked zero h = (refl, refl)
  masked (suc zero) h = (refl, refl)
  masked (suc (suc zero)) h = (refl, refl)
  masked (suc (suc (suc zero))) h = (refl, refl)
  masked (suc (suc (suc (suc zero)))) h = (refl, refl)
  masked (suc (suc (suc (suc (suc zero))))) h = (refl, refl)
  masked (suc (suc (suc (suc (suc (suc zero)))))) h = (refl, refl)
  masked (suc (suc (suc (suc (suc (suc (suc k))))))) h = absurd (omega (arith, h))

  -- A is 255 or 0, and then what is added together with C
  abbrev filled : Bool → ℕ
  filled c = (0 + 255 + bit c) % 256

  abbrev left_in : ℕ → Bool → ℕ
  left_in k c = bit_xor (bit_and (filled c) (all_but_lowest (suc k))) (all_but_lowest (suc k))

  total : (k l : ℕ) (c : Bool) → k < 7 → left_in k c + l + bit (nat_lt 255 (0 + 255 + bit c)) ≡ l + more (suc k) c
  total k l true few = let e = (masked k few).1 in omega (arith, e)
  total k l false few = let e = (masked k few).0 in omega (arith, e)

  -- what rounds a word up is added to its low byte if C is set
  pub rounds : (k : ℕ) (a : Source) (c : Bool) → k < 8 → at + size (rounded k a) ≤ highest_code → Grounded a LEFT → Stands f.code at (rounded k a)
      → Moves f (Carrying at bs m text answers c) (Known (at + size (rounded k a)) ((value m (low a) + more k c) % 256) (nat_lt 255 (value m (low a) + more k c)) bs m text answers) [] 5
  rounds zero a c few r g st =
      let l = value m (low a) in
      let p1 = at + len (lda (low a)) in
      let s1 = behind f.code at (lda (low a)) (adc (Fixed 0) ∷ []) (omega (arith, r)) st in
      let e : l + 0 + bit c ≡ l + more zero c = by c in
      moves_looser f _ _ _ [] 2 5 (omega arith) (λ u k. k)
      (moves_then f _ _ _ [] [] 1 1 (loads_with f room fits at bs m text answers small (low a) c (low_read a LEFT g) (omega (arith, r)) st.0)
      (moves_looser f _ _ _ [] 1 1 (omega arith)
      (λ u k. record {
        here = record {
          pc = k.here.pc ∙ (let q : p1 + 2 ≡ at + size (rounded zero a) = omega arith in q);
          stack = k.here.stack;
          binary = k.here.binary;
          mem = k.here.mem;
          text = k.here.text;
          answers = k.here.answers;
        };
        number = k.number ∙ ap (λ n. n % 256) e;
        carry = k.carry ∙ ap (λ n. nat_lt 255 n) e;
      })
      (adds_byte f room fits p1 bs m text answers small (Fixed 0) l c tt (omega (arith, r)) s1.0)))
    where
      by : (c : Bool) → value m (low a) + 0 + bit c ≡ value m (low a) + more zero c
      by true = omega arith
      by false = omega arith
  rounds (suc k) a c few r g st =
      let l = value m (low a) in
      let mask = all_but_lowest (suc k) in
      let c1 = nat_lt 255 (0 + 255 + bit c) in
      let t4 = adc (low a) ∷ [] in
      let t3 = ins 0x49 mask ∷ t4 in
      let t2 = ins 0x29 mask ∷ t3 in
      let t1 = adc (Fixed 255) ∷ t2 in
      let s1 = behind f.code at (lda (Fixed 0)) t1 (omega (arith, r)) st in
      let s2 = behind f.code (at + 2) (adc (Fixed 255)) t2 (omega (arith, r)) s1 in
      let s3 = behind f.code (at + 2 + 2) (ins 0x29 mask) t3 (omega (arith, r)) s2 in
      let s4 = behind f.code (at + 2 + 2 + 2) (ins 0x49 mask) t4 (omega (arith, r)) s3 in
      let e : left_in k c + l + bit c1 ≡ l + more (suc k) c = total k l c (omega (arith, few)) in
      moves_then f _ _ _ [] [] 1 4 (loads_with f room fits at bs m text answers small (Fixed 0) c tt (omega (arith, r)) st.0)
      (moves_then f _ _ _ [] [] 1 3 (adds_byte f room fits (at + 2) bs m text answers small (Fixed 255) 0 c tt (omega (arith, r)) s1.0)
      (moves_then f _ _ _ [] [] 1 2 (masks f room fits (at + 2 + 2) bs m text answers small mask (filled c) c1 (omega (arith, r)) s2.0)
      (moves_then f _ _ _ [] [] 1 1 (turns f room fits (at + 2 + 2 + 2) bs m text answers small mask (bit_and (filled c) mask) c1 (omega (arith, r)) s3.0)
      (moves_looser f _ _ _ [] 1 1 (omega arith)
      (λ u k'. record {
        here = record {
          pc = k'.here.pc ∙ (let q : at + 2 + 2 + 2 + 2 + len (adc (low a)) ≡ at + size (rounded (suc k) a) =
              omega arith in q);
          stack = k'.here.stack;
          binary = k'.here.binary;
          mem = k'.here.mem;
          text = k'.here.text;
          answers = k'.here.answers;
        };
        number = k'.number ∙ ap (λ n. n % 256) e;
        carry = k'.carry ∙ ap (λ n. nat_lt 255 n) e;
      })
      (adds_byte f room fits (at + 2 + 2 + 2 + 2) bs m text answers small (low a) (left_in k c) c1 (low_read a LEFT g) (omega (arith, r)) s4.0)))))

  -- the low byte is stored, and the carry added to the high one
  pub carries : (l : ℕ) (c : Bool) (a : Source) → at + size (carried a) ≤ highest_code → Grounded a LEFT → Stands f.code at (carried a)
      → Moves f (Known at l c bs m text answers) (WithA (at + size (carried a)) ((value m (high a) + bit c) % 256) bs (with_byte m LEFT l) text answers) [] 3
  carries l c a r g st =
      let m1 = with_byte m LEFT l in
      let h = value m1 (high a) in
      let p1 = at + 2 in
      let p2 = p1 + len (lda (high a)) in
      let s1 = behind f.code at (ins 0x85 LEFT) (lda (high a) ∷ adc (Fixed 0) ∷ []) (omega (arith, r)) st in
      let s2 = behind f.code p1 (lda (high a)) (adc (Fixed 0) ∷ []) (omega (arith, r)) s1 in
      let e : h + 0 + bit c ≡ value m (high a) + bit c = let q = high_same a LEFT l m g in omega (arith, q) in
      moves_then f _ _ _ [] [] 1 2 (keeps_left f room fits at bs m text answers small l c (omega (arith, r)) st.0)
      (moves_then f _ _ _ [] [] 1 1 (loads_with f room fits p1 bs m1 text answers small (high a) c (high_read a LEFT g) (omega (arith, r)) s1.0)
      (moves_looser f _ _ _ [] 1 1 (omega arith)
      (λ u k. record {
        here = record {
          pc = k.here.pc ∙ (let q : p2 + 2 ≡ at + size (carried a) = omega arith in q);
          stack = k.here.stack;
          binary = k.here.binary;
          mem = k.here.mem;
          text = k.here.text;
          answers = k.here.answers;
        };
        number = k.number ∙ ap (λ n. n % 256) e;
      })
      (adds_byte f room fits p2 bs m1 text answers small (Fixed 0) h c tt (omega (arith, r)) s2.0)))

  -- ---- the word is stored
  pub ends_low : (l to : ℕ) → at + 8 ≤ highest_code → Beyond to → Stands f.code at (low_first to) → Moves f (WithA at l bs m text answers)
      (Here (at + 8) bs (put_word m to l (m LEFT)) text answers) [] 3
  ends_low l to r d st =
      let m1 = with_byte m to l in
      let s1 = behind f.code at (ins 0x8D to) (ins 0xA5 LEFT ∷ ins 0x8D (to + 1) ∷ []) (omega (arith, r)) st in
      let s2 = behind f.code (at + 3) (ins 0xA5 LEFT) (ins 0x8D (to + 1) ∷ []) (omega (arith, r)) s1 in
      let same : m1 LEFT ≡ m LEFT = put_other m to l LEFT (λ q. omega (arith, q, d.1)) in
      moves_then f _ _ _ [] [] 1 2 (puts_byte f room fits at bs m text answers small to l d.0.0 (omega (arith, r)) st.0)
      (moves_then f _ _ _ [] [] 1 1 (loads_left f room fits (at + 3) bs m1 text answers small (omega (arith, r)) s1.0)
      (moves_looser f _ _ _ [] 1 1 (omega arith)
      (λ u k. record {
        pc = k.pc ∙ (let q : at + 3 + 2 + 3 ≡ at + 8 = omega arith in q);
        stack = k.stack;
        binary = k.binary;
        mem = k.mem
            ∙ ap (λ b. with_byte m1 (to + 1) b) same;
        text = k.text;
        answers = k.answers;
      })
      (puts_byte f room fits (at + 3 + 2) bs m1 text answers small (to + 1) (m1 LEFT) d.0.1 (omega (arith, r)) s2.0)))

  -- a word whose high byte is in A is stored
  pub ends_high : (h to : ℕ) → at + 8 ≤ highest_code → Beyond to → Stands f.code at (high_first to) → Moves f (WithA at h bs m text answers)
      (Here (at + 8) bs (put_word m to (m LEFT) h) text answers) [] 3
  ends_high h to r d st =
      let m1 = with_byte m (to + 1) h in
      let s1 = behind f.code at (ins 0x8D (to + 1)) (ins 0xA5 LEFT ∷ ins 0x8D to ∷ []) (omega (arith, r)) st in
      let s2 = behind f.code (at + 3) (ins 0xA5 LEFT) (ins 0x8D to ∷ []) (omega (arith, r)) s1 in
      let same : m1 LEFT ≡ m LEFT = put_other m (to + 1) h LEFT (λ q. omega (arith, q, d.1)) in
      moves_then f _ _ _ [] [] 1 2 (puts_byte f room fits at bs m text answers small (to + 1) h d.0.1 (omega (arith, r)) st.0)
      (moves_then f _ _ _ [] [] 1 1 (loads_left f room fits (at + 3) bs m1 text answers small (omega (arith, r)) s1.0)
      (moves_looser f _ _ _ [] 1 1 (omega arith)
      (λ u k. record {
        pc = k.pc ∙ (let q : at + 3 + 2 + 3 ≡ at + 8 = omega arith in q);
        stack = k.stack;
        binary = k.binary;
        mem = k.mem
            ∙ ap (λ b. with_byte m1 to b) same ∙ swapped m (to + 1) to h (m LEFT) (λ q. omega (arith, q));
        text = k.text;
        answers = k.answers;
      })
      (puts_byte f room fits (at + 3 + 2) bs m1 text answers small to (m1 LEFT) d.0.0 (omega (arith, r)) s2.0)))

  all_turned : (c : Bool) → bit_xor (filled c) 255 ≡ 255 * bit c
  all_turned true = refl
  all_turned false = refl

  -- the byte in A is stored as a word whose sign is in C
  pub widens : (l to : ℕ) (c : Bool) → at + 12 ≤ highest_code → InData to → Stands f.code at (widened to) → Moves f (Known at l c bs m text answers)
      (Here (at + 12) bs (put_word m to l (255 * bit c)) text answers) [] 5
  widens l to c r d st =
      let m1 = with_byte m to l in
      let c1 = nat_lt 255 (0 + 255 + bit c) in
      let t4 = ins 0x8D (to + 1) ∷ [] in
      let t3 = ins 0x49 255 ∷ t4 in
      let t2 = adc (Fixed 255) ∷ t3 in
      let t1 = lda (Fixed 0) ∷ t2 in
      let s1 = behind f.code at (ins 0x8D to) t1 (omega (arith, r)) st in
      let s2 = behind f.code (at + 3) (lda (Fixed 0)) t2 (omega (arith, r)) s1 in
      let s3 = behind f.code (at + 3 + 2) (adc (Fixed 255)) t3 (omega (arith, r)) s2 in
      let s4 = behind f.code (at + 3 + 2 + 2) (ins 0x49 255) t4 (omega (arith, r)) s3 in
      moves_then f _ _ _ [] [] 1 4 (writes_byte f room fits at bs m text answers small to l c d.0 (omega (arith, r)) st.0)
      (moves_then f _ _ _ [] [] 1 3 (loads_with f room fits (at + 3) bs m1 text answers small (Fixed 0) c tt (omega (arith, r)) s1.0)
      (moves_then f _ _ _ [] [] 1 2 (adds_byte f room fits (at + 3 + 2) bs m1 text answers small (Fixed 255) 0 c tt (omega (arith, r)) s2.0)
      (moves_then f _ _ _ [] [] 1 1 (turns f room fits (at + 3 + 2 + 2) bs m1 text answers small 255 (filled c) c1 (omega (arith, r)) s3.0)
      (moves_looser f _ _ _ [] 1 1 (omega arith)
      (λ u k. record {
        pc = k.pc ∙ (let q : at + 3 + 2 + 2 + 2 + 3 ≡ at + 12 = omega arith in q);
        stack = k.stack;
        binary = k.binary;
        mem = k.mem
            ∙ ap (λ b. with_byte m1 (to + 1) b) (all_turned c);
        text = k.text;
        answers = k.answers;
      })
      (λ u k. puts_byte f room fits (at + 3 + 2 + 2 + 2) bs m1 text answers small (to + 1) (bit_xor (filled c) 255) d.1 (omega (arith, r)) s4.0 u
      (record { here = k.here; number = k.number }))))))
