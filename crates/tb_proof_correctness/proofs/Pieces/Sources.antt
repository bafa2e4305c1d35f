-- Single instructions on an operand that is a constant byte or at an address, each from view to view.
use Rattle.std.proofs.Common.{not, ◌≡◌, ℕ, ◌+◌, ◌-◌, ◌%◌, ◌≤◌, Bool, true, false, List, [], ◌∷◌, length, refl, sym, subst, arith, leb, eqb}
use Rattle.std.specs.Prelude.{nat_lt, nat_le, if◌then◌else◌}
use Rattle.tb_cpu.specs.Effects.{bit as carry}
use Rattle.tb_memmap.specs.Bytes.{with_byte}
use Rattle.tb_opcodes.specs.declared.Mnemonic.TheVariants.{Adc, Cmp, Lda, Sbc}
use Rattle.tb_machine_reaching.proofs.Comes.{known, looser}
use Rattle.tb_machine_reaching.proofs.Placed.{placed_last}
use Rattle.tb_machine_reaching.proofs.Instr.{Instr, Stands, ins, instr_bytes}
use Rattle.tb_machine_reaching.specs.View.{Bytes, Part, Comes, Fits, Setup, View, is_data, view}
use Rattle.tb_runtime16.specs.Routines.{Here, WithA, Moves}
use Rattle.tb_proof_simulation.proofs.Mirrors.{Carrying}
use Rattle.tb_proof_simulation.proofs.Pieces.{loads_last, loads_short_last, stores_last, stores_short_last, whatever, whatever_a, whatever_with}
use Rattle.tb_proof_simulation.proofs.Resolved.{highest_code, lda_at, sta_at}

-- a byte: a constant, or what is at an address
pub data Byte : Type 0 where
  Fixed : (b : ℕ) → Byte
  At : (p : ℕ) → Byte

-- its value in a memory
abbrev pub value : (ℕ → ℕ) → Byte → ℕ
value m (Fixed b) = b
value m (At p) = m p

-- it is read among the program's own data
abbrev pub IsRead : Byte → Type 0
IsRead (Fixed b) = Unit {0}
IsRead (At p) = is_data p ≡ true

-- an instruction on it, by its opcodes: with a constant, and with an address
abbrev pub on : ℕ → ℕ → Byte → Instr
on imm abs (Fixed b) = ins imm b
on imm abs (At p) = ins abs p

abbrev pub lda : Byte → Instr
lda b = on 0xA9 0xAD b

abbrev pub adc : Byte → Instr
adc b = on 0x69 0x6D b

abbrev pub sbc : Byte → Instr
sbc b = on 0xE9 0xED b

abbrev pub cmp : Byte → Instr
cmp b = on 0xC9 0xCD b

abbrev pub ora : Byte → Instr
ora b = on 0x09 0x0D b

abbrev pub ldy : Byte → Instr
ldy b = on 0xA0 0xAC b

abbrev pub ldx : Byte → Instr
ldx b = on 0xA2 0xAE b

abbrev pub len : Instr → ℕ
len i = length (instr_bytes i)

-- with a known A and C
pub record Known (at a : ℕ) (c : Bool) (bs : List ℕ) (m : ℕ → ℕ) (text answers : List ℕ) (w : View) : Type 0 where
  pub here : Here at bs m text answers w
  pub number : w.regs.a ≡ a
  pub carry : w.regs.flags.c ≡ c

-- after a comparison: with a known Z and C
pub record Compared (at : ℕ) (z c : Bool) (bs : List ℕ) (m : ℕ → ℕ) (text answers : List ℕ) (w : View) : Type 0 where
  pub here : Here at bs m text answers w
  pub zero : w.regs.flags.z ≡ z
  pub carry : w.regs.flags.c ≡ c

-- instructions after one
pub behind : (code : Part) (at : ℕ) (i : Instr) (is : List Instr) → at + len i ≤ highest_code → Stands code at (i ∷ is) → Stands code (at + len i) is
behind code at i is r st = subst (λ p. Stands code p is) (let e : (at + len i) % 65536 ≡ at + len i = omega (arith, r) in e) st.1

module _ (f : Setup) (room : ℕ) (fits : Fits f room) where
  -- whatever the other registers and flags
  pub whatever_known : (at a : ℕ) (c : Bool) (bs : List ℕ) (m : ℕ → ℕ) (text answers : List ℕ) (q : View → Type 0) (t : List ℕ) (l : ℕ)
      → ((x y : ℕ) (n v i z : Bool) → Comes f (view a x y n v i z c at bs m text answers) q t l) → Moves f (Known at a c bs m text answers) q t l
  whatever_known at a c bs m text answers q t l h w e =
      known f w at bs text answers q t l e.here.pc e.here.stack e.here.binary e.here.text e.here.answers
      (subst (λ m. Comes f (view w.regs.a w.regs.x w.regs.y w.regs.flags.n w.regs.flags.v w.regs.flags.i w.regs.flags.z w.regs.flags.c at bs m text answers) q t l) (sym e.here.mem)
      (subst (λ c. Comes f (view w.regs.a w.regs.x w.regs.y w.regs.flags.n w.regs.flags.v w.regs.flags.i w.regs.flags.z c at bs m text answers) q t l) (sym e.carry)
      (subst (λ a. Comes f (view a w.regs.x w.regs.y w.regs.flags.n w.regs.flags.v w.regs.flags.i w.regs.flags.z c at bs m text answers) q t l) (sym e.number) (h _ _ _ _ _ _))))

  module _ (at : ℕ) (bs : List ℕ) (m : ℕ → ℕ) (text answers : List ℕ) (small : leb (length bs) room ≡ true) where
    -- CLC
    pub clears : at + 1 ≤ highest_code → Bytes f.code at (instr_bytes (ins 0x18 0)) → Moves f (Here at bs m text answers) (Carrying (at + 1) bs m text answers false) [] 1
    clears r st = whatever f room fits at bs m text answers _ [] 1 (λ a x y n v i z c.
        placed_last f room fits (ins 0x18 0) (view a x y n v i z c at bs m text answers) _ _ small st refl
        (record {
          here = record {
            pc = let e : (at + 1) % 65536 ≡ at + 1 = omega arith in e;
            stack = refl;
            binary = refl;
            mem = refl;
            text = refl;
            answers = refl;
          };
          carry = refl;
        }))

    -- SEC
    pub raises_carry : at + 1 ≤ highest_code → Bytes f.code at (instr_bytes (ins 0x38 0)) → Moves f (Here at bs m text answers) (Carrying (at + 1) bs m text answers true) [] 1
    raises_carry r st = whatever f room fits at bs m text answers _ [] 1 (λ a x y n v i z c.
        placed_last f room fits (ins 0x38 0) (view a x y n v i z c at bs m text answers) _ _ small st refl
        (record {
          here = record {
            pc = let e : (at + 1) % 65536 ≡ at + 1 = omega arith in e;
            stack = refl;
            binary = refl;
            mem = refl;
            text = refl;
            answers = refl;
          };
          carry = refl;
        }))

    -- a load that keeps C
    pub loads_with : (b : Byte) (c : Bool) → IsRead b → at + len (lda b) ≤ highest_code → Bytes f.code at (instr_bytes (lda b))
        → Moves f (Carrying at bs m text answers c) (Known (at + len (lda b)) (value m b) c bs m text answers) [] 1
    loads_with (Fixed b) c d r st = whatever_with f room fits at bs m text answers c _ [] 1 (λ a x y n v i z.
        placed_last f room fits (ins 0xA9 b) (view a x y n v i z c at bs m text answers) _ _ small st refl
        (record {
          here = record {
            pc = let e : (at + 2) % 65536 ≡ at + 2 = omega arith in e;
            stack = refl;
            binary = refl;
            mem = refl;
            text = refl;
            answers = refl;
          };
          number = refl;
          carry = refl;
        }))
    loads_with (At p) c d r st = whatever_with f room fits at bs m text answers c _ [] 1 (λ a x y n v i z.
        loads_last f room fits 0xAD p Lda (view a x y n v i z c at bs m text answers) _ _ refl refl refl small st d refl
        (record {
          here = record {
            pc = let e : (at + 3) % 65536 ≡ at + 3 = omega arith in e;
            stack = refl;
            binary = refl;
            mem = refl;
            text = refl;
            answers = refl;
          };
          number = refl;
          carry = refl;
        }))

    -- a load
    pub loads_byte : (b : Byte) → IsRead b → at + len (lda b) ≤ highest_code → Bytes f.code at (instr_bytes (lda b))
        → Moves f (Here at bs m text answers) (WithA (at + len (lda b)) (value m b) bs m text answers) [] 1
    loads_byte b d r st w e = looser f w _ _ [] 1 1 (omega arith) (λ u h. record { here = h.here; number = h.number }) (loads_with b w.regs.flags.c d r st w (record { here = e; carry = refl }))

    -- ADC of a byte
    pub adds_byte : (b : Byte) (a : ℕ) (c : Bool) → IsRead b → at + len (adc b) ≤ highest_code → Bytes f.code at (instr_bytes (adc b))
        → Moves f (Known at a c bs m text answers) (Known (at + len (adc b)) ((a + value m b + carry c) % 256) (nat_lt 255 (a + value m b + carry c)) bs m text answers) [] 1
    adds_byte (Fixed b) a c d r st = whatever_known at a c bs m text answers _ [] 1 (λ x y n v i z.
        placed_last f room fits (ins 0x69 b) (view a x y n v i z c at bs m text answers) _ _ small st refl
        (record {
          here = record {
            pc = let e : (at + 2) % 65536 ≡ at + 2 = omega arith in e;
            stack = refl;
            binary = refl;
            mem = refl;
            text = refl;
            answers = refl;
          };
          number = refl;
          carry = refl;
        }))
    adds_byte (At p) a c d r st = whatever_known at a c bs m text answers _ [] 1 (λ x y n v i z.
        loads_last f room fits 0x6D p Adc (view a x y n v i z c at bs m text answers) _ _ refl refl refl small st d refl
        (record {
          here = record {
            pc = let e : (at + 3) % 65536 ≡ at + 3 = omega arith in e;
            stack = refl;
            binary = refl;
            mem = refl;
            text = refl;
            answers = refl;
          };
          number = refl;
          carry = refl;
        }))

    -- SBC of a byte
    pub takes_byte : (b : Byte) (a : ℕ) (c : Bool) → IsRead b → at + len (sbc b) ≤ highest_code → Bytes f.code at (instr_bytes (sbc b))
        → Moves f (Known at a c bs m text answers) (Known (at + len (sbc b)) ((a + 256 - (value m b + carry (not c))) % 256)
        (nat_le (value m b + carry (not c)) a) bs m text answers) [] 1
    takes_byte (Fixed b) a c d r st = whatever_known at a c bs m text answers _ [] 1 (λ x y n v i z.
        placed_last f room fits (ins 0xE9 b) (view a x y n v i z c at bs m text answers) _ _ small st refl
        (record {
          here = record {
            pc = let e : (at + 2) % 65536 ≡ at + 2 = omega arith in e;
            stack = refl;
            binary = refl;
            mem = refl;
            text = refl;
            answers = refl;
          };
          number = refl;
          carry = refl;
        }))
    takes_byte (At p) a c d r st = whatever_known at a c bs m text answers _ [] 1 (λ x y n v i z.
        loads_last f room fits 0xED p Sbc (view a x y n v i z c at bs m text answers) _ _ refl refl refl small st d refl
        (record {
          here = record {
            pc = let e : (at + 3) % 65536 ≡ at + 3 = omega arith in e;
            stack = refl;
            binary = refl;
            mem = refl;
            text = refl;
            answers = refl;
          };
          number = refl;
          carry = refl;
        }))

    -- CMP with a byte
    pub compares_byte : (b : Byte) (a : ℕ) → IsRead b → at + len (cmp b) ≤ highest_code → Bytes f.code at (instr_bytes (cmp b))
        → Moves f (WithA at a bs m text answers) (Compared (at + len (cmp b)) (eqb ((a + 256 - value m b) % 256) 0) (nat_le (value m b) a) bs m text answers) [] 1
    compares_byte (Fixed b) a d r st = whatever_a f room fits at a bs m text answers _ [] 1 (λ x y n v i z c.
        placed_last f room fits (ins 0xC9 b) (view a x y n v i z c at bs m text answers) _ _ small st refl
        (record {
          here = record {
            pc = let e : (at + 2) % 65536 ≡ at + 2 = omega arith in e;
            stack = refl;
            binary = refl;
            mem = refl;
            text = refl;
            answers = refl;
          };
          zero = refl;
          carry = refl;
        }))
    compares_byte (At p) a d r st = whatever_a f room fits at a bs m text answers _ [] 1 (λ x y n v i z c.
        loads_last f room fits 0xCD p Cmp (view a x y n v i z c at bs m text answers) _ _ refl refl refl small st d refl
        (record {
          here = record {
            pc = let e : (at + 3) % 65536 ≡ at + 3 = omega arith in e;
            stack = refl;
            binary = refl;
            mem = refl;
            text = refl;
            answers = refl;
          };
          zero = refl;
          carry = refl;
        }))

    -- a store that keeps C
    pub writes_byte : (p a : ℕ) (c : Bool) → is_data p ≡ true → at + 3 ≤ highest_code → Bytes f.code at (instr_bytes (ins 0x8D p))
        → Moves f (Known at a c bs m text answers) (Carrying (at + 3) bs (with_byte m p a) text answers c) [] 1
    writes_byte p a c d r st = whatever_known at a c bs m text answers _ [] 1 (λ x y n v i z.
        stores_last f room fits p (view a x y n v i z c at bs m text answers) _ small st d
        (record {
          here = record {
            pc = let e : (at + 3) % 65536 ≡ at + 3 = omega arith in e;
            stack = refl;
            binary = refl;
            mem = refl;
            text = refl;
            answers = refl;
          };
          carry = refl;
        }))

    -- a store
    pub puts_byte : (p a : ℕ) → is_data p ≡ true → at + 3 ≤ highest_code → Bytes f.code at (instr_bytes (ins 0x8D p))
        → Moves f (WithA at a bs m text answers) (Here (at + 3) bs (with_byte m p a) text answers) [] 1
    puts_byte p a d r st w e = looser f w _ _ [] 1 1 (omega arith) (λ u h. h.here) (writes_byte p a w.regs.flags.c d r st w (record { here = e.here; number = e.number; carry = refl }))

    -- by either opcode for an address
    loads_by : (t : Bool) (p : ℕ) → is_data p ≡ true → at + len (ins (if t then 0xA5 else 0xAD) p) ≤ highest_code
        → Bytes f.code at (instr_bytes (ins (if t then 0xA5 else 0xAD) p)) → Moves f (Here at bs m text answers)
        (WithA (at + len (ins (if t then 0xA5 else 0xAD) p)) (m p) bs m text answers) [] 1
    loads_by true p d r st = whatever f room fits at bs m text answers _ [] 1 (λ a x y n v i z c.
        loads_short_last f room fits p (view a x y n v i z c at bs m text answers) _ _ small st d refl
        (record {
          here = record {
            pc = let e : (at + 2) % 65536 ≡ at + 2 = omega arith in e;
            stack = refl;
            binary = refl;
            mem = refl;
            text = refl;
            answers = refl;
          };
          number = refl;
        }))
    loads_by false p d r st = loads_byte (At p) d r st

    -- a load from any address
    pub loads_place : (p : ℕ) → is_data p ≡ true → at + len (lda_at p) ≤ highest_code → Bytes f.code at (instr_bytes (lda_at p))
        → Moves f (Here at bs m text answers) (WithA (at + len (lda_at p)) (m p) bs m text answers) [] 1
    loads_place p = loads_by (nat_lt p 256) p

    puts_by : (t : Bool) (p a : ℕ) → is_data p ≡ true → at + len (ins (if t then 0x85 else 0x8D) p) ≤ highest_code
        → Bytes f.code at (instr_bytes (ins (if t then 0x85 else 0x8D) p)) → Moves f (WithA at a bs m text answers)
        (Here (at + len (ins (if t then 0x85 else 0x8D) p)) bs (with_byte m p a) text answers) [] 1
    puts_by true p a d r st = whatever_a f room fits at a bs m text answers _ [] 1 (λ x y n v i z c.
        stores_short_last f room fits p (view a x y n v i z c at bs m text answers) _ small st d (record {
          pc = let e : (at + 2) % 65536 ≡ at + 2 =
              omega arith in e;
          stack = refl;
          binary = refl;
          mem = refl;
          text = refl;
          answers = refl;
        }))
    puts_by false p a d r st = puts_byte p a d r st

    -- a store to any address
    pub puts_place : (p a : ℕ) → is_data p ≡ true → at + len (sta_at p) ≤ highest_code → Bytes f.code at (instr_bytes (sta_at p))
        → Moves f (WithA at a bs m text answers) (Here (at + len (sta_at p)) bs (with_byte m p a) text answers) [] 1
    puts_place p = puts_by (nat_lt p 256) p
