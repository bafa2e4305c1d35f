-- Pieces of code at any address, on data at any address.
use Rattle.std.proofs.Common.{◌≡◌, ℕ, ◌+◌, ◌/◌, ◌%◌, ◌≤◌, Bool, true, false, List, [], ◌∷◌, ◌++◌, length, refl, sym, ap, subst, arith, leb, Some, None, Ok}
use Rattle.tb_proof_simulation.proofs.Mirrors.{Carrying}
use Rattle.tb_proof_simulation.proofs.Resolved.{call, constant, highest_code, jump, jump_by, jump_through, pointed}
use Rattle.tb_runtime16.specs.Routines.{Here, WithA, Moves, WordAt}
use Rattle.tb_memmap.specs.Bytes.{with_byte}
use Rattle.tb_opcodes.specs.declared.Mnemonic.TheVariants.{Lda, Sta}
use Rattle.tb_opcodes.specs.declared.Mnemonic.{Mnemonic}
use Rattle.tb_opcodes.specs.declared.Mode.TheVariants.{Absolute, ZeroPage}
use Rattle.tb_machine_reaching.proofs.Comes.{chained, known, looser}
use Rattle.tb_machine_reaching.proofs.Placed.{changes_at, placing, reads_data, stores_at, takes_at, placed_last}
use Rattle.tb_machine_reaching.specs.View.{Bytes}
use Rattle.tb_machine_reaching.proofs.Instr.{Stands, ins, instr_bytes}
use Rattle.tb_machine_reaching.specs.View.{Comes, Fits, Setup, View, is_data, view, with_s}
use Rattle.tb_compiled_kept.specs.Addresses.{LEFT, RESULT}
use Rattle.std.specs.Prelude.{◌==◌, if◌then◌else◌}
use Rattle.std.proofs.lemmas.Bool.Decides.{nat_tests}
use Rattle.tb_opcodes.specs.Opcodes.{find_row, rows}
use Rattle.tb_cpu.specs.declared.registers.Regs.{Regs}
use Rattle.tb_cpu.specs.Instructions.{executed, advanced, stored}
use Rattle.tb_machine_reaching.proofs.Acting.{kind_of, Plain}

-- a word written
abbrev pub put_word : (ℕ → ℕ) → ℕ → ℕ → ℕ → ℕ → ℕ
put_word m at lo hi = with_byte (with_byte m at lo) (at + 1) hi

-- a set of views led on
pub moves_then : (f : Setup) (p q r : View → Type 0) (t u : List ℕ) (n k : ℕ) → Moves f p q t n → Moves f q r u k → Moves f p r (t ++ u) (n + k)
moves_then f p q r t u n k a b w h = chained f w q r t u n k (a w h) b

-- a larger bound and a larger goal
pub moves_looser : (f : Setup) (p q r : View → Type 0) (t : List ℕ) (n k : ℕ) → n ≤ k → ((w : View) → q w → r w) → Moves f p q t n → Moves f p r t k
moves_looser f p q r t n k le g a w h = looser f w q r t n k le g (a w h)

in_data : (a : ℕ) → 0xC000 ≤ a → a ≤ 0xCFFF → is_data a ≡ true
in_data a lo hi = grind (arith, nat_tests)

-- a word of data: its low byte and its high byte
abbrev pub InData : ℕ → Type 0
InData a = (is_data a ≡ true) × (is_data (a + 1) ≡ true)

-- a word within the data
pub word_in_data : (a : ℕ) → 0xC000 ≤ a → a ≤ 0xCFFE → InData a
word_in_data a lo hi = (in_data a lo (omega (arith, hi)), in_data (a + 1) (omega (arith, lo)) (omega (arith, hi)))

called : (at : ℕ) (bs : List ℕ) → at + 3 ≤ highest_code → ((at + 3) % 65536 + 65535) % 65536 % 256 ∷ ((at + 3) % 65536 + 65535) % 65536 / 256 ∷ bs
    ≡ (at + 2) % 256 ∷ (at + 2) / 256 ∷ bs
called at bs r =
    let e : ((at + 3) % 65536 + 65535) % 65536 ≡ at + 2 = omega arith in
    ap (λ p. p % 256 ∷ p / 256 ∷ bs) e

module _ (f : Setup) (room : ℕ) (fits : Fits f room) where
  -- a read of data at an address that a proof gives
  pub loads : (k p : ℕ) (mn : Mnemonic) (v : View) (r : Regs) (q : View → Type 0) (t : List ℕ) (n : ℕ) → find_row rows k ≡ Some (mn, Absolute)
      → (k == 0) ≡ false → kind_of mn ≡ Plain → leb (length v.stack) room ≡ true → Bytes f.code v.regs.pc (instr_bytes (ins k p)) → is_data p ≡ true
      → executed mn (advanced v.regs Absolute) (λ a. Ok (v.mem p)) p ≡ Ok (r, []) → Comes f (record v { regs = with_s v.regs.s r }) q t n → Comes f v q t (1 + n)
  loads k p mn v r q t n d s e small b dp e' next =
      placing f room fits (ins k p) v (record v { regs = with_s v.regs.s r }) q t n small b
      (takes_at f.code room (ins k p) v mn Absolute p d s e refl refl (v.mem p) r (reads_data f.code v.mem p dp) e') next

  -- the last read of a piece
  pub loads_last : (k p : ℕ) (mn : Mnemonic) (v : View) (r : Regs) (q : View → Type 0) → find_row rows k ≡ Some (mn, Absolute) → (k == 0) ≡ false
      → kind_of mn ≡ Plain → leb (length v.stack) room ≡ true → Bytes f.code v.regs.pc (instr_bytes (ins k p)) → is_data p ≡ true
      → executed mn (advanced v.regs Absolute) (λ a. Ok (v.mem p)) p ≡ Ok (r, []) → q (record v { regs = with_s v.regs.s r }) → Comes f v q [] 1
  loads_last k p mn v r q d s e small b dp e' x =
      placed_last f room fits (ins k p) v (record v { regs = with_s v.regs.s r }) q small b
      (takes_at f.code room (ins k p) v mn Absolute p d s e refl refl (v.mem p) r (reads_data f.code v.mem p dp) e') x

  -- the last read of a piece, by LDA from page zero
  pub loads_short_last : (p : ℕ) (v : View) (r : Regs) (q : View → Type 0) → leb (length v.stack) room ≡ true
      → Bytes f.code v.regs.pc (instr_bytes (ins 0xA5 p)) → is_data p ≡ true → executed Lda (advanced v.regs ZeroPage) (λ a. Ok (v.mem p)) p
      ≡ Ok (r, []) → q (record v { regs = with_s v.regs.s r }) → Comes f v q [] 1
  loads_short_last p v r q small b dp e' x =
      placed_last f room fits (ins 0xA5 p) v (record v { regs = with_s v.regs.s r }) q small b
      (takes_at f.code room (ins 0xA5 p) v Lda ZeroPage p refl refl refl refl refl (v.mem p) r (reads_data f.code v.mem p dp) e') x

  -- a write of A, and one to page zero
  pub stores : (p : ℕ) (v : View) (q : View → Type 0) (t : List ℕ) (n : ℕ) → leb (length v.stack) room ≡ true
      → Bytes f.code v.regs.pc (instr_bytes (ins 0x8D p)) → is_data p ≡ true
      → Comes f (record v { regs = advanced v.regs Absolute; mem = with_byte v.mem p v.regs.a }) q t n → Comes f v q t (1 + n)
  stores p v q t n small b dp next =
      placing f room fits (ins 0x8D p) v (record v { regs = advanced v.regs Absolute; mem = with_byte v.mem p v.regs.a }) q t n small b
      (stores_at f.code room (ins 0x8D p) v Sta Absolute p refl refl refl refl refl v.regs.a dp refl) next

  -- a write of A to page zero
  pub stores_short : (p : ℕ) (v : View) (q : View → Type 0) (t : List ℕ) (n : ℕ) → leb (length v.stack) room ≡ true
      → Bytes f.code v.regs.pc (instr_bytes (ins 0x85 p)) → is_data p ≡ true
      → Comes f (record v { regs = advanced v.regs ZeroPage; mem = with_byte v.mem p v.regs.a }) q t n → Comes f v q t (1 + n)
  stores_short p v q t n small b dp next =
      placing f room fits (ins 0x85 p) v (record v { regs = advanced v.regs ZeroPage; mem = with_byte v.mem p v.regs.a }) q t n small b
      (stores_at f.code room (ins 0x85 p) v Sta ZeroPage p refl refl refl refl refl v.regs.a dp refl) next

  -- a byte of data is changed in place, as the last instruction of a piece
  pub changes_last : (k p c : ℕ) (mn : Mnemonic) (v : View) (r : Regs) (q : View → Type 0) → find_row rows k ≡ Some (mn, Absolute) → (k == 0) ≡ false
      → kind_of mn ≡ Plain → leb (length v.stack) room ≡ true → Bytes f.code v.regs.pc (instr_bytes (ins k p)) → is_data p ≡ true
      → executed mn (advanced v.regs Absolute) (λ a. Ok (v.mem p)) p ≡ stored r p c → q (record v { regs = with_s v.regs.s r; mem = with_byte v.mem p c }) → Comes f v q [] 1
  changes_last k p c mn v r q d s e small b dp e' x =
      placed_last f room fits (ins k p) v (record v { regs = with_s v.regs.s r; mem = with_byte v.mem p c }) q small b
      (changes_at f.code room (ins k p) v mn Absolute p d s e refl refl (v.mem p) c r dp (reads_data f.code v.mem p dp) e') x

  -- the last write of a piece
  pub ends : (p at : ℕ) (v : View) (m : ℕ → ℕ) (bs text answers : List ℕ) → leb (length v.stack) room ≡ true
      → Bytes f.code v.regs.pc (instr_bytes (ins 0x8D p)) → is_data p ≡ true → (v.regs.pc + 3) % 65536 ≡ at → v.stack ≡ bs → v.regs.flags.d ≡ false
      → with_byte v.mem p v.regs.a ≡ m → v.text ≡ text → v.answers ≡ answers → Comes f v (Here at bs m text answers) [] 1
  ends p at v m bs text answers small b dp e s d e' k g =
      placed_last f room fits (ins 0x8D p) v (record v { regs = advanced v.regs Absolute; mem = with_byte v.mem p v.regs.a }) _ small b
      (stores_at f.code room (ins 0x8D p) v Sta Absolute p refl refl refl refl refl v.regs.a dp refl) (record {
        pc = e;
        stack = s;
        binary = d;
        mem = e';
        text = k;
        answers = g;
      })

  -- a write of A, as the last instruction of a piece
  pub stores_last : (p : ℕ) (v : View) (q : View → Type 0) → leb (length v.stack) room ≡ true → Bytes f.code v.regs.pc (instr_bytes (ins 0x8D p))
      → is_data p ≡ true → q (record v { regs = advanced v.regs Absolute; mem = with_byte v.mem p v.regs.a }) → Comes f v q [] 1
  stores_last p v q small b dp x =
      placed_last f room fits (ins 0x8D p) v (record v { regs = advanced v.regs Absolute; mem = with_byte v.mem p v.regs.a }) q small b
      (stores_at f.code room (ins 0x8D p) v Sta Absolute p refl refl refl refl refl v.regs.a dp refl) x

  -- a write of A to page zero, as the last instruction of a piece
  pub stores_short_last : (p : ℕ) (v : View) (q : View → Type 0) → leb (length v.stack) room ≡ true
      → Bytes f.code v.regs.pc (instr_bytes (ins 0x85 p)) → is_data p ≡ true → q (record v { regs = advanced v.regs ZeroPage; mem = with_byte v.mem p v.regs.a }) → Comes f v q [] 1
  stores_short_last p v q small b dp x =
      placed_last f room fits (ins 0x85 p) v (record v { regs = advanced v.regs ZeroPage; mem = with_byte v.mem p v.regs.a }) q small b
      (stores_at f.code room (ins 0x85 p) v Sta ZeroPage p refl refl refl refl refl v.regs.a dp refl) x

  -- whatever the registers and flags
  pub whatever : (at : ℕ) (bs : List ℕ) (m : ℕ → ℕ) (text answers : List ℕ) (q : View → Type 0) (t : List ℕ) (k : ℕ)
      → ((a x y : ℕ) (n v i z c : Bool) → Comes f (view a x y n v i z c at bs m text answers) q t k) → Moves f (Here at bs m text answers) q t k
  whatever at bs m text answers q t k h w e =
      known f w at bs text answers q t k e.pc e.stack e.binary e.text e.answers
      (subst (λ m. Comes f (view w.regs.a w.regs.x w.regs.y w.regs.flags.n w.regs.flags.v w.regs.flags.i w.regs.flags.z w.regs.flags.c at bs m text answers) q t k) (sym e.mem) (h _ _ _ _ _ _ _ _))

  -- whatever the registers and flags, but with a known C
  pub whatever_with : (at : ℕ) (bs : List ℕ) (m : ℕ → ℕ) (text answers : List ℕ) (c : Bool) (q : View → Type 0) (t : List ℕ) (k : ℕ)
      → ((a x y : ℕ) (n v i z : Bool) → Comes f (view a x y n v i z c at bs m text answers) q t k) → Moves f (Carrying at bs m text answers c) q t k
  whatever_with at bs m text answers c q t k h w e =
      known f w at bs text answers q t k e.here.pc e.here.stack e.here.binary e.here.text e.here.answers
      (subst (λ m. Comes f (view w.regs.a w.regs.x w.regs.y w.regs.flags.n w.regs.flags.v w.regs.flags.i w.regs.flags.z w.regs.flags.c at bs m text answers) q t k) (sym e.here.mem)
      (subst (λ c. Comes f (view w.regs.a w.regs.x w.regs.y w.regs.flags.n w.regs.flags.v w.regs.flags.i w.regs.flags.z c at bs m text answers) q t k) (sym e.carry) (h _ _ _ _ _ _ _)))

  -- whatever the registers and flags, but with a known A
  pub whatever_a : (at k : ℕ) (bs : List ℕ) (m : ℕ → ℕ) (text answers : List ℕ) (q : View → Type 0) (t : List ℕ) (l : ℕ)
      → ((x y : ℕ) (n v i z c : Bool) → Comes f (view k x y n v i z c at bs m text answers) q t l) → Moves f (WithA at k bs m text answers) q t l
  whatever_a at k bs m text answers q t l h w e =
      known f w at bs text answers q t l e.here.pc e.here.stack e.here.binary e.here.text e.here.answers
      (subst (λ m. Comes f (view w.regs.a w.regs.x w.regs.y w.regs.flags.n w.regs.flags.v w.regs.flags.i w.regs.flags.z w.regs.flags.c at bs m text answers) q t l) (sym e.here.mem)
      (subst (λ a. Comes f (view a w.regs.x w.regs.y w.regs.flags.n w.regs.flags.v w.regs.flags.i w.regs.flags.z w.regs.flags.c at bs m text answers) q t l) (sym e.number) (h _ _ _ _ _ _ _)))

  module _ (at : ℕ) (bs : List ℕ) (m : ℕ → ℕ) (text answers : List ℕ) (small : leb (length bs) room ≡ true) where
    -- a constant word is stored
    pub sets : (k to : ℕ) → at + 10 ≤ highest_code → InData to → Stands f.code at (constant k to) → Moves f (Here at bs m text answers)
        (Here (at + 10) bs (put_word m to (k % 256) (k / 256)) text answers) [] 4
    sets k to r dt st = whatever at bs m text answers _ [] 4 (λ a x y n v i z c.
        placing f room fits (ins 0xA9 (k % 256)) (view a x y n v i z c at bs m text answers) _ _ [] 3 small st.0 refl
        (stores to (view _ x y _ v i _ c ((at + 2) % 65536) bs m text answers) _ [] 2 small st.1.0 dt.0
        (placing f room fits (ins 0xA9 (k / 256)) (view _ x y _ v i _ c ((((at + 2) % 65536) + 3) % 65536) bs _ text answers) _ _ [] 1 small st.1.1.0 refl
        (ends (to + 1) (at + 10) (view _ x y _ v i _ c ((((((at + 2) % 65536) + 3) % 65536) + 2) % 65536) bs _ text answers) _ bs text answers small
        st.1.1.1.0 dt.1 (omega arith) refl refl refl refl refl))))

    -- a constant word is stored in page zero
    pub points : (k to : ℕ) → at + 8 ≤ highest_code → InData to → Stands f.code at (pointed k to) → Moves f (Here at bs m text answers)
        (Here (at + 8) bs (put_word m to (k % 256) (k / 256)) text answers) [] 4
    points k to r dt st = whatever at bs m text answers _ [] 4 (λ a x y n v i z c.
        placing f room fits (ins 0xA9 (k % 256)) (view a x y n v i z c at bs m text answers) _ _ [] 3 small st.0 refl
        (stores_short to (view _ x y _ v i _ c ((at + 2) % 65536) bs m text answers) _ [] 2 small st.1.0 dt.0
        (placing f room fits (ins 0xA9 (k / 256)) (view _ x y _ v i _ c ((((at + 2) % 65536) + 2) % 65536) bs _ text answers) _ _ [] 1 small st.1.1.0 refl
        (stores_short_last (to + 1) (view _ x y _ v i _ c ((((((at + 2) % 65536) + 2) % 65536) + 2) % 65536) bs _ text answers) _ small st.1.1.1.0 dt.1
        (record { pc = omega arith; stack = refl; binary = refl; mem = refl; text = refl; answers = refl })))))

    -- a jump, and one through the result
    pub jumps : (to : ℕ) → Stands f.code at (jump to) → Moves f (Here at bs m text answers) (Here to bs m text answers) [] 1
    jumps to st = whatever at bs m text answers _ [] 1 (λ a x y n v i z c.
        placed_last f room fits (ins 0x4C to) (view a x y n v i z c at bs m text answers) _ _ small st.0 refl
        (record { pc = refl; stack = refl; binary = refl; mem = refl; text = refl; answers = refl }))

    -- a jump through the result
    pub jumps_through : (to : ℕ) → WordAt m RESULT to → Stands f.code at jump_through → Moves f (Here at bs m text answers) (Here to bs m text answers) [] 1
    jumps_through to is st = whatever at bs m text answers _ [] 1 (λ a x y n v i z c.
        placed_last f room fits (ins 0x6C RESULT) (view a x y n v i z c at bs m text answers) _ _ small st.0 refl
        (record { pc = omega (arith, is.low, is.high); stack = refl; binary = refl; mem = refl; text = refl; answers = refl }))

    -- a jump through a word of page zero
    pub jumps_by_left : (to : ℕ) → WordAt m LEFT to → Stands f.code at (jump_by LEFT) → Moves f (Here at bs m text answers) (Here to bs m text answers) [] 1
    jumps_by_left to is st = whatever at bs m text answers _ [] 1 (λ a x y n v i z c.
        placed_last f room fits (ins 0x6C LEFT) (view a x y n v i z c at bs m text answers) _ _ small st.0 refl
        (record { pc = omega (arith, is.low, is.high); stack = refl; binary = refl; mem = refl; text = refl; answers = refl }))

    -- a call, which returns to what follows it
    pub calls : (to : ℕ) → leb (length (0 ∷ 0 ∷ bs)) room ≡ true → at + 3 ≤ highest_code → Stands f.code at (call to)
        → Moves f (Here at bs m text answers) (Here to ((at + 2) % 256 ∷ (at + 2) / 256 ∷ bs) m text answers) [] 1
    calls to deep r st = whatever at bs m text answers _ [] 1 (λ a x y n v i z c.
        placed_last f room fits (ins 0x20 to) (view a x y n v i z c at bs m text answers) _ _ small st.0
        (ap (λ t. if t then (Some (view a x y n v i z c to (((at + 3) % 65536 + 65535) % 65536 % 256 ∷ ((at + 3) % 65536 + 65535) % 65536 / 256
        ∷ bs) m text answers)) else None) deep) (record { pc = refl; stack = called at bs r; binary = refl; mem = refl; text = refl; answers = refl }))
