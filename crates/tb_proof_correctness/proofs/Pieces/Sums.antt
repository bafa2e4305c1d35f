-- Pieces of code on words that are constants or at addresses.
use Rattle.std.proofs.Common.{not, ◌≡◌, ◌≢◌, ℕ, ◌+◌, ◌-◌, ◌%◌, ◌≤◌, Bool, true, false, List, [], ◌∷◌, length, refl, ap, ◌∙◌, arith, leb}
use Rattle.std.specs.Prelude.{nat_lt, nat_le}
use Rattle.tb_cpu.specs.Effects.{bit as carry}
use Rattle.tb_memmap.specs.Bytes.{with_byte}
use Rattle.tb_machine_reaching.proofs.Memory.{put_other}
use Rattle.tb_machine_reaching.proofs.Instr.{Instr, Stands, ins, instr_bytes}
use Rattle.tb_machine_reaching.specs.View.{Bytes, Fits, Setup}
use Rattle.tb_runtime16.specs.Routines.{Here, Moves}
use Rattle.tb_proof_simulation.proofs.Mirrors.{Carrying}
use Rattle.tb_proof_simulation.proofs.Pieces.{InData, moves_then, moves_looser, put_word}
use Rattle.tb_proof_simulation.proofs.Resolved.{copied, highest_code, lda_at, size, sta_at}
use Rattle.tb_proof_correctness.proofs.Pieces.Sources.{Byte, Known, value, IsRead, lda, adc, sbc, len, behind, clears, raises_carry, loads_with, loads_byte, adds_byte}
use Rattle.tb_proof_correctness.proofs.Pieces.Sources.{takes_byte, writes_byte, puts_byte, loads_place, puts_place}
use Rattle.tb_compiler_templates.specs.declared.sources.Source.{Source}
use Rattle.tb_compiler_templates.specs.declared.sources.Source.TheVariants.{FixedWord, AtAddress}
use Rattle.tb_proof_correctness.proofs.CodeBytes.GroupCode.{low, high, brought, summed, taken}

-- a word's source is among the data, and its high byte is not where another word's low byte goes
abbrev pub Grounded : Source → ℕ → Type 0
Grounded (FixedWord w) to = Unit {0}
Grounded (AtAddress p) to = InData p × (p + 1 ≢ to)

-- it is above the bytes of page zero
abbrev pub Away : Source → Type 0
Away (FixedWord w) = Unit {0}
Away (AtAddress p) = 0xC000 ≤ p

-- the low byte of such a word is read among the data
pub low_read : (a : Source) (to : ℕ) → Grounded a to → IsRead (low a)
low_read (FixedWord w) to h = tt
low_read (AtAddress p) to h = h.0.0

-- the high byte of such a word is read among the data
pub high_read : (a : Source) (to : ℕ) → Grounded a to → IsRead (high a)
high_read (FixedWord w) to h = tt
high_read (AtAddress p) to h = h.0.1

-- the high byte is the same once the low one is written
pub high_same : (a : Source) (to x : ℕ) (m : ℕ → ℕ) → Grounded a to → value (with_byte m to x) (high a) ≡ value m (high a)
high_same (FixedWord w) to x m h = refl
high_same (AtAddress p) to x m h = put_other m to x (p + 1) h.1

-- two words combined byte by byte, by an instruction that combines a byte with A and C
abbrev joined : (Byte → Instr) → Source → Source → ℕ → List Instr
joined join a b to = lda (low a) ∷ join (low b) ∷ ins 0x8D to ∷ lda (high a) ∷ join (high b) ∷ ins 0x8D (to + 1) ∷ []

module _ (f : Setup) (room : ℕ) (fits : Fits f room) (at : ℕ) (bs : List ℕ) (m : ℕ → ℕ) (text answers : List ℕ) (small : leb (length bs) room ≡ true)
    (join : Byte → Instr) (result : ℕ → ℕ → Bool → ℕ) (out : ℕ → ℕ → Bool → Bool)
    (law : (p : ℕ) (k : ℕ → ℕ) (b : Byte) (x : ℕ) (c : Bool) → IsRead b → p + len (join b) ≤ highest_code → Bytes f.code p (instr_bytes (join b))
    → Moves f (Known p x c bs k text answers) (Known (p + len (join b)) (result x (value k b) c) (out x (value k b) c) bs k text answers) [] 1) where
  joins : (begun : Bool) (end : ℕ) (a b : Source) (to : ℕ) → at + size (joined join a b to) ≡ end → end ≤ highest_code → Grounded a to → Grounded b to
      → InData to → Stands f.code at (joined join a b to)
      → Moves f (Carrying at bs m text answers begun) (Here end bs (put_word m to (result (value m (low a)) (value m (low b)) begun)
      (result (value m (high a)) (value m (high b)) (out (value m (low a)) (value m (low b)) begun))) text answers) [] 6
  joins begun end a b to e r ga gb d st =
      let x = result (value m (low a)) (value m (low b)) begun in
      let c = out (value m (low a)) (value m (low b)) begun in
      let m1 = with_byte m to x in
      let p1 = at + len (lda (low a)) in
      let p2 = p1 + len (join (low b)) in
      let p3 = p2 + 3 in
      let p4 = p3 + len (lda (high a)) in
      let p5 = p4 + len (join (high b)) in
      let t4 = ins 0x8D (to + 1) ∷ [] in
      let t3 = join (high b) ∷ t4 in
      let t2 = lda (high a) ∷ t3 in
      let t1 = ins 0x8D to ∷ t2 in
      let s1 = behind f.code at (lda (low a)) (join (low b) ∷ t1) (omega (arith, e, r)) st in
      let s2 = behind f.code p1 (join (low b)) t1 (omega (arith, e, r)) s1 in
      let s3 = behind f.code p2 (ins 0x8D to) t2 (omega (arith, e, r)) s2 in
      let s4 = behind f.code p3 (lda (high a)) t3 (omega (arith, e, r)) s3 in
      let s5 = behind f.code p4 (join (high b)) t4 (omega (arith, e, r)) s4 in
      moves_then f _ _ _ [] [] 1 5 (loads_with f room fits at bs m text answers small (low a) begun (low_read a to ga) (omega (arith, e, r)) st.0)
      (moves_then f _ _ _ [] [] 1 4 (law p1 m (low b) (value m (low a)) begun (low_read b to gb) (omega (arith, e, r)) s1.0)
      (moves_then f _ _ _ [] [] 1 3 (writes_byte f room fits p2 bs m text answers small to x c d.0 (omega (arith, e, r)) s2.0)
      (moves_then f _ _ _ [] [] 1 2 (loads_with f room fits p3 bs m1 text answers small (high a) c (high_read a to ga) (omega (arith, e, r)) s3.0)
      (moves_then f _ _ _ [] [] 1 1 (law p4 m1 (high b) (value m1 (high a)) c (high_read b to gb) (omega (arith, e, r)) s4.0)
      (moves_looser f _ _ _ [] 1 1 (omega arith)
      (λ w h. record {
        pc = h.here.pc ∙ (let q : p5 + 3 ≡ end = omega (arith, e) in q);
        stack = h.here.stack;
        binary = h.here.binary;
        mem = h.here.mem
            ∙ ap (λ y. with_byte m1 (to + 1) (result y (value m1 (high b)) c)) (high_same a to x m ga)
            ∙ ap (λ y. with_byte m1 (to + 1) (result (value m (high a)) y c)) (high_same b to x m gb);
        text = h.here.text;
        answers = h.here.answers;
      })
      (writes_byte f room fits p5 bs m1 text answers small (to + 1) (result (value m1 (high a)) (value m1 (high b)) c)
      (out (value m1 (high a)) (value m1 (high b)) c) d.1 (omega (arith, e, r)) s5.0))))))

module _ (f : Setup) (room : ℕ) (fits : Fits f room) (at : ℕ) (bs : List ℕ) (m : ℕ → ℕ) (text answers : List ℕ) (small : leb (length bs) room ≡ true) where
  -- a word brought to an address
  pub brings : (a : Source) (to : ℕ) → at + size (brought a to) ≤ highest_code → Grounded a to → InData to → Stands f.code at (brought a to)
      → Moves f (Here at bs m text answers) (Here (at + size (brought a to)) bs (put_word m to (value m (low a)) (value m (high a))) text answers) [] 4
  brings a to r g d st =
      let m1 = with_byte m to (value m (low a)) in
      let p1 = at + len (lda (low a)) in
      let p2 = p1 + len (sta_at to) in
      let p3 = p2 + len (lda (high a)) in
      let s1 = behind f.code at (lda (low a)) (sta_at to ∷ lda (high a) ∷ sta_at (to + 1) ∷ []) (omega (arith, r)) st in
      let s2 = behind f.code p1 (sta_at to) (lda (high a) ∷ sta_at (to + 1) ∷ []) (omega (arith, r)) s1 in
      let s3 = behind f.code p2 (lda (high a)) (sta_at (to + 1) ∷ []) (omega (arith, r)) s2 in
      moves_then f _ _ _ [] [] 1 3 (loads_byte f room fits at bs m text answers small (low a) (low_read a to g) (omega (arith, r)) st.0)
      (moves_then f _ _ _ [] [] 1 2 (puts_place f room fits p1 bs m text answers small to (value m (low a)) d.0 (omega (arith, r)) s1.0)
      (moves_then f _ _ _ [] [] 1 1 (loads_byte f room fits p2 bs m1 text answers small (high a) (high_read a to g) (omega (arith, r)) s2.0)
      (moves_looser f _ _ _ [] 1 1 (omega arith)
      (λ w h. record {
        pc = h.pc ∙ (let q : p3 + len (sta_at (to + 1)) ≡ at + size (brought a to) = omega arith in q);
        stack = h.stack;
        binary = h.binary;
        mem = h.mem ∙ ap (λ b. with_byte m1 (to + 1) b) (high_same a to (value m (low a)) m g);
        text = h.text;
        answers = h.answers;
      })
      (puts_place f room fits p3 bs m1 text answers small (to + 1) (value m1 (high a)) d.1 (omega (arith, r)) s3.0))))

  -- a word copied
  pub copies : (from to : ℕ) → at + size (copied from to) ≤ highest_code → InData from → InData to → from + 1 ≢ to → Stands f.code at (copied from to)
      → Moves f (Here at bs m text answers) (Here (at + size (copied from to)) bs (put_word m to (m from) (m (from + 1))) text answers) [] 4
  copies from to r df dt apart st =
      let m1 = with_byte m to (m from) in
      let p1 = at + len (lda_at from) in
      let p2 = p1 + 3 in
      let p3 = p2 + len (lda_at (from + 1)) in
      let s1 = behind f.code at (lda_at from) (ins 0x8D to ∷ lda_at (from + 1) ∷ ins 0x8D (to + 1) ∷ []) (omega (arith, r)) st in
      let s2 = behind f.code p1 (ins 0x8D to) (lda_at (from + 1) ∷ ins 0x8D (to + 1) ∷ []) (omega (arith, r)) s1 in
      let s3 = behind f.code p2 (lda_at (from + 1)) (ins 0x8D (to + 1) ∷ []) (omega (arith, r)) s2 in
      moves_then f _ _ _ [] [] 1 3 (loads_place f room fits at bs m text answers small from df.0 (omega (arith, r)) st.0)
      (moves_then f _ _ _ [] [] 1 2 (puts_byte f room fits p1 bs m text answers small to (m from) dt.0 (omega (arith, r)) s1.0)
      (moves_then f _ _ _ [] [] 1 1 (loads_place f room fits p2 bs m1 text answers small (from + 1) df.1 (omega (arith, r)) s2.0)
      (moves_looser f _ _ _ [] 1 1 (omega arith)
      (λ w h. record {
        pc = h.pc ∙ (let q : p3 + 3 ≡ at + size (copied from to) = omega arith in q);
        stack = h.stack;
        binary = h.binary;
        mem = h.mem
            ∙ ap (λ b. with_byte m1 (to + 1) b) (put_other m to (m from) (from + 1) apart);
        text = h.text;
        answers = h.answers;
      })
      (puts_byte f room fits p3 bs m1 text answers small (to + 1) (m1 (from + 1)) dt.1 (omega (arith, r)) s3.0))))

  -- the sum of two words
  pub sums : (a b : Source) (to : ℕ) → at + size (summed a b to) ≤ highest_code → Grounded a to → Grounded b to → InData to
      → Stands f.code at (summed a b to) → Moves f (Here at bs m text answers) (Here (at + size (summed a b to)) bs
      (put_word m to ((value m (low a) + value m (low b) + 0) % 256)
      ((value m (high a) + value m (high b) + carry (nat_lt 255 (value m (low a) + value m (low b) + 0))) % 256)) text answers) [] 7
  sums a b to r ga gb d st =
      moves_then f _ _ _ [] [] 1 6 (clears f room fits at bs m text answers small (omega (arith, r)) st.0)
      (joins f room fits (at + 1) bs m text answers small adc (λ x y c. (x + y + carry c) % 256) (λ x y c. nat_lt 255 (x + y + carry c))
      (λ p k b x c. adds_byte f room fits p bs k text answers small b x c) false _ a b to (omega arith) r ga gb d
      (behind f.code at (ins 0x18 0) (joined adc a b to) (omega (arith, r)) st))

  -- the difference of two words
  pub differs : (a b : Source) (to : ℕ) → at + size (taken a b to) ≤ highest_code → Grounded a to → Grounded b to → InData to
      → Stands f.code at (taken a b to) → Moves f (Here at bs m text answers)
      (Here (at + size (taken a b to)) bs (put_word m to ((value m (low a) + 256 - (value m (low b) + 0)) % 256)
      ((value m (high a) + 256 - (value m (high b) + carry (not (nat_le (value m (low b) + 0) (value m (low a)))))) % 256)) text answers) [] 7
  differs a b to r ga gb d st =
      moves_then f _ _ _ [] [] 1 6 (raises_carry f room fits at bs m text answers small (omega (arith, r)) st.0)
      (joins f room fits (at + 1) bs m text answers small sbc (λ x y c. (x + 256 - (y + carry (not c))) % 256) (λ x y c. nat_le (y + carry (not c)) x)
      (λ p k b x c. takes_byte f room fits p bs k text answers small b x c) true _ a b to (omega arith) r ga gb d
      (behind f.code at (ins 0x38 0) (joined sbc a b to) (omega (arith, r)) st))
