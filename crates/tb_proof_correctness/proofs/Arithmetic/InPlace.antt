-- The laws of changes in place: one more or less, by a constant, half, double.
use Rattle.std.proofs.Common.{◌≡◌, ◌≢◌, ℕ, zero, suc, ◌+◌, ◌-◌, ◌*◌, ◌/◌, ◌%◌, ◌≤◌, ◌<◌, Bool, true, false, cond}
use Rattle.std.proofs.Common.{List, [], ◌∷◌, length, refl, sym, ap, ◌∙◌, subst, arith, leb, eqb, Option, Some, ⊎_elim}
use Rattle.std.specs.Prelude.{if◌then◌else◌, nat_le, nat_lt}
use Rattle.std.proofs.lemmas.Bool.{cases_lt, eq-eqb, eqb-true, ltb-true, ltb-false, leb-true, leb-false, le-leb, lt-leb, ne_eqb}
use Rattle.tb_cpu.specs.Effects.{bit, has_bit}
use Rattle.tb_memmap.specs.Bytes.{with_byte}
use Rattle.tb_opcodes.specs.declared.Mnemonic.TheVariants.{Asl, Dec, Inc, Lda, Rol, Ror}
use Rattle.tb_words.specs.Words.{quotient, word}
use Rattle.tb_basic_syntax.specs.declared.expressions.Operator.{Operator}
use Rattle.tb_basic_meaning.specs.Control.{State}
use Rattle.tb_lower.specs.Slots.{Instr, Slots, SlotCode}
use Rattle.tb_basic_meaning.specs.Values.{apply}
use Rattle.tb_machine_reaching.proofs.Comes.{chained, looser}
use Rattle.tb_machine_reaching.proofs.Instr.{Stands, ins, instr_bytes}
use Rattle.tb_machine_reaching.proofs.Instr as machine
use Rattle.tb_machine_reaching.proofs.Memory.{put_other, put_same}
use Rattle.tb_machine_reaching.proofs.Placed.{placed_last}
use Rattle.tb_machine_reaching.specs.View.{Bytes, Comes, Fits, Setup, View, is_data, view}
use Rattle.tb_runtime16.specs.Routines.{Here, Moves, WithA}
use Rattle.tb_runtime16.proofs.Words.{one_carry}
use Rattle.tb_proof_simulation.proofs.Mirrors.{Carrying, Flagged}
use Rattle.tb_proof_simulation.proofs.Pieces.{InData, changes_last, loads_last, moves_looser, moves_then, put_word, stores_last, whatever, whatever_a, whatever_with}
use Rattle.tb_proof_simulation.proofs.Resolved.{Code, Lies, highest_code, pieces_size, size}
use Rattle.tb_compiler_selection.specs.Groups.{Operand, Destination, Calculate}
use Rattle.tb_compiler_selection.specs.Select.{select}
use Rattle.tb_compiler_templates.specs.declared.sources.Source.TheVariants.{AtAddress}
use Rattle.tb_compiler_templates.specs.declared.in_place.Change.{Change}
use Rattle.tb_compiler_templates.specs.declared.in_place.Change.TheVariants.{Increment, Decrement, Raise, Lower, Halve, Double}
use Rattle.tb_proof_correctness.proofs.Pieces.Branches.{Led, asked_in, branch_behind, branch_size, branches, is_taken}
use Rattle.tb_proof_correctness.proofs.Arithmetic.Changes.{IsByte, IsChange, changed, of_left, of_right, elsewhere}
use Rattle.tb_proof_correctness.proofs.Arithmetic.Constants.{constant_is}
use Rattle.tb_proof_correctness.proofs.CodeBytes.GroupCode.{Carry, Flag, Zero, GroupsLie, OverReaches, Way, ChangeReaches, ChangedReaches, calc_code, change_code, changed_or}
use Rattle.tb_proof_correctness.proofs.CodeBytes.GroupCode.{low_lowered, low_raised, over_at, over_code, raised_by_sign, sign_asked, turned_right, way_size}
use Rattle.tb_proof_correctness.proofs.Pieces.Halves.{double_high, double_low, halve, halve_small, halves_are, high_half, low_half, more, sign_is}
use Rattle.tb_proof_correctness.proofs.Relation.GroupInvariants.{kept}
use Rattle.tb_proof_correctness.proofs.Relation.Operands.{SourceHolds, dest_in_data}
use Rattle.tb_proof_correctness.proofs.Relation.Ready.{Ready, here}
use Rattle.tb_proof_correctness.proofs.Pieces.ShiftSteps.{swapped}
use Rattle.tb_proof_correctness.proofs.Slots.SlotSide.{spread}
use Rattle.tb_proof_correctness.proofs.Pieces.Sources.{Fixed, At, Known, adds_byte, behind, clears, loads_byte, loads_with, raises_carry, takes_byte, whatever_known, writes_byte}
use Rattle.tb_proof_correctness.proofs.Relation.Surroundings.{Surroundings}
use Rattle.tb_proof_correctness.proofs.Arithmetic.Calculated.{Leads, calculation, fit, leads_on, left_holds, result_lands, right_holds}

-- ---- bytes written
-- a byte that is written over itself
put_back : (m : ℕ → ℕ) (p b : ℕ) → b ≡ m p → with_byte m p b ≡ m
put_back m p b e = λ i. λ a. by a (eqb a p) refl i
  where
    by : (a : ℕ) (t : Bool) → eqb a p ≡ t → (if t then b else m a) ≡ m a
    by a true q = e ∙ ap m (sym (eqb-true a p q))
    by a false q = refl

-- a word over another
put_over : (m : ℕ → ℕ) (p l h k j : ℕ) → put_word (put_word m p l h) p k j ≡ put_word m p k j
put_over m p l h k j = λ i. λ a. by a (eqb a (p + 1)) (eqb a p) i
  where
    by : (a : ℕ) (s t : Bool) → (if s then j else if t then k else if s then h else if t then l else m a) ≡ (if s then j else if t then k else m a)
    by a true t = refl
    by a false true = refl
    by a false false = refl

both_put : (m : ℕ → ℕ) (p l h v : ℕ) → l ≡ v % 256 → h ≡ v / 256 → put_word m p l h ≡ put_word m p (v % 256) (v / 256)
both_put m p l h v e e' = λ i. put_word m p (e i) (e' i)

-- the low byte alone, if the high one is right already
low_put : (m : ℕ → ℕ) (p l v : ℕ) → l ≡ v % 256 → m (p + 1) ≡ v / 256 → with_byte m p l ≡ put_word m p (v % 256) (v / 256)
low_put m p l v e e' =
    sym (put_back (with_byte m p l) (p + 1) (v / 256) (sym e' ∙ sym (put_other m p l (p + 1) (λ q. omega (arith, q)))))
    ∙ ap (λ b. put_word m p b (v / 256)) e

-- a number that is not 0
some_is : (n : ℕ) → eqb n 0 ≡ false → 1 ≤ n
some_is zero e = absurd (let no : ⊥ = cc in no)
some_is (suc n) e = omega arith

-- the sign bit of a byte
high_bit : (h : ℕ) → h < 256 → has_bit h 128 ≡ nat_le 128 h
high_bit h small = ⊎_elim
    (λ e. ne_eqb (h / 128 % 2) 1 (λ q. omega (arith, e, q)) ∙ sym (lt-leb 128 h e))
    (λ e. eq-eqb (h / 128 % 2) 1 (omega (arith, e, small)) ∙ sym (le-leb 128 h e))
    (cases_lt h 128)

module _ (f : Setup) (room : ℕ) (fits : Fits f room) (at : ℕ) (bs : List ℕ) (m : ℕ → ℕ) (text answers : List ℕ) (small : leb (length bs) room ≡ true) where
  -- ---- single instructions on a byte at an address
  -- one more, and one less
  counts_up : (p : ℕ) → is_data p ≡ true → at + 3 ≤ highest_code → Bytes f.code at (instr_bytes (ins 0xEE p)) → Moves f (Here at bs m text answers)
      (Flagged (at + 3) bs (with_byte m p ((m p + 1) % 256)) text answers (eqb ((m p + 1) % 256) 0)) [] 1
  counts_up p d r st = whatever f room fits at bs m text answers _ [] 1 (λ a x y n v i z c.
      changes_last f room fits 0xEE p ((m p + 1) % 256) Inc (view a x y n v i z c at bs m text answers) _ _ refl refl refl small st d refl
      (record {
        here = record {
          pc = let e : (at + 3) % 65536 ≡ at + 3 = omega arith in e;
          stack = refl;
          binary = refl;
          mem = refl;
          text = refl;
          answers = refl;
        };
        zero = refl;
      }))

  counts_down : (p : ℕ) → is_data p ≡ true → at + 3 ≤ highest_code → Bytes f.code at (instr_bytes (ins 0xCE p)) → Moves f (Here at bs m text answers)
      (Here (at + 3) bs (with_byte m p ((m p + 255) % 256)) text answers) [] 1
  counts_down p d r st = whatever f room fits at bs m text answers _ [] 1 (λ a x y n v i z c.
      changes_last f room fits 0xCE p ((m p + 255) % 256) Dec (view a x y n v i z c at bs m text answers) _ _ refl refl refl small st d refl
      (record { pc = let e : (at + 3) % 65536 ≡ at + 3 = omega arith in e; stack = refl; binary = refl; mem = refl; text = refl; answers = refl }))

  -- whether it is 0
  looks : (p : ℕ) → is_data p ≡ true → at + 3 ≤ highest_code → Bytes f.code at (instr_bytes (ins 0xAD p)) → Moves f (Here at bs m text answers)
      (Flagged (at + 3) bs m text answers (eqb (m p) 0)) [] 1
  looks p d r st = whatever f room fits at bs m text answers _ [] 1 (λ a x y n v i z c.
      loads_last f room fits 0xAD p Lda (view a x y n v i z c at bs m text answers) _ _ refl refl refl small st d refl
      (record {
        here = record {
          pc = let e : (at + 3) % 65536 ≡ at + 3 = omega arith in e;
          stack = refl;
          binary = refl;
          mem = refl;
          text = refl;
          answers = refl;
        };
        zero = refl;
      }))

  -- shifts
  shifts_left : (p : ℕ) → is_data p ≡ true → at + 3 ≤ highest_code → Bytes f.code at (instr_bytes (ins 0x0E p)) → Moves f (Here at bs m text answers)
      (Carrying (at + 3) bs (with_byte m p (2 * m p % 256)) text answers (has_bit (m p) 128)) [] 1
  shifts_left p d r st = whatever f room fits at bs m text answers _ [] 1 (λ a x y n v i z c.
      changes_last f room fits 0x0E p (2 * m p % 256) Asl (view a x y n v i z c at bs m text answers) _ _ refl refl refl small st d refl
      (record {
        here = record {
          pc = let e : (at + 3) % 65536 ≡ at + 3 = omega arith in e;
          stack = refl;
          binary = refl;
          mem = refl;
          text = refl;
          answers = refl;
        };
        carry = refl;
      }))

  turns_left : (p : ℕ) (c : Bool) → is_data p ≡ true → at + 3 ≤ highest_code → Bytes f.code at (instr_bytes (ins 0x2E p))
      → Moves f (Carrying at bs m text answers c) (Here (at + 3) bs (with_byte m p (2 * m p % 256 + bit c)) text answers) [] 1
  turns_left p c d r st = whatever_with f room fits at bs m text answers c _ [] 1 (λ a x y n v i z.
      changes_last f room fits 0x2E p (2 * m p % 256 + bit c) Rol (view a x y n v i z c at bs m text answers) _ _ refl refl refl small st d refl
      (record { pc = let e : (at + 3) % 65536 ≡ at + 3 = omega arith in e; stack = refl; binary = refl; mem = refl; text = refl; answers = refl }))

  turns_right : (p : ℕ) (c : Bool) → is_data p ≡ true → at + 3 ≤ highest_code → Bytes f.code at (instr_bytes (ins 0x6E p))
      → Moves f (Carrying at bs m text answers c) (Carrying (at + 3) bs (with_byte m p (m p / 2 + 128 * bit c)) text answers (has_bit (m p) 1)) [] 1
  turns_right p c d r st = whatever_with f room fits at bs m text answers c _ [] 1 (λ a x y n v i z.
      changes_last f room fits 0x6E p (m p / 2 + 128 * bit c) Ror (view a x y n v i z c at bs m text answers) _ _ refl refl refl small st d refl
      (record {
        here = record {
          pc = let e : (at + 3) % 65536 ≡ at + 3 = omega arith in e;
          stack = refl;
          binary = refl;
          mem = refl;
          text = refl;
          answers = refl;
        };
        carry = refl;
      }))

  -- A goes to an address and stays, and its sign goes to C
  keeps_a : (p a : ℕ) (c : Bool) → is_data p ≡ true → at + 3 ≤ highest_code → Bytes f.code at (instr_bytes (ins 0x8D p))
      → Moves f (Known at a c bs m text answers) (WithA (at + 3) a bs (with_byte m p a) text answers) [] 1
  keeps_a p a c d r st = whatever_known f room fits at a c bs m text answers _ [] 1 (λ x y n v i z.
      stores_last f room fits p (view a x y n v i z c at bs m text answers) _ small st d
      (record {
        here = record {
          pc = let e : (at + 3) % 65536 ≡ at + 3 = omega arith in e;
          stack = refl;
          binary = refl;
          mem = refl;
          text = refl;
          answers = refl;
        };
        number = refl;
      }))

  signs_a : (a : ℕ) → at + 1 ≤ highest_code → Bytes f.code at (instr_bytes (ins 0x0A 0)) → Moves f (WithA at a bs m text answers) (Carrying (at + 1) bs m text answers (has_bit a 128)) [] 1
  signs_a a r st = whatever_a f room fits at a bs m text answers _ [] 1 (λ x y n v i z c.
      placed_last f room fits (ins 0x0A 0) (view a x y n v i z c at bs m text answers) _ _ small st refl
      (record {
        here = record {
          pc = let e : (at + 1) % 65536 ≡ at + 1 = omega arith in e;
          stack = refl;
          binary = refl;
          mem = refl;
          text = refl;
          answers = refl;
        };
        carry = refl;
      }))

module _ (f : Setup) (room : ℕ) (fits : Fits f room) (bs text answers : List ℕ) (small : leb (length bs) room ≡ true) where
  -- ---- code with a branch over a part of it
  -- what follows the branch, and where the branch leads by its flag
  pub record Forked (first : Way) (at : ℕ) (before : List machine.Instr) (which : Flag) (wanted : Bool) (skipped back : List machine.Instr) : Type 0 where
    pub stands : Stands f.code (at + size before + way_size first) skipped
    pub behind_stands : Stands f.code (over_at first at before skipped) back
    pub ends : over_at first at before skipped + size back ≤ highest_code
    pub end_is : over_at first at before skipped + size back ≡ at + pieces_size (over_code first at before which wanted skipped back)
    pub leads : (m : ℕ → ℕ) (t : Bool) (w : View) → Here (at + size before) bs m text answers w → asked_in which w ≡ t
        → Comes f w (Led f room fits bs m text answers small w (cond (is_taken wanted t) (over_at first at before skipped) (at + size before + way_size first))) [] 2

  -- code with a branch over a part of it, from its instructions and the branch's reach
  pub forked : (first : Way) (at : ℕ) (before : List machine.Instr) (which : Flag) (wanted : Bool) (skipped back : List machine.Instr)
      → Lies f.code at (over_code first at before which wanted skipped back) → OverReaches first at before skipped
      → Forked first at before which wanted skipped back
  forked first at before which wanted skipped back lies reach =
      let parts = branch_behind f (at + size before) first which wanted (over_at first at before skipped) (Code skipped ∷ Code back ∷ []) lies.2 in record {
        stands = parts.1.1;
        behind_stands = parts.1.2.1;
        ends = parts.1.2.0;
        end_is = let e = branch_size first which wanted (at + size before) (over_at first at before skipped) in omega (arith, e);
        leads = λ m t w h e. branches f room fits bs m text answers small (at + size before) first which wanted t (over_at first at before skipped) parts.0 reach lies.2.1 w h e;
      }

  here_at : (p q : ℕ) (m : ℕ → ℕ) (w : View) → p ≡ q → Here p bs m text answers w → Here q bs m text answers w
  here_at p q m w e h = subst (λ a. Here a bs m text answers w) e h

  -- ---- the changes of a word x at an address p
  module _ (first : Way) (at p : ℕ) (d : InData p) (m : ℕ → ℕ) (x : ℕ) (hs : SourceHolds m (AtAddress p) x) where
    -- the word v is at p, and the rest is unchanged
    abbrev Stored : (to v : ℕ) → View → Type 0
    Stored to v = Here to bs (put_word m p (v % 256) (v / 256)) text answers

    stored : (to v q : ℕ) (k : ℕ → ℕ) (w : View) → q ≡ to → k ≡ put_word m p (v % 256) (v / 256) → Here q bs k text answers w → Stored to v w
    stored to v q k w e e' h = record { pc = h.pc ∙ e; stack = h.stack; binary = h.binary; mem = h.mem ∙ e'; text = h.text; answers = h.answers }

    lo : m p ≡ x % 256
    lo = hs.low_byte

    hi : m (p + 1) ≡ x / 256
    hi = hs.high_byte

    apart : p + 1 ≢ p
    apart q = omega (arith, q)

    -- the other byte is unchanged by the one that is written
    other : (b : ℕ) → with_byte m p b (p + 1) ≡ m (p + 1)
    other b = put_other m p b (p + 1) apart

    increments : Lies f.code at (change_code first at Increment p) → ChangeReaches first at Increment p
        → Moves f (Here at bs m text answers) (Stored (at + pieces_size (change_code first at Increment p)) (word (x + 1))) [] 16
    increments lies reach w h =
        let o = forked first at (ins 0xEE p ∷ []) Zero false (ins 0xEE (p + 1) ∷ []) [] lies reach in
        chained f w _ _ [] [] 1 15 (counts_up f room fits at bs m text answers small p d.0 (omega (arith, lies.0)) lies.1.0 w h) (λ u g. by o (eqb l 0) refl u g)
      where
        l : ℕ
        l = (m p + 1) % 256

        m1 : ℕ → ℕ
        m1 = with_byte m p l

        end : ℕ
        end = at + pieces_size (change_code first at Increment p)

        by : Forked first at (ins 0xEE p ∷ []) Zero false (ins 0xEE (p + 1) ∷ []) [] → (t : Bool) → eqb l 0 ≡ t → (u : View)
            → Flagged (at + 3) bs m1 text answers (eqb l 0) u → Comes f u (Stored end (word (x + 1))) [] 15
        by o true e u g =
            chained f u _ _ [] [] 2 13 (o.leads m1 true u (here_at (at + 3) (at + size (ins 0xEE p ∷ [])) m1 u (omega arith) g.here) (g.zero ∙ e)) (λ v k.
            looser f v _ _ [] 1 13 (omega arith)
            (λ y j. stored end (word (x + 1)) _ _ y (let q = o.end_is in omega (arith, q)) (both_put m p l ((m1 (p + 1) + 1) % 256) (word (x + 1))
            (omega (arith, lo)) (let q = other l in let z = eqb-true l 0 e in omega (arith, q, z, lo, hi, hs.small))) j.here)
            (counts_up f room fits (at + size (ins 0xEE p ∷ []) + way_size first) bs m1 text answers small (p + 1) d.1 (let q = o.ends in omega (arith, q)) o.stands.0 v k.here))
        by o false e u g =
            looser f u _ _ [] 2 15 (omega arith)
            (λ v k. stored end (word (x + 1)) _ _ v (let q = o.end_is in omega (arith, q)) (low_put m p l (word (x + 1)) (omega (arith, lo))
            (let z = some_is l e in omega (arith, z, lo, hi, hs.small))) k.here)
            (o.leads m1 false u (here_at (at + 3) (at + size (ins 0xEE p ∷ [])) m1 u (omega arith) g.here) (g.zero ∙ e))

    decrements : Lies f.code at (change_code first at Decrement p) → ChangeReaches first at Decrement p
        → Moves f (Here at bs m text answers) (Stored (at + pieces_size (change_code first at Decrement p)) (word (x + 65535))) [] 16
    decrements lies reach w h =
        let o = forked first at (ins 0xAD p ∷ []) Zero false (ins 0xCE (p + 1) ∷ []) (ins 0xCE p ∷ []) lies reach in
        chained f w _ _ [] [] 1 15 (looks f room fits at bs m text answers small p d.0 (omega (arith, lies.0)) lies.1.0 w h) (λ u g. by o (eqb (m p) 0) refl u g)
      where
        v : ℕ
        v = word (x + 65535)

        end : ℕ
        end = at + pieces_size (change_code first at Decrement p)

        fork : ℕ
        fork = at + size (ins 0xAD p ∷ [])

        back : ℕ
        back = over_at first at (ins 0xAD p ∷ []) (ins 0xCE (p + 1) ∷ [])

        h1 : ℕ
        h1 = (m (p + 1) + 255) % 256

        m1 : ℕ → ℕ
        m1 = with_byte m (p + 1) h1

        l : ℕ
        l = (m1 p + 255) % 256

        same : m1 p ≡ m p
        same = put_other m (p + 1) h1 p (λ q. omega (arith, q))

        by : Forked first at (ins 0xAD p ∷ []) Zero false (ins 0xCE (p + 1) ∷ []) (ins 0xCE p ∷ []) → (t : Bool) → eqb (m p) 0 ≡ t → (u : View)
            → Flagged (at + 3) bs m text answers (eqb (m p) 0) u → Comes f u (Stored end v) [] 15
        by o true e u g =
            let z = eqb-true (m p) 0 e in
            chained f u _ _ [] [] 2 13 (o.leads m true u (here_at (at + 3) fork m u (omega arith) g.here) (g.zero ∙ e)) (λ y k.
            chained f y _ _ [] [] 1 12 (counts_down f room fits (fork + way_size first) bs m text answers small (p + 1) d.1 (let q = o.ends in omega (arith, q)) o.stands.0 y k.here) (λ y k.
            looser f y _ _ [] 1 12 (omega arith)
            (λ y j. stored end v _ _ y (let q = o.end_is in omega (arith, q)) (swapped m (p + 1) p h1 l apart
            ∙ both_put m p l h1 v (omega (arith, same, lo, hs.small)) (omega (arith, z, lo, hi, hs.small))) j)
            (counts_down f room fits back bs m1 text answers small p d.0 (let q = o.ends in omega (arith, q)) o.behind_stands.0 y (here_at (fork + way_size first + 3) back m1 y (omega arith) k))))
        by o false e u g =
            let z = some_is (m p) e in
            chained f u _ _ [] [] 2 13 (o.leads m false u (here_at (at + 3) fork m u (omega arith) g.here) (g.zero ∙ e)) (λ y k.
            looser f y _ _ [] 1 13 (omega arith)
            (λ y j. stored end v _ _ y (let q = o.end_is in omega (arith, q)) (low_put m p ((m p + 255) % 256) v (omega (arith, lo, hs.small)) (omega (arith, z, lo, hi, hs.small))) j)
            (counts_down f room fits back bs m text answers small p d.0 (let q = o.ends in omega (arith, q)) o.behind_stands.0 y k.here))

    raises : (c : ℕ) → c < 256 → Lies f.code at (change_code first at (Raise c) p) → ChangeReaches first at (Raise c) p
        → Moves f (Here at bs m text answers) (Stored (at + pieces_size (change_code first at (Raise c) p)) (word (x + c))) [] 16
    raises c few lies reach =
        let o = forked first at (low_raised c p) Carry false (ins 0xEE (p + 1) ∷ []) [] lies reach in
        let s1 = behind f.code at (ins 0x18 0) (ins 0xAD p ∷ ins 0x69 c ∷ ins 0x8D p ∷ []) (omega (arith, lies.0)) lies.1 in
        let s2 = behind f.code (at + 1) (ins 0xAD p) (ins 0x69 c ∷ ins 0x8D p ∷ []) (omega (arith, lies.0)) s1 in
        let s3 = behind f.code (at + 1 + 3) (ins 0x69 c) (ins 0x8D p ∷ []) (omega (arith, lies.0)) s2 in
        moves_then f _ _ _ [] [] 1 15 (clears f room fits at bs m text answers small (omega (arith, lies.0)) lies.1.0)
        (moves_then f _ _ _ [] [] 1 14 (loads_with f room fits (at + 1) bs m text answers small (At p) false d.0 (omega (arith, lies.0)) s1.0)
        (moves_then f _ _ _ [] [] 1 13 (adds_byte f room fits (at + 1 + 3) bs m text answers small (Fixed c) (m p) false tt (omega (arith, lies.0)) s2.0)
        (moves_then f _ _ _ [] [] 1 12 (writes_byte f room fits (at + 1 + 3 + 2) bs m text answers small p l (nat_lt 255 sum) d.0 (omega (arith, lies.0)) s3.0)
        (λ u g. by o (nat_lt 255 sum) refl u g))))
      where
        sum : ℕ
        sum = m p + c + 0

        l : ℕ
        l = sum % 256

        m1 : ℕ → ℕ
        m1 = with_byte m p l

        v : ℕ
        v = word (x + c)

        end : ℕ
        end = at + pieces_size (change_code first at (Raise c) p)

        fork : ℕ
        fork = at + size (low_raised c p)

        by : Forked first at (low_raised c p) Carry false (ins 0xEE (p + 1) ∷ []) [] → (t : Bool) → nat_lt 255 sum ≡ t → (u : View)
            → Carrying (at + 1 + 3 + 2 + 3) bs m1 text answers (nat_lt 255 sum) u → Comes f u (Stored end v) [] 12
        by o true e u g =
            let z = ltb-true 255 sum e in
            chained f u _ _ [] [] 2 10 (o.leads m1 true u (here_at _ fork m1 u (omega arith) g.here) (g.carry ∙ e)) (λ y k.
            looser f y _ _ [] 1 10 (omega arith)
            (λ y j. stored end v _ _ y (let q = o.end_is in omega (arith, q)) (both_put m p l ((m1 (p + 1) + 1) % 256) v (omega (arith, lo))
            (let q = other l in omega (arith, q, z, few, lo, hi, hs.small))) j.here)
            (counts_up f room fits (fork + way_size first) bs m1 text answers small (p + 1) d.1 (let q = o.ends in omega (arith, q)) o.stands.0 y k.here))
        by o false e u g =
            let z = ltb-false 255 sum e in
            looser f u _ _ [] 2 12 (omega arith)
            (λ y k. stored end v _ _ y (let q = o.end_is in omega (arith, q)) (low_put m p l v (omega (arith, lo)) (omega (arith, z, few, lo, hi, hs.small))) k.here)
            (o.leads m1 false u (here_at _ fork m1 u (omega arith) g.here) (g.carry ∙ e))

    lowers : (c : ℕ) → c < 256 → Lies f.code at (change_code first at (Lower c) p) → ChangeReaches first at (Lower c) p
        → Moves f (Here at bs m text answers) (Stored (at + pieces_size (change_code first at (Lower c) p)) (word (x + (65536 - c)))) [] 16
    lowers c few lies reach =
        let o = forked first at (low_lowered c p) Carry true (ins 0xCE (p + 1) ∷ []) [] lies reach in
        let s1 = behind f.code at (ins 0x38 0) (ins 0xAD p ∷ ins 0xE9 c ∷ ins 0x8D p ∷ []) (omega (arith, lies.0)) lies.1 in
        let s2 = behind f.code (at + 1) (ins 0xAD p) (ins 0xE9 c ∷ ins 0x8D p ∷ []) (omega (arith, lies.0)) s1 in
        let s3 = behind f.code (at + 1 + 3) (ins 0xE9 c) (ins 0x8D p ∷ []) (omega (arith, lies.0)) s2 in
        moves_then f _ _ _ [] [] 1 15 (raises_carry f room fits at bs m text answers small (omega (arith, lies.0)) lies.1.0)
        (moves_then f _ _ _ [] [] 1 14 (loads_with f room fits (at + 1) bs m text answers small (At p) true d.0 (omega (arith, lies.0)) s1.0)
        (moves_then f _ _ _ [] [] 1 13 (takes_byte f room fits (at + 1 + 3) bs m text answers small (Fixed c) (m p) true tt (omega (arith, lies.0)) s2.0)
        (moves_then f _ _ _ [] [] 1 12 (writes_byte f room fits (at + 1 + 3 + 2) bs m text answers small p l (nat_le (c + 0) (m p)) d.0 (omega (arith, lies.0)) s3.0)
        (λ u g. by o (nat_le (c + 0) (m p)) refl u g))))
      where
        l : ℕ
        l = (m p + 256 - (c + 0)) % 256

        m1 : ℕ → ℕ
        m1 = with_byte m p l

        v : ℕ
        v = word (x + (65536 - c))

        end : ℕ
        end = at + pieces_size (change_code first at (Lower c) p)

        fork : ℕ
        fork = at + size (low_lowered c p)

        by : Forked first at (low_lowered c p) Carry true (ins 0xCE (p + 1) ∷ []) [] → (t : Bool) → nat_le (c + 0) (m p) ≡ t → (u : View)
            → Carrying (at + 1 + 3 + 2 + 3) bs m1 text answers (nat_le (c + 0) (m p)) u → Comes f u (Stored end v) [] 12
        by o false e u g =
            let z = leb-false (c + 0) (m p) e in
            chained f u _ _ [] [] 2 10 (o.leads m1 false u (here_at _ fork m1 u (omega arith) g.here) (g.carry ∙ e)) (λ y k.
            looser f y _ _ [] 1 10 (omega arith)
            (λ y j. stored end v _ _ y (let q = o.end_is in omega (arith, q)) (both_put m p l ((m1 (p + 1) + 255) % 256) v
            (omega (arith, few, lo, hs.small)) (let q = other l in omega (arith, q, z, few, lo, hi, hs.small))) j)
            (counts_down f room fits (fork + way_size first) bs m1 text answers small (p + 1) d.1 (let q = o.ends in omega (arith, q)) o.stands.0 y k.here))
        by o true e u g =
            let z = leb-true (c + 0) (m p) e in
            looser f u _ _ [] 2 12 (omega arith)
            (λ y k. stored end v _ _ y (let q = o.end_is in omega (arith, q)) (low_put m p l v (omega (arith, few, lo, hs.small)) (omega (arith, z, few, lo, hi, hs.small))) k.here)
            (o.leads m1 true u (here_at _ fork m1 u (omega arith) g.here) (g.carry ∙ e))

    doubles : Lies f.code at (change_code first at Double p) → Moves f (Here at bs m text answers) (Stored (at + pieces_size (change_code first at Double p)) (word (2 * x))) [] 16
    doubles lies =
        let s1 = behind f.code at (ins 0x0E p) (ins 0x2E (p + 1) ∷ []) (omega (arith, lies.0)) lies.1 in
        moves_then f _ _ _ [] [] 1 15 (shifts_left f room fits at bs m text answers small p d.0 (omega (arith, lies.0)) lies.1.0)
        (moves_looser f _ _ _ [] 1 15 (omega arith)
        (λ y j. stored (at + pieces_size (change_code first at Double p)) (word (2 * x)) _ _ y (omega arith)
        (both_put m p l (2 * m1 (p + 1) % 256 + bit (has_bit (m p) 128)) (word (2 * x)) (ap (λ b. 2 * b % 256) lo ∙ double_low x) high) j)
        (turns_left f room fits (at + 3) bs m1 text answers small (p + 1) (has_bit (m p) 128) d.1 (omega (arith, lies.0)) s1.0))
      where
        l : ℕ
        l = 2 * m p % 256

        m1 : ℕ → ℕ
        m1 = with_byte m p l

        high : 2 * m1 (p + 1) % 256 + bit (has_bit (m p) 128) ≡ word (2 * x) / 256
        high = (λ i. 2 * (other l ∙ hi) i % 256 + bit (has_bit (lo i) 128)) ∙ double_high x hs.small

    -- ---- half
    -- after the branch: a word y with its sign in C is shifted to the right
    shifts_right : (at to y : ℕ) (k : ℕ → ℕ) (c : Bool) → at + 6 ≤ highest_code → at + 6 ≡ to → Stands f.code at (turned_right p) → k p ≡ y % 256
        → k (p + 1) ≡ y / 256 → y < 65536 → c ≡ nat_le 128 (y / 256)
        → Moves f (Carrying at bs k text answers c) (Here to bs (put_word k p (halve y % 256) (halve y / 256)) text answers) [] 2
    shifts_right at to y k c r e st l h s sign =
        let s1 = behind f.code at (ins 0x6E (p + 1)) (ins 0x6E p ∷ []) (omega (arith, r)) st in
        let b = k (p + 1) / 2 + 128 * bit c in
        let k1 = with_byte k (p + 1) b in
        let t = has_bit (k (p + 1)) 1 in
        let a = k1 p / 2 + 128 * bit t in
        let same : k1 p ≡ k p = put_other k (p + 1) b p (λ q. omega (arith, q)) in
        let b_is : b ≡ halve y / 256 = (λ i. h i / 2 + 128 * bit (sign i)) ∙ high_half y s in
        let a_is : a ≡ halve y % 256 = (λ i. (same ∙ l) i / 2 + 128 * bit (has_bit (h i) 1)) ∙ low_half y s in
        moves_then f _ _ _ [] [] 1 1 (turns_right f room fits at bs k text answers small (p + 1) c d.1 (omega (arith, r)) st.0)
        (moves_looser f _ _ _ [] 1 1 (omega arith)
        (λ u g. record {
          pc = g.here.pc ∙ (let q : at + 3 + 3 ≡ to = omega (arith, e) in q);
          stack = g.here.stack;
          binary = g.here.binary;
          mem = g.here.mem ∙ swapped k (p + 1) p b a apart ∙ (λ i. put_word k p (a_is i) (b_is i));
          text = g.here.text;
          answers = g.here.answers;
        })
        (turns_right f room fits (at + 3) bs k1 text answers small p t d.0 (omega (arith, r)) s1.0))

    halves : Lies f.code at (change_code first at Halve p) → ChangeReaches first at Halve p
        → Moves f (Here at bs m text answers) (Stored (at + pieces_size (change_code first at Halve p)) (quotient x 2)) [] 16
    halves lies reach =
        let o = forked first at (sign_asked p) Carry false (raised_by_sign p) (turned_right p) lies reach in
        let s1 = behind f.code at (ins 0xAD (p + 1)) (ins 0x0A 0 ∷ []) (omega (arith, lies.0)) lies.1 in
        moves_then f _ _ _ [] [] 1 15 (loads_byte f room fits at bs m text answers small (At (p + 1)) d.1 (omega (arith, lies.0)) lies.1.0)
        (moves_then f _ _ _ [] [] 1 14 (signs_a f room fits (at + 3) bs m text answers small (m (p + 1)) (omega (arith, lies.0)) s1.0)
        (λ u g. by o (has_bit (m (p + 1)) 128) refl u g))
      where
        end : ℕ
        end = at + pieces_size (change_code first at Halve p)

        fork : ℕ
        fork = at + size (sign_asked p)

        mid : ℕ
        mid = fork + way_size first

        back : ℕ
        back = over_at first at (sign_asked p) (raised_by_sign p)

        sign : has_bit (m (p + 1)) 128 ≡ nat_le 128 (x / 256)
        sign = ap (λ b. has_bit b 128) hi ∙ high_bit (x / 256) (omega (arith, hs.small))

        by_sign : has_bit (m (p + 1)) 128 ≡ nat_le 32768 x
        by_sign = sign ∙ sign_is x hs.small

        -- a word that is not negative
        half_is : (t : Bool) → nat_le 32768 x ≡ t → halve (word (x + more 0 t)) ≡ quotient x 2
        half_is t e = ap (λ t. halve (word (x + more 0 t))) (sym e) ∙ halves_are 0 x (omega arith) hs.small

        -- a negative word
        l : ℕ
        l = (m p + 0 + 1) % 256

        c : Bool
        c = nat_lt 255 (m p + 0 + 1)

        m1 : ℕ → ℕ
        m1 = with_byte m p l

        h : ℕ
        h = (m1 (p + 1) + 0 + bit c) % 256

        m2 : ℕ → ℕ
        m2 = put_word m p l h

        y : ℕ
        y = word (x + 1)

        l_is : l ≡ y % 256
        l_is = omega (arith, lo)

        h_is : h ≡ y / 256
        h_is = let q = one_carry (m p + 0 + 1) (omega (arith, lo)) in let r = other l in omega (arith, q, r, lo, hi, hs.small)

        m2_low : m2 p ≡ y % 256
        m2_low = put_other m1 (p + 1) h p (λ q. omega (arith, q)) ∙ put_same m p l p refl ∙ l_is

        m2_high : m2 (p + 1) ≡ y / 256
        m2_high = put_same m1 (p + 1) h (p + 1) refl ∙ h_is

        y_sign : has_bit h 128 ≡ nat_le 128 (y / 256)
        y_sign = ap (λ b. has_bit b 128) h_is ∙ high_bit (y / 256) (omega arith)

        raises_word : Stands f.code mid (raised_by_sign p) → mid + 17 ≤ highest_code → mid + 17 ≡ back → Moves f (Carrying mid bs m text answers true)
            (Carrying back bs m2 text answers (has_bit h 128)) [] 7
        raises_word st r e =
            let a1 = behind f.code mid (ins 0xAD p) (ins 0x69 0 ∷ ins 0x8D p ∷ ins 0xAD (p + 1) ∷ ins 0x69 0 ∷ ins 0x8D (p + 1) ∷ ins 0x0A 0 ∷ []) (omega (arith, r)) st in
            let a2 = behind f.code (mid + 3) (ins 0x69 0) (ins 0x8D p ∷ ins 0xAD (p + 1) ∷ ins 0x69 0 ∷ ins 0x8D (p + 1) ∷ ins 0x0A 0 ∷ []) (omega (arith, r)) a1 in
            let a3 = behind f.code (mid + 3 + 2) (ins 0x8D p) (ins 0xAD (p + 1) ∷ ins 0x69 0 ∷ ins 0x8D (p + 1) ∷ ins 0x0A 0 ∷ []) (omega (arith, r)) a2 in
            let a4 = behind f.code (mid + 3 + 2 + 3) (ins 0xAD (p + 1)) (ins 0x69 0 ∷ ins 0x8D (p + 1) ∷ ins 0x0A 0 ∷ []) (omega (arith, r)) a3 in
            let a5 = behind f.code (mid + 3 + 2 + 3 + 3) (ins 0x69 0) (ins 0x8D (p + 1) ∷ ins 0x0A 0 ∷ []) (omega (arith, r)) a4 in
            let a6 = behind f.code (mid + 3 + 2 + 3 + 3 + 2) (ins 0x8D (p + 1)) (ins 0x0A 0 ∷ []) (omega (arith, r)) a5 in
            moves_then f _ _ _ [] [] 1 6 (loads_with f room fits mid bs m text answers small (At p) true d.0 (omega (arith, r)) st.0)
            (moves_then f _ _ _ [] [] 1 5 (adds_byte f room fits (mid + 3) bs m text answers small (Fixed 0) (m p) true tt (omega (arith, r)) a1.0)
            (moves_then f _ _ _ [] [] 1 4 (writes_byte f room fits (mid + 3 + 2) bs m text answers small p l c d.0 (omega (arith, r)) a2.0)
            (moves_then f _ _ _ [] [] 1 3 (loads_with f room fits (mid + 3 + 2 + 3) bs m1 text answers small (At (p + 1)) c d.1 (omega (arith, r)) a3.0)
            (moves_then f _ _ _ [] [] 1 2 (adds_byte f room fits (mid + 3 + 2 + 3 + 3) bs m1 text answers small (Fixed 0) (m1 (p + 1)) c tt (omega (arith, r)) a4.0)
            (moves_then f _ _ _ [] [] 1 1 (keeps_a f room fits (mid + 3 + 2 + 3 + 3 + 2) bs m1 text answers small (p + 1) h (nat_lt 255 (m1 (p + 1) + 0 + bit c)) d.1 (omega (arith, r)) a5.0)
            (moves_looser f _ _ _ [] 1 1 (omega arith)
            (λ u k. record { here = here_at (mid + 3 + 2 + 3 + 3 + 2 + 3 + 1) back m2 u (omega (arith, e)) k.here; carry = k.carry })
            (signs_a f room fits (mid + 3 + 2 + 3 + 3 + 2 + 3) bs m2 text answers small h (omega (arith, r)) a6.0)))))))

        by : Forked first at (sign_asked p) Carry false (raised_by_sign p) (turned_right p) → (t : Bool) → has_bit (m (p + 1)) 128 ≡ t → (u : View)
            → Carrying (at + 3 + 1) bs m text answers (has_bit (m (p + 1)) 128) u → Comes f u (Stored end (quotient x 2)) [] 14
        by o false e u g =
            let same : word (x + more 0 false) ≡ x = omega (arith, hs.small) in
            let v_is : halve x ≡ quotient x 2 = ap halve (sym same) ∙ half_is false (sym by_sign ∙ e) in
            chained f u _ _ [] [] 2 12 (o.leads m false u (here_at _ fork m u (omega arith) g.here) (g.carry ∙ e)) (λ y k.
            looser f y _ _ [] 2 12 (omega arith)
            (λ y j. stored end (quotient x 2) end _ y refl (ap (λ v. put_word m p (v % 256) (v / 256)) v_is) j)
            (shifts_right back end x m false (let q = o.ends in omega (arith, q)) (let q = o.end_is in omega (arith, q)) o.behind_stands lo hi
            hs.small (sym e ∙ sign) y (record { here = k.here; carry = k.carry ∙ g.carry ∙ e })))
        by o true e u g =
            let v_is : halve (word (x + 1)) ≡ quotient x 2 = half_is true (sym by_sign ∙ e) in
            chained f u _ _ [] [] 2 12 (o.leads m true u (here_at _ fork m u (omega arith) g.here) (g.carry ∙ e)) (λ y k.
            chained f y _ _ [] [] 7 5 (raises_word o.stands (let q = o.ends in omega (arith, q)) (omega arith) y (record { here = k.here; carry = k.carry ∙ g.carry ∙ e })) (λ y k.
            looser f y _ _ [] 2 5 (omega arith)
            (λ y j. stored end (quotient x 2) end _ y refl (put_over m p l h _ _ ∙ ap (λ v. put_word m p (v % 256) (v / 256)) v_is) j)
            (shifts_right back end (word (x + 1)) m2 (has_bit h 128) (let q = o.ends in omega (arith, q)) (let q = o.end_is in
            omega (arith, q)) o.behind_stands m2_low m2_high (omega arith) y_sign y k)))

    -- ---- each change
    pub changes : (c : Change) → IsByte c → Lies f.code at (change_code first at c p) → ChangeReaches first at c p
        → Moves f (Here at bs m text answers) (Stored (at + pieces_size (change_code first at c p)) (changed c x)) [] 16
    changes Increment few lies reach = increments lies reach
    changes Decrement few lies reach = decrements lies reach
    changes (Raise c) few lies reach = raises c few lies reach
    changes (Lower c) few lies reach = lowers c few lies reach
    changes Halve few lies reach = halves lies reach
    changes Double few lies reach = doubles lies

-- a word that is changed is a word
pub changed_small : (c : Change) (x : ℕ) → x < 65536 → changed c x < 65536
changed_small Increment x h = omega arith
changed_small Decrement x h = omega arith
changed_small (Raise c) x h = omega arith
changed_small (Lower c) x h = omega arith
changed_small Halve x h = subst (λ v. v < 65536) (halves_are 0 x (omega arith) h) (halve_small (word (x + more 0 (nat_le 32768 x))) (omega arith))
changed_small Double x h = omega arith

module _ {around : Surroundings} (fits : Fits around.f 16) (code : SlotCode) {n : ℕ} {op : Operator} {a b : Operand} {d : Destination}
    {is : List Instr} {s : State} {r : Slots} {w : View} (h : Ready around n (Calculate op a b d) (spread op a b d is) is s r w) where
  open around use {ly, f}
  open calculation a b d s r use {x, y, left, right, to}

  -- the word z at the address is changed
  change_law : (c : Change) (first : Way) (z : ℕ) → IsByte c → SourceHolds w.mem (AtAddress to) z → apply op x y ≡ Some (changed c z)
      → Lies f.code w.regs.pc (change_code first w.regs.pc c to) → GroupsLie ly f.code n (w.regs.pc + pieces_size (change_code first w.regs.pc c to))
      (select is) → ChangeReaches first w.regs.pc c to → Leads h code 16
  change_law c first z few hs e lies rest reach =
      let v = changed c z in
      leads_on h code v 16 e
      (looser f w _ _ [] 16 16 (omega arith)
      (result_lands h code v (v % 256) (v / 256) (w.regs.pc + pieces_size (change_code first w.regs.pc c to)) w.mem refl refl (changed_small c z hs.small) rest (kept h))
      (changes f 16 fits (around.lo ∷ around.hi ∷ []) w.text w.answers refl first w.regs.pc to (dest_in_data d (fit h).dest) w.mem z hs c few lies reach w (here h)))

  -- a calculation, by whether it is a change
  pub computed_law : (j : ℕ) → 16 ≤ j → (first : Way) (o : Option Change) → IsChange op left right to o
      → Lies f.code w.regs.pc (changed_or o first n w.regs.pc op left right to)
      → GroupsLie ly f.code n (w.regs.pc + pieces_size (changed_or o first n w.regs.pc op left right to)) (select is)
      → ChangedReaches o first w.regs.pc to → (Lies f.code w.regs.pc (calc_code n op left right to)
      → GroupsLie ly f.code n (w.regs.pc + pieces_size (calc_code n op left right to)) (select is) → Leads h code j) → Leads h code j
  computed_law j le first _ (of_left v c e e' m) lies rest reach other =
      let q = constant_is w.mem v _ right e' (right_holds h w.mem (kept h)) in
      looser f w _ _ _ 16 j le (λ u z. z)
      (change_law c first x m.few (subst (λ q. SourceHolds w.mem q x) e (left_holds h w.mem (kept h))) (ap (λ q. apply op x q) (sym q.0) ∙ m.is (omega (arith, q.0, q.1)) x) lies rest reach)
  computed_law j le first _ (of_right v c e e' m) lies rest reach other =
      let q = constant_is w.mem v _ left e (left_holds h w.mem (kept h)) in
      looser f w _ _ _ 16 j le (λ u z. z)
      (change_law c first y m.few (subst (λ q. SourceHolds w.mem q y) e' (right_holds h w.mem (kept h))) (ap (λ q. apply op q y) (sym q.0) ∙ m.is (omega (arith, q.0, q.1)) y) lies rest reach)
  computed_law j le first _ elsewhere lies rest reach other = other lies rest
