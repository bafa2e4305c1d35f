-- A test for equality, whose branches go to the next line or on.
use Rattle.std.proofs.Common.{◌≡◌, ℕ, ◌+◌, ◌-◌, ◌/◌, ◌%◌, ◌≤◌, ◌<◌, Bool, true, false, cond, List, [], ◌∷◌, length}
use Rattle.std.proofs.Common.{refl, sym, ap, ◌∙◌, subst, arith, leb, eqb, ⊎_elim}
use Rattle.std.specs.Prelude.{if◌then◌else◌, nat_eq, nat_le}
use Rattle.std.proofs.lemmas.Bool.{eqb-true, eq-eqb, ne_eqb, cases_eq}
use Rattle.tb_machine_reaching.proofs.Comes.{looser}
use Rattle.tb_opcodes.specs.declared.Mnemonic.TheVariants.{Lda}
use Rattle.tb_machine_reaching.proofs.Instr.{Instr, Stands, ins, instr_bytes}
use Rattle.tb_machine_reaching.proofs.Placed.{placed_last}
use Rattle.tb_machine_reaching.specs.View.{Bytes, Comes, Fits, Setup, view}
use Rattle.tb_runtime16.specs.Routines.{Here, Moves}
use Rattle.tb_proof_simulation.proofs.Mirrors.{Flagged}
use Rattle.tb_proof_simulation.proofs.Pieces.{loads_last, moves_then, moves_looser, whatever}
use Rattle.tb_proof_simulation.proofs.Resolved.{Code, Lies, Piece, highest_code, pieces_size, size}
use Rattle.tb_proof_correctness.proofs.Pieces.Sources.{Byte, Fixed, At, value, IsRead, lda, cmp, len, Compared, behind, loads_byte, compares_byte}
use Rattle.tb_compiler_templates.specs.declared.sources.Source.{Source}
use Rattle.tb_proof_correctness.proofs.CodeBytes.GroupCode.{EqualityReaches, Way, Zero, branch_code, branch_on, equality_code, first_to, high, low, matched, second_at, way_size, weighed}
use Rattle.tb_proof_correctness.proofs.Pieces.Branches.{branch_behind, branch_size, branches, last_leads}
use Rattle.tb_proof_correctness.proofs.Relation.Operands.{SourceHolds}
use Rattle.tb_proof_correctness.proofs.Testing.SignedOrder.{turned}
use Rattle.tb_proof_correctness.proofs.Pieces.Sums.{Grounded, low_read, high_read}

-- the difference of two bytes is 0 if they are equal
pub same_byte : (l r : ℕ) → l < 256 → r < 256 → eqb ((l + 256 - r) % 256) 0 ≡ eqb l r
same_byte l r ls rs = ⊎_elim (λ e. eq-eqb _ _ (omega (arith, e)) ∙ sym (eq-eqb l r e)) (λ n. ne_eqb _ _ (λ z. n (omega (arith, z, ls, rs))) ∙ sym (ne_eqb l r n)) (cases_eq l r)

module _ (f : Setup) (room : ℕ) (fits : Fits f room) (at : ℕ) (bs : List ℕ) (m : ℕ → ℕ) (text answers : List ℕ) (small : leb (length bs) room ≡ true) where
  -- two bytes compared
  pub weighs : (a b : Byte) → at + size (weighed a b) ≤ highest_code → IsRead a → IsRead b → Stands f.code at (weighed a b)
      → Moves f (Here at bs m text answers) (Compared (at + size (weighed a b)) (eqb ((value m a + 256 - value m b) % 256) 0)
      (nat_le (value m b) (value m a)) bs m text answers) [] 2
  weighs a b r da db st =
      let p1 = at + len (lda a) in
      let s1 = behind f.code at (lda a) (cmp b ∷ []) (omega (arith, r)) st in
      moves_then f _ _ _ [] [] 1 1 (loads_byte f room fits at bs m text answers small a da (omega (arith, r)) st.0)
      (moves_looser f _ _ _ [] 1 1 (omega arith)
      (λ w h. record {
        here = record {
          pc = h.here.pc ∙ (let q : p1 + len (cmp b) ≡ at + size (weighed a b) = omega arith in q);
          stack = h.here.stack;
          binary = h.here.binary;
          mem = h.here.mem;
          text = h.here.text;
          answers = h.here.answers;
        };
        zero = h.zero;
        carry = h.carry;
      })
      (compares_byte f room fits p1 bs m text answers small b (value m a) db (omega (arith, r)) s1.0))

  -- a load tells whether a byte is 0
  loads_flag : (b : Byte) → IsRead b → at + len (lda b) ≤ highest_code → Bytes f.code at (instr_bytes (lda b)) → Moves f (Here at bs m text answers)
      (Flagged (at + len (lda b)) bs m text answers (eqb (value m b) 0)) [] 1
  loads_flag (Fixed b) d r st = whatever f room fits at bs m text answers _ [] 1 (λ a x y n v i z c.
      placed_last f room fits (ins 0xA9 b) (view a x y n v i z c at bs m text answers) _ _ small st refl
      (record {
        here = record {
          pc = let e : (at + 2) % 65536 ≡ at + 2 = omega arith in e;
          stack = refl;
          binary = refl;
          mem = refl;
          text = refl;
          answers = refl;
        };
        zero = refl;
      }))
  loads_flag (At p) d r st = whatever f room fits at bs m text answers _ [] 1 (λ a x y n v i z c.
      loads_last f room fits 0xAD p Lda (view a x y n v i z c at bs m text answers) _ _ refl refl refl small st d refl
      (record {
        here = record {
          pc = let e : (at + 3) % 65536 ≡ at + 3 = omega arith in e;
          stack = refl;
          binary = refl;
          mem = refl;
          text = refl;
          answers = refl;
        };
        zero = refl;
      }))

  -- two bytes compared by CMP tell whether they are equal
  tells_compared : (a b : Byte) → at + size (weighed a b) ≤ highest_code → IsRead a → IsRead b → value m a < 256 → value m b < 256
      → Stands f.code at (weighed a b) → Moves f (Here at bs m text answers) (Flagged (at + size (weighed a b)) bs m text answers (eqb (value m a) (value m b))) [] 2
  tells_compared a b r da db sa sb st = moves_looser f _ _ _ [] 2 2 (omega arith) (λ w h. record { here = h.here; zero = h.zero ∙ same_byte _ _ sa sb }) (weighs a b r da db st)

  -- Z tells whether they are equal, by the load alone if the second one is 0
  tells : (a b : Byte) → at + size (matched a b) ≤ highest_code → IsRead a → IsRead b → value m a < 256 → value m b < 256
      → Stands f.code at (matched a b) → Moves f (Here at bs m text answers) (Flagged (at + size (matched a b)) bs m text answers (eqb (value m a) (value m b))) [] 2
  tells a (At p) r da db sa sb st = tells_compared a (At p) r da db sa sb st
  tells a (Fixed b) r da db sa sb st = by (nat_eq b 0) refl r st
    where
      code : Bool → List Instr
      code t = lda a ∷ (if t then [] else cmp (Fixed b) ∷ [])

      by : (t : Bool) → nat_eq b 0 ≡ t → at + size (code t) ≤ highest_code → Stands f.code at (code t)
          → Moves f (Here at bs m text answers) (Flagged (at + size (code t)) bs m text answers (eqb (value m a) b)) [] 2
      by true e r st = moves_looser f _ _ _ [] 1 2 (omega arith)
          (λ w h. record {
            here = record {
              pc = h.here.pc ∙ (let q : at + len (lda a) ≡ at + size (code true) = omega arith in q);
              stack = h.here.stack;
              binary = h.here.binary;
              mem = h.here.mem;
              text = h.here.text;
              answers = h.here.answers;
            };
            zero = h.zero ∙ ap (eqb (value m a)) (sym (eqb-true b 0 e));
          })
          (loads_flag a da (omega (arith, r)) st.0)
      by false e r st = tells_compared a (Fixed b) r da tt sa sb st

module _ (f : Setup) (room : ℕ) (fits : Fits f room) (at : ℕ) (bs : List ℕ) (m : ℕ → ℕ) (text answers : List ℕ) (small : leb (length bs) room ≡ true)
    (a b : Source) (x y : ℕ) (ga : Grounded a 0) (gb : Grounded b 0) (ha : SourceHolds m a x) (hb : SourceHolds m b y) (differ : Bool)
    (first second : Way) (next : ℕ) (lies : Lies f.code at (equality_code differ first second at a b next)) (reach : EqualityReaches differ first second at a b next) where
  abbrev low_same : Bool
  low_same = eqb (value m (low a)) (value m (low b))

  abbrev high_same : Bool
  high_same = eqb (value m (high a)) (value m (high b))

  -- the addresses of the branches, and the one after them
  abbrev p1 : ℕ
  p1 = at + size (matched (low a) (low b))

  abbrev p2 : ℕ
  p2 = second_at first at a b

  abbrev end : ℕ
  end = p2 + way_size second

  -- where the whole test leads
  abbrev to : Bool → ℕ
  to same = cond (turned differ same) end next

  abbrev highs : List Piece
  highs = Code (matched (high a) (high b)) ∷ Code (branch_code second (branch_on Zero differ) p2 next) ∷ []

  lies_second : (p1 + way_size first ≤ highest_code) × Lies f.code (p1 + way_size first) highs
  lies_second = branch_behind f p1 first Zero false (first_to differ first second at a b next) highs lies.2

  lies_end : end ≤ highest_code
  lies_end = (branch_behind f p2 second Zero differ next [] lies_second.1.2).0

  first_leads : (turn : Bool) → first_to turn first second at a b next ≡ cond (turned turn false) end next
  first_leads true = refl
  first_leads false = refl

  begins : Moves f (Here at bs m text answers) (Flagged p1 bs m text answers low_same) [] 2
  begins = tells f room fits at bs m text answers small (low a) (low b) lies.0 (low_read a 0 ga) (low_read b 0 gb) (omega (arith, ha.low_byte)) (omega (arith, hb.low_byte)) lies.1

  goes_on : Moves f (Here (p1 + way_size first) bs m text answers) (Flagged p2 bs m text answers high_same) [] 2
  goes_on = tells f room fits (p1 + way_size first) bs m text answers small (high a) (high b) lies_second.1.0 (high_read a 0 ga) (high_read b 0 gb)
      (omega (arith, ha.high_byte, ha.small)) (omega (arith, hb.high_byte, hb.small)) lies_second.1.1

  parts : (same : Bool) → low_same ≡ same → Moves f (Flagged p1 bs m text answers low_same)
      (Here (cond same (p1 + way_size first) (first_to differ first second at a b next)) bs m text answers) [] 2
  parts same e w h = by same e
    where
      by : (same : Bool) → low_same ≡ same → Comes f w (Here (cond same (p1 + way_size first) (first_to differ first second at a b next)) bs m text answers) [] 2
      by true e = looser f w _ _ [] 2 2 (omega arith) (λ u g. g.here) (branches f room fits bs m text answers small p1 first Zero false true _ lies_second.0 reach.0 lies.2.1 w h.here (h.zero ∙ e))
      by false e = looser f w _ _ [] 2 2 (omega arith) (λ u g. g.here) (branches f room fits bs m text answers small p1 first Zero false false _
          lies_second.0 reach.0 lies.2.1 w h.here (h.zero ∙ e))

  ends : Moves f (Flagged p2 bs m text answers high_same) (Here (to high_same) bs m text answers) [] 2
  ends w h =
      looser f w _ _ [] 2 2 (omega arith) (λ u g. subst (λ p. Here p bs m text answers u) (last_leads differ high_same next end) g.here)
      (branches f room fits bs m text answers small p2 second Zero differ high_same next lies_end reach.1 lies_second.1.2.1 w h.here h.zero)

  -- the words are equal if both bytes are
  are_same : (l h : Bool) → low_same ≡ l → high_same ≡ h → nat_eq x y ≡ cond l h false
  are_same true true e e' = eq-eqb x y (omega (arith, ha.low_byte, ha.high_byte, hb.low_byte, hb.high_byte, eqb-true _ _ e, eqb-true _ _ e'))
  are_same true false e e' = ne_eqb x y (λ q. (let no : true ≡ false = sym (eq-eqb _ _ (ha.high_byte ∙ ap (λ z. z / 256) q ∙ sym hb.high_byte)) ∙ e' in cc))
  are_same false h e e' = ne_eqb x y (λ q. (let no : true ≡ false = sym (eq-eqb _ _ (ha.low_byte ∙ ap (λ z. z % 256) q ∙ sym hb.low_byte)) ∙ e in cc))

  leads : (l : Bool) → low_same ≡ l → Moves f (Here at bs m text answers) (Here (to (nat_eq x y)) bs m text answers) [] 8
  leads true e =
      moves_then f _ _ _ [] [] 2 6 begins
      (moves_then f _ _ _ [] [] 2 4 (parts true e)
      (moves_then f _ _ _ [] [] 2 2 goes_on
      (moves_looser f _ _ _ [] 2 2 (omega arith) (λ w h. subst (λ t. Here (to t) bs m text answers w) (sym (are_same true high_same e refl)) h) ends)))
  leads false e =
      moves_looser f _ _ _ [] 4 8 (omega arith) (λ w h. subst (λ p. Here p bs m text answers w) (first_leads differ ∙ ap to (sym (are_same false high_same e refl))) h)
      (moves_then f _ _ _ [] [] 2 2 begins (parts false e))

  end_is : end ≡ at + pieces_size (equality_code differ first second at a b next)
  end_is = omega (arith, branch_size first Zero false p1 (first_to differ first second at a b next), branch_size second Zero differ p2 next)

  -- where the test leads: on after it if the words are equal, or, if that is wanted, if they differ
  pub tests_equality : Moves f (Here at bs m text answers) (Here (cond (turned differ (nat_eq x y)) (at + pieces_size (equality_code differ first second at a b next)) next) bs m text answers) [] 8
  tests_equality = moves_looser f _ _ _ [] 8 8 (omega arith) (λ w h. subst (λ e. Here (cond (turned differ (nat_eq x y)) e next) bs m text answers w) end_is h) (leads low_same refl)
