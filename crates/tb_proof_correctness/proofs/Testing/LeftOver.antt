-- What the code of a test by a divisor does: Z tells whether the remainder is 0, and the branch that tests it.
use Rattle.std.proofs.Common.{◌≡◌, ◌≢◌, ℕ, ◌+◌, ◌-◌, ◌%◌, ◌^◌, ◌≤◌, Bool, true, cond, List, [], ◌∷◌, ◌++◌, length}
use Rattle.std.proofs.Common.{refl, sym, ap, ◌∙◌, subst, arith, leb, eqb, bit_and, Option}
use Rattle.std.specs.Prelude.{nat_eq, bit_or}
use Rattle.tb_opcodes.specs.declared.Mnemonic.TheVariants.{Ora}
use Rattle.tb_words.specs.Words.{magnitude}
use Rattle.tb_basic_meaning.specs.Control.{State, fault_text}
use Rattle.tb_lower.specs.Slots.{Instr, Slots}
use Rattle.tb_machine_reaching.proofs.Comes.{chained, looser}
use Rattle.tb_machine_reaching.proofs.Instr.{Stands, ins, instr_bytes}
use Rattle.tb_machine_reaching.proofs.Placed.{placed_last}
use Rattle.tb_machine_reaching.specs.Start.{IsHome}
use Rattle.tb_machine_reaching.specs.View.{Bytes, Comes, Fits, Setup, View, is_data, view}
use Rattle.tb_runtime16.specs.Addresses.{DIVIDE_AT}
use Rattle.tb_compiled_kept.specs.Addresses.{LEFT, RESULT, RIGHT}
use Rattle.tb_runtime16.specs.Routines.{Here, Moves, WithA, WordAt}
use Rattle.tb_runtime16.proofs.StatePlaces.{not_argument}
use Rattle.tb_proof_simulation.proofs.Mirrors.{Flagged}
use Rattle.tb_proof_simulation.proofs.Pieces.{loads_last, moves_looser, moves_then, whatever_a}
use Rattle.tb_proof_simulation.proofs.Resolved.{Code, Lies, Piece, highest_code, pieces_size, size}
use Rattle.tb_proof_simulation.proofs.Returning.{back_here}
use Rattle.tb_compiler_selection.specs.Groups.{Divisibility, Group}
use Rattle.tb_compiler_selection.specs.Liveness.{live}
use Rattle.tb_compiler_templates.specs.declared.sources.Source.{Source}
use Rattle.tb_compiler_templates.specs.GroupTemplates.{may_be_zero}
use Rattle.tb_compiler_templates.specs.Masks.{mask}
use Rattle.tb_compiler_program.proofs.Divided.{IsMasking, by_bits, by_division, masking_is}
use Rattle.tb_proof_correctness.proofs.Pieces.Branches.{branch_behind, branch_size, branches, last_leads}
use Rattle.tb_proof_correctness.proofs.CodeBytes.GroupCode.{DividedReaches, Way, Zero, branch_code, branch_on, divided_at, divided_code, leaves_on, left_over, lined_code, low, lowest_bits, remainder, told}
use Rattle.tb_proof_correctness.proofs.Arithmetic.Constants.{constant_is, never_zero}
use Rattle.tb_proof_correctness.proofs.Alone.Handed.{asks_by, comes_back}
use Rattle.tb_proof_correctness.proofs.Relation.GroupInvariants.{Kept, end_by, going_on, kept, kept_scratch, lies_by, lines_by, number_set}
use Rattle.tb_proof_correctness.proofs.Relation.Operands.{SourceHolds}
use Rattle.tb_proof_correctness.proofs.Relation.Ready.{Ready, here}
use Rattle.tb_proof_correctness.proofs.Arithmetic.Remainders.{either_byte, lowest_bits_are, some_power}
use Rattle.tb_proof_correctness.proofs.Testing.SignedOrder.{turned}
use Rattle.tb_proof_correctness.proofs.Pieces.Sources.{At, IsRead, behind, lda, len, loads_byte, value}
use Rattle.tb_proof_correctness.proofs.Pieces.Sums.{Grounded, low_read}
use Rattle.tb_proof_correctness.proofs.Testing.TestLaws.{lies_parts}
use Rattle.tb_proof_correctness.proofs.Relation.Surroundings.{Serves, Surroundings}

-- ---- single instructions
module _ (f : Setup) (room : ℕ) (fits : Fits f room) (at : ℕ) (bs : List ℕ) (m : ℕ → ℕ) (text answers : List ℕ) (small : leb (length bs) room ≡ true) where
  masks : (b a : ℕ) → at + 2 ≤ highest_code → Bytes f.code at (instr_bytes (ins 0x29 b)) → Moves f (WithA at a bs m text answers)
      (Flagged (at + 2) bs m text answers (eqb (bit_and a b) 0)) [] 1
  masks b a r st = whatever_a f room fits at a bs m text answers _ [] 1 (λ x y n v i z c.
      placed_last f room fits (ins 0x29 b) (view a x y n v i z c at bs m text answers) _ _ small st refl
      (record {
        here = record {
          pc = let e : (at + 2) % 65536 ≡ at + 2 = omega arith in e;
          stack = refl;
          binary = refl;
          mem = refl;
          text = refl;
          answers = refl;
        };
        zero = refl;
      }))

  joins : (p a : ℕ) → is_data p ≡ true → at + 3 ≤ highest_code → Bytes f.code at (instr_bytes (ins 0x0D p)) → Moves f (WithA at a bs m text answers)
      (Flagged (at + 3) bs m text answers (eqb (bit_or a (m p)) 0)) [] 1
  joins p a d r st = whatever_a f room fits at a bs m text answers _ [] 1 (λ x y n v i z c.
      loads_last f room fits 0x0D p Ora (view a x y n v i z c at bs m text answers) _ _ refl refl refl small st d refl
      (record {
        here = record {
          pc = let e : (at + 3) % 65536 ≡ at + 3 = omega arith in e;
          stack = refl;
          binary = refl;
          mem = refl;
          text = refl;
          answers = refl;
        };
        zero = refl;
      }))

-- ---- Z
module _ (f : Setup) (room : ℕ) (fits : Fits f room) (at : ℕ) (bs : List ℕ) (m : ℕ → ℕ) (text answers : List ℕ) (small : leb (length bs) room ≡ true) where
  tells_bits : (bits : ℕ) (a : Source) → at + size (lowest_bits bits a) ≤ highest_code → IsRead (low a) → Stands f.code at (lowest_bits bits a)
      → Moves f (Here at bs m text answers) (Flagged (at + size (lowest_bits bits a)) bs m text answers (eqb (bit_and (value m (low a)) bits) 0)) [] 2
  tells_bits bits a r d st =
      let p1 = at + len (lda (low a)) in
      let s1 = behind f.code at (lda (low a)) (ins 0x29 bits ∷ []) (omega (arith, r)) st in
      moves_then f _ _ _ [] [] 1 1 (loads_byte f room fits at bs m text answers small (low a) d (omega (arith, r)) st.0)
      (moves_looser f _ _ _ [] 1 1 (omega arith)
      (λ w h. record {
        here = record {
          pc = h.here.pc ∙ (let q : p1 + 2 ≡ at + size (lowest_bits bits a) = omega arith in q);
          stack = h.here.stack;
          binary = h.here.binary;
          mem = h.here.mem;
          text = h.here.text;
          answers = h.here.answers;
        };
        zero = h.zero;
      })
      (masks f room fits p1 bs m text answers small bits (value m (low a)) (omega (arith, r)) s1.0))

  tells_rest : (v : ℕ) → at + size told ≤ highest_code → WordAt m RESULT v → Stands f.code at told → Moves f (Here at bs m text answers)
      (Flagged (at + size told) bs m text answers (nat_eq v 0)) [] 2
  tells_rest v r is st =
      let s1 = behind f.code at (ins 0xAD RESULT) (ins 0x0D (RESULT + 1) ∷ []) (omega (arith, r)) st in
      moves_then f _ _ _ [] [] 1 1 (loads_byte f room fits at bs m text answers small (At RESULT) refl (omega (arith, r)) st.0)
      (moves_looser f _ _ _ [] 1 1 (omega arith)
      (λ w h. record {
        here = record {
          pc = h.here.pc ∙ (let q : at + 3 + 3 ≡ at + size told = omega arith in q);
          stack = h.here.stack;
          binary = h.here.binary;
          mem = h.here.mem;
          text = h.here.text;
          answers = h.here.answers;
        };
        zero = h.zero ∙ (λ i. eqb (bit_or (is.low i) (is.high i)) 0) ∙ either_byte v;
      })
      (joins f room fits (at + 3) bs m text answers small (RESULT + 1) (m RESULT) refl (omega (arith, r)) s1.0))

-- the size of two lists of pieces is the sum of their sizes
pub pieces_append : (ps qs : List Piece) → pieces_size (ps ++ qs) ≡ pieces_size ps + pieces_size qs
pieces_append [] qs = omega arith
pieces_append (p ∷ ps) qs = let e = pieces_append ps qs in omega (arith, e)

-- ---- a test by a divisor
module _ {around : Surroundings} (fits : Fits around.f 16) (limit : ℕ) (rs : Serves around limit) {n : ℕ} {g : Group} {js is : List Instr} {s : State}
    {r : Slots} {w : View} (h : Ready around n g js is s r w) (a b : Source) (x y : ℕ) (grounded : Grounded a 0) (ga : Grounded a LEFT)
    (gb : Grounded b RIGHT) (ha : (m : ℕ → ℕ) → Kept around (live js) s r m → SourceHolds m a x) (hb : (m : ℕ → ℕ) → Kept around (live js) s r m → SourceHolds m b y) where
  open around use {f, lo, hi}

  abbrev own : List ℕ
  own = lo ∷ hi ∷ []

  abbrev pub divided : Bool
  divided = nat_eq (magnitude x % magnitude y) 0

  -- at an address, with Z, and with all that is live
  record Told (at : ℕ) (z : Bool) (u : View) : Type 0 where
    here : Here at own u.mem w.text w.answers u
    zero : u.regs.flags.z ≡ z
    kept : Kept around (live js) s r u.mem

  -- at an address, with all that is live
  pub record Led (at : ℕ) (u : View) : Type 0 where
    pub here : Here at own u.mem w.text w.answers u
    pub kept : Kept around (live js) s r u.mem

  begins : Here w.regs.pc own w.mem w.text w.answers w
  begins = here h

  first : Kept around (live js) s r w.mem
  first = kept h

  flagged_told : (at to : ℕ) (m : ℕ → ℕ) (z t : Bool) → at ≡ to → z ≡ t → Kept around (live js) s r m → (u : View) → Flagged at own m w.text w.answers z u → Told to t u
  flagged_told at to m z t e q c u k = record {
    here = record { pc = k.here.pc ∙ e; stack = k.here.stack; binary = k.here.binary; mem = refl; text = k.here.text; answers = k.here.answers };
    zero = k.zero ∙ q;
    kept = subst (Kept around (live js) s r) (sym k.here.mem) c;
  }

  -- whether it may fault; after the line's number, if it may
  abbrev risky : Bool
  risky = may_be_zero b

  open going_on h risky use {at, m, c}

  abbrev tail : List Piece
  tail = Code told ∷ []

  abbrev Asked : Type 0
  Asked = Lies f.code w.regs.pc (lined_code risky n (remainder a b))

  asked_lies : Asked → Lies f.code at (remainder a b)
  asked_lies lies = lies_by h risky (remainder a b) lies

  by_routine : Asked → y ≢ 0 → Comes f w (Told (w.regs.pc + pieces_size (lined_code risky n (remainder a b))) divided) [] (15 + limit)
  by_routine lies some =
      let l = asked_lies lies in
      looser f w _ _ [] (4 + (9 + (limit + 2))) (15 + limit) (omega arith) (λ u z. z)
      (lines_by fits h risky (remainder a b) lies _ [] (9 + (limit + 2))
      (asks_by fits h DIVIDE_AT at a b tail m c l x y ga gb (ha m c) hb _ [] (limit + 2)
      (λ m' k u e.
      chained f u _ _ [] [] limit 2 (rs.divide _ _ m' w.text w.answers x y k.left k.right some u e) (λ v q.
      let there = back_here _ _ w.text w.answers _ v q (comes_back fits h DIVIDE_AT at a b tail m c l x y ga gb (ha m c) hb) in
      looser f v _ _ [] 2 2 (omega arith)
      (flagged_told _ _ v.mem _ _ (let e = end_by h risky (remainder a b) in omega (arith, e)) refl
      (kept_scratch around (live js) s r m' v.mem h.some_read (λ p o. q.memory.others p (not_argument p o)) k.kept))
      (tells_rest f 16 fits _ own v.mem w.text w.answers refl (magnitude x % magnitude y) l.2.2.2.0 q.memory.rest l.2.2.2.1 v there)))))

  -- Z tells whether the remainder is 0
  left_told : (o : Option ℕ) → IsMasking b o → Lies f.code w.regs.pc (left_over n o a b) → y ≢ 0 → Comes f w (Told (w.regs.pc + pieces_size (left_over n o a b)) divided) [] (15 + limit)
  left_told _ (by_bits v k e few power) lies some =
      let same = constant_is w.mem v y b e (hb w.mem first) in
      let is_power : 2 ^ (k + 1) ≡ y = sym power ∙ same.0 in
      let x_held = ha w.mem first in
      looser f w _ _ [] 2 (15 + limit) (omega arith)
      (flagged_told _ _ w.mem _ _ (omega arith) (ap (λ l. eqb (bit_and l (2 ^ (k + 1) - 1)) 0) x_held.low_byte ∙ lowest_bits_are k few x x_held.small
      ∙ ap (λ y. nat_eq (magnitude x % magnitude y) 0) is_power) first)
      (tells_bits f 16 fits w.regs.pc own w.mem w.text w.answers refl (2 ^ (k + 1) - 1) a lies.0 (low_read a 0 grounded) lies.1 w begins)
  left_told _ by_division lies some = by_routine lies some

  -- where the test leads
  pub divided_leads : (how : Divisibility) (way : Way) (next : ℕ) → Lies f.code w.regs.pc (divided_code n w.regs.pc way how a b next) → DividedReaches n w.regs.pc way a b next → y ≢ 0
      → Comes f w (Led (cond (turned (leaves_on how) divided) (w.regs.pc + pieces_size (divided_code n w.regs.pc way how a b next)) next)) [] (17 + limit)
  divided_leads how way next lies reach some =
      let at = divided_at n w.regs.pc a b in
      let branch = Code (branch_code way (branch_on Zero (leaves_on how)) at next) ∷ [] in
      let parts = lies_parts f.code w.regs.pc (left_over n (mask b) a b) branch lies in
      let end : at + size (branch_code way (branch_on Zero (leaves_on how)) at next) ≡ w.regs.pc + pieces_size (divided_code n w.regs.pc way how a b next) =
      (let e = pieces_append (left_over n (mask b) a b) branch in omega (arith, e)) in
      let behind = sym (ap (λ k. at + k) (branch_size way Zero (leaves_on how) at next)) ∙ end in
      looser f w _ _ [] (15 + limit + 2) (17 + limit) (omega arith) (λ u z. z)
      (chained f w _ _ [] [] (15 + limit) 2 (left_told (mask b) (masking_is b) parts.0 some) (λ u t.
      looser f u _ _ [] 2 2 (omega arith)
      (λ v k. record {
        here = record {
          pc = k.here.pc ∙ last_leads (leaves_on how) divided next _ ∙ ap (λ p. cond (turned (leaves_on how) divided) p next) behind;
          stack = k.here.stack;
          binary = k.here.binary;
          mem = refl;
          text = k.here.text;
          answers = k.here.answers;
        };
        kept = subst (Kept around (live js) s r) (sym k.here.mem) t.kept;
      })
      (branches f 16 fits own u.mem w.text w.answers refl at way Zero (leaves_on how) divided next (branch_behind f at way Zero (leaves_on how) next [] parts.1).0 reach parts.1.1 u t.here t.zero)))

  -- ---- by 0
  left_fails : (o : Option ℕ) → IsMasking b o → Lies f.code w.regs.pc (left_over n o a b) → y ≡ 0 → Comes f w (IsHome f) (fault_text 2 n) (13 + limit)
  left_fails _ (by_bits v k e few power) lies zero =
      let same = constant_is w.mem v y b e (hb w.mem first) in absurd (some_power k few (sym power ∙ same.0 ∙ zero))
  left_fails _ by_division lies zero =
      looser f w _ _ (fault_text 2 n) (4 + (9 + limit)) (13 + limit) (omega arith) (λ u z. z)
      (lines_by fits h risky (remainder a b) lies _ (fault_text 2 n) (9 + limit)
      (asks_by fits h DIVIDE_AT at a b tail m c (asked_lies lies) x y ga gb (ha m c) hb _ (fault_text 2 n) limit
      (λ m' k. rs.divide_by_zero _ _ m' w.text w.answers x n k.left (subst (WordAt m' RIGHT) zero k.right)
      (k.line (number_set h risky (λ e. never_zero w.mem y b (hb w.mem first) e zero))) k.kept.homed)))

  -- a test by a divisor 0 is fault 2
  pub divided_fails : (how : Divisibility) (way : Way) (next : ℕ) → Lies f.code w.regs.pc (divided_code n w.regs.pc way how a b next) → y ≡ 0
      → Comes f w (IsHome f) (fault_text 2 n) (13 + limit)
  divided_fails how way next lies zero =
      left_fails (mask b) (masking_is b) (lies_parts f.code w.regs.pc (left_over n (mask b) a b)
      (Code (branch_code way (branch_on Zero (leaves_on how)) (divided_at n w.regs.pc a b) next) ∷ []) lies).0 zero
