-- A test for order: N after the difference, turned if V is set, and the branch on it.
use Rattle.std.proofs.Common.{not, ◌≡◌, ℕ, ◌+◌, ◌-◌, ◌/◌, ◌%◌, ◌≤◌, ◌<◌, Bool, true, false, cond, List, [], ◌∷◌, length, refl}
use Rattle.std.proofs.Common.{sym, ap, ◌∙◌, subst, arith, leb, eqb, int_lt, pos, ◌-ℤ◌}
use Rattle.std.proofs.lemmas.Bool.{eqb-true}
use Rattle.std.specs.Prelude.{if◌then◌else◌, nat_eq, nat_le, bit_or, bit_xor}
use Rattle.std.proofs.lemmas.Nat.{or_comm}
use Rattle.tb_cpu.specs.Effects.{bit, signed_byte, has_bit, is_outside_byte}
use Rattle.tb_opcodes.specs.declared.Mnemonic.TheVariants.{Lda, Ora, Sbc}
use Rattle.tb_words.specs.Words.{signed}
use Rattle.tb_machine_reaching.proofs.Comes.{chained, looser}
use Rattle.tb_machine_reaching.proofs.Placed.{placed_last}
use Rattle.tb_machine_reaching.proofs.Instr.{Stands, ins, instr_bytes}
use Rattle.tb_machine_reaching.specs.View.{Bytes, Fits, Setup, View, view}
use Rattle.tb_runtime16.specs.Routines.{Here, Moves, WithA}
use Rattle.tb_proof_simulation.proofs.Mirrors.{Flagged}
use Rattle.tb_proof_simulation.proofs.Pieces.{loads_last, moves_then, moves_looser, whatever, whatever_a}
use Rattle.tb_proof_simulation.proofs.Resolved.{Code, Lies, Piece, highest_code, pieces_size, size}
use Rattle.tb_proof_correctness.proofs.Pieces.Sources.{Byte, Fixed, At, value, IsRead, lda, sbc, cmp, ora, len, Known, behind, loads_with, whatever_known}
use Rattle.tb_compiler_templates.specs.declared.sources.Source.{Source}
use Rattle.tb_compiler_templates.specs.declared.sources.Source.TheVariants.{FixedWord, AtAddress}
use Rattle.tb_compiler_templates.specs.declared.orders.Side.{Side}
use Rattle.tb_compiler_templates.specs.declared.orders.Side.TheVariants.{Below, NotBelow}
use Rattle.tb_compiler_templates.specs.declared.orders.Order.{Order}
use Rattle.tb_compiler_templates.specs.declared.orders.Order.TheVariants.{BySign, ByPositive, ByConstant, ByDifference}
use Rattle.tb_compiler_templates.specs.Orders.{against, order_of, wanted_side}
use Rattle.tb_proof_correctness.proofs.CodeBytes.GroupCode.{Negative, OrderReaches, Overflow, PositiveReaches, ReachesBy, SignReaches, Way, WeighingReaches, Zero, branch_code}
use Rattle.tb_proof_correctness.proofs.CodeBytes.GroupCode.{branch_on, difference, negative_to, positive_code, zero_asked_at}
use Rattle.tb_proof_correctness.proofs.CodeBytes.GroupCode.{high, leaves_below, low, order_by, order_code, sign_code, turned_at, way_size, weighed, weighing_code}
use Rattle.tb_proof_correctness.proofs.Pieces.Branches.{branch_behind, branch_size, branches, last_leads}
use Rattle.tb_proof_correctness.proofs.Relation.Operands.{SourceHolds}
use Rattle.tb_proof_correctness.proofs.Pieces.Sums.{Grounded, low_read, high_read}
use Rattle.tb_proof_correctness.proofs.Arithmetic.Remainders.{either_byte}
use Rattle.tb_proof_correctness.proofs.Testing.Tests.{weighs}
use Rattle.tb_proof_correctness.proofs.Testing.Lifted.{tests_against}
use Rattle.tb_proof_correctness.proofs.Testing.SignedOrder.{below_next, below_one, flips, not_greatest, sign_is, turned, signed_less}

-- with a known A, N and V
pub record Signed (at a : ℕ) (n v : Bool) (bs : List ℕ) (m : ℕ → ℕ) (text answers : List ℕ) (w : View) : Type 0 where
  pub here : Here at bs m text answers w
  pub number : w.regs.a ≡ a
  pub negative : w.regs.flags.n ≡ n
  pub overflow : w.regs.flags.v ≡ v

-- with a known N
pub record WithN (at : ℕ) (n : Bool) (bs : List ℕ) (m : ℕ → ℕ) (text answers : List ℕ) (w : View) : Type 0 where
  pub here : Here at bs m text answers w
  pub negative : w.regs.flags.n ≡ n

module _ (f : Setup) (room : ℕ) (fits : Fits f room) (at : ℕ) (bs : List ℕ) (m : ℕ → ℕ) (text answers : List ℕ) (small : leb (length bs) room ≡ true) where
  abbrev less : ℕ → Byte → Bool → ℕ
  less a b c = (a + 256 - (value m b + bit (not c))) % 256

  abbrev outside : ℕ → Byte → Bool → Bool
  outside a b c = is_outside_byte (signed_byte a -ℤ signed_byte (value m b) -ℤ pos (bit (not c)))

  takes_signed : (b : Byte) (a : ℕ) (c : Bool) → IsRead b → at + len (sbc b) ≤ highest_code → Bytes f.code at (instr_bytes (sbc b))
      → Moves f (Known at a c bs m text answers) (Signed (at + len (sbc b)) (less a b c) (has_bit (less a b c) 128) (outside a b c) bs m text answers) [] 1
  takes_signed (Fixed b) a c d r st = whatever_known f room fits at a c bs m text answers _ [] 1 (λ x y n v i z.
      placed_last f room fits (ins 0xE9 b) (view a x y n v i z c at bs m text answers) _ _ small st refl
      (record {
        here = record {
          pc = let e : (at + 2) % 65536 ≡ at + 2 = omega arith in e;
          stack = refl;
          binary = refl;
          mem = refl;
          text = refl;
          answers = refl;
        };
        number = refl;
        negative = refl;
        overflow = refl;
      }))
  takes_signed (At p) a c d r st = whatever_known f room fits at a c bs m text answers _ [] 1 (λ x y n v i z.
      loads_last f room fits 0xED p Sbc (view a x y n v i z c at bs m text answers) _ _ refl refl refl small st d refl
      (record {
        here = record {
          pc = let e : (at + 3) % 65536 ≡ at + 3 = omega arith in e;
          stack = refl;
          binary = refl;
          mem = refl;
          text = refl;
          answers = refl;
        };
        number = refl;
        negative = refl;
        overflow = refl;
      }))

  turns : (a : ℕ) → at + 2 ≤ highest_code → Bytes f.code at (instr_bytes (ins 0x49 128)) → Moves f (WithA at a bs m text answers)
      (WithN (at + 2) (has_bit (bit_xor a 128) 128) bs m text answers) [] 1
  turns a r st = whatever_a f room fits at a bs m text answers _ [] 1 (λ x y n v i z c.
      placed_last f room fits (ins 0x49 128) (view a x y n v i z c at bs m text answers) _ _ small st refl
      (record {
        here = record {
          pc = let e : (at + 2) % 65536 ≡ at + 2 = omega arith in e;
          stack = refl;
          binary = refl;
          mem = refl;
          text = refl;
          answers = refl;
        };
        negative = refl;
      }))

module _ (f : Setup) (room : ℕ) (fits : Fits f room) (at : ℕ) (bs : List ℕ) (m : ℕ → ℕ) (text answers : List ℕ) (small : leb (length bs) room ≡ true)
    (a b : Source) (x y : ℕ) (ga : Grounded a 0) (gb : Grounded b 0) (ha : SourceHolds m a x) (hb : SourceHolds m b y) (below : Bool)
    (first second : Way) (next : ℕ) (lies : Lies f.code at (weighing_code below first second at a b next)) (reach : WeighingReaches first second at a b next) where
  abbrev c : Bool
  c = nat_le (value m (low b)) (value m (low a))

  abbrev d : ℕ
  d = (value m (high a) + 256 - (value m (high b) + bit (not c))) % 256

  abbrev v : Bool
  v = is_outside_byte (signed_byte (value m (high a)) -ℤ signed_byte (value m (high b)) -ℤ pos (bit (not c)))

  -- the addresses of the instructions of the difference, and of the branches
  abbrev p1 : ℕ
  p1 = at + len (lda (low a))

  abbrev p2 : ℕ
  p2 = p1 + len (cmp (low b))

  abbrev p3 : ℕ
  p3 = p2 + len (lda (high a))

  abbrev p4 : ℕ
  p4 = at + size (difference a b)

  abbrev p5 : ℕ
  p5 = turned_at first at a b

  s1 : Stands f.code p1 (cmp (low b) ∷ lda (high a) ∷ sbc (high b) ∷ [])
  s1 = behind f.code at (lda (low a)) (cmp (low b) ∷ lda (high a) ∷ sbc (high b) ∷ []) (omega (arith, lies.0)) lies.1

  s2 : Stands f.code p2 (lda (high a) ∷ sbc (high b) ∷ [])
  s2 = behind f.code p1 (cmp (low b)) (lda (high a) ∷ sbc (high b) ∷ []) (omega (arith, lies.0)) s1

  s3 : Stands f.code p3 (sbc (high b) ∷ [])
  s3 = behind f.code p2 (lda (high a)) (sbc (high b) ∷ []) (omega (arith, lies.0)) s2

  abbrev turning : List Piece
  turning = Code (ins 0x49 128 ∷ []) ∷ Code (branch_code second (branch_on Negative below) p5 next) ∷ []

  lies_turn : (p4 + way_size first ≤ highest_code) × Lies f.code (p4 + way_size first) turning
  lies_turn = branch_behind f p4 first Overflow false p5 turning lies.2

  lies_end : p5 + way_size second ≤ highest_code
  lies_end = (branch_behind f p5 second Negative below next [] lies_turn.1.2).0

  -- the difference
  differs : Moves f (Here at bs m text answers) (Signed p4 d (has_bit d 128) v bs m text answers) [] 4
  differs =
      let lows : at + size (weighed (low a) (low b)) ≡ p2 = omega arith in
      moves_then f _ _ _ [] [] 2 2 (weighs f room fits at bs m text answers small (low a) (low b) (omega (arith, lies.0)) (low_read a 0 ga) (low_read b 0 gb) (lies.1.0, (lies.1.1.0, tt)))
      (moves_then f _ _ _ [] [] 1 1
      (λ w g. loads_with f room fits p2 bs m text answers small (high a) c (high_read a 0 ga) (omega (arith, lies.0)) s2.0 w
      (record {
        here = record {
          pc = g.here.pc ∙ lows;
          stack = g.here.stack;
          binary = g.here.binary;
          mem = g.here.mem;
          text = g.here.text;
          answers = g.here.answers;
        };
        carry = g.carry;
      }))
      (moves_looser f _ _ _ [] 1 1 (omega arith)
      (λ w g. record {
        here = record {
          pc = g.here.pc ∙ (let q : p3 + len (sbc (high b)) ≡ p4 = omega arith in q);
          stack = g.here.stack;
          binary = g.here.binary;
          mem = g.here.mem;
          text = g.here.text;
          answers = g.here.answers;
        };
        number = g.number;
        negative = g.negative;
        overflow = g.overflow;
      })
      (takes_signed f room fits p3 bs m text answers small (high b) (value m (high a)) c (high_read b 0 gb) (omega (arith, lies.0)) s3.0)))

  -- N turned if V is set
  turned_by : (o : Bool) → Moves f (Signed p4 d (has_bit d 128) o bs m text answers) (WithN p5 (turned o (has_bit d 128)) bs m text answers) [] 3
  turned_by false w h =
      looser f w _ _ [] 2 3 (omega arith) (λ u g. record { here = g.here; negative = g.negative ∙ h.negative })
      (branches f room fits bs m text answers small p4 first Overflow false false p5 lies_turn.0 reach.0 lies.2.1 w h.here h.overflow)
  turned_by true w h =
      chained f w _ _ [] [] 2 1 (branches f room fits bs m text answers small p4 first Overflow false true p5 lies_turn.0 reach.0 lies.2.1 w h.here h.overflow) (λ u g.
      looser f u _ _ [] 1 1 (omega arith) (λ u k. record { here = k.here; negative = k.negative ∙ flips d })
      (turns f room fits (p4 + way_size first) bs m text answers small d lies_turn.1.0 lies_turn.1.1.0 u (record { here = g.here; number = g.number ∙ h.number })))

  -- N is set if the first word is below the second
  abbrev is_less : Bool
  is_less = int_lt (signed x) (signed y)

  less_so : turned v (has_bit d 128) ≡ is_less
  less_so = signed_less (value m (low a)) (value m (high a)) (value m (low b)) (value m (high b)) x y ha.low_byte ha.high_byte hb.low_byte hb.high_byte ha.small hb.small is_less refl

  ends : Moves f (WithN p5 (turned v (has_bit d 128)) bs m text answers) (Here (cond (turned below is_less) (p5 + way_size second) next) bs m text answers) [] 2
  ends w h =
      looser f w _ _ [] 2 2 (omega arith) (λ u g. subst (λ p. Here p bs m text answers u) (last_leads below is_less next (p5 + way_size second)) g.here)
      (branches f room fits bs m text answers small p5 second Negative below is_less next lies_end reach.1 lies_turn.1.2.1 w h.here (h.negative ∙ less_so))

  end_is : p5 + way_size second ≡ at + pieces_size (weighing_code below first second at a b next)
  end_is = omega (arith, branch_size first Overflow false p4 p5, branch_size second Negative below p5 next)

  -- where it leads: on after it if the first word is below the second, or, if that is wanted, if it is not
  weighs_order : Moves f (Here at bs m text answers)
      (Here (cond (turned below (int_lt (signed x) (signed y))) (at + pieces_size (weighing_code below first second at a b next)) next) bs m text answers) [] 9
  weighs_order =
      moves_then f _ _ _ [] [] 4 5 differs
      (moves_then f _ _ _ [] [] 3 2 (turned_by v)
      (moves_looser f _ _ _ [] 2 2 (omega arith) (λ w h. subst (λ e. Here (cond (turned below is_less) e next) bs m text answers w) end_is h) ends))

-- ---- of a word and 0
module _ (f : Setup) (room : ℕ) (fits : Fits f room) (at : ℕ) (bs : List ℕ) (m : ℕ → ℕ) (text answers : List ℕ) (small : leb (length bs) room ≡ true) where
  -- a load whose N is the sign
  pub loads_sign : (b : Byte) → IsRead b → at + len (lda b) ≤ highest_code → Bytes f.code at (instr_bytes (lda b))
      → Moves f (Here at bs m text answers) (WithN (at + len (lda b)) (has_bit (value m b) 128) bs m text answers) [] 1
  loads_sign (Fixed b) d r st = whatever f room fits at bs m text answers _ [] 1 (λ a x y n v i z c.
      placed_last f room fits (ins 0xA9 b) (view a x y n v i z c at bs m text answers) _ _ small st refl
      (record {
        here = record {
          pc = let e : (at + 2) % 65536 ≡ at + 2 = omega arith in e;
          stack = refl;
          binary = refl;
          mem = refl;
          text = refl;
          answers = refl;
        };
        negative = refl;
      }))
  loads_sign (At p) d r st = whatever f room fits at bs m text answers _ [] 1 (λ a x y n v i z c.
      loads_last f room fits 0xAD p Lda (view a x y n v i z c at bs m text answers) _ _ refl refl refl small st d refl
      (record {
        here = record {
          pc = let e : (at + 3) % 65536 ≡ at + 3 = omega arith in e;
          stack = refl;
          binary = refl;
          mem = refl;
          text = refl;
          answers = refl;
        };
        negative = refl;
      }))

  module _ (a : Source) (x : ℕ) (ga : Grounded a 0) (ha : SourceHolds m a x) (below : Bool) (first : Way) (next : ℕ)
      (lies : Lies f.code at (sign_code below first at a next)) (reach : SignReaches first at a next) where
    abbrev negative : Bool
    negative = int_lt (signed x) (pos 0)

    abbrev branch_at : ℕ
    branch_at = at + size (lda (high a) ∷ [])

    loaded_to : at + len (lda (high a)) ≡ branch_at
    loaded_to = omega arith

    sign_so : has_bit (value m (high a)) 128 ≡ negative
    sign_so = ap (λ h. has_bit h 128) ha.high_byte ∙ sign_is x ha.small

    sign_end : branch_at + way_size first ≡ at + pieces_size (sign_code below first at a next)
    sign_end = omega (arith, branch_size first Negative below branch_at next)

    tests_sign : Moves f (Here at bs m text answers) (Here (cond (turned below negative) (at + pieces_size (sign_code below first at a next)) next) bs m text answers) [] 3
    tests_sign w h =
        chained f w _ _ [] [] 1 2 (loads_sign (high a) (high_read a 0 ga) (omega (arith, lies.0)) lies.1.0 w h) (λ u g.
        looser f u _ _ [] 2 2 (omega arith) (λ v k. subst (λ e. Here (cond (turned below negative) e next) bs m text answers v) sign_end
        (subst (λ p. Here p bs m text answers v) (last_leads below negative next (branch_at + way_size first)) k.here))
        (branches f room fits bs m text answers small branch_at first Negative below negative next (branch_behind f branch_at first Negative below next [] lies.2).0 reach lies.2.1 u
        (record { pc = g.here.pc ∙ loaded_to; stack = g.here.stack; binary = g.here.binary; mem = g.here.mem; text = g.here.text; answers = g.here.answers }) (g.negative ∙ sign_so)))

-- ---- of a word and 1
-- with a known A and N
record Looked (at a : ℕ) (n : Bool) (bs : List ℕ) (m : ℕ → ℕ) (text answers : List ℕ) (w : View) : Type 0 where
  here : Here at bs m text answers w
  number : w.regs.a ≡ a
  negative : w.regs.flags.n ≡ n

module _ (f : Setup) (room : ℕ) (fits : Fits f room) (at : ℕ) (bs : List ℕ) (m : ℕ → ℕ) (text answers : List ℕ) (small : leb (length bs) room ≡ true) where
  -- a load
  looks_at : (b : Byte) → IsRead b → at + len (lda b) ≤ highest_code → Bytes f.code at (instr_bytes (lda b))
      → Moves f (Here at bs m text answers) (Looked (at + len (lda b)) (value m b) (has_bit (value m b) 128) bs m text answers) [] 1
  looks_at (Fixed b) d r st = whatever f room fits at bs m text answers _ [] 1 (λ a x y n v i z c.
      placed_last f room fits (ins 0xA9 b) (view a x y n v i z c at bs m text answers) _ _ small st refl
      (record {
        here = record {
          pc = let e : (at + 2) % 65536 ≡ at + 2 = omega arith in e;
          stack = refl;
          binary = refl;
          mem = refl;
          text = refl;
          answers = refl;
        };
        number = refl;
        negative = refl;
      }))
  looks_at (At p) d r st = whatever f room fits at bs m text answers _ [] 1 (λ a x y n v i z c.
      loads_last f room fits 0xAD p Lda (view a x y n v i z c at bs m text answers) _ _ refl refl refl small st d refl
      (record {
        here = record {
          pc = let e : (at + 3) % 65536 ≡ at + 3 = omega arith in e;
          stack = refl;
          binary = refl;
          mem = refl;
          text = refl;
          answers = refl;
        };
        number = refl;
        negative = refl;
      }))

  -- ORA
  joins_byte : (b : Byte) (a : ℕ) → IsRead b → at + len (ora b) ≤ highest_code → Bytes f.code at (instr_bytes (ora b)) → Moves f (WithA at a bs m text answers)
      (Flagged (at + len (ora b)) bs m text answers (eqb (bit_or a (value m b)) 0)) [] 1
  joins_byte (Fixed b) a d r st = whatever_a f room fits at a bs m text answers _ [] 1 (λ x y n v i z c.
      placed_last f room fits (ins 0x09 b) (view a x y n v i z c at bs m text answers) _ _ small st refl
      (record {
        here = record {
          pc = let e : (at + 2) % 65536 ≡ at + 2 = omega arith in e;
          stack = refl;
          binary = refl;
          mem = refl;
          text = refl;
          answers = refl;
        };
        zero = refl;
      }))
  joins_byte (At p) a d r st = whatever_a f room fits at a bs m text answers _ [] 1 (λ x y n v i z c.
      loads_last f room fits 0x0D p Ora (view a x y n v i z c at bs m text answers) _ _ refl refl refl small st d refl
      (record {
        here = record {
          pc = let e : (at + 3) % 65536 ≡ at + 3 = omega arith in e;
          stack = refl;
          binary = refl;
          mem = refl;
          text = refl;
          answers = refl;
        };
        zero = refl;
      }))

module _ (f : Setup) (room : ℕ) (fits : Fits f room) (at : ℕ) (bs : List ℕ) (m : ℕ → ℕ) (text answers : List ℕ) (small : leb (length bs) room ≡ true)
    (a : Source) (x : ℕ) (ga : Grounded a 0) (ha : SourceHolds m a x) (below : Bool) (first second : Way) (next : ℕ)
    (lies : Lies f.code at (positive_code below first second at a next)) (reach : PositiveReaches below first second at a next) where
  abbrev minus : Bool
  minus = int_lt (signed x) (pos 0)

  abbrev under : Bool
  under = int_lt (signed x) (signed 1)

  -- the addresses of the branches, and the one after them
  abbrev b1 : ℕ
  b1 = at + size (lda (high a) ∷ [])

  abbrev b2 : ℕ
  b2 = zero_asked_at first at a

  abbrev done : ℕ
  done = b2 + way_size second

  -- where the whole test leads
  abbrev leads_to : Bool → ℕ
  leads_to t = cond (turned below t) done next

  abbrev asking : List Piece
  asking = Code (ora (low a) ∷ []) ∷ Code (branch_code second (branch_on Zero below) b2 next) ∷ []

  lies_asking : (b1 + way_size first ≤ highest_code) × Lies f.code (b1 + way_size first) asking
  lies_asking = branch_behind f b1 first Negative true (negative_to below first second at a next) asking lies.2

  lies_done : done ≤ highest_code
  lies_done = (branch_behind f b2 second Zero below next [] lies_asking.1.2).0

  negative_leads : (t : Bool) → negative_to t first second at a next ≡ cond (turned t true) done next
  negative_leads true = refl
  negative_leads false = refl

  minus_so : has_bit (value m (high a)) 128 ≡ minus
  minus_so = ap (λ h. has_bit h 128) ha.high_byte ∙ sign_is x ha.small

  none_so : eqb (bit_or (value m (high a)) (value m (low a))) 0 ≡ nat_eq x 0
  none_so = (λ i. eqb (bit_or (ha.high_byte i) (ha.low_byte i)) 0) ∙ ap (λ n. eqb n 0) (or_comm (x / 256) (x % 256)) ∙ either_byte x

  by_minus : (n : Bool) → minus ≡ n → Moves f (Looked b1 (value m (high a)) minus bs m text answers) (Here (leads_to under) bs m text answers) [] 5
  by_minus true e w h =
      looser f w _ _ [] 2 5 (omega arith)
      (λ u g. subst (λ p. Here p bs m text answers u) (negative_leads below ∙ ap leads_to (sym (below_one x ha.small true e))) g.here)
      (branches f room fits bs m text answers small b1 first Negative true true _ lies_asking.0 reach.0 lies.2.1 w h.here (h.negative ∙ e))
  by_minus false e w h =
      chained f w _ _ [] [] 2 3 (branches f room fits bs m text answers small b1 first Negative true false _ lies_asking.0 reach.0 lies.2.1 w h.here (h.negative ∙ e)) (λ u g.
      chained f u _ _ [] [] 1 2 (joins_byte f room fits (b1 + way_size first) bs m text answers small (low a) (value m (high a)) (low_read a 0 ga) (omega (arith, lies_asking.1.0))
      lies_asking.1.1.0 u (record { here = g.here; number = g.number ∙ h.number })) (λ v k.
      looser f v _ _ [] 2 2 (omega arith)
      (λ z i. subst (λ p. Here p bs m text answers z) (last_leads below (nat_eq x 0) next done ∙ ap leads_to (sym (below_one x ha.small false e))) i.here)
      (branches f room fits bs m text answers small b2 second Zero below (nat_eq x 0) next lies_done reach.1 lies_asking.1.2.1 v
      (record {
        pc = k.here.pc ∙ (let q : b1 + way_size first + len (ora (low a)) ≡ b2 = omega arith in q);
        stack = k.here.stack;
        binary = k.here.binary;
        mem = k.here.mem;
        text = k.here.text;
        answers = k.here.answers;
      }) (k.zero ∙ none_so))))

  done_is : done ≡ at + pieces_size (positive_code below first second at a next)
  done_is = omega (arith, branch_size first Negative true b1 (negative_to below first second at a next), branch_size second Zero below b2 next)

  tests_positive : Moves f (Here at bs m text answers) (Here (cond (turned below under) (at + pieces_size (positive_code below first second at a next)) next) bs m text answers) [] 6
  tests_positive w h =
      chained f w _ _ [] [] 1 5 (looks_at f room fits at bs m text answers small (high a) (high_read a 0 ga) (omega (arith, lies.0)) lies.1.0 w h) (λ u g.
      looser f u _ _ [] 5 5 (omega arith) (λ z i. subst (λ e. Here (cond (turned below under) e next) bs m text answers z) done_is i)
      (by_minus minus refl u (record {
        here = record {
          pc = g.here.pc ∙ (let q : at + len (lda (high a)) ≡ b1 = omega arith in q);
          stack = g.here.stack;
          binary = g.here.binary;
          mem = g.here.mem;
          text = g.here.text;
          answers = g.here.answers;
        };
        number = g.number;
        negative = g.negative ∙ minus_so;
      })))

-- ---- by how it is decided
-- what a side tells is turned by the side that is wanted
side_turned : (wanted side : Side) (t : Bool) → turned (leaves_below (wanted_side wanted side)) t ≡ turned (leaves_below wanted) (turned (leaves_below side) t)
side_turned Below side t = refl
side_turned NotBelow Below t = refl
side_turned NotBelow NotBelow true = refl
side_turned NotBelow NotBelow false = refl

module _ (f : Setup) (room : ℕ) (fits : Fits f room) (at : ℕ) (bs : List ℕ) (m : ℕ → ℕ) (text answers : List ℕ) (small : leb (length bs) room ≡ true)
    (wanted : Side) (first second : Way) (next : ℕ) where
  -- on after the code if a word is below another one, or, if that is wanted, if it is not
  abbrev Leads : Order → Bool → Type 0
  Leads order less = Lies f.code at (order_by order wanted first second at next) → ReachesBy order wanted first second at next
      → Moves f (Here at bs m text answers) (Here (cond (turned (leaves_below wanted) less) (at + pieces_size (order_by order wanted first second at next)) next) bs m text answers) [] 9

  -- by a word against a constant
  by_against : (side : Side) (a : Source) (x w : ℕ) → Grounded a 0 → SourceHolds m a x → w < 65536 → (t u : Bool) → nat_eq w 0 ≡ t → nat_eq w 1 ≡ u
      → Leads (if t then BySign side a else if u then ByPositive side a else ByConstant side a w) (turned (leaves_below side) (int_lt (signed x) (signed w)))
  by_against side a x w ga ha word true u e e' lies reach =
      let led = tests_sign f room fits at bs m text answers small a x ga ha (leaves_below (wanted_side wanted side)) first next lies reach in
      moves_looser f _ _ _ [] 3 9 (omega arith)
      (λ u h. subst (λ t. Here (cond t (at + pieces_size (order_by (BySign side a) wanted first second at next)) next) bs m text answers u)
      (ap (λ v. turned (leaves_below (wanted_side wanted side)) (int_lt (signed x) (signed v))) (sym (eqb-true _ _ e)) ∙ side_turned wanted side (int_lt (signed x) (signed w))) h) led
  by_against side a x w ga ha word false true e e' lies reach =
      let led = tests_positive f room fits at bs m text answers small a x ga ha (leaves_below (wanted_side wanted side)) first second next lies reach in
      moves_looser f _ _ _ [] 6 9 (omega arith)
      (λ u h. subst (λ t. Here (cond t (at + pieces_size (order_by (ByPositive side a) wanted first second at next)) next) bs m text answers u)
      (ap (λ v. turned (leaves_below (wanted_side wanted side)) (int_lt (signed x) (signed v))) (sym (eqb-true _ _ e')) ∙ side_turned wanted side (int_lt (signed x) (signed w))) h) led
  by_against side a x w ga ha word false false e e' lies reach =
      moves_looser f _ _ _ [] 7 9 (omega arith)
      (λ u h. subst (λ t. Here (cond t (at + pieces_size (order_by (ByConstant side a w) wanted first second at next)) next) bs m text answers u)
      (side_turned wanted side (int_lt (signed x) (signed w))) h)
      (tests_against f room fits at bs m text answers small a x w ga ha word (leaves_below (wanted_side wanted side)) first next lies reach)

  by_difference : (a b : Source) (x y : ℕ) → Grounded a 0 → Grounded b 0 → SourceHolds m a x → SourceHolds m b y → Leads (ByDifference a b) (int_lt (signed x) (signed y))
  by_difference a b x y ga gb ha hb lies reach = weighs_order f room fits at bs m text answers small a b x y ga gb ha hb (leaves_below wanted) first second next lies reach

  -- a constant is its word
  fixed_is : (w y : ℕ) → SourceHolds m (FixedWord w) y → w ≡ y
  fixed_is w y h = omega (arith, h.low_byte, h.high_byte)

  by_words : (a b : Source) (x y : ℕ) → Grounded a 0 → Grounded b 0 → SourceHolds m a x → SourceHolds m b y → Leads (order_of a b) (int_lt (signed x) (signed y))
  by_words a (FixedWord w) x y ga gb ha hb =
      let e = fixed_is w y hb in
      subst (λ v. Leads (against Below a w) (int_lt (signed x) (signed v))) e (by_against Below a x w ga ha (omega (arith, e, hb.small)) (nat_eq w 0) (nat_eq w 1) refl refl)
  by_words (FixedWord v) (AtAddress q) x y ga gb ha hb = by (nat_eq v 32767) refl
    where
      e : v ≡ x
      e = fixed_is v x ha

      by : (t : Bool) → nat_eq v 32767 ≡ t → Leads (if t then ByDifference (FixedWord v) (AtAddress q) else against NotBelow (AtAddress q) ((v + 1) % 65536)) (int_lt (signed x) (signed y))
      by true g = by_difference (FixedWord v) (AtAddress q) x y ga gb ha hb
      by false g =
          subst (λ t. Leads (against NotBelow (AtAddress q) ((v + 1) % 65536)) t)
          (below_next v y (omega (arith, e, ha.small)) hb.small (not_greatest v g) ∙ ap (λ v. int_lt (signed v) (signed y)) e)
          (by_against NotBelow (AtAddress q) y ((v + 1) % 65536) gb hb (omega arith) (nat_eq ((v + 1) % 65536) 0) (nat_eq ((v + 1) % 65536) 1) refl refl)
  by_words (AtAddress p) (AtAddress q) x y ga gb ha hb = by_difference (AtAddress p) (AtAddress q) x y ga gb ha hb

-- where a test for order leads
module _ (f : Setup) (room : ℕ) (fits : Fits f room) (at : ℕ) (bs : List ℕ) (m : ℕ → ℕ) (text answers : List ℕ) (small : leb (length bs) room ≡ true)
    (a b : Source) (x y : ℕ) (ga : Grounded a 0) (gb : Grounded b 0) (ha : SourceHolds m a x) (hb : SourceHolds m b y) (wanted : Side) (first second : Way) (next : ℕ) where
  -- a test for order leads by the order of its words
  pub tests_order : Lies f.code at (order_code wanted first second at a b next) → OrderReaches wanted first second at a b next
      → Moves f (Here at bs m text answers) (Here (cond (turned (leaves_below wanted) (int_lt (signed x) (signed y)))
      (at + pieces_size (order_code wanted first second at a b next)) next) bs m text answers) [] 9
  tests_order = by_words f room fits at bs m text answers small wanted first second next a b x y ga gb ha hb
