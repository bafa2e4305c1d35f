-- The law of a variable's remainder: its slot instructions and its code give the remainder's size with its sign.
use Rattle.std.proofs.Common.{◌≡◌, ◌≢◌, ℕ, ◌+◌, ◌-◌, ◌*◌, ◌/◌, ◌%◌, ◌^◌, ◌<◌, ◌≤◌, Bool, true, false, List, [], ◌∷◌, ◌++◌}
use Rattle.std.proofs.Common.{length, refl, sym, ap, ◌∙◌, subst, arith, bit_and, leb, ⊎_elim, Option, Some, None, length-set}
use Rattle.std.proofs.Math.Nat.{mod-le}
use Rattle.std.specs.Prelude.{if◌then◌else◌, slice_index, nat_lt}
use Rattle.std.proofs.lemmas.Bool.{cases_eq, cases_lt, eq-eqb, le-ltb, leb-true, lt-leb, ltb-false, ltb-true, ne_eqb}
use Rattle.tb_cpu.specs.Effects.{has_bit}
use Rattle.tb_words.specs.Words.{is_negative, magnitude, quotient, word}
use Rattle.tb_basic_syntax.specs.declared.expressions.Operator.TheVariants as op
use Rattle.tb_basic_meaning.specs.Control.{State, fault_text}
use Rattle.tb_lower.specs.Ranges.{AreInRange}
use Rattle.tb_lower.specs.Slots.{Instr, Compute, Load, Slots, SlotCode, SlotState, into, with_word}
use Rattle.tb_basic_meaning.specs.Steps.{Step, Goes, Stops, Faulted}
use Rattle.tb_basic_meaning.specs.Values.{apply, given}
use Rattle.tb_machine_reaching.proofs.Comes.{chained, looser}
use Rattle.tb_machine_reaching.specs.Start.{IsHome}
use Rattle.tb_machine_reaching.specs.View.{Comes, Fits, Setup, View}
use Rattle.tb_runtime16.specs.Addresses.{DIVIDE_AT}
use Rattle.tb_compiled_kept.specs.Addresses.{LEFT, RESULT, RIGHT, var_at}
use Rattle.tb_runtime16.specs.Routines.{Here, Moves, WordAt}
use Rattle.tb_runtime16.proofs.StatePlaces.{not_argument}
use Rattle.tb_proof_simulation.proofs.Frames.{word_put}
use Rattle.tb_proof_simulation.proofs.Pieces.{InData, put_word}
use Rattle.tb_proof_simulation.proofs.Joins.{sent_in}
use Rattle.tb_proof_simulation.proofs.Pieces.{moves_looser}
use Rattle.tb_proof_simulation.proofs.Resolved.{Code, Lies, Piece, call, copied, pieces_size, size}
use Rattle.tb_proof_simulation.proofs.Returning.{back_here, moved}
use Rattle.tb_compiler_selection.specs.Groups.{Operand, Constant, Variable, InSlot, Destination, IntoSlot, IntoHome, Remains, expand, fetch, kept, multiple, slot_of}
use Rattle.tb_compiler_selection.specs.GroupSteps.{steps}
use Rattle.tb_compiler_selection.specs.Liveness.{live}
use Rattle.tb_compiler_templates.specs.declared.sources.Source.{Source}
use Rattle.tb_compiler_templates.specs.declared.sources.Source.TheVariants.{FixedWord, AtAddress}
use Rattle.tb_compiler_templates.specs.GroupTemplates.{may_be_zero}
use Rattle.tb_compiler_templates.specs.Masks.{mask}
use Rattle.tb_compiler_templates.specs.Reduced.{doublings}
use Rattle.tb_compiler_templates.proofs.Multiples.{IsReducing, below_product, by_multiples, by_routine, reducing_is, some_power as power_some}
use Rattle.tb_compiler_program.proofs.Divided.{IsMasking, by_bits, by_division, masking_is}
use Rattle.tb_compiler_selection.specs.Select.{omits_only_dead, select}
use Rattle.tb_compiler_templates.specs.Sources.{destination_at, source_of}
use Rattle.tb_proof_correctness.proofs.Arithmetic.Calculations.{subtracted_word}
use Rattle.tb_proof_correctness.proofs.Arithmetic.MaskedRests.{Both, Looked, above_rest, below_high, below_low, below_rest, looks_both, stores_both, turns_below}
use Rattle.tb_proof_correctness.proofs.CodeBytes.GroupCode.{GroupsLie, Negative, RestReachesBy, both_stored, brought, over_at, rest_and_sign, rest_asked, rest_at}
use Rattle.tb_proof_correctness.proofs.CodeBytes.GroupCode.{rest_below, rest_code, rest_turned, sign_looked_at, signed_rest, tried, way_size}
use Rattle.tb_proof_correctness.proofs.Arithmetic.Constants.{constant_is, never_zero}
use Rattle.tb_proof_correctness.proofs.Pieces.Halves.{power_size}
use Rattle.tb_proof_correctness.proofs.Alone.Handed.{asks_by, comes_back, result_gives}
use Rattle.tb_proof_correctness.proofs.Arithmetic.InPlace.{Forked, forked}
use Rattle.tb_proof_correctness.proofs.Relation.Landing.{DestFits}
use Rattle.tb_proof_correctness.proofs.Relation.GroupInvariants.{Kept, end_by, going_on, kept as kept_first, kept_put, kept_scratch, lies_by, lines_by, number_set, word_lands}
use Rattle.tb_proof_correctness.proofs.Relation.Matching.{Matches, Target}
use Rattle.tb_proof_correctness.proofs.Slots.MultipleSide.{held_stands, multiple_fails, multiple_next, multiplied, multiplied_length, others_stand, product_stands}
use Rattle.tb_proof_correctness.proofs.Relation.Operands.{OperandFits, SourceHolds, dest_fits, dest_in_data, operand_apart, operand_held, range_fetch}
use Rattle.tb_proof_correctness.proofs.Testing.LeftOver.{pieces_append}
use Rattle.tb_proof_correctness.proofs.Testing.Orders.{WithN, loads_sign}
use Rattle.tb_proof_correctness.proofs.Pieces.Sources.{At}
use Rattle.tb_proof_correctness.proofs.Relation.Ready.{Ready, here}
use Rattle.tb_proof_correctness.proofs.Arithmetic.Reductions.{reduced_end, reduces}
use Rattle.tb_proof_correctness.proofs.Arithmetic.Subtractions.{stored, tries}
use Rattle.tb_proof_correctness.proofs.Arithmetic.Remainders.{rest_is, some_power, turned_size}
use Rattle.tb_proof_correctness.proofs.Slots.SlotSide.{IsDead, Lasting, StandsIn, ends, fetch_held, fetch_reads, fetched, fetched_behind, fetches, landed, line, other_slot, same_slot, slots_landed}
use Rattle.tb_proof_correctness.proofs.Pieces.Sums.{Grounded, copies, differs}
use Rattle.tb_proof_correctness.proofs.Testing.TestLaws.{lies_parts}
use Rattle.tb_proof_correctness.proofs.Relation.Surroundings.{Serves, Surroundings}

-- the list with its parts bracketed to the right
abbrev pub spread_remains : ℕ → Operand → Destination → List Instr → List Instr
spread_remains v d to is = Load (slot_of to) v ∷ multiple (slot_of to + 1) v d (Compute op.Subtract (slot_of to) ∷ (kept to ++ is))

-- the group's instructions, bracketed to the right
pub spread_remains_is : (v : ℕ) (d : Operand) (to : Destination) (is : List Instr) → expand (Remains v d to) ++ is ≡ spread_remains v d to is
spread_remains_is v (Constant w) to is = refl
spread_remains_is v (Variable x) to is = refl
spread_remains_is v InSlot to is = refl

-- ---- what its slot instructions do
-- what their ranges give
record RemainsFit (v : ℕ) (d : Operand) (to : Destination) : Type 0 where
  variable : OperandFits (Variable v)
  divisor : OperandFits d
  room : slot_of to + 1 + 1 < 16
  dest : DestFits to

remains_fit : (v : ℕ) (d : Operand) (to : Destination) → AreInRange 256 (expand (Remains v d to)) → RemainsFit v d to
remains_fit v d to h =
    let k = slot_of to in
    let last = Compute op.Multiply (k + 1) ∷ Compute op.Subtract k ∷ kept to in
    let first = range_fetch (k + 1 + 1) d (Compute op.Divide (k + 1) ∷ (fetch (k + 1 + 1) d ++ last)) h.1.1 in
    let second = range_fetch (k + 1 + 1) d last first.1.1 in
    record { variable = h.0.1; divisor = first.0; room = first.1.0; dest = dest_fits to h.0.0 second.1.1.1 }

module _ (code : SlotCode) (n v : ℕ) (d : Operand) (to : Destination) (is : List Instr) (s : State) (r : Slots) (all : length r.words ≡ 16) (room : slot_of to + 1 + 1 < 16) where
  abbrev slot : ℕ
  slot = slot_of to

  abbrev dividend : ℕ
  dividend = slice_index s.vars v

  abbrev divisor : ℕ
  divisor = fetched s r (slot + 2) d

  abbrev left_over : ℕ
  left_over = word (dividend + (65536 - word (quotient dividend divisor * divisor)))

  abbrev loaded : Slots
  loaded = with_word r slot dividend

  abbrev loaded_length : length loaded.words ≡ 16
  loaded_length = length-set r.words slot dividend ∙ all

  -- the slots before the difference
  abbrev both : Slots
  both = multiplied code n (slot + 1) v d s loaded loaded_length room

  both_length : length both.words ≡ 16
  both_length = multiplied_length code n (slot + 1) v d s loaded loaded_length room

  divisor_is : fetched s loaded (slot + 1 + 1) d ≡ divisor
  divisor_is =
      let e : slot + 1 + 1 ≡ slot + 2 = omega arith in
      fetched_behind s r slot (slot + 1 + 1) (Variable v) d (λ q. omega (arith, q)) ∙ ap (λ j. fetched s r j d) e

  left_is : slice_index both.words slot ≡ dividend
  left_is = others_stand code n (slot + 1) v d s loaded loaded_length room slot (λ q. omega (arith, q)) (λ q. omega (arith, q)) ∙ same_slot r slot dividend (omega (arith, all, room))

  right_is : slice_index both.words (slot + 1) ≡ word (quotient dividend divisor * divisor)
  right_is = product_stands code n (slot + 1) v d s loaded loaded_length room ∙ ap (λ q. word (quotient dividend q * q)) divisor_is

  abbrev less : List Instr
  less = Compute op.Subtract slot ∷ kept to

  abbrev less_behind : List Instr
  less_behind = Compute op.Subtract slot ∷ (kept to ++ is)

  -- if the divisor is not 0
  remains_goes : divisor ≢ 0 → steps code (expand (Remains v d to)) (line code n (spread_remains v d to is) s r)
      ≡ Goes (line code n is (landed to left_over s) (slots_landed to left_over (with_word both slot left_over))) []
  remains_goes some =
      let got : apply op.Subtract (slice_index both.words slot) (slice_index both.words (slot + 1)) ≡ Some left_over = (λ i. apply op.Subtract (left_is i) (right_is i)) in
      fetches code n slot (Variable v) (multiple (slot + 1) v d less) (multiple (slot + 1) v d less_behind) s r
      ∙ multiple_next code n (slot + 1) v d s loaded loaded_length room less less_behind (λ e. some (sym divisor_is ∙ e))
      ∙ ends code n (Compute op.Subtract slot) to is s s both left_over (omega (arith, both_length, room)) (ap (λ o. into n slot (given o s.seed) s both) got)

  -- if it is 0
  remains_fails : divisor ≡ 0 → steps code (expand (Remains v d to)) (line code n (spread_remains v d to is) s r) ≡ Stops Faulted (fault_text 2 n)
  remains_fails zero =
      fetches code n slot (Variable v) (multiple (slot + 1) v d less) (multiple (slot + 1) v d less_behind) s r
      ∙ multiple_fails code n (slot + 1) v d s loaded loaded_length room less less_behind (divisor_is ∙ zero)

-- ---- what they read
module _ (v : ℕ) (d : Operand) (to : Destination) (is : List Instr) where
  abbrev product_behind : List Instr
  product_behind = Compute op.Multiply (slot_of to + 1) ∷ Compute op.Subtract (slot_of to) ∷ (kept to ++ is)

  abbrev quotient_behind : List Instr
  quotient_behind = Compute op.Divide (slot_of to + 1) ∷ (fetch (slot_of to + 1 + 1) d ++ product_behind)

  -- a slot below the three is read before them
  below_read : (j : ℕ) → j < slot_of to → j < (live (spread_remains v d to is)).slots
  below_read j lt =
      fetch_reads j (slot_of to) (Variable v) (Load (slot_of to + 1) v ∷ (fetch (slot_of to + 1 + 1) d ++ quotient_behind))
      (fetch_reads j (slot_of to + 1) (Variable v) (fetch (slot_of to + 1 + 1) d ++ quotient_behind)
      (fetch_reads j (slot_of to + 1 + 1) d quotient_behind (omega (arith, lt)) (λ q. omega (arith, q, lt)))
      (λ q. omega (arith, q, lt)))
      (λ q. omega (arith, q, lt))

  -- a divisor that is in its slot is read there
  divisor_read : StandsIn d (slot_of to + 2) (live (spread_remains v d to is))
  divisor_read = by d
    where
      by : (d : Operand) → StandsIn d (slot_of to + 2) (live (spread_remains v d to is))
      by (Constant w) = tt
      by (Variable x) = tt
      by InSlot =
          let behind = Compute op.Divide (slot_of to + 1) ∷ Compute op.Multiply (slot_of to + 1) ∷ Compute op.Subtract (slot_of to) ∷ (kept to ++ is) in
          fetch_reads (slot_of to + 2) (slot_of to) (Variable v) (Load (slot_of to + 1) v ∷ behind) (fetch_reads (slot_of to + 2) (slot_of to + 1)
          (Variable v) behind (omega arith) (λ q. omega (arith, q))) (λ q. omega (arith, q))

  remains_lasting : (code : SlotCode) (n : ℕ) (s : State) (r : Slots) (all : length r.words ≡ 16) (room : slot_of to + 1 + 1 < 16)
      → omits_only_dead (Remains v d to) (live is) ≡ true → Lasting (live (spread_remains v d to is)) to is r (both code n v d to is s r all room)
  remains_lasting code n s r all room free = record {
    all = both_length code n v d to is s r all room ∙ sym all;
    same_held = held_stands code n (slot_of to + 1) v d s (with_word r (slot_of to) (slice_index s.vars v)) (length-set r.words (slot_of to) (slice_index s.vars v) ∙ all) room;
    dead = by to free;
    others = λ j lt ne. let below = lower to free j lt ne in (below_read j below, same j below);
    held = λ h. fetch_held (slot_of to + 1 + 1) d quotient_behind ∙ fetch_held (slot_of to + 1 + 1) d product_behind ∙ h;
  }
    where
      by : (to : Destination) → omits_only_dead (Remains v d to) (live is) ≡ true → IsDead to (live is)
      by (IntoSlot k) f = tt
      by (IntoHome home) f = leb-true _ _ f

      lower : (to : Destination) → omits_only_dead (Remains v d to) (live is) ≡ true → (j : ℕ) → j < (live is).slots → j ≢ slot_of to → j < slot_of to
      lower (IntoSlot k) f j lt ne = omega (arith, lt, ne, leb-true _ _ f)
      lower (IntoHome home) f j lt ne = absurd (omega (arith, lt, leb-true _ _ f))

      same : (j : ℕ) → j < slot_of to → slice_index (both code n v d to is s r all room).words j ≡ slice_index r.words j
      same j lt =
          others_stand code n (slot_of to + 1) v d s (with_word r (slot_of to) (slice_index s.vars v))
          (length-set r.words (slot_of to) (slice_index s.vars v) ∙ all) room j (λ q. omega (arith, q, lt)) (λ q. omega (arith, q, lt))
          ∙ other_slot r (slot_of to) j (slice_index s.vars v) (λ q. omega (arith, q, lt))

-- ---- single pieces
-- the sign bit of a word
sign_bit : (x : ℕ) → x < 65536 → has_bit (x / 256) 128 ≡ is_negative x
sign_bit x h = by (nat_lt 32767 x) refl
  where
    by : (t : Bool) → nat_lt 32767 x ≡ t → has_bit (x / 256) 128 ≡ t
    by true e = eq-eqb (x / 256 / 128 % 2) 1 (omega (arith, h, ltb-true 32767 x e))
    by false e = ne_eqb (x / 256 / 128 % 2) 1 (λ q. omega (arith, q, ltb-false 32767 x e))

-- ---- differences before the call
-- the bytes of that code
abbrev tried_size : Source → ℕ
tried_size (FixedWord w) = 0
tried_size (AtAddress q) = 63

-- a call after it
abbrev called : Source → Source → List Piece
called a b = Code (brought a LEFT) ∷ Code (brought b RIGHT) ∷ Code (call DIVIDE_AT) ∷ []

-- the call is there, and ends where that code leads past it
pub called_lies : (f : Setup) (p at : ℕ) (b : Source) → Lies f.code at (tried (AtAddress p) b (called (AtAddress p) b)) → Lies f.code (at + tried_size b) (called (AtAddress p) b)
called_lies f p at (FixedWord w) lies = subst (λ a. Lies f.code a (called (AtAddress p) (FixedWord w))) (let e : at ≡ at + 0 = omega arith in e) lies
called_lies f p at (AtAddress q) lies = lies.2

pub called_end : (p at : ℕ) (b : Source) → at + pieces_size (tried (AtAddress p) b (called (AtAddress p) b)) ≡ at + tried_size b + size (brought (AtAddress p) LEFT) + size (brought b RIGHT) + 3
called_end p at (FixedWord w) = omega arith
called_end p at (AtAddress q) = omega arith

-- bytes leave their remainder in the result, past the call; other words come to it
tried_then : (f : Setup) (fits : Fits f 16) (at middle p x y : ℕ) (b : Source) (own : List ℕ) (m : ℕ → ℕ) (text answers : List ℕ) → leb (length own) 16 ≡ true → InData p
    → Grounded b RIGHT → SourceHolds m (AtAddress p) x → SourceHolds m b y → Lies f.code at (tried (AtAddress p) b (called (AtAddress p) b))
    → at + pieces_size (tried (AtAddress p) b (called (AtAddress p) b)) ≡ middle → (goal : View → Type 0) (t : List ℕ) (l : ℕ)
    → (x < 256 → y < 256 → y ≢ 0 → (s : View → Type 0) → Moves f s (Here middle own (put_word m RESULT (x % y) 0) text answers) [] 4 → Moves f s goal t (4 + l))
    → Moves f (Here (at + tried_size b) own m text answers) goal t l → Moves f (Here at own m text answers) goal t (24 + l)
tried_then f fits at middle p x y (FixedWord w) own m text answers small there gb hx hy lies end goal t l done on =
    moves_looser f _ _ _ t l (24 + l) (omega arith) (λ u g. g) (subst (λ a. Moves f (Here a own m text answers) goal t l) (let e : at + 0 ≡ at = omega arith in e) on)
tried_then f fits at middle p x y (AtAddress q) own m text answers small there gb hx hy lies end goal t l done on =
    let room = lies.2.2.2.0 in
    ⊎_elim
    (λ byte. tries f 16 fits own m text answers small p q at there gb.0 (omega (arith, room)) lies.1 (let e = hx.low_byte in omega (arith, e)) goal t l
    (λ high high' some. let ex : m p ≡ x = (let e = hx.low_byte in omega (arith, e, byte)) in
    let yb : y < 256 = (let e = hy.high_byte in let s = hy.small in omega (arith, e, s, high')) in
    let ey : m q ≡ y = (let e = hy.low_byte in omega (arith, e, yb)) in
    done byte yb (λ z. some (ey ∙ z)) _
    (moves_looser f _ _ _ [] 4 4 (omega arith)
    (λ u g. subst (λ v. Here middle own (put_word m RESULT v 0) text answers u) (λ i. ex i % ey i)
    (subst (λ a. Here a own (put_word m RESULT (m p % m q) 0) text answers u) (let e : at + 86 ≡ middle = omega (arith, end) in e) g))
    (stored f 16 fits own m text answers small p q at there gb.0 (omega (arith, room)) lies.1 (m p % m q))))
    on)
    (λ word. tries f 16 fits own m text answers small p q at there gb.0 (omega (arith, room)) lies.1 (let e = hx.low_byte in omega (arith, e)) goal t l
    (λ high high' some. absurd (let e = hx.high_byte in let s = hx.small in omega (arith, e, s, high, word)))
    on)
    (cases_lt x 256)

-- ---- the law
module _ (around : Surroundings) (fits : Fits around.f 16) (code : SlotCode) (limit : ℕ) (rs : Serves around limit) (wide : 200 ≤ limit) (n v : ℕ) (d : Operand)
    (to : Destination) (is : List Instr) (s : State) (r : Slots) (w : View) (h : Ready around n (Remains v d to) (spread_remains v d to is) is s r w) where
  open around use {ly, f, lo, hi}

  abbrev own : List ℕ
  own = lo ∷ hi ∷ []

  abbrev js : List Instr
  js = spread_remains v d to is

  abbrev k : ℕ
  k = slot_of to

  abbrev x : ℕ
  x = slice_index s.vars v

  abbrev y : ℕ
  y = fetched s r (k + 2) d

  abbrev a : Source
  a = AtAddress (var_at v)

  abbrev b : Source
  b = source_of (k + 2) d

  abbrev dest : ℕ
  dest = destination_at to

  -- the remainder's size, and the word that goes on
  abbrev rest_size : ℕ
  rest_size = magnitude x % magnitude y

  abbrev value : ℕ
  value = word (x + (65536 - word (quotient x y * y)))

  fit : RemainsFit v d to
  fit = remains_fit v d to h.ranged

  a_holds : (m : ℕ → ℕ) → Kept around (live js) s r m → SourceHolds m a x
  a_holds m c = operand_held ly s (live js) r m 0 (Variable v) c.state c.read fit.variable tt

  b_holds : (m : ℕ → ℕ) → Kept around (live js) s r m → SourceHolds m b y
  b_holds m c = operand_held ly s (live js) r m (k + 2) d c.state c.read fit.divisor (divisor_read v d to is)

  first : Kept around (live js) s r w.mem
  first = kept_first h

  -- whether it may fault; after the line's number, if it may
  abbrev risky : Bool
  risky = may_be_zero b

  open going_on h risky use {at, m, c}

  abbrev asking : List Piece
  asking = called a b

  -- the call, and what comes before it
  abbrev trying : List Piece
  trying = tried a b asking

  abbrev asking_at : ℕ
  asking_at = at + tried_size b

  -- after the call
  abbrev middle : ℕ
  middle = rest_at n w.regs.pc a b

  -- the slots after it, and where the law ends
  abbrev last : Slots
  last = both code n v d to is s r h.read.all_words fit.room

  abbrev Ends : View → Type 0
  Ends = Matches around (line code n is (landed to value s) (slots_landed to value (with_word last k value)))

  value_small : value < 65536
  value_small = omega arith

  a_apart : Grounded a LEFT
  a_apart = operand_apart 0 (Variable v) LEFT (omega arith) (omega arith) fit.variable

  -- the remainder by the routine, with its sign
  abbrev signing : List Piece
  signing = signed_rest h.first middle a dest

  module _ (lies : Lies f.code w.regs.pc (rest_code None None h.first n w.regs.pc a b dest)) (reach : RestReachesBy None None h.first n w.regs.pc a b)
      (rest : GroupsLie ly f.code n (w.regs.pc + pieces_size (rest_code None None h.first n w.regs.pc a b dest)) (select is)) where
    parts : Lies f.code w.regs.pc (rest_asked n a b) × Lies f.code middle signing
    parts = lies_parts f.code w.regs.pc (rest_asked n a b) signing lies

    trying_lies : Lies f.code at trying
    trying_lies = lies_by h risky trying parts.0

    asking_lies : Lies f.code asking_at asking
    asking_lies = called_lies f (var_at v) at b trying_lies

    b_apart : Grounded b RIGHT
    b_apart = operand_apart (k + 2) d RIGHT (omega arith) (let room = fit.room in omega (arith, room)) fit.divisor

    middle_is : asking_at + size (brought a LEFT) + size (brought b RIGHT) + 3 ≡ middle
    middle_is = sym (called_end (var_at v) at b) ∙ end_by h risky trying

    -- the remainder's size is in RESULT
    record Told (u : View) : Type 0 where
      here : Here middle own u.mem w.text w.answers u
      result : WordAt u.mem RESULT rest_size
      kept : Kept around (live js) s r u.mem

    -- by differences
    left_of_bytes : x < 256 → y < 256 → y ≢ 0 → rest_size ≡ x % y
    left_of_bytes p q some =
        let e : is_negative x ≡ false = le-ltb 32767 x (omega (arith, p)) in let g : is_negative y ≡ false = le-ltb 32767 y (omega (arith, q)) in
        λ i. (if e i then 65536 - x else x) % (if g i then 65536 - y else y)

    told_left : x < 256 → y < 256 → y ≢ 0 → (u : View) → Here middle own (put_word m RESULT (x % y) 0) w.text w.answers u → Told u
    told_left p q some u g =
        let same = left_of_bytes p q some in
        let less = mod-le x y in
        let low : x % y ≡ rest_size % 256 = omega (arith, less, p, same) in
        let high : 0 ≡ rest_size / 256 = omega (arith, less, p, same) in
        record {
          here = subst (λ m. Here middle own m w.text w.answers u) (sym g.mem) g;
          result = subst (λ m. WordAt m RESULT rest_size) (sym g.mem) (word_put m RESULT (x % y) 0 rest_size low high (omega (arith, less, p, same)));
          kept = subst (Kept around (live js) s r) (sym g.mem) (kept_put around (live js) s r m RESULT _ _ h.some_read refl refl c);
        }

    asks_rest : y ≢ 0 → Comes f w Told [] (37 + limit)
    asks_rest some =
        looser f w _ _ [] (4 + (24 + (9 + limit))) (37 + limit) (omega arith) (λ u z. z)
        (lines_by fits h risky trying parts.0 _ [] (24 + (9 + limit))
        (tried_then f fits at middle (var_at v) x y b own m w.text w.answers refl a_apart.0 b_apart (a_holds m c) (b_holds m c) trying_lies (end_by h risky trying) Told [] (9 + limit)
        (λ p q some' s' before. moves_looser f _ _ _ [] 4 (4 + (9 + limit)) (omega arith) (told_left p q some') before)
        (asks_by fits h DIVIDE_AT asking_at a b [] m c asking_lies x y a_apart b_apart (a_holds m c) b_holds _ [] limit
        (λ m' g u e.
        looser f u _ _ [] limit limit (omega arith)
        (λ z q. record {
          here = back_here _ _ w.text w.answers _ z q (comes_back fits h DIVIDE_AT asking_at a b [] m c asking_lies x y a_apart b_apart (a_holds m c) b_holds ∙ middle_is);
          result = q.memory.rest;
          kept = kept_scratch around (live js) s r m' z.mem h.some_read (λ p o. q.memory.others p (not_argument p o)) g.kept;
        })
        (rs.divide _ _ m' w.text w.answers x y g.left g.right some u e)))))

    -- ---- its sign
    abbrev Fork : Type 0
    Fork = Forked f 16 fits own w.text w.answers refl h.first middle (sign_looked_at a) Negative false rest_turned (copied RESULT dest)

    fork : Fork
    fork = forked f 16 fits own w.text w.answers refl h.first middle (sign_looked_at a) Negative false rest_turned (copied RESULT dest) parts.1 reach

    -- where it is copied from RESULT, and where that ends
    abbrev copy_at : ℕ
    copy_at = over_at h.first middle (sign_looked_at a) rest_turned

    abbrev end : ℕ
    end = w.regs.pc + pieces_size (rest_code None None h.first n w.regs.pc a b dest)

    end_is : copy_at + size (copied RESULT dest) ≡ end
    end_is = let e = fork.end_is in let q = pieces_append (rest_asked n a b) signing in omega (arith, e, q)

    copies_out : (m : ℕ → ℕ) → WordAt m RESULT value → Kept around (live js) s r m → Moves f (Here copy_at own m w.text w.answers) Ends [] 4
    copies_out m q c =
        moves_looser f _ _ _ [] 4 4 (omega arith)
        (λ u e. word_lands around code n h.small (live js) to is s r last value _ _ end m w.text w.answers q.low q.high q.small fit.dest
        (remains_lasting v d to is code n s r h.read.all_words fit.room h.free) rest c h.text h.answers h.short u (moved _ end own _ w.text w.answers u e end_is))
        (copies f 16 fits copy_at own m w.text w.answers refl RESULT dest fork.ends result_gives.0 (dest_in_data to fit.dest) (result_gives.1 to fit.dest) fork.behind_stands)

    -- where it is negated
    abbrev turned_at : ℕ
    turned_at = middle + size (sign_looked_at a) + way_size h.first

    -- by the sign of the variable
    signs : y ≢ 0 → Moves f Told Ends [] 14
    signs some u told =
        chained f u _ _ [] [] 1 13 (loads_sign f 16 fits middle own u.mem w.text w.answers refl (At (var_at v + 1)) a_apart.0.1 (let r = parts.1.0 in
        omega (arith, r)) parts.1.1.0 u told.here) (λ z g. by (is_negative x) refl z g)
      where
        x_held : SourceHolds u.mem a x
        x_held = a_holds u.mem told.kept

        y_held : SourceHolds u.mem b y
        y_held = b_holds u.mem told.kept

        value_is : (t : Bool) → is_negative x ≡ t → value ≡ turned_size t rest_size
        value_is t e = rest_is x y x_held.small y_held.small some ∙ ap (λ t. turned_size t rest_size) e

        sign_is : has_bit (u.mem (var_at v + 1)) 128 ≡ is_negative x
        sign_is = ap (λ b. has_bit b 128) x_held.high_byte ∙ sign_bit x x_held.small

        by : (t : Bool) → is_negative x ≡ t → (z : View) → WithN (middle + 3) (has_bit (u.mem (var_at v + 1)) 128) own u.mem w.text w.answers z → Comes f z Ends [] 13
        by false e z g =
            looser f z _ _ [] (2 + 4) 13 (omega arith) (λ q k. k)
            (chained f z _ _ [] [] 2 4 (fork.leads u.mem false z (moved _ _ own _ w.text w.answers z g.here (omega arith)) (g.negative ∙ sign_is ∙ e)) (λ q l.
            copies_out u.mem (subst (WordAt u.mem RESULT) (sym (value_is false e)) told.result) told.kept q l.here))
        by true e z g =
            let difference = subtracted_word 0 0 _ _ 0 rest_size refl refl told.result.low told.result.high (omega arith) told.result.small in
            let same = sym (value_is true e) in
            chained f z _ _ [] [] 2 11 (fork.leads u.mem true z (moved _ _ own _ w.text w.answers z g.here (omega arith)) (g.negative ∙ sign_is ∙ e)) (λ q l.
            chained f q _ _ [] [] 7 4 (differs f 16 fits turned_at own u.mem w.text w.answers refl (FixedWord 0) (AtAddress RESULT) RESULT
            (let r = fork.ends in omega (arith, r)) tt ((refl, refl), λ e. omega (arith, e)) (refl, refl) fork.stands q l.here) (λ q l.
            copies_out _ (word_put u.mem RESULT _ _ value (difference.0 ∙ ap (λ v. v % 256) same) (difference.1 ∙ ap (λ v. v / 256) same) (omega arith))
            (kept_put around (live js) s r u.mem RESULT _ _ h.some_read refl refl told.kept) q l))

    -- ---- by 0
    faults : y ≡ 0 → Comes f w (IsHome f) (fault_text 2 n) (37 + limit)
    faults zero =
        looser f w _ _ (fault_text 2 n) (4 + (24 + (9 + limit))) (37 + limit) (omega arith) (λ u z. z)
        (lines_by fits h risky trying parts.0 _ (fault_text 2 n) (24 + (9 + limit))
        (tried_then f fits at middle (var_at v) x y b own m w.text w.answers refl a_apart.0 b_apart (a_holds m c) (b_holds m c) trying_lies (end_by h risky trying) (IsHome f) (fault_text 2 n)
        (9 + limit) (λ p q some. absurd (some zero))
        (asks_by fits h DIVIDE_AT asking_at a b [] m c asking_lies x y a_apart b_apart (a_holds m c) b_holds _ (fault_text 2 n) limit
        (λ m' g. rs.divide_by_zero _ _ m' w.text w.answers x n g.left (subst (WordAt m' RIGHT) zero g.right)
        (g.line (number_set h risky (λ e. never_zero w.mem y b (b_holds w.mem first) e zero))) g.kept.homed))))

  -- ---- by the lowest bits
  module _ (j : ℕ) (o : Option (ℕ × ℕ)) (few : j < 8) (power : y ≡ 2 ^ (j + 1)) (lies : Lies f.code w.regs.pc (rest_code (Some (2 ^ (j + 1) - 1)) o h.first n w.regs.pc a b dest))
      (reach : RestReachesBy (Some (2 ^ (j + 1) - 1)) o h.first n w.regs.pc a b)
      (rest : GroupsLie ly f.code n (w.regs.pc + pieces_size (rest_code (Some (2 ^ (j + 1) - 1)) o h.first n w.regs.pc a b dest)) (select is)) where
    abbrev bits : ℕ
    bits = 2 ^ (j + 1) - 1

    abbrev split : Type 0
    split = Forked f 16 fits own w.text w.answers refl h.first w.regs.pc (rest_and_sign bits a) Negative false (rest_below bits) (both_stored dest)

    way : split
    way = forked f 16 fits own w.text w.answers refl h.first w.regs.pc (rest_and_sign bits a) Negative false (rest_below bits) (both_stored dest) lies reach

    -- where the bits are taken away, and where the word is stored
    abbrev below_at : ℕ
    below_at = w.regs.pc + 10 + way_size h.first

    abbrev store_at : ℕ
    store_at = over_at h.first w.regs.pc (rest_and_sign bits a) (rest_below bits)

    x_of : SourceHolds w.mem a x
    x_of = a_holds w.mem first

    some_divisor : y ≢ 0
    some_divisor zero = some_power j few (sym power ∙ zero)

    -- the word, by the sign of the variable
    value_by : (t : Bool) → is_negative x ≡ t → value ≡ turned_size t ((if t then 65536 - x else x) % 2 ^ (j + 1))
    value_by t e =
        let size = power_size j few in
        let plain : is_negative (2 ^ (j + 1)) ≡ false = lt-leb 32768 (2 ^ (j + 1)) (omega (arith, size.1)) in
        let m : magnitude y ≡ 2 ^ (j + 1) = ap magnitude power ∙ ap (λ t. if t then 65536 - 2 ^ (j + 1) else 2 ^ (j + 1)) plain in
        rest_is x y x_of.small (b_holds w.mem first).small some_divisor ∙ (λ i. turned_size (e i) ((if e i then 65536 - x else x) % m i))

    stores_word : (l u : ℕ) → l ≡ value % 256 → u ≡ value / 256 → Moves f (Both store_at l u own w.mem w.text w.answers) Ends [] 2
    stores_word l u el eu =
        moves_looser f _ _ _ [] 2 2 (omega arith)
        (λ z e. word_lands around code n h.small (live js) to is s r last value l u (store_at + 6) w.mem w.text w.answers el eu value_small fit.dest
        (remains_lasting v d to is code n s r h.read.all_words fit.room h.free) (subst (λ p. GroupsLie ly f.code n p (select is)) (sym way.end_is) rest)
        first h.text h.answers h.short z e)
        (stores_both f 16 fits store_at own w.mem w.text w.answers refl dest l u (dest_in_data to fit.dest) way.ends way.behind_stands)

    by_sign : (t : Bool) → is_negative x ≡ t → (z : View) → Looked (w.regs.pc + 10) (bit_and (w.mem (var_at v)) bits) 0 t own w.mem w.text w.answers z
        → Comes f z Ends [] 14
    by_sign false e z g =
        let same = value_by false e in
        let word_is = above_rest j few x in
        chained f z _ _ [] [] 2 12 (way.leads w.mem false z g.here g.negative) (λ q l.
        looser f q _ _ [] 2 12 (omega arith) (λ u k. k)
        (stores_word (bit_and (w.mem (var_at v)) bits) 0 (ap (λ b. bit_and b bits) x_of.low_byte ∙ word_is.0 ∙ ap (λ v. v % 256) (sym same))
        (word_is.1 ∙ ap (λ v. v / 256) (sym same)) q (record { here = l.here; number = l.number ∙ g.number; index = l.index ∙ g.index })))
    by_sign true e z g =
        let same = value_by true e in
        let word_is = below_rest j few x x_of.small (leb-true 32768 x e) in
        let byte = ap (λ b. bit_and b bits) x_of.low_byte in
        chained f z _ _ [] [] 2 12 (way.leads w.mem true z g.here g.negative) (λ q l.
        chained f q _ _ [] [] 10 2 (turns_below f 16 fits below_at own w.mem w.text w.answers refl bits (bit_and (w.mem (var_at v)) bits)
        (let r = way.ends in omega (arith, r)) way.stands q (record { here = l.here; number = l.number ∙ g.number }))
        (stores_word (below_low bits (bit_and (w.mem (var_at v)) bits)) (below_high bits (bit_and (w.mem (var_at v)) bits))
        (ap (below_low bits) byte ∙ word_is.0 ∙ ap (λ v. v % 256) (sym same)) (ap (below_high bits) byte ∙ word_is.1 ∙ ap (λ v. v / 256) (sym same))))

    masked_goes : Comes f w Ends [] 18
    masked_goes =
        chained f w _ _ [] [] 4 14
        (looks_both f 16 fits w.regs.pc own w.mem w.text w.answers refl bits (var_at v) a_apart.0 (let r = lies.0 in omega (arith, r)) lies.1 w (here h))
        (λ z g. by_sign (is_negative x) refl z (record {
          here = g.here;
          number = g.number;
          index = g.index;
          negative = g.negative ∙ ap (λ b. has_bit b 128) x_of.high_byte ∙ sign_bit x x_of.small;
        }))

  -- ---- by a constant's multiples
  module _ (j d' : ℕ) (few : j < 9) (over : 512 < d' * 2 ^ j) (below : d' * 2 ^ j < 1024) (same : y ≡ d')
      (lies : Lies f.code w.regs.pc (rest_code None (Some (j, d')) h.first n w.regs.pc a b dest))
      (rest : GroupsLie ly f.code n (w.regs.pc + pieces_size (rest_code None (Some (j, d')) h.first n w.regs.pc a b dest)) (select is)) where
    abbrev after : ℕ
    after = w.regs.pc + pieces_size (rest_code None (Some (j, d')) h.first n w.regs.pc a b dest)

    x_there : SourceHolds w.mem a x
    x_there = a_holds w.mem first

    -- the divisor is no negative word, and not 0
    small_divisor : (d' < 1024) × (1 ≤ d')
    small_divisor = by (2 ^ j) (power_some j) over below
      where
        by : (q : ℕ) → 1 ≤ q → 512 < d' * q → d' * q < 1024 → (d' < 1024) × (1 ≤ d')
        by q some more less = (below_product d' q 1024 some less, ⊎_elim (λ z. absurd (omega (arith, more, none d' q z))) (λ n. omega (arith, n)) (cases_eq d' 0))
          where
            none : (d q : ℕ) → d ≡ 0 → d * q ≡ 0
            none d q z = ap (λ d. d * q) z ∙ (let e : 0 * q ≡ 0 = grind arith in e)

    not_none : y ≢ 0
    not_none e = let s = small_divisor.1 in omega (arith, s, same, e)

    size_is : magnitude y ≡ d'
    size_is =
        let s = small_divisor.0 in
        let plain : is_negative y ≡ false = lt-leb 32768 y (omega (arith, s, same)) in
        ap (λ t. if t then 65536 - y else y) plain ∙ same

    value_is : value ≡ turned_size (is_negative x) (magnitude x % d')
    value_is = rest_is x y x_there.small (b_holds w.mem first).small not_none ∙ ap (λ m. turned_size (is_negative x) (magnitude x % m)) size_is

    reduced_goes : Comes f w Ends [] (11 * (j + 6) + 26)
    reduced_goes =
        let e = sym value_is in
        let sizes = reduced_end (var_at v) dest j d' in
        looser f w _ _ [] (11 * (j + 6) + 26) (11 * (j + 6) + 26) (omega arith)
        (λ z g. word_lands around code n h.small (live js) to is s r last value _ _ after w.mem w.text w.answers (ap (λ v. v % 256) e) (ap (λ v. v / 256) e) value_small fit.dest
        (remains_lasting v d to is code n s r h.read.all_words fit.room h.free) rest first h.text h.answers h.short z
        (subst (λ p. Here p own (put_word w.mem dest (turned_size (is_negative x) (magnitude x % d') % 256) (turned_size (is_negative x) (magnitude x % d') / 256)) w.text w.answers z)
        (omega (arith, sizes)) g))
        (reduces f 16 fits own w.mem w.text w.answers refl (var_at v) dest j d' x w.regs.pc a_apart.0 (dest_in_data to fit.dest) x_there.low_byte x_there.high_byte x_there.small
        over (let l = lies.0 in omega (arith, l)) lies.1 w (here h))

  abbrev pub RemainsLeads : Step SlotState → Type 0
  RemainsLeads z = Comes f w (Target around z) (sent_in z) (34 + (limit + limit))

  -- the law of a remainder, by how it is computed
  law_by : (o : Option ℕ) (o' : Option (ℕ × ℕ)) → IsMasking b o → IsReducing b o' → Lies f.code w.regs.pc (rest_code o o' h.first n w.regs.pc a b dest)
      → RestReachesBy o o' h.first n w.regs.pc a b → GroupsLie ly f.code n (w.regs.pc + pieces_size (rest_code o o' h.first n w.regs.pc a b dest)) (select is)
      → RemainsLeads (steps code (expand (Remains v d to)) (line code n js s r))
  law_by _ o' (by_bits c j e few p) g lies reach rest =
      let same = constant_is w.mem c y b e (b_holds w.mem first) in
      let power : y ≡ 2 ^ (j + 1) = sym same.0 ∙ p in
      subst RemainsLeads (sym (remains_goes code n v d to is s r h.read.all_words fit.room (λ zero. some_power j few (sym power ∙ zero))))
      (looser f w _ _ [] 18 (34 + (limit + limit)) (omega arith) (λ u z. z) (masked_goes j o' few power lies reach rest))
  law_by _ _ by_division (by_multiples c j e few over below) lies reach rest =
      let same = sym (constant_is w.mem c y b e (b_holds w.mem first)).0 in
      subst RemainsLeads (sym (remains_goes code n v d to is s r h.read.all_words fit.room (not_none j c few over below same lies rest)))
      (looser f w _ _ [] (11 * (j + 6) + 26) (34 + (limit + limit)) (omega (arith, wide, few)) (λ u z. z) (reduced_goes j c few over below same lies rest))
  law_by _ _ by_division by_routine lies reach rest = ⊎_elim
      (λ zero. subst RemainsLeads (sym (remains_fails code n v d to is s r h.read.all_words fit.room zero))
      (looser f w _ _ (fault_text 2 n) (37 + limit) (34 + (limit + limit)) (omega arith) (λ u z. z) (faults lies reach rest zero)))
      (λ some. subst RemainsLeads (sym (remains_goes code n v d to is s r h.read.all_words fit.room some))
      (looser f w _ _ [] (37 + limit + 14) (34 + (limit + limit)) (omega arith) (λ u z. z)
      (chained f w _ _ [] [] (37 + limit) 14 (asks_rest lies reach rest some) (signs lies reach rest some))))
      (cases_eq y 0)

  -- the law of a remainder
  pub remains_law : RemainsLeads (steps code (expand (Remains v d to)) (line code n js s r))
  remains_law = law_by (mask b) (doublings b) (masking_is b) (reducing_is b) h.lies h.reach h.rest
