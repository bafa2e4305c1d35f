-- The law of a test by a divisor: its slot instructions ask whether the remainder is 0, and where its code leads.
use Rattle.std.proofs.Common.{not, ◌≡◌, ◌≢◌, ℕ, ◌+◌, ◌*◌, ◌%◌, ◌<◌, Bool, true, false, cond, List, [], ◌∷◌, ◌++◌}
use Rattle.std.proofs.Common.{length, refl, sym, ap, ◌∙◌, subst, arith, ⊎_elim, Option, Some, None, length-set}
use Rattle.std.specs.Prelude.{slice_index, nat_eq}
use Rattle.std.proofs.lemmas.Bool.{cases_eq, eq-eqb, eqb-true, ne_eqb}
use Rattle.std.proofs.lemmas.List.{nil_from_length}
use Rattle.tb_words.specs.Words.{holds, magnitude, quotient, word}
use Rattle.tb_words.specs.declared.Rel.{Rel}
use Rattle.tb_basic_syntax.specs.declared.expressions.Operator.TheVariants as op
use Rattle.tb_basic_syntax.specs.Source.{numbers}
use Rattle.tb_basic_meaning.specs.Control as control
use Rattle.tb_basic_meaning.specs.Control.{State, fault_text, has_line, next_after}
use Rattle.tb_lower.specs.Ranges.{AreInRange}
use Rattle.tb_lower.specs.Slots.{Instr, Whole, Compute, Hold, JumpTo, LeaveUnless, Load, Slots, SlotCode, SlotState, with_word}
use Rattle.tb_basic_meaning.specs.Steps.{Step, Stops, Faulted}
use Rattle.tb_machine_reaching.proofs.Comes.{chained, looser}
use Rattle.tb_machine_reaching.specs.View.{Comes, Fits, View}
use Rattle.tb_compiled_kept.specs.Addresses.{LEFT, RIGHT}
use Rattle.tb_proof_simulation.proofs.Joins.{sent_in}
use Rattle.tb_proof_simulation.proofs.Resolved.{Code, Lies, Piece, faulting, pieces_size, next_at}
use Rattle.tb_compiler_selection.specs.declared.liveness.Live.{Live}
use Rattle.tb_compiler_selection.specs.Groups.{Operand, Constant, Variable, InSlot, Tested, HeldBefore, HeldNow, Divisibility, Divisible, Indivisible, Side, OnLeft}
use Rattle.tb_compiler_selection.specs.Groups.{OnRight, Divides, compared, contrary, dividing, expand, fetch, multiple, onward}
use Rattle.tb_compiler_selection.specs.GroupSteps.{steps}
use Rattle.tb_compiler_selection.specs.Liveness.{live, nothing_live}
use Rattle.tb_compiler_selection.specs.Select.{may_stand, omits_only_dead, select, test_words_dead}
use Rattle.tb_compiler_selection.proofs.Chosen.{nothing_read}
use Rattle.tb_compiler_templates.specs.declared.sources.Source.{Source}
use Rattle.tb_compiler_templates.specs.Sources.{source_of}
use Rattle.tb_proof_correctness.proofs.CodeBytes.GroupCode.{DividedGoes, DividedReaches, DividesReach, GroupsLie, divided_code, divided_go, divides_code, leaves_on}
use Rattle.tb_proof_correctness.proofs.Alone.Faults.{faults_at}
use Rattle.tb_proof_correctness.proofs.Relation.Frames.{state_placed}
use Rattle.tb_proof_correctness.proofs.Testing.LeftOver.{Led, divided_fails, divided_leads}
use Rattle.tb_proof_correctness.proofs.Relation.GroupInvariants.{Kept, arrived, kept}
use Rattle.tb_proof_correctness.proofs.Relation.Matching.{HoldsLive, Matches, Target}
use Rattle.tb_proof_correctness.proofs.Slots.MultipleSide.{held_stands, multiple_fails, multiple_next, multiplied, multiplied_length, product_stands}
use Rattle.tb_proof_correctness.proofs.Relation.Operands.{OperandFits, SourceHolds, operand_apart, operand_held, range_fetch}
use Rattle.tb_proof_correctness.proofs.Relation.Ready.{Ready, stood}
use Rattle.tb_proof_correctness.proofs.Arithmetic.Remainders.{multiple_is}
use Rattle.tb_proof_correctness.proofs.Testing.SignedOrder.{turned}
use Rattle.tb_proof_correctness.proofs.Slots.SlotSide.{StandsIn, acts, fetch_reads, fetched, fetches, line, other_slot, same_slot}
use Rattle.tb_proof_correctness.proofs.Testing.TestLaws.{go_goes, gone_by, lies_parts}
use Rattle.tb_proof_correctness.proofs.Slots.TestSide.{branched, left_read, spread_test, test_before, test_goes, tested, tested_word}
use Rattle.tb_proof_correctness.proofs.Testing.Whereto.{left_at}
use Rattle.tb_proof_correctness.proofs.Relation.Surroundings.{Serves, Surroundings}

-- whether two numbers are the same, either way
same_either_way : (p q : ℕ) → nat_eq p q ≡ nat_eq q p
same_either_way p q = ⊎_elim (λ e. eq-eqb p q e ∙ sym (eq-eqb q p (sym e))) (λ n. ne_eqb p q n ∙ sym (ne_eqb q p (λ e. n (sym e)))) (cases_eq p q)

-- the list with its parts bracketed to the right
abbrev pub spread_divides : Divisibility → ℕ → Operand → Side → Option ℕ → List Instr → List Instr
spread_divides how v d side to is = dividing how v d side (onward to ++ is)

-- the group's instructions, bracketed to the right
pub spread_divides_is : (how : Divisibility) (v : ℕ) (d : Operand) (side : Side) (to : Option ℕ) (is : List Instr) → expand (Divides how v d side to) ++ is ≡ spread_divides how v d side to is
spread_divides_is how v (Constant w) OnLeft to is = refl
spread_divides_is how v (Variable x) OnLeft to is = refl
spread_divides_is how v InSlot OnLeft to is = refl
spread_divides_is how v (Constant w) OnRight to is = refl
spread_divides_is how v (Variable x) OnRight to is = refl
spread_divides_is how v InSlot OnRight to is = refl

-- ---- its sides
-- the words of its test
abbrev left_word : Side → Tested
left_word OnLeft = HeldNow InSlot
left_word OnRight = HeldBefore

abbrev right_word : ℕ → Side → Operand
right_word v OnLeft = Variable v
right_word v OnRight = InSlot

-- the slots before the multiple
abbrev begun : State → Slots → ℕ → Side → Slots
begun s r v OnLeft = r
begun s r v OnRight = record (with_word r 0 (slice_index s.vars v)) { held = slice_index (with_word r 0 (slice_index s.vars v)).words 0 }

begun_length : (s : State) (r : Slots) (v : ℕ) (side : Side) → length (begun s r v side).words ≡ length r.words
begun_length s r v OnLeft = refl
begun_length s r v OnRight = length-set r.words 0 (slice_index s.vars v)

-- the divisor is the same with these slots
divisor_begun : (s : State) (r : Slots) (v : ℕ) (side : Side) (d : Operand) → fetched s (begun s r v side) 1 d ≡ fetched s r 1 d
divisor_begun s r v OnLeft d = refl
divisor_begun s r v OnRight (Constant w) = refl
divisor_begun s r v OnRight (Variable x) = refl
divisor_begun s r v OnRight InSlot = other_slot r 0 1 (slice_index s.vars v) (λ e. omega (arith, e))

-- what its ranges give
ranges : (how : Divisibility) (v : ℕ) (d : Operand) (side : Side) (js : List Instr) → AreInRange 256 (dividing how v d side js) → OperandFits (Variable v) × OperandFits d
ranges how v d OnLeft js h = (h.0.1, (range_fetch 1 d (Compute op.Divide 0 ∷ (fetch 1 d ++ Compute op.Multiply 0 ∷ (Hold ∷ Load 0 v ∷ LeaveUnless (compared how) ∷ js))) h.1).0)
ranges how v d OnRight js h = (h.0.1, (range_fetch 1 d (Compute op.Divide 0 ∷ (fetch 1 d ++ Compute op.Multiply 0 ∷ (LeaveUnless (compared how) ∷ js))) h.1.1.1).0)

-- a divisor that is in its slot is read there
multiple_read : (v : ℕ) (is : List Instr) → 1 < (live (multiple 0 v InSlot is)).slots
multiple_read v is = fetch_reads 1 0 (Variable v) (Compute op.Divide 0 ∷ Compute op.Multiply 0 ∷ is) (omega arith) (λ e. omega (arith, e))

divisor_read : (how : Divisibility) (v : ℕ) (d : Operand) (side : Side) (is : List Instr) → StandsIn d 1 (live (dividing how v d side is))
divisor_read how v (Constant w) side is = tt
divisor_read how v (Variable x) side is = tt
divisor_read how v InSlot OnLeft is = multiple_read v (Hold ∷ Load 0 v ∷ LeaveUnless (compared how) ∷ is)
divisor_read how v InSlot OnRight is =
    let behind = multiple 0 v InSlot (LeaveUnless (compared how) ∷ is) in
    fetch_reads 1 0 (Variable v) (Hold ∷ behind) (let lt = multiple_read v (LeaveUnless (compared how) ∷ is) in omega (arith, lt)) (λ e. omega (arith, e))

-- ---- what its slot instructions do
module _ (code : SlotCode) (n : ℕ) (how : Divisibility) (v : ℕ) (d : Operand) (side : Side) (s : State) (r : Slots) (all : length r.words ≡ 16) where
  abbrev dividend : ℕ
  dividend = slice_index s.vars v

  abbrev divisor : ℕ
  divisor = fetched s r 1 d

  abbrev start : Slots
  start = begun s r v side

  start_length : length start.words ≡ 16
  start_length = begun_length s r v side ∙ all

  -- the slots after the multiple
  abbrev last : Slots
  last = multiplied code n 0 v d s start start_length (omega arith)

  last_length : length last.words ≡ 16
  last_length = multiplied_length code n 0 v d s start start_length (omega arith)

  -- up to the test, with some instructions after it and some after these
  abbrev Next : Step SlotState → (js back : List Instr) → Type 0
  Next z js back = steps code (dividing how v d side js) (line code n (dividing how v d side back) s r) ≡ z

  begins : (js back : List Instr) (z : Step SlotState)
      → steps code (multiple 0 v d (test_before (compared how) (left_word side) (right_word v side) js))
      (line code n (multiple 0 v d (spread_test (compared how) (left_word side) (right_word v side) back)) s start) ≡ z → Next z js back
  begins js back z = by side
    where
      by : (side : Side) → steps code (multiple 0 v d (test_before (compared how) (left_word side) (right_word v side) js))
          (line code n (multiple 0 v d (spread_test (compared how) (left_word side) (right_word v side) back)) s (begun s r v side)) ≡ z
          → steps code (dividing how v d side js) (line code n (dividing how v d side back) s r) ≡ z
      by OnLeft e = e
      by OnRight e =
          let ks = multiple 0 v d (LeaveUnless (compared how) ∷ js) in
          let behind = multiple 0 v d (LeaveUnless (compared how) ∷ back) in
          fetches code n 0 (Variable v) (Hold ∷ ks) (Hold ∷ behind) s r
          ∙ acts code n Hold ks behind s s (with_word r 0 (slice_index s.vars v)) (begun s r v OnRight) refl
          ∙ e

  divides_next : (js back : List Instr) → divisor ≢ 0 → Next (steps code (test_before (compared how) (left_word side) (right_word v side) js)
      (line code n (spread_test (compared how) (left_word side) (right_word v side) back) s last)) js back
  divides_next js back some =
      begins js back (steps code (test_before (compared how) (left_word side) (right_word v side) js) (line code n (spread_test (compared how) (left_word side) (right_word v side) back) s last))
      (multiple_next code n 0 v d s start start_length (omega arith) (test_before (compared how) (left_word side) (right_word v side) js)
      (spread_test (compared how) (left_word side) (right_word v side) back) (λ e. some (sym (divisor_begun s r v side d) ∙ e)))

  -- a divisor 0 is a fault
  divides_fails : (js back : List Instr) → divisor ≡ 0 → Next (Stops Faulted (fault_text 2 n)) js back
  divides_fails js back zero =
      begins js back (Stops Faulted (fault_text 2 n))
      (multiple_fails code n 0 v d s start start_length (omega arith) (test_before (compared how) (left_word side) (right_word v side) js)
      (spread_test (compared how) (left_word side) (right_word v side) back) (divisor_begun s r v side d ∙ zero))

  -- whether the product is the dividend
  abbrev asked : Bool
  asked = turned (leaves_on how) (nat_eq (magnitude dividend % magnitude divisor) 0)

  abbrev product : ℕ
  product = word (quotient dividend divisor * divisor)

  product_is : slice_index last.words 0 ≡ product
  product_is = product_stands code n 0 v d s start start_length (omega arith) ∙ ap (λ q. word (quotient dividend q * q)) (divisor_begun s r v side d)

  -- the test's words are the product and the dividend, in the order of their side
  swapped : (how : Divisibility) (p q : ℕ) → holds (compared how) p q ≡ holds (compared how) q p
  swapped Divisible p q = same_either_way p q
  swapped Indivisible p q = ap not (same_either_way p q)

  words_by : (side : Side) (q : Slots) → slice_index q.words 0 ≡ product → q.held ≡ (begun s r v side).held
      → holds (compared how) (tested_word s q (left_word side)) (fetched s q 0 (right_word v side)) ≡ holds (compared how) product dividend
  words_by OnLeft q e e' = ap (λ p. holds (compared how) p dividend) e
  words_by OnRight q e e' = (λ i. holds (compared how) ((e' ∙ same_slot r 0 dividend (omega (arith, all))) i) (e i)) ∙ swapped how dividend product

  holds_so : dividend < 65536 → divisor < 65536 → divisor ≢ 0 → (t : Bool) → asked ≡ t → holds (compared how) (tested_word s last (left_word side))
      (fetched s last 0 (right_word v side)) ≡ t
  holds_so small small' some t e = words_by side last product_is (held_stands code n 0 v d s start start_length (omega arith)) ∙ by how ∙ e
    where
      same : nat_eq product dividend ≡ nat_eq (magnitude dividend % magnitude divisor) 0
      same = multiple_is dividend divisor small small' some

      by : (how : Divisibility) → holds (compared how) product dividend ≡ turned (leaves_on how) (nat_eq (magnitude dividend % magnitude divisor) 0)
      by Divisible = same
      by Indivisible = ap not same

contrary_turned : (how : Divisibility) (t : Bool) → turned (leaves_on (contrary how)) t ≡ not (turned (leaves_on how) t)
contrary_turned Divisible t = refl
contrary_turned Indivisible true = refl
contrary_turned Indivisible false = refl

-- what is dead after it is dead after its test
test_free : (how : Divisibility) (v : ℕ) (d : Operand) (side : Side) (to : Option ℕ) (u : Live) → omits_only_dead (Divides how v d side to) u ≡ true
    → test_words_dead (left_word side) (right_word v side) u ≡ true
test_free how v d OnLeft to u free = free
test_free how v d OnRight to u free = refl

-- ---- the law
module _ (around : Surroundings) (fits : Fits around.f 16) (code : SlotCode) (same_numbers : numbers code ≡ around.ly.numbers) (limit : ℕ)
    (rs : Serves around limit) (n : ℕ) (how : Divisibility) (v : ℕ) (d : Operand) (side : Side) (to : Option ℕ) (is : List Instr) (s : State)
    (r : Slots) (w : View) (h : Ready around n (Divides how v d side to) (spread_divides how v d side to is) is s r w) where
  open around use {ly, f}

  abbrev js : List Instr
  js = spread_divides how v d side to is

  abbrev x : ℕ
  x = slice_index s.vars v

  abbrev y : ℕ
  y = fetched s r 1 d

  abbrev left : Source
  left = source_of 0 (Variable v)

  abbrev right : Source
  right = source_of 1 d

  -- slots at the end
  abbrev last_slots : Slots
  last_slots = last code n how v d side s r h.read.all_words

  abbrev question : Bool
  question = asked code n how v d side s r h.read.all_words

  left_fits : OperandFits (Variable v)
  left_fits = (ranges how v d side (onward to) h.ranged).0

  right_fits : OperandFits d
  right_fits = (ranges how v d side (onward to) h.ranged).1

  left_holds : (m : ℕ → ℕ) → Kept around (live js) s r m → SourceHolds m left x
  left_holds m c = operand_held ly s (live js) r m 0 (Variable v) c.state c.read left_fits tt

  right_holds : (m : ℕ → ℕ) → Kept around (live js) s r m → SourceHolds m right y
  right_holds m c = operand_held ly s (live js) r m 1 d c.state c.read right_fits (divisor_read how v d side (onward to ++ is))

  first : Kept around (live js) s r w.mem
  first = kept h

  x_small : x < 65536
  x_small = (left_holds w.mem first).small

  y_small : y < 65536
  y_small = (right_holds w.mem first).small

  -- at an address, with all that is live
  abbrev At : ℕ → View → Type 0
  At = Led fits limit rs h left right x y (operand_apart 0 (Variable v) 0 (omega arith) (omega arith) left_fits)
      (operand_apart 0 (Variable v) LEFT (omega arith) (omega arith) left_fits) (operand_apart 1 d RIGHT (omega arith) (omega arith) right_fits) left_holds right_holds

  leads : (how' : Divisibility) (next : ℕ) → Lies f.code w.regs.pc (divided_code n w.regs.pc h.first how' left right next) → DividedReaches n w.regs.pc h.first left right next → y ≢ 0
      → Comes f w (At (cond (turned (leaves_on how') (nat_eq (magnitude x % magnitude y) 0)) (w.regs.pc + pieces_size (divided_code n w.regs.pc h.first how' left right next)) next)) [] (17 + limit)
  leads how' next = divided_leads fits limit rs h left right x y (operand_apart 0 (Variable v) 0 (omega arith) (omega arith) left_fits)
      (operand_apart 0 (Variable v) LEFT (omega arith) (omega arith) left_fits) (operand_apart 1 d RIGHT (omega arith) (omega arith) right_fits)
      left_holds right_holds how' h.first next

  abbrev pub Ends : Step SlotState → Type 0
  Ends z = Comes f w (Target around z) (sent_in z) (34 + (limit + limit))

  -- a divisor 0 is a fault
  faults : (how' : Divisibility) (next : ℕ) → Lies f.code w.regs.pc (divided_code n w.regs.pc h.first how' left right next) → y ≡ 0
      → (ks back : List Instr) → Ends (steps code (dividing how v d side ks) (line code n (dividing how v d side back) s r))
  faults how' next lies zero ks back =
      subst Ends (sym (divides_fails code n how v d side s r h.read.all_words ks back zero))
      (looser f w _ _ (fault_text 2 n) (13 + limit) (34 + (limit + limit)) (omega arith) (λ u z. z)
      (divided_fails fits limit rs h left right x y (operand_apart 0 (Variable v) 0 (omega arith) (omega arith) left_fits)
      (operand_apart 0 (Variable v) LEFT (omega arith) (omega arith) left_fits) (operand_apart 1 d RIGHT (omega arith) (omega arith) right_fits)
      left_holds right_holds how' h.first next lies zero))

  -- the words of its test
  abbrev first_word : Tested
  first_word = left_word side

  abbrev second_word : Operand
  second_word = right_word v side

  free : test_words_dead first_word second_word (live is) ≡ true
  free = test_free how v d side to (live is) h.free

  -- the slots after it, of which nothing is live
  abbrev end_slots : Slots
  end_slots = tested s last_slots first_word second_word

  none_read : (m : ℕ → ℕ) → HoldsLive nothing_live end_slots m
  none_read m = left_read s last_slots first_word second_word m (last_length code n how v d side s r h.read.all_words)

  end_read : (m : ℕ → ℕ) → HoldsLive (live is) end_slots m
  end_read m = subst (λ u. HoldsLive u end_slots m) (nothing_read (live is) h.free) (none_read m)

  abbrev Left : SlotState
  Left = record { state = record s { place = next_after (numbers code) n }; rest = Whole; slots = end_slots }

  leaves : (u : View) → At (next_at ly n) u → Matches around Left u
  leaves u a = left_at around code same_numbers n s end_slots u.mem w.text w.answers a.kept.state (none_read u.mem) a.kept.homed h.text h.answers h.short u a.here

  abbrev rel : Rel
  rel = compared how

  held_is : y ≢ 0 → holds rel (tested_word s last_slots first_word) (fetched s last_slots 0 second_word) ≡ question
  held_is some = holds_so code n how v d side s r h.read.all_words x_small y_small some question refl

  -- ---- that stays in the line
  abbrev here_code : List Piece
  here_code = divided_code n w.regs.pc h.first how left right (next_at ly n)

  stays : Lies f.code w.regs.pc here_code → DividedReaches n w.regs.pc h.first left right (next_at ly n) → GroupsLie ly f.code n (w.regs.pc + pieces_size here_code) (select is)
      → Ends (steps code (expand (Divides how v d side None)) (line code n (spread_divides how v d side None is) s r))
  stays lies reach rest = ⊎_elim
      (λ zero. faults how (next_at ly n) lies zero [] is)
      (λ some. subst Ends (sym (divides_next code n how v d side s r h.read.all_words [] is some
      ∙ test_goes code n rel first_word second_word is s last_slots (last_length code n how v d side s r h.read.all_words) free question (held_is some)))
      (by question (leads how (next_at ly n) lies reach some)))
      (cases_eq y 0)
    where
      by : (t : Bool) → Comes f w (At (cond t (w.regs.pc + pieces_size here_code) (next_at ly n))) [] (17 + limit) → Ends (branched code n rel first_word second_word is s last_slots t)
      by true c =
          looser f w _ _ [] (17 + limit) (34 + (limit + limit)) (omega arith)
          (λ u a. stood around code n h.small is s end_slots (w.regs.pc + pieces_size here_code) u.mem w.text w.answers rest a.kept.state
          (end_read u.mem) a.kept.homed h.text h.answers h.short u a.here) c
      by false c = looser f w _ _ [] (17 + limit) (34 + (limit + limit)) (omega arith) leaves c

  -- ---- that goes to a line
  module _ (t : ℕ) (lies : Lies f.code w.regs.pc (divided_go ly n w.regs.pc h.first how left right (has_line ly.numbers t) t))
      (reach : DividedGoes ly n w.regs.pc h.first left right (has_line ly.numbers t) t)
      (rest : GroupsLie ly f.code n (w.regs.pc + pieces_size (divided_go ly n w.regs.pc h.first how left right (has_line ly.numbers t) t))
      (select is)) (stands : nat_eq (length (select is)) 0 ≡ true) where
    -- it is the line's last group, and so the next line follows it
    is_last : w.regs.pc + pieces_size (divided_go ly n w.regs.pc h.first how left right (has_line ly.numbers t) t) ≡ next_at ly n
    is_last = subst (GroupsLie ly f.code n (w.regs.pc + pieces_size (divided_go ly n w.regs.pc h.first how left right (has_line ly.numbers t) t)))
        (nil_from_length (select is) (eqb-true _ _ stands)) rest

    abbrev ks : List Instr
    ks = JumpTo t ∷ []

    abbrev back : List Instr
    back = JumpTo t ∷ is

    abbrev outcome : (held found : Bool) → Step SlotState
    outcome held found = gone_by code n rel first_word second_word t is s last_slots (last_length code n how v d side s r h.read.all_words) free held found

    goes : y ≢ 0 → (found : Bool) → has_line ly.numbers t ≡ found → steps code (dividing how v d side ks) (line code n (dividing how v d side back) s r) ≡ outcome question found
    goes some found e =
        divides_next code n how v d side s r h.read.all_words ks back some
        ∙ go_goes code n rel first_word second_word t is s last_slots (last_length code n how v d side s r h.read.all_words) free question found
        (held_is some) (ap (λ ns. has_line ns t) same_numbers ∙ e)

    by_line : (found : Bool) → has_line ly.numbers t ≡ found → Ends (steps code (dividing how v d side ks) (line code n (dividing how v d side back) s r))
    by_line true e = ⊎_elim
        (λ zero. faults (contrary how) (ly.start t) lies' zero ks back)
        (λ some. subst Ends (sym (goes some true e)) (by question
        (subst (λ p. Comes f w (At (cond (not question) p (ly.start t))) [] (17 + limit)) ends_there
        (subst (λ b. Comes f w (At (cond b (w.regs.pc + pieces_size there) (ly.start t))) [] (17 + limit)) (contrary_turned how (nat_eq (magnitude x % magnitude y) 0))
        (leads (contrary how) (ly.start t) lies' (subst (λ b. DividedGoes ly n w.regs.pc h.first left right b t) e reach) some)))))
        (cases_eq y 0)
      where
        there : List Piece
        there = divided_code n w.regs.pc h.first (contrary how) left right (ly.start t)

        lies' : Lies f.code w.regs.pc (divided_code n w.regs.pc h.first (contrary how) left right (ly.start t))
        lies' = subst (λ b. Lies f.code w.regs.pc (divided_go ly n w.regs.pc h.first how left right b t)) e lies

        ends_there : w.regs.pc + pieces_size (divided_code n w.regs.pc h.first (contrary how) left right (ly.start t)) ≡ next_at ly n
        ends_there = subst (λ b. w.regs.pc + pieces_size (divided_go ly n w.regs.pc h.first how left right b t) ≡ next_at ly n) e is_last

        by : (q : Bool) → Comes f w (At (cond (not q) (next_at ly n) (ly.start t))) [] (17 + limit) → Ends (outcome q true)
        by true c =
            looser f w _ _ [] (17 + limit) (34 + (limit + limit)) (omega arith)
            (λ u a. arrived around (record s { place = control.At t }) end_slots (ly.start t) u.mem w.text w.answers refl
            (state_placed ly (control.At t) s u.mem a.kept.state) (none_read u.mem).all_words a.kept.homed h.text h.answers h.short u a.here) c
        by false c = looser f w _ _ [] (17 + limit) (34 + (limit + limit)) (omega arith) leaves c
    by_line false e = ⊎_elim
        (λ zero. faults how (next_at ly n) parts.0 zero ks back)
        (λ some. subst Ends (sym (goes some false e)) (by question (leads how (next_at ly n) parts.0 (subst (λ b. DividedGoes ly n w.regs.pc h.first left right b t) e reach) some)))
        (cases_eq y 0)
      where
        parts : Lies f.code w.regs.pc here_code × Lies f.code (w.regs.pc + pieces_size here_code) (Code (faulting n 1) ∷ [])
        parts = lies_parts f.code w.regs.pc here_code (Code (faulting n 1) ∷ []) (subst (λ b. Lies f.code w.regs.pc (divided_go ly n w.regs.pc h.first how left right b t)) e lies)

        by : (q : Bool) → Comes f w (At (cond q (w.regs.pc + pieces_size here_code) (next_at ly n))) [] (17 + limit) → Ends (outcome q false)
        by true c =
            looser f w _ _ (fault_text 1 n) (17 + limit + (4 + limit)) (34 + (limit + limit)) (omega arith) (λ u g. g)
            (chained f w _ _ [] (fault_text 1 n) (17 + limit) (4 + limit) c (λ u a. faults_at around fits limit rs n 1 h.small (omega arith)
            (w.regs.pc + pieces_size here_code) u.mem w.text w.answers parts.1 a.kept.homed u a.here))
        by false c = looser f w _ _ [] (17 + limit) (34 + (limit + limit)) (omega arith) leaves c

  by_to : (o : Option ℕ) → to ≡ o → Ends (steps code (expand (Divides how v d side o)) (line code n (spread_divides how v d side o is) s r))
  by_to None e =
      stays (subst (λ o. Lies f.code w.regs.pc (divides_code ly n w.regs.pc h.first how left right o)) e h.lies)
      (subst (λ o. DividesReach ly n w.regs.pc h.first left right o) e h.reach)
      (subst (λ o. GroupsLie ly f.code n (w.regs.pc + pieces_size (divides_code ly n w.regs.pc h.first how left right o)) (select is)) e h.rest)
  by_to (Some t) e =
      by_line t (subst (λ o. Lies f.code w.regs.pc (divides_code ly n w.regs.pc h.first how left right o)) e h.lies)
      (subst (λ o. DividesReach ly n w.regs.pc h.first left right o) e h.reach)
      (subst (λ o. GroupsLie ly f.code n (w.regs.pc + pieces_size (divides_code ly n w.regs.pc h.first how left right o)) (select is)) e h.rest)
      (subst (λ o. may_stand (Divides how v d side o) (select is) ≡ true) e h.stands) (has_line ly.numbers t) refl

  -- the law of a test by a divisor
  pub divides_law : Ends (steps code (expand (Divides how v d side to)) (line code n js s r))
  divides_law = by_to to refl
