-- The laws of the tests: of one that stays in the line or leaves it, and of one that goes straight to a line.
use Rattle.std.proofs.Common.{not, ◌≡◌, ℕ, ◌+◌, Bool, true, false, cond, if◌then◌else◌, List, [], ◌∷◌, ◌++◌, length, refl, sym, ap, ◌∙◌, subst, arith, leb, int_lt}
use Rattle.std.specs.Prelude.{nat_eq}
use Rattle.std.proofs.lemmas.Bool.{eqb-true}
use Rattle.std.proofs.lemmas.List.{nil_from_length}
use Rattle.tb_words.specs.Words.{holds, signed}
use Rattle.tb_words.specs.declared.Rel.{Rel}
use Rattle.tb_words.specs.declared.Rel.TheVariants as rel
use Rattle.tb_basic_syntax.specs.Source.{numbers}
use Rattle.tb_basic_meaning.specs.Control as control
use Rattle.tb_basic_meaning.specs.Control.{State, fall, fault, fault_text, has_line, next_after}
use Rattle.tb_lower.specs.Ranges.{AreInRange}
use Rattle.tb_lower.specs.Slots.{Instr, JumpTo, Slots, SlotCode, SlotState, Stays, Whole, leaving, settled}
use Rattle.tb_basic_meaning.specs.Steps.{Step, Goes, Stops, Faulted}
use Rattle.tb_basic_meaning.proofs.Runs.{after_nothing}
use Rattle.tb_machine_reaching.proofs.Comes.{chained, looser}
use Rattle.tb_machine_reaching.specs.View.{Comes, Fits, Part, Setup, View}
use Rattle.tb_runtime16.specs.Routines.{Entered, Here, Moves}
use Rattle.tb_proof_simulation.proofs.Joins.{sent_in}
use Rattle.tb_proof_simulation.proofs.Mirrors.{HoldsState, Typable}
use Rattle.tb_proof_simulation.proofs.Pieces.{moves_looser}
use Rattle.tb_proof_simulation.proofs.Resolved.{Code, Lies, Piece, faulting, piece_size, pieces_size, next_at}
use Rattle.tb_compiler_selection.specs.Groups.{Operand, Tested, Test, TestGo, denied, expand}
use Rattle.tb_compiler_selection.specs.GroupSteps.{steps}
use Rattle.tb_compiler_selection.specs.Liveness.{live}
use Rattle.tb_compiler_selection.specs.Select.{select, test_words_dead}
use Rattle.tb_compiler_templates.specs.declared.sources.Source.{Source}
use Rattle.tb_compiler_templates.specs.declared.orders.Side.TheVariants.{Below, NotBelow}
use Rattle.tb_compiler_templates.specs.Sources.{source_of, tested_source}
use Rattle.tb_proof_correctness.proofs.CodeBytes.GroupCode.{EqualityReaches, GoReaches, GroupsLie, TestReaches, Way, equality_code, go_code, group_code, test_code}
use Rattle.tb_proof_correctness.proofs.Alone.Faults.{faults_at}
use Rattle.tb_proof_correctness.proofs.Relation.Frames.{state_placed}
use Rattle.tb_proof_correctness.proofs.Relation.GroupInvariants.{arrived, one_step}
use Rattle.tb_proof_correctness.proofs.Relation.Matching.{HoldsLive, Matches, Target}
use Rattle.tb_proof_correctness.proofs.Slots.SlotSide.{line, next, fetched}
use Rattle.tb_proof_correctness.proofs.Slots.TestSide.{tested, tested_word, tested_read, left_read, spread_test, test_before, so_far, decided, branched, test_goes, test_fits, left_held, right_held}
use Rattle.tb_proof_correctness.proofs.Relation.Operands.{SourceHolds, operand_apart}
use Rattle.tb_proof_correctness.proofs.Testing.SignedOrder.{turned}
use Rattle.tb_proof_correctness.proofs.Pieces.Sums.{Grounded}
use Rattle.tb_proof_correctness.proofs.Relation.Ready.{Ready, here, stood}
use Rattle.tb_proof_correctness.proofs.Testing.Whereto.{left_at, tested_apart}
use Rattle.tb_proof_correctness.proofs.Testing.Tests.{tests_equality}
use Rattle.tb_proof_correctness.proofs.Testing.Orders.{tests_order}
use Rattle.tb_proof_correctness.proofs.Relation.Surroundings.{Serves, Surroundings}

-- pieces before others
pub lies_parts : (code : Part) (at : ℕ) (ps qs : List Piece) → Lies code at (ps ++ qs) → Lies code at ps × Lies code (at + pieces_size ps) qs
lies_parts code at [] qs h = (tt, subst (λ p. Lies code p qs) (let e : at ≡ at + 0 = omega arith in e) h)
lies_parts code at (p ∷ ps) qs h =
    let k = lies_parts code (at + piece_size p) ps qs h.2 in
    ((h.0, h.1, k.0), subst (λ a. Lies code a qs) (let e : at + piece_size p + pieces_size ps ≡ at + (piece_size p + pieces_size ps) = omega arith in e) k.1)

-- ---- what the code of a test does
module _ (f : Setup) (room : ℕ) (fits : Fits f room) (at : ℕ) (bs : List ℕ) (m : ℕ → ℕ) (text answers : List ℕ) (small : leb (length bs) room ≡ true)
    (a b : Source) (x y : ℕ) (ga : Grounded a 0) (gb : Grounded b 0) (ha : SourceHolds m a x) (hb : SourceHolds m b y) (first second : Way) (next : ℕ) where
  -- on after it if the test holds, and else to another address
  abbrev pub Tests : Rel → Type 0
  Tests rel = Lies f.code at (test_code rel first second at a b next) → TestReaches rel first second at a b next → Moves f (Here at bs m text answers)
      (Here (cond (holds rel x y) (at + pieces_size (test_code rel first second at a b next)) next) bs m text answers) [] 9

  by_equality : (differ : Bool) → Lies f.code at (equality_code differ first second at a b next) → EqualityReaches differ first second at a b next
      → Moves f (Here at bs m text answers)
      (Here (cond (turned differ (nat_eq x y)) (at + pieces_size (equality_code differ first second at a b next)) next) bs m text answers) [] 9
  by_equality differ lies reach = moves_looser f _ _ _ [] 8 9 (omega arith) (λ w h. h) (tests_equality f room fits at bs m text answers small a b x y ga gb ha hb differ first second next lies reach)

  -- what the code of each test does
  pub tests : (rel : Rel) → Tests rel
  tests rel.Eq lies reach = by_equality false lies reach
  tests rel.Ne lies reach = by_equality true lies reach
  tests rel.Lt lies reach = tests_order f room fits at bs m text answers small a b x y ga gb ha hb Below first second next lies reach
  tests rel.Ge lies reach = tests_order f room fits at bs m text answers small a b x y ga gb ha hb NotBelow first second next lies reach
  tests rel.Gt lies reach = tests_order f room fits at bs m text answers small b a y x gb ga hb ha Below first second next lies reach
  tests rel.Le lies reach = tests_order f room fits at bs m text answers small b a y x gb ga hb ha NotBelow first second next lies reach

not_not : (t : Bool) → t ≡ not (not t)
not_not true = refl
not_not false = refl

-- the denied relation holds exactly if the relation does not
pub denies : (rel : Rel) (x y : ℕ) → holds (denied rel) x y ≡ not (holds rel x y)
denies rel.Eq x y = refl
denies rel.Ne x y = not_not (nat_eq x y)
denies rel.Lt x y = refl
denies rel.Ge x y = not_not (int_lt (signed x) (signed y))
denies rel.Gt x y = refl
denies rel.Le x y = not_not (int_lt (signed y) (signed x))

-- ---- what its slot instructions do
module _ (code : SlotCode) (n : ℕ) (rel : Rel) (a : Tested) (b : Operand) (to : ℕ) (is : List Instr) (s : State) (r : Slots) (all : length r.words
    ≡ 16) (free : test_words_dead a b (live (JumpTo to ∷ is)) ≡ true) where
  abbrev after : Slots
  after = tested s r a b

  -- the step: out of the line by the test, to the line, or fault 1
  abbrev pub gone_by : (held found : Bool) → Step SlotState
  gone_by false found = Goes (record { state = record s { place = next_after (numbers code) n }; rest = Whole; slots = after }) []
  gone_by true true = Goes (record { state = record s { place = control.At to }; rest = Whole; slots = after }) []
  gone_by true false = Stops Faulted (fault_text 1 n)

  jumps_by : (found : Bool) → settled n is after (leaving (if found then Goes (record s { place = control.At to }) [] else fault 1 n)) ≡ gone_by true found
  jumps_by true = refl
  jumps_by false = refl

  decides : (held found : Bool) → has_line (numbers code) to ≡ found
      → next code n (JumpTo to ∷ []) (settled n (JumpTo to ∷ is) after (if held then Goes (Stays s after) [] else leaving (fall (numbers code) n s))) ≡ gone_by held found
  decides false found e = refl
  decides true found e =
      after_nothing (steps code (JumpTo to ∷ []) (line code n (JumpTo to ∷ is) s after))
      ∙ one_step code (JumpTo to) (line code n (JumpTo to ∷ is) s after)
      ∙ ap (λ t. settled n is after (leaving (if t then Goes (record s { place = control.At to }) [] else fault 1 n))) e
      ∙ jumps_by found

  -- what a test that goes straight to a line does
  pub go_goes : (held found : Bool) → holds rel (tested_word s r a) (fetched s r 0 b) ≡ held → has_line (numbers code) to ≡ found
      → steps code (expand (TestGo rel a b to)) (line code n (spread_test rel a b (JumpTo to ∷ is)) s r) ≡ gone_by held found
  go_goes held found e q =
      so_far code n rel a b (JumpTo to ∷ is) s r (JumpTo to ∷ [])
      ∙ ap (λ t. next code n (JumpTo to ∷ []) (settled n (JumpTo to ∷ is) after (if t then Goes (Stays s after) [] else leaving
      (fall (numbers code) n s)))) (decided code n rel a b (JumpTo to ∷ is) s r all free held e)
      ∙ decides held found q

-- ---- the laws
module _ (around : Surroundings) (fits : Fits around.f 16) (code : SlotCode) (same_numbers : numbers code ≡ around.ly.numbers) (n : ℕ) (a : Tested)
    (b : Operand) (s : State) (r : Slots) (w : View) where
  open around use {ly, f, lo, hi, keys}

  abbrev own : List ℕ
  own = lo ∷ hi ∷ []

  -- the two words, and their sources
  abbrev x : ℕ
  x = tested_word s r a

  abbrev y : ℕ
  y = fetched s r 0 b

  abbrev left : Source
  left = tested_source a

  abbrev right : Source
  right = source_of 0 b

  abbrev next_line : ℕ
  next_line = next_at ly n

  abbrev At : ℕ → View → Type 0
  At p = Here p own w.mem w.text w.answers

  record Words : Type 0 where
    left_apart : Grounded left 0
    right_apart : Grounded right 0
    left_word : SourceHolds w.mem left x
    right_word : SourceHolds w.mem right y

  words : (rel : Rel) (js is : List Instr) → AreInRange 256 (test_before rel a b js) → test_words_dead a b (live is) ≡ true → HoldsState ly s w.mem
      → HoldsLive (live (spread_test rel a b is)) r w.mem → Words
  words rel js is ranged free state read =
      let fit = test_fits rel a b js ranged in
      record {
        left_apart = tested_apart a fit.left;
        right_apart = operand_apart 0 b 0 (omega arith) (omega arith) fit.right;
        left_word = left_held ly rel a b is s r w.mem state read fit.left;
        right_word = right_held ly rel a b is s r w.mem free state read fit.right;
      }

  -- the code of the test, by which words it is on
  leads : Words → (rel : Rel) (first second : Way) (next : ℕ) → Lies f.code w.regs.pc (test_code rel first second w.regs.pc left right next)
      → TestReaches rel first second w.regs.pc left right next → At w.regs.pc w
      → Comes f w (At (cond (holds rel x y) (w.regs.pc + pieces_size (test_code rel first second w.regs.pc left right next)) next)) [] 9
  leads v rel first second next lies reach here = tests f 16 fits w.regs.pc own w.mem w.text w.answers refl left right x y v.left_apart v.right_apart
      v.left_word v.right_word first second next rel lies reach w here

  -- out of the line, with nothing done
  leaves : HoldsState ly s w.mem → length r.words ≡ 16 → Entered f lo hi w.mem → w.text ≡ s.text → w.answers ≡ s.answers
      → Typable keys s.text s.answers → (u : View) → At next_line u
      → Matches around (record { state = record s { place = next_after (numbers code) n }; rest = Whole; slots = tested s r a b }) u
  leaves state all homed text answers short = left_at around code same_numbers n s (tested s r a b) w.mem w.text w.answers state (left_read s r a b w.mem all) homed text answers short

  -- ---- a test that stays in the line
  module _ (rel : Rel) (is : List Instr) (h : Ready around n (Test rel a b) (spread_test rel a b is) is s r w) where
    abbrev behind : ℕ
    behind = w.regs.pc + pieces_size (group_code ly n w.regs.pc h.first h.second (Test rel a b))

    abbrev Led : Step SlotState → Type 0
    Led z = Comes f w (Target around z) (sent_in z) 9

    by_test : (t : Bool) → holds rel x y ≡ t → Led (branched code n rel a b is s r t)
    by_test t e = by t (subst (λ t. Comes f w (At (cond t behind next_line)) [] 9) e (leads (words rel [] is h.ranged h.free h.state h.read) rel h.first h.second next_line h.lies h.reach (here h)))
      where
        by : (t : Bool) → Comes f w (At (cond t behind next_line)) [] 9 → Led (branched code n rel a b is s r t)
        by true c = looser f w _ _ [] 9 9 (omega arith) (stood around code n h.small is s (tested s r a b) behind w.mem w.text w.answers h.rest
            h.state (tested_read rel a b is s r w.mem h.free h.read) h.homed h.text h.answers h.short) c
        by false c = looser f w _ _ [] 9 9 (omega arith) (leaves h.state h.read.all_words h.homed h.text h.answers h.short) c

    -- the law of a test that stays in the line
    pub test_law : Led (steps code (expand (Test rel a b)) (line code n (spread_test rel a b is) s r))
    test_law = subst Led (sym (test_goes code n rel a b is s r h.read.all_words h.free (holds rel x y) refl)) (by_test (holds rel x y) refl)

  -- ---- a test that goes to a line
  module _ (limit : ℕ) (rs : Serves around limit) (rel : Rel) (to : ℕ) (is : List Instr) (h : Ready around n (TestGo rel a b to) (spread_test rel a b (JumpTo to ∷ is)) is s r w) where
    abbrev Gone : Step SlotState → Type 0
    Gone z = Comes f w (Target around z) (sent_in z) (15 + limit)

    abbrev outcome : (held found : Bool) → Step SlotState
    outcome held found = gone_by code n rel a b to is s r h.read.all_words h.free held found

    test_words : Words
    test_words = words rel (JumpTo to ∷ []) (JumpTo to ∷ is) h.ranged h.free h.state h.read

    starts : At w.regs.pc w
    starts = here h

    out : (found : Bool) (u : View) → At next_line u → Target around (outcome false found) u
    out found = leaves h.state h.read.all_words h.homed h.text h.answers h.short

    -- it is the line's last group, and so the next line follows it
    is_last : w.regs.pc + pieces_size (group_code ly n w.regs.pc h.first h.second (TestGo rel a b to)) ≡ next_line
    is_last = subst (GroupsLie ly f.code n (w.regs.pc + pieces_size (group_code ly n w.regs.pc h.first h.second (TestGo rel a b to)))) (nil_from_length (select is) (eqb-true _ _ h.stands)) h.rest

    module _ (found : has_line ly.numbers to ≡ true) where
      abbrev code_there : List Piece
      code_there = test_code (denied rel) h.first h.second w.regs.pc left right (ly.start to)

      ends_there : w.regs.pc + pieces_size code_there ≡ next_line
      ends_there = subst (λ d. w.regs.pc + pieces_size (go_code ly n w.regs.pc h.first h.second rel left right d to) ≡ next_line) found is_last

      goes_there : Comes f w (At (cond (not (holds rel x y)) next_line (ly.start to))) [] 9
      goes_there =
          subst (λ t. Comes f w (At (cond t next_line (ly.start to))) [] 9) (denies rel x y)
          (subst (λ p. Comes f w (At (cond (holds (denied rel) x y) p (ly.start to))) [] 9) ends_there
          (leads test_words (denied rel) h.first h.second (ly.start to)
          (subst (λ d. Lies f.code w.regs.pc (go_code ly n w.regs.pc h.first h.second rel left right d to)) found h.lies)
          (subst (λ d. GoReaches ly n w.regs.pc h.first h.second rel left right d to) found h.reach) starts))

      by_found : (t : Bool) → holds rel x y ≡ t → Gone (outcome t true)
      by_found t e = by t (subst (λ t. Comes f w (At (cond (not t) next_line (ly.start to))) [] 9) e goes_there)
        where
          by : (t : Bool) → Comes f w (At (cond (not t) next_line (ly.start to))) [] 9 → Gone (outcome t true)
          by true c = looser f w _ _ [] 9 (15 + limit) (omega arith) (arrived around (record s { place = control.At to }) (tested s r a b)
              (ly.start to) w.mem w.text w.answers refl (state_placed ly (control.At to) s w.mem h.state)
              (left_read s r a b w.mem h.read.all_words).all_words h.homed h.text h.answers h.short) c
          by false c = looser f w _ _ [] 9 (15 + limit) (omega arith) (out true) c

    module _ (lost : has_line ly.numbers to ≡ false) where
      abbrev code_lost : List Piece
      code_lost = test_code rel h.first h.second w.regs.pc left right next_line

      abbrev faulty : List Piece
      faulty = Code (faulting n 1) ∷ []

      parts : Lies f.code w.regs.pc code_lost × Lies f.code (w.regs.pc + pieces_size code_lost) faulty
      parts = lies_parts f.code w.regs.pc code_lost faulty (subst (λ d. Lies f.code w.regs.pc (go_code ly n w.regs.pc h.first h.second rel left right d to)) lost h.lies)

      by_lost : (t : Bool) → holds rel x y ≡ t → Gone (outcome t false)
      by_lost t e = by t (subst (λ t. Comes f w (At (cond t (w.regs.pc + pieces_size code_lost) next_line)) [] 9) e
          (leads test_words rel h.first h.second next_line parts.0 (subst (λ d. GoReaches ly n w.regs.pc h.first h.second rel left right d to) lost h.reach) starts))
        where
          by : (t : Bool) → Comes f w (At (cond t (w.regs.pc + pieces_size code_lost) next_line)) [] 9 → Gone (outcome t false)
          by true c =
              looser f w _ _ (fault_text 1 n) (9 + (4 + limit)) (15 + limit) (omega arith) (λ u g. g)
              (chained f w _ _ [] (fault_text 1 n) 9 (4 + limit) c (faults_at around fits limit rs n 1 h.small (omega arith)
              (w.regs.pc + pieces_size code_lost) w.mem w.text w.answers parts.1 h.homed))
          by false c = looser f w _ _ [] 9 (15 + limit) (omega arith) (out false) c

    by_line : (found : Bool) → has_line ly.numbers to ≡ found → Gone (outcome (holds rel x y) found)
    by_line true e = by_found e (holds rel x y) refl
    by_line false e = by_lost e (holds rel x y) refl

    -- the law of a test that goes straight to a line
    pub go_law : Gone (steps code (expand (TestGo rel a b to)) (line code n (spread_test rel a b (JumpTo to ∷ is)) s r))
    go_law = subst Gone (sym (go_goes code n rel a b to is s r h.read.all_words h.free (holds rel x y) (has_line ly.numbers to) refl
        (ap (λ ns. has_line ns to) same_numbers))) (by_line (has_line ly.numbers to) refl)
