-- The law of each group, and from them that of the step.
use Rattle.std.proofs.Common.{◌≡◌, ℕ, ◌+◌, ◌≤◌, Bool, true, false, ◌||◌, List, [], ◌∷◌, ◌++◌, refl, sym, ap, ◌∙◌, subst}
use Rattle.std.proofs.Common.{arith, length, length-set, get_or-set_same, Option, Some, None}
use Rattle.std.specs.Prelude.{nat_eq, nat_le}
use Rattle.tb_words.specs.declared.Rel.{Rel}
use Rattle.tb_basic_syntax.specs.declared.expressions.Operator.{Operator}
use Rattle.tb_basic_syntax.specs.declared.expressions.Operator.TheVariants as op
use Rattle.tb_basic_syntax.specs.Source.{numbers}
use Rattle.tb_words.specs.Words.{word}
use Rattle.tb_basic_meaning.specs.Control.{State, fault_text}
use Rattle.tb_basic_meaning.specs.Meaning as meaning
use Rattle.tb_basic_meaning.specs.Steps.{Step, Goes, Stops, Faulted}
use Rattle.tb_basic_meaning.specs.Values.{apply}
use Rattle.tb_lower.specs.Slots.{Instr, JumpTo, Rest, Whole, Left, Slots, SlotState, SlotCode, act, settled}
use Rattle.tb_machine_reaching.proofs.Comes.{chained, looser}
use Rattle.tb_machine_reaching.specs.View.{Comes, Fits, View}
use Rattle.tb_proof_simulation.proofs.Joins.{LawAt, sent_in}
use Rattle.tb_proof_simulation.proofs.Mirrors as mirrors
use Rattle.tb_proof_simulation.proofs.Resolved.{Lies, pieces_size}
use Rattle.tb_compiler_selection.specs.Groups.{Operand, Home, Destination, Tested, Conversion, Negated, Drawn, Usage, Group, Calculate, Stepped, Convert, Move, Use}
use Rattle.tb_compiler_selection.specs.Groups.{Test, TestGo, Single, slot_of, expand, expand_all, Divisibility, Divides, Constant, Variable, Side, Remains}
use Rattle.tb_compiler_selection.specs.Select.{alone, select}
use Rattle.tb_compiler_selection.specs.GroupSteps.{steps, first_group, group_step}
use Rattle.tb_compiler_selection.proofs.Bracketed.{brackets}
use Rattle.tb_compiler_templates.specs.Scaled.{scaling, shifts}
use Rattle.tb_compiler_templates.specs.InPlace.{change_of}
use Rattle.tb_compiler_templates.specs.Sources.{destination_at, source_of}
use Rattle.tb_compiler_program.proofs.Factors.{scaling_is, shifting_is}
use Rattle.tb_proof_correctness.proofs.Alone.SingleLaws.{act_law}
use Rattle.tb_proof_correctness.proofs.Arithmetic.Changes.{change_is}
use Rattle.tb_proof_correctness.proofs.CodeBytes.GroupCode.{GroupsLaid, GroupsLie, calc_code}
use Rattle.tb_proof_correctness.proofs.Relation.Falling.{IsSome, Between, falls_on}
use Rattle.tb_proof_correctness.proofs.Relation.GroupInvariants.{one_step}
use Rattle.tb_proof_correctness.proofs.Slots.Singles.{FirstIsAlone, first_so}
use Rattle.tb_proof_correctness.proofs.Relation.Matching.{Matches, Target}
use Rattle.tb_proof_correctness.proofs.Slots.SlotSide.{both_length, calculate_fails, calculate_goes, calculated, line, fetched, spread, spread_is, with_fetched}
use Rattle.tb_proof_correctness.proofs.Slots.TestSide.{spread_test, spread_test_is}
use Rattle.tb_proof_correctness.proofs.Relation.Ready.{Ready, ready, opened, parted}
use Rattle.tb_proof_correctness.proofs.Arithmetic.Calculations.{add_law, subtract_law}
use Rattle.tb_proof_correctness.proofs.Arithmetic.InPlace.{computed_law}
use Rattle.tb_proof_correctness.proofs.Alone.Conversions.{ConvertLeads, draw_fails_law, draw_law, negate_law}
use Rattle.tb_proof_correctness.proofs.Slots.OneWord.{spread_convert, spread_convert_is, spread_use, spread_use_is}
use Rattle.tb_proof_correctness.proofs.Alone.UseLaws.{use_law}
use Rattle.tb_proof_correctness.proofs.Arithmetic.Constants.{product_law, quotient_law}
use Rattle.tb_proof_correctness.proofs.Alone.Moves.{spread_move, spread_move_is, move_law}
use Rattle.tb_proof_correctness.proofs.Testing.DividesLaws.{divides_law, spread_divides, spread_divides_is}
use Rattle.tb_proof_correctness.proofs.Arithmetic.Rests.{remains_law, spread_remains, spread_remains_is}
use Rattle.tb_proof_correctness.proofs.Arithmetic.Stepping.{behind_first, first_fails, first_of, first_ready, home, matches_again, none_read, second_fails, second_of}
use Rattle.tb_proof_correctness.proofs.Arithmetic.Stepping.{second_selected, spread_stepped, spread_stepped_is, stepped_goes, stepped_length, stepped_slots}
use Rattle.tb_proof_correctness.proofs.Relation.Operands.{CalcFits, calc_fits}
use Rattle.tb_proof_correctness.proofs.Alone.Polled.{lines_law}
use Rattle.tb_proof_correctness.proofs.Testing.TestLaws.{go_law, test_law}
use Rattle.tb_compiler_selection.specs.Laws.{AreClosed}
use Rattle.tb_proof_correctness.proofs.Relation.Surroundings.{Serves, Surroundings}
use Rattle.tb_proof_correctness.proofs.Arithmetic.Calculated.{Leads}

module _ (around : Surroundings) (fits : Fits around.f 16) (limit : ℕ) (code : SlotCode) (same_numbers : numbers code ≡ around.ly.numbers) where
  open around use {ly, f}

  -- what the slot steps of a group do, from where it begins
  abbrev pub StepsLaw : Group → List Instr → List Instr → ℕ → Type 0
  StepsLaw g js is k = (n : ℕ) (s : State) (r : Slots) (w : View) → Ready around n g js is s r w
      → Comes f w (Target around (steps code (expand g) (line code n js s r))) (sent_in (steps code (expand g) (line code n js s r))) k

  -- the law of a group, wherever it is the first one of a line's rest
  abbrev pub GroupLaw : Group → Type 0
  GroupLaw g = (n : ℕ) (gs : List Group) (js : List Instr) (s : State) (r : Slots) (w : View) → select js ≡ g ∷ gs
      → Matches around (line code n js s r) w → Comes f w (Target around (first_group code (line code n js s r)))
      (sent_in (first_group code (line code n js s r))) (34 + (limit + limit))

  -- where its slot steps lead from a list of which it is the first group
  at_first : (g : Group) (k : ℕ) → ((is : List Instr) → StepsLaw g (expand g ++ is) is k) → (n : ℕ) (gs : List Group) (js : List Instr) (s : State)
      (r : Slots) (w : View) → select js ≡ g ∷ gs → Matches around (line code n js s r) w
      → Comes f w (Target around (steps code (expand g) (line code n js s r))) (sent_in (steps code (expand g) (line code n js s r))) k
  at_first g k law n gs js s r w e h =
      subst (λ l. Ready around n g l (expand_all gs) s r w → Comes f w (Target around (steps code (expand g) (line code n l s r)))
      (sent_in (steps code (expand g) (line code n l s r))) k) (sym (parted g gs js e)) (law (expand_all gs) n s r w) (ready around code n g gs js s r w e h)

  by_steps : (g : Group) (k : ℕ) → k ≤ 34 + (limit + limit) → ((is : List Instr) → StepsLaw g (expand g ++ is) is k) → GroupLaw g
  by_steps g k le law n gs js s r w e h =
      opened around code n g gs js s r w (34 + (limit + limit)) e
      (looser f w _ _ (sent_in (steps code (expand g) (line code n js s r))) k (34 + (limit + limit)) le (λ u x. x) (at_first g k law n gs js s r w e h))

  -- what the slot steps of a group do, from a list with its parts bracketed in another way
  bracketed : (g : Group) (k : ℕ) (spread : List Instr → List Instr) → ((is : List Instr) → expand g ++ is ≡ spread is)
      → ((is : List Instr) → StepsLaw g (spread is) is k) → (is : List Instr) → StepsLaw g (expand g ++ is) is k
  bracketed g k spread same law is = subst (λ l. StepsLaw g l is k) (sym (same is)) (law is)

  calculate_steps : (op : Operator) (a b : Operand) (d : Destination) (k : ℕ)
      → ((is : List Instr) → StepsLaw (Calculate op a b d) (spread op a b d is) is k) → (is : List Instr) → StepsLaw (Calculate op a b d) (expand (Calculate op a b d) ++ is) is k
  calculate_steps op a b d k = bracketed (Calculate op a b d) k (spread op a b d) (spread_is op a b d)

  -- a calculation: as a change in place if it is one, and else as its operator does it
  computes : (op : Operator) (a b : Operand) (d : Destination) (k : ℕ) → 16 ≤ k
      → ((is : List Instr) (n : ℕ) (s : State) (r : Slots) (w : View) (h : Ready around n (Calculate op a b d) (spread op a b d is) is s r w)
      → Lies f.code w.regs.pc (calc_code n op (source_of (slot_of d) a) (source_of (slot_of d + 1) b) (destination_at d))
      → GroupsLie ly f.code n (w.regs.pc + pieces_size (calc_code n op (source_of (slot_of d) a) (source_of (slot_of d + 1) b) (destination_at d))) (select is) → Leads h code k)
      → (is : List Instr) → StepsLaw (Calculate op a b d) (expand (Calculate op a b d) ++ is) is k
  computes op a b d k le other = calculate_steps op a b d k (λ is n s r w h.
      let x = source_of (slot_of d) a in let y = source_of (slot_of d + 1) b in let to = destination_at d in
      computed_law fits code h k le h.first (change_of op x y to) (change_is op x y to) h.lies h.rest h.reach (other is n s r w h))

  convert_steps : (what : Conversion) (a : Operand) (d : Destination) (k : ℕ)
      → ((is : List Instr) → StepsLaw (Convert what a d) (spread_convert what a d is) is k) → (is : List Instr) → StepsLaw (Convert what a d) (expand (Convert what a d) ++ is) is k
  convert_steps what a d k = bracketed (Convert what a d) k (spread_convert what a d) (spread_convert_is what a d)

  -- ---- the laws that are proved
  pub negates : (a : Operand) (d : Destination) → GroupLaw (Convert Negated a d)
  negates a d = by_steps (Convert Negated a d) 7 (omega arith) (convert_steps Negated a d 7 (λ is n s r w h. negate_law around fits code n a d is s r w h))

  -- the law of a test
  pub tests : (rel : Rel) (a : Tested) (b : Operand) → GroupLaw (Test rel a b)
  tests rel a b = by_steps (Test rel a b) 9 (omega arith) (bracketed (Test rel a b) 9 (spread_test rel a b) (spread_test_is rel a b [])
      (λ is n s r w h. test_law around fits code same_numbers n a b s r w rel is h))

  -- the law of a move
  pub moves : (a : Operand) (home : Home) → GroupLaw (Move a home)
  moves a home = by_steps (Move a home) 4 (omega arith) (bracketed (Move a home) 4 (spread_move a home) (spread_move_is a home) (λ is n s r w h. move_law around fits code n a home is s r w h))

  module _ (rs : Serves around limit) (wide : 300 ≤ limit) where
    wide_enough : 200 ≤ limit
    wide_enough = omega (arith, wide)

    -- the slot steps of a calculation
    calculates : (o : Operator) (a b : Operand) (d : Destination) (is : List Instr) → StepsLaw (Calculate o a b d) (expand (Calculate o a b d) ++ is) is (17 + limit)
    calculates op.Add a b d = computes op.Add a b d (17 + limit) (omega arith) (λ is n s r w h lies rest. looser f w _ _ _ 7 (17 + limit) (omega arith) (λ u z. z) (add_law h fits code lies rest))
    calculates op.Subtract a b d = computes op.Subtract a b d (17 + limit) (omega arith) (λ is n s r w h lies rest. looser f w _ _ _ 7 (17 + limit)
        (omega arith) (λ u z. z) (subtract_law h fits code lies rest))
    calculates op.Multiply a b d = computes op.Multiply a b d (17 + limit) (omega arith) (λ is n s r w h lies rest.
        looser f w _ _ _ (13 + limit) (17 + limit) (omega arith) (λ u z. z)
        (product_law fits limit rs wide_enough code h (scaling (source_of (slot_of d) a) (source_of (slot_of d + 1) b)) (scaling_is (source_of (slot_of d) a) (source_of (slot_of d + 1) b)) lies rest))
    calculates op.Divide a b d = computes op.Divide a b d (17 + limit) (omega arith) (λ is n s r w h.
        quotient_law fits limit rs wide_enough code h (shifts (source_of (slot_of d + 1) b)) (shifting_is (source_of (slot_of d + 1) b)))

    -- the law of a calculation
    pub calculating : (o : Operator) (a b : Operand) (d : Destination) → GroupLaw (Calculate o a b d)
    calculating o a b d = by_steps (Calculate o a b d) (17 + limit) (omega arith) (calculates o a b d)

    -- a calculation that goes on is two of them
    module _ (o : Operator) (a b : Operand) (by : Operator) (v x : ℕ) (is : List Instr) (n : ℕ) (s : State) (r : Slots) (w : View)
        (h : Ready around n (Stepped o a b by v x) (spread_stepped o a b by v x is) is s r w) where
      abbrev Steps : Step SlotState → Type 0
      Steps z = Comes f w (Target around z) (sent_in z) (34 + (limit + limit))

      abbrev whole : SlotState
      whole = line code n (spread_stepped o a b by v x is) s r

      fits_first : CalcFits a b (home x)
      fits_first = calc_fits o a b (home x) (first_ready around n o a b by v x is s r w h).ranged

      first_leads : (z : Step SlotState) → steps code (expand (first_of o a b x)) (line code n (spread o a b (home x) (behind_first by v x is)) s r)
          ≡ z → Comes f w (Target around z) (sent_in z) (17 + limit)
      first_leads z e =
          subst (λ z. Comes f w (Target around z) (sent_in z) (17 + limit)) e
          (subst (λ l. Ready around n (first_of o a b x) l (behind_first by v x is) s r w
          → Comes f w (Target around (steps code (expand (first_of o a b x)) (line code n l s r)))
          (sent_in (steps code (expand (first_of o a b x)) (line code n l s r))) (17 + limit)) (spread_is o a b (home x) (behind_first by v x is))
          (calculates o a b (home x) (behind_first by v x is) n s r w) (first_ready around n o a b by v x is s r w h))

      by_none : apply o (fetched s r 0 a) (fetched s r 1 b) ≡ None → Steps (steps code (expand (Stepped o a b by v x)) whole)
      by_none e =
          subst Steps (sym (first_fails code n o a b by v x is s r h.read.all_words e))
          (looser f w _ _ (fault_text 2 n) (17 + limit) (34 + (limit + limit)) (omega arith) (λ u z. z)
          (first_leads (Stops Faulted (fault_text 2 n)) (calculate_fails code n o a b (home x) (behind_first by v x is) s r h.read.all_words (omega arith) e)))

      module _ (p : ℕ) (e : apply o (fetched s r 0 a) (fetched s r 1 b) ≡ Some p) where
        abbrev stored : State
        stored = meaning.stored x p s

        abbrev slots : Slots
        slots = calculated s r a b (home x) p

        -- after the first one
        stands : Comes f w (Matches around (line code n (behind_first by v x is) stored slots)) [] (17 + limit)
        stands = first_leads (Goes (line code n (behind_first by v x is) stored slots) []) (calculate_goes code n o a b (home x) (behind_first by v x is) s r h.read.all_words (omega arith) p e)

        second_leads : (u : View) → Matches around (line code n (behind_first by v x is) stored slots) u → (z : Step SlotState)
            → steps code (expand (second_of by v x)) (line code n (behind_first by v x is) stored slots) ≡ z → Comes f u (Target around z) (sent_in z) (17 + limit)
        second_leads u m z q =
            subst (λ z. Comes f u (Target around z) (sent_in z) (17 + limit)) q
            (at_first (second_of by v x) (17 + limit) (calculates by (Variable x) (Constant v) (home x)) n (select is) (behind_first by v x is) stored slots u (second_selected by v x is h.free) m)

        word_stands : fetched stored slots 0 (Variable x) ≡ p
        word_stands = get_or-set_same s.vars x p 0 (omega (arith, fits_first.dest, h.state.all_vars))

        on : (q : Option ℕ) → apply by p (word v) ≡ q → apply by (fetched stored slots 0 (Variable x)) (fetched stored slots 1 (Constant v)) ≡ q
        on q g = ap (λ p. apply by p (word v)) word_stands ∙ g

        all_slots : length slots.words ≡ 16
        all_slots = length-set (with_fetched s (with_fetched s r 0 a) 1 b).words 0 p ∙ both_length code n o a b (home x) (behind_first by v x is) s r h.read.all_words (omega arith)

        by_second : (q : Option ℕ) → apply by p (word v) ≡ q → Steps (steps code (expand (Stepped o a b by v x)) whole)
        by_second None g =
            subst Steps (sym (second_fails code n o a b by v x is s r h.read.all_words p e g))
            (looser f w _ _ (fault_text 2 n) (17 + limit + (17 + limit)) (34 + (limit + limit)) (omega arith) (λ u z. z)
            (chained f w _ _ [] (fault_text 2 n) (17 + limit) (17 + limit) stands (λ u m.
            second_leads u m (Stops Faulted (fault_text 2 n)) (calculate_fails code n by (Variable x) (Constant v) (home x) is stored slots all_slots (omega arith) (on None g)))))
        by_second (Some k) g =
            subst Steps (sym (stepped_goes code n o a b by v x is s r h.read.all_words p e k g))
            (looser f w _ _ [] (17 + limit + (17 + limit)) (34 + (limit + limit)) (omega arith)
            (λ u z. matches_again around code n x p k is s _ (stepped_slots code n o a b by v x is s r h.read.all_words p k) u
            (none_read around n o a b by v x is s r w h) refl_held (stepped_length code n o a b by v x is s r h.read.all_words p k) z)
            (chained f w _ _ [] [] (17 + limit) (17 + limit) stands (λ u m.
            second_leads u m (Goes (line code n is (meaning.stored x k stored) (calculated stored slots (Variable x) (Constant v) (home x) k)) [])
            (calculate_goes code n by (Variable x) (Constant v) (home x) is stored slots all_slots (omega arith) k (on (Some k) g)))))
          where
            refl_held : (calculated stored slots (Variable x) (Constant v) (home x) k).held ≡ (stepped_slots code n o a b by v x is s r h.read.all_words p k).held
            refl_held = refl

      stepped_law : Steps (steps code (expand (Stepped o a b by v x)) whole)
      stepped_law = by_first (apply o (fetched s r 0 a) (fetched s r 1 b)) refl
        where
          by_first : (q : Option ℕ) → apply o (fetched s r 0 a) (fetched s r 1 b) ≡ q → Steps (steps code (expand (Stepped o a b by v x)) whole)
          by_first None e = by_none e
          by_first (Some p) e = by_second p e (apply by p (word v)) refl

    -- the law of a calculation that goes on by a constant
    pub goes_further : (o : Operator) (a b : Operand) (by : Operator) (v x : ℕ) → GroupLaw (Stepped o a b by v x)
    goes_further o a b by v x = by_steps (Stepped o a b by v x) (34 + (limit + limit)) (omega arith)
        (bracketed (Stepped o a b by v x) (34 + (limit + limit)) (spread_stepped o a b by v x) (spread_stepped_is o a b by v x) (stepped_law o a b by v x))

    -- the law of a test that goes straight to a line
    pub tests_going : (rel : Rel) (a : Tested) (b : Operand) (to : ℕ) → GroupLaw (TestGo rel a b to)
    tests_going rel a b to = by_steps (TestGo rel a b to) (15 + limit) (omega arith) (bracketed (TestGo rel a b to) (15 + limit)
        (λ is. spread_test rel a b (JumpTo to ∷ is)) (spread_test_is rel a b (JumpTo to ∷ []))
        (λ is n s r w h. go_law around fits code same_numbers n a b s r w limit rs rel to is h))

    -- the law of a test by a divisor
    pub asks_divisor : (how : Divisibility) (x : ℕ) (d : Operand) (side : Side) (to : Option ℕ) → GroupLaw (Divides how x d side to)
    asks_divisor how x d side to = by_steps (Divides how x d side to) (34 + (limit + limit)) (omega arith) (bracketed (Divides how x d side to)
        (34 + (limit + limit)) (spread_divides how x d side to) (spread_divides_is how x d side to)
        (λ is n s r w h. divides_law around fits code same_numbers limit rs n how x d side to is s r w h))

    -- the law of a remainder
    pub leaves_over : (x : ℕ) (d : Operand) (to : Destination) → GroupLaw (Remains x d to)
    leaves_over x d to = by_steps (Remains x d to) (34 + (limit + limit)) (omega arith) (bracketed (Remains x d to) (34 + (limit + limit))
        (spread_remains x d to) (spread_remains_is x d to) (λ is n s r w h. remains_law around fits code limit rs wide_enough n x d to is s r w h))

    module _ (closed : AreClosed code) (laid : GroupsLaid ly f.code f.whole code) where
      -- the law of RND
      pub draws : (a : Operand) (d : Destination) → GroupLaw (Convert Drawn a d)
      draws a d = by_steps (Convert Drawn a d) (17 + limit) (omega arith) (convert_steps Drawn a d (17 + limit)
          (λ is n s r w h. by is n s r w h (nat_eq (fetched s r (slot_of d) a) 0 || nat_le 32768 (fetched s r (slot_of d) a)) refl))
        where
          by : (is : List Instr) (n : ℕ) (s : State) (r : Slots) (w : View) → Ready around n (Convert Drawn a d) (spread_convert Drawn a d is) is s r
              w → (t : Bool) → (nat_eq (fetched s r (slot_of d) a) 0 || nat_le 32768 (fetched s r (slot_of d) a)) ≡ t
              → ConvertLeads around fits code n a d is s r w Drawn (17 + limit)
          by is n s r w h true e = draw_fails_law around fits code n a d is s r w limit rs laid.seed_small h e
          by is n s r w h false e = draw_law around fits code n a d is s r w limit rs laid.seed_small h e

      -- the law of a use
      pub uses : (how : Usage) (a : Operand) → GroupLaw (Use how a)
      uses how a = by_steps (Use how a) (34 + (limit + limit)) (omega arith) (bracketed (Use how a) (34 + (limit + limit)) (spread_use how a)
          (spread_use_is how a) (λ is n s r w h. use_law around fits limit rs wide code laid n a is s r w how h))

      -- an instruction that is a group of its own
      alones : (i : Instr) → GroupLaw (Single i)
      alones i n gs js s r w e h =
          let single : alone i ≡ Single i = subst FirstIsAlone e (first_so js) in
          by_steps (Single i) (34 + (limit + limit)) (omega arith) (λ is n s r w h.
          subst (λ x. Comes f w (Target around x) (sent_in x) (34 + (limit + limit))) (sym (one_step code i (line code n (i ∷ is) s r)))
          (subst (λ ns. Comes f w (Target around (settled n is r (act ns n i s r))) (sent_in (settled n is r (act ns n i s r))) (34 + (limit + limit))) (sym same_numbers)
          (act_law around fits limit rs code laid n is s r w i single h))) n gs js s r w e h

      by_group : (g : Group) → GroupLaw g
      by_group (Calculate o a b d) = calculating o a b d
      by_group (Stepped o a b by v x) = goes_further o a b by v x
      by_group (Convert Negated a d) = negates a d
      by_group (Convert Drawn a d) = draws a d
      by_group (Move a home) = moves a home
      by_group (Use how a) = uses how a
      by_group (Test rel a b) = tests rel a b
      by_group (TestGo rel a b to) = tests_going rel a b to
      by_group (Divides how x d side to) = asks_divisor how x d side to
      by_group (Remains x d to) = leaves_over x d to
      by_group (Single i) = alones i

      by_rest : (n : ℕ) (js : List Instr) (s : State) (r : Slots) (w : View) (gs : List Group) → select js ≡ gs → IsSome (Left n js)
          → Matches around (line code n js s r) w → Comes f w (Target around (first_group code (line code n js s r)))
          (sent_in (first_group code (line code n js s r))) (34 + (limit + limit))
      by_rest n js s r w [] e some h = absurd (subst (λ l. IsSome (Left n l)) (sym (brackets js) ∙ ap expand_all e) some)
      by_rest n js s r w (g ∷ gs) e some h = by_group g n gs js s r w e h

      -- the law of each step
      pub step_law : (c : SlotState) (w : View) → Between around c w → LawAt c.rest f w (mirrors.Leads f (Between around) (group_step code c)) (sent_in (group_step code c)) (34 + (limit + limit))
      step_law c w h = falls_on around code same_numbers c.rest (first_group code c) w (34 + (limit + limit)) (by c.rest c.state c.slots h.0 h.1)
        where
          by : (q : Rest) (s : State) (r : Slots) → Matches around (record { state = s; rest = q; slots = r }) w → IsSome q
              → LawAt q f w (Target around (first_group code (record { state = s; rest = q; slots = r })))
              (sent_in (first_group code (record { state = s; rest = q; slots = r }))) (34 + (limit + limit))
          by (Left n js) s r h some = by_rest n js s r w (select js) refl some h
          by Whole s r h some = lines_law around fits limit rs code closed laid s r w h
