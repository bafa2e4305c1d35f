-- A calculation that goes on by a constant is two calculations: its result goes to a variable, which is then calculated with
-- that constant.
use Rattle.std.proofs.Common.{◌≡◌, ℕ, ◌+◌, ◌≤◌, ◌<◌, true, if◌then◌else◌, List, [], ◌∷◌, ◌++◌, length, max, refl, sym, ap}
use Rattle.std.proofs.Common.{◌∙◌, subst, arith, Option, Some, None, length-set, append_assoc}
use Rattle.std.specs.Prelude.{◌&&◌, nat_eq, nat_le, slice_index}
use Rattle.std.proofs.lemmas.Bool.{leb-true}
use Rattle.std.proofs.lemmas.List.{set-set}
use Rattle.tb_words.specs.Words.{word}
use Rattle.tb_basic_syntax.specs.declared.expressions.Operator.{Operator}
use Rattle.tb_basic_syntax.specs.declared.expressions.Operator.TheVariants as op
use Rattle.tb_basic_meaning.specs.Control.{State, fault_text}
use Rattle.tb_basic_meaning.specs.Meaning as meaning
use Rattle.tb_lower.specs.Ranges.{AreInRange}
use Rattle.tb_lower.specs.Slots.{Instr, Put, Load, Store, Compute, Slots, SlotCode, into, with_word}
use Rattle.tb_basic_meaning.specs.Steps.{Goes, Stops, Faulted}
use Rattle.tb_basic_meaning.specs.Values.{apply, given}
use Rattle.tb_machine_reaching.specs.View.{View}
use Rattle.tb_compiled_kept.specs.Addresses.{HELD}
use Rattle.tb_runtime16.specs.Routines.{WordAt}
use Rattle.tb_proof_simulation.proofs.Resolved.{Lies, Piece, pieces_size}
use Rattle.tb_compiler_selection.specs.Groups.{Operand, Constant, Variable, InSlot, Home, IntoVariable, Destination, IntoSlot, IntoHome, Group, Calculate, Stepped, Move, fetch, expand, expand_all}
use Rattle.tb_compiler_selection.specs.GroupSteps.{steps}
use Rattle.tb_compiler_selection.specs.Liveness.{live, written}
use Rattle.tb_compiler_selection.specs.Select.{allowed, attach, divides_left, divides_right, equality_in, against_in, difference_in, factor_in, fused, held_in, instead}
use Rattle.tb_compiler_selection.specs.Select.{loaded_in, merged, multiple_in, multiple_of, or_else, provided, quotient_in, remains, select, tried}
use Rattle.tb_compiler_selection.proofs.Bracketed.{brackets}
use Rattle.tb_proof_correctness.proofs.CodeBytes.GroupCode.{GroupsLie, group_code}
use Rattle.tb_proof_correctness.proofs.Testing.LeftOver.{pieces_append}
use Rattle.tb_proof_correctness.proofs.Relation.Matching.{HoldsLive, Matches}
use Rattle.tb_proof_correctness.proofs.Relation.Operands.{OperandFits, range_fetch}
use Rattle.tb_proof_correctness.proofs.Relation.Ready.{Ready}
use Rattle.tb_proof_correctness.proofs.Slots.SlotSide.{acts, both_length, fetched, fetched_other, fetches, left_is, line, right_is, same_slot, spread, stops, with_fetched}
use Rattle.tb_proof_correctness.proofs.Testing.TestLaws.{lies_parts}
use Rattle.tb_proof_correctness.proofs.Relation.Surroundings.{Surroundings}

-- ---- the two calculations
abbrev pub home : ℕ → Destination
home x = IntoHome (IntoVariable x)

abbrev pub first_of : Operator → Operand → Operand → ℕ → Group
first_of op a b x = Calculate op a b (home x)

abbrev pub second_of : Operator → ℕ → ℕ → Group
second_of by w x = Calculate by (Variable x) (Constant w) (home x)

-- the list after the first one
abbrev pub behind_first : Operator → ℕ → ℕ → List Instr → List Instr
behind_first by w x is = Load 0 x ∷ Put 1 w ∷ Compute by 0 ∷ Store x ∷ is

-- the list with its parts bracketed to the right
abbrev pub tail : Operator → Operator → ℕ → ℕ → List Instr → List Instr
tail op by w x is = Compute op 0 ∷ Put 1 w ∷ Compute by 0 ∷ Store x ∷ is

abbrev pub spread_stepped : Operator → Operand → Operand → Operator → ℕ → ℕ → List Instr → List Instr
spread_stepped op a b by w x is = fetch 0 a ++ (fetch 1 b ++ tail op by w x is)

-- the group's instructions, bracketed to the right
pub spread_stepped_is : (op : Operator) (a b : Operand) (by : Operator) (w x : ℕ) (is : List Instr) → expand (Stepped op a b by w x) ++ is ≡ spread_stepped op a b by w x is
spread_stepped_is op a b by w x is =
    append_assoc (fetch 0 a) (fetch 1 b ++ tail op by w x []) is ∙ ap (λ l. fetch 0 a ++ l) (append_assoc (fetch 1 b) (tail op by w x []) is)

-- ---- the groups after the first one
-- a group that is not among those that become one with others
pub fused_by : (g : Group) (gs : List Group) → quotient_in g ≡ None → held_in g ≡ None → loaded_in g ≡ None → fused g gs ≡ g ∷ gs
fused_by g [] q h l = refl
fused_by g (b ∷ []) q h l = refl
fused_by g (b ∷ c ∷ []) q h l = ap (λ o. instead (allowed (divides_left (multiple_of o (factor_in b)) (equality_in c)) []) [] (g ∷ b ∷ c ∷ [])) q
fused_by g (b ∷ c ∷ e ∷ gs) q h l = λ i.
    instead (allowed (divides_left (multiple_of (q i) (factor_in b)) (equality_in c)) (e ∷ gs)) (e ∷ gs)
    (instead (allowed (or_else (divides_right (h i) (multiple_in b c) (against_in e)) (remains (l i) (multiple_in b c) (difference_in e))) gs) gs (g ∷ b ∷ c ∷ e ∷ gs))

no_quotient : (op : Operator) (a b : Operand) (h : Home) → quotient_in (Calculate op a b (IntoHome h)) ≡ None
no_quotient op.Add a b h = refl
no_quotient op.Subtract a b h = refl
no_quotient op.Multiply a b h = refl
no_quotient op.Divide (Constant w) b h = refl
no_quotient op.Divide (Variable x) b h = refl
no_quotient op.Divide InSlot b h = refl

stored_alone : (x : ℕ) (gs : List Group) → attach (Store x) gs ≡ Move InSlot (IntoVariable x) ∷ gs
stored_alone x [] = refl
stored_alone x (g ∷ gs) = fused_by (Move InSlot (IntoVariable x)) (g ∷ gs) refl refl refl

-- an instruction that becomes one group with a calculation after it
attached : (i : Instr) (g : Group) (by : Operator) (a b : Operand) (x : ℕ) (gs : List Group) → merged i g ≡ Some (Calculate by a b (home x))
    → nat_le (live (expand_all gs)).slots 0 ≡ true → attach i (g ∷ gs) ≡ Calculate by a b (home x) ∷ gs
attached i g by a b x gs e free =
    ap (λ o. tried (allowed o gs) i g gs) e
    ∙ ap (λ t. tried (provided (t && true) (Calculate by a b (home x))) i g gs) free
    ∙ fused_by (Calculate by a b (home x)) gs (no_quotient by a b (IntoVariable x)) refl refl

-- the groups after the first one begin with the second one
pub second_selected : (by : Operator) (w x : ℕ) (is : List Instr) → nat_le (live is).slots 0 ≡ true → select (behind_first by w x is) ≡ second_of by w x ∷ select is
second_selected by w x is free =
    let gs = select is in
    let none : nat_le (live (expand_all gs)).slots 0 ≡ true = ap (λ l. nat_le (live l).slots 0) (brackets is) ∙ free in
    ap (λ l. attach (Load 0 x) (attach (Put 1 w) (attach (Compute by 0) l))) (stored_alone x gs)
    ∙ ap (λ l. attach (Load 0 x) (attach (Put 1 w) l)) (attached (Compute by 0) (Move InSlot (IntoVariable x)) by InSlot InSlot x gs refl none)
    ∙ ap (attach (Load 0 x)) (attached (Put 1 w) (Calculate by InSlot InSlot (home x)) by InSlot (Constant w) x gs refl none)
    ∙ attached (Load 0 x) (Calculate by InSlot (Constant w) (home x)) by (Variable x) (Constant w) x gs refl none

-- ---- what is read
-- how many slots are read, by how many are read after it
abbrev before_second : ℕ → ℕ
before_second l = if nat_eq (if nat_eq (max 2 (max 1 l)) 2 then 1 else max 2 (max 1 l)) 1 then 0 else (if nat_eq (max 2 (max 1 l)) 2 then 1 else max 2 (max 1 l))

abbrev before_tail : ℕ → ℕ
before_tail l = max 2 (if nat_eq (max 2 (max 1 l)) 2 then 1 else max 2 (max 1 l))

-- nothing is read before the second one if nothing is read after it
pub second_live : (by : Operator) (w x : ℕ) (is : List Instr) → (live is).slots ≡ 0 → (live (behind_first by w x is)).slots ≡ 0
second_live by w x is e = ap before_second e

tails_live : (op by : Operator) (w x : ℕ) (is : List Instr) → (live is).slots ≡ 0 → live (tail op by w x is) ≡ live (Compute op 0 ∷ Store x ∷ behind_first by w x is)
tails_live op by w x is e = ap (λ k. record { slots = k; held = (live is).held }) (ap before_tail e ∙ sym (ap (λ l. max 2 (max 1 (before_second l))) e))

fetch_live : (k : ℕ) (a : Operand) (xs ys : List Instr) → live xs ≡ live ys → live (fetch k a ++ xs) ≡ live (fetch k a ++ ys)
fetch_live k (Constant w) xs ys e = ap (written k) e
fetch_live k (Variable x) xs ys e = ap (written k) e
fetch_live k InSlot xs ys e = e

-- the group reads what its first calculation reads
pub same_live : (op : Operator) (a b : Operand) (by : Operator) (w x : ℕ) (is : List Instr) → (live is).slots ≡ 0
    → live (spread_stepped op a b by w x is) ≡ live (spread op a b (home x) (behind_first by w x is))
same_live op a b by w x is e = fetch_live 0 a _ _ (fetch_live 1 b _ _ (tails_live op by w x is e))

-- ---- what is in range
first_ranged : (op : Operator) (a b : Operand) (by : Operator) (w x : ℕ) → AreInRange 256 (expand (Stepped op a b by w x))
    → AreInRange 256 (expand (first_of op a b x)) × AreInRange 256 (expand (second_of by w x))
first_ranged op a b by w x h =
    let l = range_fetch 0 a (fetch 1 b ++ tail op by w x []) h in
    let r = range_fetch 1 b (tail op by w x []) l.1 in
    let k = r.1 in (
      ranged 0 a _ l.0 (omega arith) (range_words 0 a _ h) (ranged 1 b _ r.0 (omega arith) (range_words 1 b _ l.1) (k.0, (k.1.1.1.0, tt))),
      ((omega arith, k.1.1.1.0), (k.1.0, (k.1.1.0, (k.1.1.1.0, tt)))),
    )
  where
    -- a word that is fetched is one
    WordFits : Operand → Type 0
    WordFits (Constant w) = w < 65536
    WordFits (Variable x) = Unit {0}
    WordFits InSlot = Unit {0}

    range_words : (k : ℕ) (a : Operand) (js : List Instr) → AreInRange 256 (fetch k a ++ js) → WordFits a
    range_words k (Constant w) js h = h.0.1
    range_words k (Variable x) js h = tt
    range_words k InSlot js h = tt

    ranged : (k : ℕ) (a : Operand) (js : List Instr) → OperandFits a → k < 16 → WordFits a → AreInRange 256 js → AreInRange 256 (fetch k a ++ js)
    ranged k (Constant w) js f lt g h = ((lt, g), h)
    ranged k (Variable x) js f lt g h = ((lt, f), h)
    ranged k InSlot js f lt g h = h

-- ---- what its slot instructions do
module _ (code : SlotCode) (n : ℕ) (op : Operator) (a b : Operand) (by : Operator) (w x : ℕ) (is : List Instr) (s : State) (r : Slots) (all : length r.words ≡ 16) where
  abbrev js : List Instr
  js = spread_stepped op a b by w x is

  abbrev left : ℕ
  left = fetched s r 0 a

  abbrev right : ℕ
  right = fetched s r 1 b

  -- the slots after both operands, the result, the constant and the whole
  abbrev both : Slots
  both = with_fetched s (with_fetched s r 0 a) 1 b

  abbrev resulted : ℕ → Slots
  resulted v = with_word both 0 v

  abbrev with_constant : ℕ → Slots
  with_constant v = with_word (resulted v) 1 (word w)

  abbrev pub stepped_slots : ℕ → ℕ → Slots
  stepped_slots v u = with_word (with_constant v) 0 u

  length_both : length both.words ≡ 16
  length_both = both_length code n op a b (IntoSlot 0) is s r all (omega arith)

  constant_length : (v : ℕ) → length (with_constant v).words ≡ 16
  constant_length v = length-set (resulted v).words 1 (word w) ∙ length-set both.words 0 v ∙ length_both

  -- there are still 16 slots
  pub stepped_length : (v u : ℕ) → length (stepped_slots v u).words ≡ 16
  stepped_length v u = length-set (with_constant v).words 0 u ∙ constant_length v

  so_far : (ks back : List Instr) → steps code (fetch 0 a ++ (fetch 1 b ++ ks)) (line code n (fetch 0 a ++ (fetch 1 b ++ back)) s r) ≡ steps code ks (line code n back s both)
  so_far ks back = fetches code n 0 a (fetch 1 b ++ ks) (fetch 1 b ++ back) s r ∙ fetches code n 1 b ks back s (with_fetched s r 0 a)

  got : (o : Option ℕ) → apply op left right ≡ o → apply op (slice_index both.words 0) (slice_index both.words 1) ≡ o
  got o e =
      ap (λ x. apply op x (slice_index both.words 1)) (left_is code n op a b (IntoSlot 0) is s r all (omega arith))
      ∙ ap (λ y. apply op left y) (right_is code n op a b (IntoSlot 0) is s r all (omega arith)) ∙ e

  -- a fault of the first calculation is the group's
  pub first_fails : apply op left right ≡ None → steps code (expand (Stepped op a b by w x)) (line code n js s r) ≡ Stops Faulted (fault_text 2 n)
  first_fails e = so_far (tail op by w x []) (tail op by w x is) ∙ stops code n (Compute op 0) (Put 1 w ∷ Compute by 0 ∷ Store x ∷ [])
      (Put 1 w ∷ Compute by 0 ∷ Store x ∷ is) s both (fault_text 2 n) (ap (λ o. into n 0 (given o s.seed) s both) (got None e))

  module _ (v : ℕ) (e : apply op left right ≡ Some v) where
    first_done : steps code (expand (Stepped op a b by w x)) (line code n js s r) ≡ steps code (Compute by 0 ∷ Store x ∷ []) (line code n (Compute by 0 ∷ Store x ∷ is) s (with_constant v))
    first_done =
        so_far (tail op by w x []) (tail op by w x is)
        ∙ acts code n (Compute op 0) (Put 1 w ∷ Compute by 0 ∷ Store x ∷ []) (Put 1 w ∷ Compute by 0 ∷ Store x ∷ is) s s both (resulted v)
        (ap (λ o. into n 0 (given o s.seed) s both) (got (Some v) e))
        ∙ fetches code n 1 (Constant w) (Compute by 0 ∷ Store x ∷ []) (Compute by 0 ∷ Store x ∷ is) s (resulted v)

    result_stands : slice_index (with_constant v).words 0 ≡ v
    result_stands = fetched_other s (resulted v) 1 0 (Constant w) (λ q. omega (arith, q)) ∙ same_slot both 0 v (omega (arith, length_both))

    constant_stands : slice_index (with_constant v).words 1 ≡ word w
    constant_stands = same_slot (resulted v) 1 (word w) (omega (arith, length_both, length-set both.words 0 v))

    got_on : (o : Option ℕ) → apply by v (word w) ≡ o → apply by (slice_index (with_constant v).words 0) (slice_index (with_constant v).words 1) ≡ o
    got_on o q = (λ i. apply by (result_stands i) (constant_stands i)) ∙ q

    -- a fault of the second calculation is the group's
    pub second_fails : apply by v (word w) ≡ None → steps code (expand (Stepped op a b by w x)) (line code n js s r) ≡ Stops Faulted (fault_text 2 n)
    second_fails q = first_done ∙ stops code n (Compute by 0) (Store x ∷ []) (Store x ∷ is) s (with_constant v) (fault_text 2 n)
        (ap (λ o. into n 0 (given o s.seed) s (with_constant v)) (got_on None q))

    -- what both calculations do is what the group does
    pub stepped_goes : (u : ℕ) → apply by v (word w) ≡ Some u → steps code (expand (Stepped op a b by w x)) (line code n js s r)
        ≡ Goes (line code n is (meaning.stored x u s) (stepped_slots v u)) []
    stepped_goes u q =
        first_done
        ∙ acts code n (Compute by 0) (Store x ∷ []) (Store x ∷ is) s s (with_constant v) (stepped_slots v u) (ap (λ o. into n 0 (given o s.seed) s (with_constant v)) (got_on (Some u) q))
        ∙ acts code n (Store x) [] is s (meaning.stored x (slice_index (stepped_slots v u).words 0) s) (stepped_slots v u) (stepped_slots v u) refl
        ∙ ap (λ k. Goes (line code n is (meaning.stored x k s) (stepped_slots v u)) []) (same_slot (with_constant v) 0 u (omega (arith, constant_length v)))

-- a variable is stored in again
pub stored_again : (x u v : ℕ) (s : State) → meaning.stored x v (meaning.stored x u s) ≡ meaning.stored x v s
stored_again x u v s = ap (λ l. record s { vars = l }) (set-set s.vars x u v)

-- ---- where it begins
module _ (around : Surroundings) (n : ℕ) (op : Operator) (a b : Operand) (by : Operator) (w x : ℕ) (is : List Instr) (s : State) (r : Slots)
    (u : View) (h : Ready around n (Stepped op a b by w x) (spread_stepped op a b by w x is) is s r u) where
  open around use {ly, f}

  abbrev first_group : Group
  first_group = first_of op a b x

  abbrev second_group : Group
  second_group = second_of by w x

  abbrev first_code : List Piece
  first_code = group_code ly n u.regs.pc h.first h.second first_group

  abbrev next : ℕ
  next = u.regs.pc + pieces_size first_code

  abbrev second_code : List Piece
  second_code = group_code ly n next h.second h.second second_group

  -- nothing is read after it
  pub none_read : (live is).slots ≡ 0
  none_read = let q = leb-true (live is).slots 0 h.free in omega (arith, q)

  parts : Lies f.code u.regs.pc first_code × Lies f.code next second_code
  parts = lies_parts f.code u.regs.pc first_code second_code h.lies

  lies_behind : GroupsLie ly f.code n (next + pieces_size second_code) (select is)
  lies_behind = subst (λ p. GroupsLie ly f.code n p (select is)) (let e = pieces_append first_code second_code in
      let q : u.regs.pc + pieces_size (first_code ++ second_code) ≡ next + pieces_size second_code = omega (arith, e) in q) h.rest

  ranged : AreInRange 256 (expand first_group) × AreInRange 256 (expand second_group)
  ranged = first_ranged op a b by w x h.ranged

  behind_ranged : (gs : List Group) (at : ℕ) → GroupsLie ly f.code n at gs → AreInRange 256 (expand_all gs)
  behind_ranged [] at g = tt
  behind_ranged (g ∷ gs) at k = k.2

  -- the first of the two begins there, with the second one after it
  pub first_ready : Ready around n first_group (spread op a b (home x) (behind_first by w x is)) (behind_first by w x is) s r u
  first_ready =
      let same = same_live op a b by w x is none_read in
      let no_slots = second_live by w x is none_read in
      record {
        small = h.small;
        first = h.first;
        second = h.second;
        lies = parts.0;
        ranged = ranged.0;
        rest =
            subst (GroupsLie ly f.code n next) (sym (second_selected by w x is h.free)) (
              h.second,
              h.second,
              (let k = ranged.1 in (k.0, (k.1.0, (k.1.1.0, (k.1.1.1.0, behind_ranged (select is) _ lies_behind))))),
              parts.1,
              lies_behind,
              h.reach.1,
              (let q = h.above in omega (arith, q)),
            );
        reach = h.reach.0;
        above = h.above;
        free = ap (λ k. nat_le k 0) no_slots;
        stands = refl;
        stack = h.stack;
        binary = h.binary;
        text = h.text;
        answers = h.answers;
        state = h.state;
        read = subst (λ l. HoldsLive l r u.mem) same h.read;
        some_read = subst (λ l. l.slots ≤ 16) same h.some_read;
        few_behind = omega (arith, no_slots);
        homed = h.homed;
        short = h.short;
      }

-- after both, the view matches what the one group leads to
pub matches_again : (around : Surroundings) (code : SlotCode) (n x u v : ℕ) (is : List Instr) (s : State) (p q : Slots) (w : View) → (live is).slots
    ≡ 0 → p.held ≡ q.held → length q.words ≡ 16 → Matches around (line code n is (meaning.stored x v (meaning.stored x u s)) p) w
    → Matches around (line code n is (meaning.stored x v s) q) w
matches_again around code n x u v is s p q w none same all h =
    subst (λ t. Matches around (line code n is t q) w) (stored_again x u v s)
    (record {
      pc = h.pc;
      stack = h.stack;
      binary = h.binary;
      text = h.text;
      answers = h.answers;
      state = h.state;
      read = record { words = λ k lt. absurd (omega (arith, lt, none)); held = λ e. subst (λ k. WordAt w.mem HELD k) same (h.read.held e); all_words = all };
      homed = h.homed;
      short = h.short;
    })
