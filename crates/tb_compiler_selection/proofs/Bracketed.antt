-- The groups of a list are the list, and none omits a word that is read after it.
use Rattle.std.proofs.Common.{◌≡◌, ℕ, ◌+◌, Bool, true, false, if◌then◌else◌, List, [], ◌∷◌, ◌++◌, refl, sym, ap, ◌∙◌, append_assoc, Option, Some, None}
use Rattle.std.specs.Prelude.{◌&&◌, nat_eq, option_map}
use Rattle.std.proofs.lemmas.Bool.{and_parts, eqb-true}
use Rattle.tb_words.specs.declared.Rel.{Rel}
use Rattle.tb_basic_syntax.specs.declared.expressions.Operator.{Operator}
use Rattle.tb_lower.specs.Slots.{Instr, Put, Load, Store, Negate, Compute, Random, Hold, LeaveUnless, JumpTo}
use Rattle.tb_compiler_selection.specs.Groups.{Operand, Constant, Variable, InSlot, Home, IntoVariable, Destination, IntoHome, Tested, HeldBefore, HeldNow, Conversion}
use Rattle.tb_compiler_selection.specs.Groups.{Negated, Drawn, Usage, Group, Calculate, Stepped, Convert, Move, Use, Test, TestGo, Single, fetch, keep, slot_of, kept}
use Rattle.tb_compiler_selection.specs.Groups.{held, convert, use_of, expand, expand_all}
use Rattle.tb_compiler_selection.specs.Liveness.{live}
use Rattle.tb_compiler_selection.specs.Select.{alone, provided, calculate_with, operands_with, convert_with, move_with, use_with, words_with, with_word, goes_on}
use Rattle.tb_compiler_selection.specs.Select.{calculated, converted, held_before, gone, merged, omits_only_dead, may_stand, three_as_one, four_as_one, allowed, instead}
use Rattle.tb_compiler_selection.specs.Select.{fused, tried, attach, select}
use Rattle.tb_compiler_selection.proofs.SeveralAsOne.{IsFour, IsThree, four_is, three_is}

-- an instruction alone is itself
pub alone_is : (i : Instr) → expand (alone i) ≡ i ∷ []
alone_is (Put k w) = refl
alone_is _ = refl

-- a group that is these instructions, if it is one
abbrev pub IsThis : List Instr → Option Group → Type 0
IsThis is None = Unit {0}
IsThis is (Some g) = expand g ≡ is

-- the instruction that fetches a word, if one does
pub data Fetches (k : ℕ) (i : Instr) : Operand → Type 0 where
  puts : (w : ℕ) → i ≡ Put k w → Fetches k i (Constant w)
  loads : (x : ℕ) → i ≡ Load k x → Fetches k i (Variable x)

fetched : (k : ℕ) (i : Instr) (l : Operand) → Fetches k i l → fetch k l ≡ i ∷ []
fetched k i _ (puts w e) = ap (λ i. i ∷ []) (sym e)
fetched k i _ (loads x e) = ap (λ i. i ∷ []) (sym e)

at_slot : (t : Bool) (g : Group) (is : List Instr) → (t ≡ true → expand g ≡ is) → IsThis is (provided t g)
at_slot true g is h = h refl
at_slot false g is h = tt

-- a calculation that goes on by a constant is these instructions, if it has operands
at_operands : (is : List Instr) (op by : Operator) (w x : ℕ) (t : Bool) (a b : Operand) → (t ≡ true → expand (Stepped op a b by w x) ≡ is)
    → IsThis is (option_map (λ (words : Operand × Operand). Stepped op words.0 words.1 by w x) (if t then Some (a, b) else None))
at_operands is op by w x true a b h = h refl
at_operands is op by w x false a b h = tt

-- the words of a test that is these instructions followed by some more, if there are such words
abbrev TestThis : Rel → (behind is : List Instr) → Option (Tested × Operand) → Type 0
TestThis rel behind is None = Unit {0}
TestThis rel behind is (Some words) = held words.0 ++ (fetch 0 words.1 ++ LeaveUnless rel ∷ behind) ≡ is

at_zero : (rel : Rel) (behind is : List Instr) (t : Bool) (a : Tested) (b : Operand) → (t ≡ true → held a ++ (fetch 0 b ++ LeaveUnless rel ∷ behind)
    ≡ is) → TestThis rel behind is (if t then Some (a, b) else None)
at_zero rel behind is true a b h = h refl
at_zero rel behind is false a b h = tt

test_this : (rel : Rel) (is : List Instr) (o : Option (Tested × Operand)) → TestThis rel [] is o → IsThis is (option_map (λ words. Test rel words.0 words.1) o)
test_this rel is None h = tt
test_this rel is (Some words) h = h

go_this : (rel : Rel) (to : ℕ) (is : List Instr) (o : Option (Tested × Operand)) → TestThis rel (JumpTo to ∷ []) is o → IsThis is (option_map (λ words. TestGo rel words.0 words.1 to) o)
go_this rel to is None h = tt
go_this rel to is (Some words) h = h

module _ (k : ℕ) (i : Instr) (l : Operand) (h : Fetches k i l) where
  -- what fetches the word is one instruction, before further instructions as well
  more : (j : ℕ) (is : List Instr) → nat_eq k j ≡ true → fetch j l ++ is ≡ i ∷ is
  more j is e = ap (λ j. fetch j l ++ is) (sym (eqb-true k j e)) ∙ ap (λ f. f ++ is) (fetched k i l h)

  calculate_is : (op : Operator) (a b : Operand) (d : Destination) → IsThis (i ∷ expand (Calculate op a b d)) (calculate_with k l op a b d)
  calculate_is op InSlot InSlot d = at_slot (nat_eq k (slot_of d + 1)) (Calculate op InSlot l d) _ (more (slot_of d + 1) (Compute op (slot_of d) ∷ kept d))
  calculate_is op InSlot (Constant v) d = at_slot (nat_eq k (slot_of d)) (Calculate op l (Constant v) d) _ (more (slot_of d) (Put (slot_of d + 1) v ∷ Compute op (slot_of d) ∷ kept d))
  calculate_is op InSlot (Variable y) d = at_slot (nat_eq k (slot_of d)) (Calculate op l (Variable y) d) _ (more (slot_of d) (Load (slot_of d + 1) y ∷ Compute op (slot_of d) ∷ kept d))
  calculate_is op _ b d = tt

  stepped_is : (op : Operator) (a b : Operand) (by : Operator) (w x : ℕ) → IsThis (i ∷ expand (Stepped op a b by w x))
      (option_map (λ words. Stepped op words.0 words.1 by w x) (operands_with k l a b))
  stepped_is op InSlot InSlot by w x = at_operands _ op by w x (nat_eq k 1) InSlot l (more 1 (Compute op 0 ∷ Put 1 w ∷ Compute by 0 ∷ Store x ∷ []))
  stepped_is op InSlot (Constant v) by w x = at_operands _ op by w x (nat_eq k 0) l (Constant v) (more 0 (Put 1 v ∷ Compute op 0 ∷ Put 1 w ∷ Compute by 0 ∷ Store x ∷ []))
  stepped_is op InSlot (Variable y) by w x = at_operands _ op by w x (nat_eq k 0) l (Variable y) (more 0 (Load 1 y ∷ Compute op 0 ∷ Put 1 w ∷ Compute by 0 ∷ Store x ∷ []))
  stepped_is op _ b by w x = tt

  move_is : (a : Operand) (home : Home) → IsThis (i ∷ expand (Move a home)) (move_with k l a home)
  move_is InSlot home = at_slot (nat_eq k 0) (Move l home) _ (more 0 (keep home ∷ []))
  move_is _ home = tt

  convert_is : (what : Conversion) (a : Operand) (d : Destination) → IsThis (i ∷ expand (Convert what a d)) (convert_with k l what a d)
  convert_is what InSlot d = at_slot (nat_eq k (slot_of d)) (Convert what l d) _ (more (slot_of d) (convert what (slot_of d) ∷ kept d))
  convert_is what _ d = tt

  use_is : (how : Usage) (a : Operand) → IsThis (i ∷ expand (Use how a)) (use_with k l how a)
  use_is how InSlot = at_slot (nat_eq k 0) (Use how l) _ (more 0 (use_of how ∷ []))
  use_is how _ = tt

  words_are : (rel : Rel) (behind : List Instr) (a : Tested) (b : Operand) → TestThis rel behind (i ∷ (held a ++ (fetch 0 b ++ LeaveUnless rel ∷ behind))) (words_with k l a b)
  words_are rel behind HeldBefore InSlot = at_zero rel behind _ (nat_eq k 0) HeldBefore l (more 0 (LeaveUnless rel ∷ behind))
  words_are rel behind (HeldNow InSlot) b = at_zero rel behind _ (nat_eq k 0) (HeldNow l) b (λ e. append_assoc (fetch 0 l) (Hold ∷ [])
      (fetch 0 b ++ LeaveUnless rel ∷ behind) ∙ more 0 (Hold ∷ (fetch 0 b ++ LeaveUnless rel ∷ behind)) e)
  words_are rel behind _ b = tt

  with_is : (g : Group) → IsThis (i ∷ expand g) (with_word k l g)
  with_is (Calculate op a b d) = calculate_is op a b d
  with_is (Stepped op a b by w x) = stepped_is op a b by w x
  with_is (Move a home) = move_is a home
  with_is (Convert what a d) = convert_is what a d
  with_is (Use how a) = use_is how a
  with_is (Test rel a b) = test_this rel _ (words_with k l a b) (words_are rel [] a b)
  with_is (TestGo rel a b to) = go_this rel to _ (words_with k l a b) (words_are rel (JumpTo to ∷ []) a b)
  with_is _ = tt

calculated_is : (op : Operator) (k : ℕ) (g : Group) → IsThis (Compute op k ∷ expand g) (calculated op k g)
calculated_is op k (Move InSlot home) = at_slot (nat_eq k 0) (Calculate op InSlot InSlot (IntoHome home)) _ (λ e. ap (λ j. Compute op j ∷ keep home ∷ []) (sym (eqb-true k 0 e)))
calculated_is op k (Calculate by InSlot (Constant w) (IntoHome (IntoVariable x))) =
    at_slot (nat_eq k 0 && goes_on by w) (Stepped op InSlot InSlot by w x) _ (λ e. ap (λ j. Compute op j ∷ Put 1 w ∷ Compute by 0 ∷ Store x ∷ [])
    (sym (eqb-true k 0 (and_parts (nat_eq k 0) (goes_on by w) e).0)))
calculated_is op k _ = tt

converted_is : (what : Conversion) (k : ℕ) (g : Group) → IsThis (convert what k ∷ expand g) (converted what k g)
converted_is what k (Move InSlot home) = at_slot (nat_eq k 0) (Convert what InSlot (IntoHome home)) _ (λ e. ap (λ j. convert what j ∷ keep home ∷ []) (sym (eqb-true k 0 e)))
converted_is what k _ = tt

gone_is : (rel : Rel) (g : Group) → IsThis (LeaveUnless rel ∷ expand g) (gone rel g)
gone_is rel (Single (JumpTo to)) = refl
gone_is rel _ = tt

held_is : (g : Group) → IsThis (Hold ∷ expand g) (held_before g)
held_is (Test rel HeldBefore b) = refl
held_is (TestGo rel HeldBefore b to) = refl
held_is _ = tt

-- a merged group has the instruction, and then those of the group
pub merged_is : (i : Instr) (g : Group) → IsThis (i ∷ expand g) (merged i g)
merged_is (Put k w) g = with_is k (Put k w) (Constant w) (puts w refl) g
merged_is (Load k x) g = with_is k (Load k x) (Variable x) (loads x refl) g
merged_is (Compute op k) g = calculated_is op k g
merged_is Hold g = held_is g
merged_is (Negate k) g = converted_is Negated k g
merged_is (Random k) g = converted_is Drawn k g
merged_is (LeaveUnless rel) g = gone_is rel g
merged_is _ g = tt

alone_before : (i : Instr) (gs : List Group) → expand_all (alone i ∷ gs) ≡ i ∷ expand_all gs
alone_before i gs = ap (λ l. l ++ expand_all gs) (alone_is i)

-- a group, if there is one, and those after it have these instructions
abbrev Gives : Option Group → List Group → List Instr → Type 0
Gives None gs is = Unit {0}
Gives (Some m) gs is = expand m ++ expand_all gs ≡ is

of_three : (a b c : Group) (o : Option Group) (gs : List Group) → IsThree a b c o → Gives o gs (expand_all (a ∷ b ∷ c ∷ gs))
of_three a b c None gs h = tt
of_three a b c (Some m) gs h = h (expand_all gs)

of_four : (a b c e : Group) (o : Option Group) (gs : List Group) → IsFour a b c e o → Gives o gs (expand_all (a ∷ b ∷ c ∷ e ∷ gs))
of_four a b c e None gs h = tt
of_four a b c e (Some m) gs h = h (expand_all gs)

instead_is : (o : Option Group) (gs others : List Group) (is : List Instr) → Gives o gs is → expand_all others ≡ is → expand_all (instead (allowed o gs) gs others) ≡ is
instead_is None gs others is h k = k
instead_is (Some m) gs others is h k = by (omits_only_dead m (live (expand_all gs)) && may_stand m gs)
  where
    by : (t : Bool) → expand_all (instead (provided t m) gs others) ≡ is
    by true = h
    by false = k

-- groups that were fused have the instructions of the group and of those after it
fused_is : (a : Group) (gs : List Group) → expand_all (fused a gs) ≡ expand_all (a ∷ gs)
fused_is a [] = refl
fused_is a (b ∷ []) = refl
fused_is a (b ∷ c ∷ []) = instead_is (three_as_one a b c) [] (a ∷ b ∷ c ∷ []) _ (of_three a b c (three_as_one a b c) [] (three_is a b c)) refl
fused_is a (b ∷ c ∷ e ∷ gs) =
    instead_is (three_as_one a b c) (e ∷ gs) _ _ (of_three a b c (three_as_one a b c) (e ∷ gs) (three_is a b c))
    (instead_is (four_as_one a b c e) gs (a ∷ b ∷ c ∷ e ∷ gs) _ (of_four a b c e (four_as_one a b c e) gs (four_is a b c e)) refl)

alone_fused : (i : Instr) (gs : List Group) → expand_all (fused (alone i) gs) ≡ i ∷ expand_all gs
alone_fused i gs = fused_is (alone i) gs ∙ alone_before i gs

tried_is : (o : Option Group) (i : Instr) (g : Group) (gs : List Group) → IsThis (i ∷ expand g) o → expand_all (tried (allowed o gs) i g gs) ≡ i ∷ expand_all (g ∷ gs)
tried_is None i g gs h = alone_fused i (g ∷ gs)
tried_is (Some m) i g gs h = by (omits_only_dead m (live (expand_all gs)) && may_stand m gs)
  where
    by : (t : Bool) → expand_all (tried (provided t m) i g gs) ≡ i ∷ expand_all (g ∷ gs)
    by true = fused_is m gs ∙ ap (λ l. l ++ expand_all gs) h
    by false = alone_fused i (g ∷ gs)

-- groups that an instruction was attached to have that instruction, and then their own
pub attach_is : (i : Instr) (gs : List Group) → expand_all (attach i gs) ≡ i ∷ expand_all gs
attach_is i [] = alone_before i []
attach_is i (g ∷ gs) = tried_is (merged i g) i g gs (merged_is i g)

-- the instructions of the groups of a list are the list
pub brackets : (is : List Instr) → expand_all (select is) ≡ is
brackets [] = refl
brackets (i ∷ is) = attach_is i (select is) ∙ ap (λ l. i ∷ l) (brackets is)
