-- Slot instructions as groups, each as long as it can be.
use Rattle.std.specs.Prelude.{ℕ, ◌+◌, Bool, true, false, ◌&&◌, not, if◌then◌else◌, nat_eq, nat_le, List, [], ◌∷◌, length, Option, Some, None, option_map}
use Rattle.tb_words.specs.declared.Rel.{Rel}
use Rattle.tb_words.specs.declared.Rel.TheVariants as rel
use Rattle.tb_basic_syntax.specs.declared.expressions.Operator.{Operator}
use Rattle.tb_basic_syntax.specs.declared.expressions.Operator.TheVariants.{Add as Sum, Divide as Quotient, Multiply as Product, Subtract as Difference}
use Rattle.tb_lower.specs.Slots.{Instr, Put, Load, Store, Negate, Compute, Random, SendNumber, Hold, LeaveUnless, Jump, Call, JumpTo}
use Rattle.tb_compiler_selection.specs.declared.liveness.Live.{Live}
use Rattle.tb_compiler_selection.specs.Groups.{Operand, Constant, Variable, InSlot, Home, IntoVariable, IntoHeld, Destination, IntoSlot, IntoHome, Tested, HeldBefore}
use Rattle.tb_compiler_selection.specs.Groups.{HeldNow, Conversion, Negated, Drawn, Usage, AsNumber, AsLine, AsSubroutine, Group, Calculate, Convert, Move, Use}
use Rattle.tb_compiler_selection.specs.Groups.{Divisibility, Divisible, Indivisible, OnLeft, OnRight, Stepped, Test, TestGo, Divides, Remains, Single, slot_of}
use Rattle.tb_compiler_selection.specs.Groups.{expand_all}
use Rattle.tb_compiler_selection.specs.Liveness.{live}

-- an instruction as a group of its own
abbrev pub alone : Instr → Group
alone (Store x) = Move InSlot (IntoVariable x)
alone Hold = Move InSlot IntoHeld
alone (Negate k) = Convert Negated InSlot (IntoSlot k)
alone (Random k) = Convert Drawn InSlot (IntoSlot k)
alone (Compute op k) = Calculate op InSlot InSlot (IntoSlot k)
alone SendNumber = Use AsNumber InSlot
alone Jump = Use AsLine InSlot
alone Call = Use AsSubroutine InSlot
alone (LeaveUnless rel) = Test rel HeldBefore InSlot
alone i = Single i

-- a group, if a test holds
abbrev pub provided : Bool → Group → Option Group
provided true g = Some g
provided false g = None

-- a calculation with a word fetched into slot k before it: its right operand first, then its left one
abbrev pub calculate_with : ℕ → Operand → Operator → Operand → Operand → Destination → Option Group
calculate_with k word op (Constant v) b d = None
calculate_with k word op (Variable y) b d = None
calculate_with k word op InSlot InSlot d = provided (nat_eq k (slot_of d + 1)) (Calculate op InSlot word d)
calculate_with k word op InSlot (Constant v) d = provided (nat_eq k (slot_of d)) (Calculate op word (Constant v) d)
calculate_with k word op InSlot (Variable y) d = provided (nat_eq k (slot_of d)) (Calculate op word (Variable y) d)

-- the operands of a calculation in slot 0 with a word fetched into slot k before it
abbrev pub operands_with : ℕ → Operand → Operand → Operand → Option (Operand × Operand)
operands_with k word (Constant v) b = None
operands_with k word (Variable y) b = None
operands_with k word InSlot InSlot = if nat_eq k 1 then Some (InSlot, word) else None
operands_with k word InSlot (Constant v) = if nat_eq k 0 then Some (word, Constant v) else None
operands_with k word InSlot (Variable y) = if nat_eq k 0 then Some (word, Variable y) else None

-- a conversion with a word fetched into slot k before it
abbrev pub convert_with : ℕ → Operand → Conversion → Operand → Destination → Option Group
convert_with k word what InSlot d = provided (nat_eq k (slot_of d)) (Convert what word d)
convert_with k word what (Constant v) d = None
convert_with k word what (Variable y) d = None

-- a move with a word fetched into slot k before it
abbrev pub move_with : ℕ → Operand → Operand → Home → Option Group
move_with k word InSlot home = provided (nat_eq k 0) (Move word home)
move_with k word (Constant v) home = None
move_with k word (Variable y) home = None

-- a use with a word fetched into slot k before it
abbrev pub use_with : ℕ → Operand → Usage → Operand → Option Group
use_with k word how InSlot = provided (nat_eq k 0) (Use how word)
use_with k word how (Constant v) = None
use_with k word how (Variable y) = None

-- the words of a test with a word fetched into slot k before it: its right operand first, then its left one
abbrev pub words_with : ℕ → Operand → Tested → Operand → Option (Tested × Operand)
words_with k word HeldBefore InSlot = if nat_eq k 0 then Some (HeldBefore, word) else None
words_with k word HeldBefore (Constant v) = None
words_with k word HeldBefore (Variable y) = None
words_with k word (HeldNow InSlot) b = if nat_eq k 0 then Some (HeldNow word, b) else None
words_with k word (HeldNow (Constant v)) b = None
words_with k word (HeldNow (Variable y)) b = None

-- a group with a word fetched into slot k before it
abbrev pub with_word : ℕ → Operand → Group → Option Group
with_word k word (Calculate op a b d) = calculate_with k word op a b d
with_word k word (Stepped op a b by w x) = option_map (λ words. Stepped op words.0 words.1 by w x) (operands_with k word a b)
with_word k word (Convert what a d) = convert_with k word what a d
with_word k word (Move a home) = move_with k word a home
with_word k word (Use how a) = use_with k word how a
with_word k word (Test rel a b) = option_map (λ words. Test rel words.0 words.1) (words_with k word a b)
with_word k word (TestGo rel a b to) = option_map (λ words. TestGo rel words.0 words.1 to) (words_with k word a b)
with_word k word (Divides how x d side to) = None
with_word k word (Remains x d to) = None
with_word k word (Single i) = None

-- whether a word in a variable goes on with this operator and constant in place; that never faults
abbrev pub goes_on : Operator → ℕ → Bool
goes_on Sum w = true
goes_on Difference w = true
goes_on Product w = nat_eq w 2
goes_on Quotient w = nat_eq w 2

-- the calculation of slot 0 before a move of it, or before its way into a variable by a constant
abbrev pub calculated : Operator → ℕ → Group → Option Group
calculated op k (Move InSlot home) = provided (nat_eq k 0) (Calculate op InSlot InSlot (IntoHome home))
calculated op k (Calculate by InSlot (Constant w) (IntoHome (IntoVariable x))) = provided (nat_eq k 0 && goes_on by w) (Stepped op InSlot InSlot by w x)
calculated op k _ = None

-- the conversion of slot 0 before a move of it
abbrev pub converted : Conversion → ℕ → Group → Option Group
converted what k (Move InSlot home) = provided (nat_eq k 0) (Convert what InSlot (IntoHome home))
converted what k _ = None

-- slot 0 held before a test of the held word
abbrev pub held_before : Group → Option Group
held_before (Test rel HeldBefore b) = Some (Test rel (HeldNow InSlot) b)
held_before (TestGo rel HeldBefore b to) = Some (TestGo rel (HeldNow InSlot) b to)
held_before _ = None

-- a test before what goes to a line
abbrev pub gone : Rel → Group → Option Group
gone rel (Single (JumpTo to)) = Some (TestGo rel HeldBefore InSlot to)
gone rel _ = None

-- an instruction and the group after it as one group, if there is one
abbrev pub merged : Instr → Group → Option Group
merged (Put k w) g = with_word k (Constant w) g
merged (Load k x) g = with_word k (Variable x) g
merged (Compute op k) g = calculated op k g
merged (Negate k) g = converted Negated k g
merged (Random k) g = converted Drawn k g
merged Hold g = held_before g
merged (LeaveUnless rel) g = gone rel g
merged _ g = None

-- of a calculation into slot k, the slot of the right operand is dead if its template leaves it alone
abbrev pub right_slot_dead : Operand → Operand → ℕ → Live → Bool
right_slot_dead InSlot InSlot k r = true
right_slot_dead a b k r = nat_le r.slots (k + 1)

-- of a test, slot 0 is dead if a word is fetched into it, and so is the word that is held now. If slot 0 is held and then
-- tested against itself, it is read inside the group.
abbrev pub test_words_dead : Tested → Operand → Live → Bool
test_words_dead HeldBefore InSlot r = true
test_words_dead HeldBefore (Constant w) r = nat_le r.slots 0
test_words_dead HeldBefore (Variable x) r = nat_le r.slots 0
test_words_dead (HeldNow a) InSlot r = false
test_words_dead (HeldNow a) (Constant w) r = nat_le r.slots 0 && not r.held
test_words_dead (HeldNow a) (Variable x) r = nat_le r.slots 0 && not r.held

-- slot 0 is dead if it is left alone, since the word comes from elsewhere
abbrev pub slot_dead : Operand → Live → Bool
slot_dead InSlot r = true
slot_dead (Constant w) r = nat_le r.slots 0
slot_dead (Variable x) r = nat_le r.slots 0

-- what a group's template does not write, while its instructions do, is dead after it: slots of operands that are
-- fetched, slot 0 of what goes to a home, the word that is held now; of a test by a divisor, all of them
abbrev pub omits_only_dead : Group → Live → Bool
omits_only_dead (Calculate op a b (IntoSlot k)) r = right_slot_dead a b k r
omits_only_dead (Calculate op a b (IntoHome home)) r = nat_le r.slots 0
omits_only_dead (Stepped op a b by w x) r = nat_le r.slots 0
omits_only_dead (Convert what a (IntoSlot k)) r = true
omits_only_dead (Convert what a (IntoHome home)) r = nat_le r.slots 0
omits_only_dead (Move a home) r = slot_dead a r
omits_only_dead (Use how a) r = slot_dead a r
omits_only_dead (Test rel a b) r = test_words_dead a b r
omits_only_dead (TestGo rel a b to) r = test_words_dead a b r
omits_only_dead (Divides how x d side to) r = nat_le r.slots 0 && not r.held
omits_only_dead (Remains x d (IntoSlot k)) r = nat_le r.slots (k + 1)
omits_only_dead (Remains x d (IntoHome home)) r = nat_le r.slots 0
omits_only_dead (Single i) r = true

-- a test before a jump goes straight to its line if it is a line's last group, after which the next line begins
abbrev pub may_stand : Group → List Group → Bool
may_stand (TestGo rel a b to) behind = nat_eq (length behind) 0
may_stand (Divides how x d side (Some to)) behind = nat_eq (length behind) 0
may_stand _ behind = true

-- ── several groups as one ──
-- the quotient of a variable in a slot: the slot, the variable and the divisor
abbrev pub quotient_in : Group → Option (ℕ × ℕ × Operand)
quotient_in (Calculate Quotient (Variable x) d (IntoSlot k)) = Some (k, x, d)
quotient_in _ = None

-- a slot times a word: the slot and the word
abbrev pub factor_in : Group → Option (ℕ × Operand)
factor_in (Calculate Product InSlot d (IntoSlot k)) = Some (k, d)
factor_in _ = None

-- the difference of two slots: where it goes
abbrev pub difference_in : Group → Option Destination
difference_in (Calculate Difference InSlot InSlot d) = Some d
difference_in _ = None

-- a variable alone in a slot: the slot and the variable
abbrev pub loaded_in : Group → Option (ℕ × ℕ)
loaded_in (Single (Load k x)) = Some (k, x)
loaded_in _ = None

-- a variable that is held
abbrev pub held_in : Group → Option ℕ
held_in (Move (Variable x) IntoHeld) = Some x
held_in _ = None

-- what a relation of a multiple to its variable asks for
abbrev pub asked : Rel → Option Divisibility
asked rel.Eq = Some Divisible
asked rel.Ne = Some Indivisible
asked _ = None

-- a test of slot 0 with a variable: what it asks for, the variable, and the line that it leads to, if there is one
abbrev pub equality_in : Group → Option (Divisibility × ℕ × Option ℕ)
equality_in (Test r (HeldNow InSlot) (Variable x)) = option_map (λ how. (how, x, None)) (asked r)
equality_in (TestGo r (HeldNow InSlot) (Variable x) to) = option_map (λ how. (how, x, Some to)) (asked r)
equality_in _ = None

-- a test of the held word with slot 0: what it asks for, and the line that it leads to, if there is one
abbrev pub against_in : Group → Option (Divisibility × Option ℕ)
against_in (Test r HeldBefore InSlot) = option_map (λ how. (how, None)) (asked r)
against_in (TestGo r HeldBefore InSlot to) = option_map (λ how. (how, Some to)) (asked r)
against_in _ = None

-- whether two words are fetched from the same source
abbrev pub same_operand : Operand → Operand → Bool
same_operand (Constant v) (Constant w) = nat_eq v w
same_operand (Variable x) (Variable y) = nat_eq x y
same_operand _ _ = false

-- a quotient times its divisor
abbrev pub multiple_of : Option (ℕ × ℕ × Operand) → Option (ℕ × Operand) → Option (ℕ × ℕ × Operand)
multiple_of (Some q) (Some f) = if nat_eq q.0 f.0 && same_operand q.2 f.1 then Some q else None
multiple_of (Some q) None = None
multiple_of None f = None

-- a quotient and a factor that are a multiple
abbrev pub multiple_in : Group → Group → Option (ℕ × ℕ × Operand)
multiple_in a b = multiple_of (quotient_in a) (factor_in b)

-- a multiple before the test with its variable
abbrev pub divides_left : Option (ℕ × ℕ × Operand) → Option (Divisibility × ℕ × Option ℕ) → Option Group
divides_left (Some m) (Some t) = provided (nat_eq m.0 0 && nat_eq m.1 t.1) (Divides t.0 m.1 m.2 OnLeft t.2)
divides_left (Some m) None = None
divides_left None t = None

-- a variable that is held before a multiple of it and their test
abbrev pub divides_right : Option ℕ → Option (ℕ × ℕ × Operand) → Option (Divisibility × Option ℕ) → Option Group
divides_right (Some x) (Some m) (Some t) = provided (nat_eq m.0 0 && nat_eq m.1 x) (Divides t.0 m.1 m.2 OnRight t.1)
divides_right (Some x) (Some m) None = None
divides_right (Some x) None t = None
divides_right None m t = None

-- a variable before a multiple of it, and their difference
abbrev pub remains : Option (ℕ × ℕ) → Option (ℕ × ℕ × Operand) → Option Destination → Option Group
remains (Some l) (Some m) (Some d) = provided (nat_eq m.0 (l.0 + 1) && nat_eq m.1 l.1 && nat_eq l.0 (slot_of d)) (Remains m.1 m.2 d)
remains (Some l) (Some m) None = None
remains (Some l) None d = None
remains None m d = None

-- the first one, or else the second
abbrev pub or_else : Option Group → Option Group → Option Group
or_else (Some g) o = Some g
or_else None o = o

-- three groups as one: a multiple of a divisor before the test with its variable
abbrev pub three_as_one : Group → Group → Group → Option Group
three_as_one a b c = divides_left (multiple_in a b) (equality_in c)

-- four groups as one: a variable, a multiple of a divisor, and their test or their difference
abbrev pub four_as_one : Group → Group → Group → Group → Option Group
four_as_one a b c e = or_else (divides_right (held_in a) (multiple_in b c) (against_in e)) (remains (loaded_in a) (multiple_in b c) (difference_in e))

-- a group before others, if what it omits is dead and it may be there
abbrev pub allowed : Option Group → List Group → Option Group
allowed (Some m) gs = provided (omits_only_dead m (live (expand_all gs)) && may_stand m gs) m
allowed None gs = None

-- one group before others, if there is one; else the other groups
abbrev pub instead : Option Group → List Group → List Group → List Group
instead (Some m) gs others = m ∷ gs
instead None gs others = others

-- a group before others: made one with the first of them, if possible
abbrev pub fused : Group → List Group → List Group
fused a [] = a ∷ []
fused a (b ∷ []) = a ∷ b ∷ []
fused a (b ∷ c ∷ []) = instead (allowed (three_as_one a b c) []) [] (a ∷ b ∷ c ∷ [])
fused a (b ∷ c ∷ e ∷ gs) = instead (allowed (three_as_one a b c) (e ∷ gs)) (e ∷ gs) (instead (allowed (four_as_one a b c e) gs) gs (a ∷ b ∷ c ∷ e ∷ gs))

-- the merged group before others, if there is one; else the instruction alone before all of them
abbrev pub tried : Option Group → Instr → Group → List Group → List Group
tried (Some m) i g gs = fused m gs
tried None i g gs = fused (alone i) (g ∷ gs)

-- an instruction before groups
abbrev pub attach : Instr → List Group → List Group
attach i [] = alone i ∷ []
attach i (g ∷ gs) = tried (allowed (merged i g) gs) i g gs

-- the groups of a list
abbrev pub select : List Instr → List Group
select [] = []
select (i ∷ is) = attach i (select is)
