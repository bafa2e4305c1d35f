-- The code of groups as instructions at their addresses.
use Rattle.std.specs.Prelude.{◌≡◌, ℕ, zero, suc, ◌+◌, ◌/◌, ◌%◌, ◌≤◌, ◌<◌, List, [], ◌∷◌, ◌++◌, length, Bool, cond, true}
use Rattle.std.specs.Prelude.{false, not, if◌then◌else◌, bit_xor, nat_eq, nat_lt, Option, Some, None, ◌*◌}
use Rattle.tb_asm.specs.Layout.{distance, is_near}
use Rattle.tb_basic_syntax.specs.Source.{numbers, Rises}
use Rattle.tb_machine_reaching.specs.View.{Part}
use Rattle.tb_machine_reaching.proofs.Instr.{Instr, ins, Stands}
use Rattle.tb_words.specs.declared.Rel.{Rel}
use Rattle.tb_words.specs.declared.Rel.TheVariants as rel
use Rattle.tb_basic_syntax.specs.declared.expressions.Operator.{Operator}
use Rattle.tb_basic_syntax.specs.declared.expressions.Operator.TheVariants.{Add, Subtract, Multiply, Divide}
use Rattle.tb_basic_meaning.specs.Control.{Place, content_at, has_line, highest}
use Rattle.tb_lower.specs.Ranges.{AreInRange}
use Rattle.tb_lower.specs.Slots as slots
use Rattle.tb_kernal.specs.Numbers.{GETIN}
use Rattle.tb_compiled_kept.specs.Addresses.{LEFT, RIGHT, RESULT, WANTED, LINE, NOTES, RETURN_LOW, RETURN_HIGH, var_at}
use Rattle.tb_runtime16.specs.Addresses.{MULTIPLY_AT, DIVIDE_AT, RANDOM_AT, NUMBER_AT, PUSH_AT, POP_AT}
use Rattle.tb_compiler_templates.specs.declared.sources.Source.{Source}
use Rattle.tb_compiler_templates.specs.declared.sources.Source.TheVariants.{FixedWord, AtAddress}
use Rattle.tb_compiler_templates.specs.GroupTemplates.{may_fault, may_be_zero, may_have_none}
use Rattle.tb_compiler_templates.specs.declared.orders.Side.{Side}
use Rattle.tb_compiler_templates.specs.declared.orders.Side.TheVariants.{Below, NotBelow}
use Rattle.tb_compiler_templates.specs.declared.orders.Order.{Order}
use Rattle.tb_compiler_templates.specs.declared.orders.Order.TheVariants.{BySign, ByPositive, ByConstant, ByDifference}
use Rattle.tb_compiler_templates.specs.Orders.{order_of, wanted_side}
use Rattle.tb_compiler_templates.specs.Breaks.{leaves}
use Rattle.tb_compiler_templates.specs.Scaled.{all_but_lowest, scaling, shifts}
use Rattle.tb_compiler_templates.specs.declared.in_place.Change.{Change}
use Rattle.tb_compiler_templates.specs.declared.in_place.Change.TheVariants.{Increment, Decrement, Raise, Lower, Halve, Double}
use Rattle.tb_compiler_templates.specs.InPlace.{change_of}
use Rattle.tb_compiler_templates.specs.Masks.{mask}
use Rattle.tb_compiler_templates.specs.Reduced.{doublings}
use Rattle.tb_compiler_program.specs.Search.{compares}
use Rattle.tb_compiler_templates.specs.Sources.{source_of, tested_source, home_at, destination_at}
use Rattle.tb_proof_simulation.specs.Layout.{Layout, place_address}
use Rattle.tb_proof_simulation.proofs.Resolved.{Piece, Code, Lies, pieces_size, size, sta_at, copied, constant, pointed, call, faulting, jump, jump_by, jump_through, template, highest_code, find_code, past_code}
use Rattle.tb_proof_simulation.proofs.Resolved.{next_at}
use Rattle.tb_compiler_selection.specs.Groups.{Conversion, Negated, Drawn, Usage, AsNumber, AsLine, AsSubroutine, Constant, Variable, Divisibility, Divisible}
use Rattle.tb_compiler_selection.specs.Groups.{Indivisible, Group, Calculate, Stepped, Convert, Move, Use, Test, TestGo, Divides, Remains, Single, contrary, denied}
use Rattle.tb_compiler_selection.specs.Groups.{slot_of, expand_all}
use Rattle.tb_compiler_selection.specs.Select.{select}
use Rattle.tb_proof_correctness.proofs.Pieces.Sources.{Byte, Fixed, At, lda, adc, sbc, cmp, ldx, ldy, ora}

-- its bytes
abbrev pub low : Source → Byte
low (FixedWord w) = Fixed (w % 256)
low (AtAddress p) = At p

abbrev pub high : Source → Byte
high (FixedWord w) = Fixed (w / 256)
high (AtAddress p) = At (p + 1)

-- ---- pieces
abbrev pub brought : Source → ℕ → List Instr
brought a to = lda (low a) ∷ sta_at to ∷ lda (high a) ∷ sta_at (to + 1) ∷ []

abbrev pub summed : Source → Source → ℕ → List Instr
summed a b to = ins 0x18 0 ∷ lda (low a) ∷ adc (low b) ∷ ins 0x8D to ∷ lda (high a) ∷ adc (high b) ∷ ins 0x8D (to + 1) ∷ []

abbrev pub taken : Source → Source → ℕ → List Instr
taken a b to = ins 0x38 0 ∷ lda (low a) ∷ sbc (low b) ∷ ins 0x8D to ∷ lda (high a) ∷ sbc (high b) ∷ ins 0x8D (to + 1) ∷ []

-- a byte compared with one
abbrev pub weighed : Byte → Byte → List Instr
weighed a b = lda a ∷ cmp b ∷ []

-- a routine's result is copied from where the routine leaves it
abbrev pub routine : ℕ → ℕ → Source → Source → ℕ → List Piece
routine entry from a b to = Code (brought a LEFT) ∷ Code (brought b RIGHT) ∷ Code (call entry) ∷ Code (copied from to) ∷ []

-- code with LINE set before it if it may fault
abbrev pub lined_code : Bool → ℕ → List Piece → List Piece
lined_code true n ps = Code (constant n LINE) ∷ ps
lined_code false n ps = ps

-- a word over 2^(k + 1): its high byte in A, its low byte in LEFT
abbrev pub rounded : ℕ → Source → List Instr
rounded zero a = lda (low a) ∷ adc (Fixed 0) ∷ []
rounded (suc k) a = lda (Fixed 0) ∷ adc (Fixed 255) ∷ ins 0x29 (all_but_lowest (suc k)) ∷ ins 0x49 (all_but_lowest (suc k)) ∷ adc (low a) ∷ []

abbrev pub signed : Source → List Instr
signed a = lda (high a) ∷ cmp (Fixed 128) ∷ []

abbrev pub carried : Source → List Instr
carried a = ins 0x85 LEFT ∷ lda (high a) ∷ adc (Fixed 0) ∷ []

abbrev pub halved : List Instr
halved = ins 0xC9 128 ∷ ins 0x6A 0 ∷ ins 0x66 LEFT ∷ []

abbrev pub halvings : ℕ → List Instr
halvings zero = []
halvings (suc k) = halvings k ++ halved

abbrev pub high_first : ℕ → List Instr
high_first to = ins 0x8D (to + 1) ∷ ins 0xA5 LEFT ∷ ins 0x8D to ∷ []

-- over 128 or 256: the quotient's low byte goes to A, its sign to C; and both are stored
abbrev pub cut : ℕ → List Instr
cut k = if nat_eq k 6 then ins 0x06 LEFT ∷ ins 0x2A 0 ∷ [] else ins 0xC9 128 ∷ []

abbrev pub widened : ℕ → List Instr
widened to = ins 0x8D to ∷ lda (Fixed 0) ∷ adc (Fixed 255) ∷ ins 0x49 255 ∷ ins 0x8D (to + 1) ∷ []

abbrev pub lowered : ℕ → ℕ → List Instr
lowered k to = if nat_lt k 6 then halvings (suc k) ++ high_first to else cut k ++ widened to

abbrev pub shifted : ℕ → Source → ℕ → List Instr
shifted k a to = signed a ++ (rounded k a ++ (carried a ++ lowered k to))

-- a word times a factor: the product's low byte in A, its high byte in LEFT
abbrev pub doubled : List Instr
doubled = ins 0x0A 0 ∷ ins 0x26 LEFT ∷ []

abbrev pub increased : Source → List Instr
increased a = ins 0x18 0 ∷ adc (low a) ∷ ins 0xAA 0 ∷ ins 0xA5 LEFT ∷ adc (high a) ∷ ins 0x85 LEFT ∷ ins 0x8A 0 ∷ []

abbrev pub by_bit : Bool → Source → List Instr
by_bit false a = doubled
by_bit true a = doubled ++ increased a

abbrev pub by_bits : ℕ → ℕ → Source → List Instr
by_bits zero factor a = []
by_bits (suc k) factor a = if nat_lt factor 2 then [] else by_bits k (factor / 2) a ++ by_bit (nat_eq (factor % 2) 1) a

abbrev pub begun : Source → List Instr
begun a = lda (high a) ∷ ins 0x85 LEFT ∷ lda (low a) ∷ []

abbrev pub low_first : ℕ → List Instr
low_first to = ins 0x8D to ∷ ins 0xA5 LEFT ∷ ins 0x8D (to + 1) ∷ []

abbrev pub times : ℕ → Source → ℕ → List Instr
times factor a to = begun a ++ (by_bits 15 factor a ++ low_first to)

-- a product: of a constant and a word by the constant's bits, if they are few
abbrev pub product_code : Option (ℕ × Source) → Source → Source → ℕ → List Piece
product_code (Some scaled) a b to = Code (times scaled.0 scaled.1 to) ∷ []
product_code None a b to = routine MULTIPLY_AT RESULT a b to

-- a quotient of line n: over 2^(k + 1) by shifts
abbrev pub quotient_code : ℕ → Option ℕ → Source → Source → ℕ → List Piece
quotient_code n (Some k) a b to = Code (shifted k a to) ∷ []
quotient_code n None a b to = lined_code (may_be_zero b) n (routine DIVIDE_AT LEFT a b to)

-- a calculation of line n
abbrev pub calc_code : ℕ → Operator → Source → Source → ℕ → List Piece
calc_code n Add a b to = Code (summed a b to) ∷ []
calc_code n Subtract a b to = Code (taken a b to) ∷ []
calc_code n Multiply a b to = product_code (scaling a b) a b to
calc_code n Divide a b to = quotient_code n (shifts b) a b to

-- a conversion of a word of line n: 0 minus it, or a random number below it
abbrev pub convert_code : Layout → ℕ → Conversion → Source → ℕ → List Piece
convert_code ly n Negated a to = Code (taken (FixedWord 0) a to) ∷ []
convert_code ly n Drawn a to = lined_code (may_have_none a) n (routine RANDOM_AT RESULT (FixedWord ly.seed) a to)

-- the line table is searched for a word
abbrev pub searched : Layout → ℕ → Source → List Piece → List Piece
searched ly n a others = Code (constant n LINE) ∷ Code (brought a WANTED) ∷ Code (call ly.find) ∷ others

-- a use of a word
abbrev pub use_code : Layout → ℕ → Usage → Source → List Piece
use_code ly n AsNumber a = Code (brought a LEFT) ∷ Code (call NUMBER_AT) ∷ []
use_code ly n AsLine a = searched ly n a (Code jump_through ∷ [])
use_code ly n AsSubroutine a = searched ly n a (Code (pointed (next_at ly n) LEFT) ∷ Code (call PUSH_AT) ∷ Code jump_through ∷ [])

-- ---- branches
-- a flag that a branch tests
pub data Flag : Type 0 where
  Negative Overflow Carry Zero : Flag

-- the opcode of the branch that is taken if a flag has this value
abbrev pub branch_on : Flag → Bool → ℕ
branch_on Negative false = 0x10
branch_on Negative true = 0x30
branch_on Overflow false = 0x50
branch_on Overflow true = 0x70
branch_on Carry false = 0x90
branch_on Carry true = 0xB0
branch_on Zero false = 0xD0
branch_on Zero true = 0xF0

-- the opcode of the branch on the flag's other value: the two differ in bit 5
abbrev pub opposite : ℕ → ℕ
opposite opcode = bit_xor opcode 0x20

-- a branch goes to its target by itself, or over a jump that does
pub data Way : Type 0 where
  Short Long : Way

abbrev pub way_size : Way → ℕ
way_size Short = 2
way_size Long = 5

-- a branch at an address to a target
abbrev pub branch_code : Way → (opcode at to : ℕ) → List Instr
branch_code Short opcode at to = ins opcode (distance at to % 256) ∷ []
branch_code Long opcode at to = ins (opposite opcode) 3 ∷ jump to

-- it gets there
abbrev pub BranchReaches : Way → (at to : ℕ) → Type 0
BranchReaches Short at to = (is_near (distance at to) ≡ true) × (to ≤ highest_code)
BranchReaches Long at to = to ≤ highest_code

-- ---- words changed in place
-- where a branch after code leads, over code
abbrev pub over_at : Way → (at : ℕ) → (before skipped : List Instr) → ℕ
over_at first at before skipped = at + size before + way_size first + size skipped

-- code, a branch over more of it, and what follows that
abbrev pub over_code : Way → (at : ℕ) → (before : List Instr) → Flag → Bool → (skipped behind : List Instr) → List Piece
over_code first at before which wanted skipped behind =
    Code before ∷ Code (branch_code first (branch_on which wanted) (at + size before) (over_at first at before skipped)) ∷ Code skipped ∷ Code behind ∷ []

abbrev pub OverReaches : Way → (at : ℕ) → (before skipped : List Instr) → Type 0
OverReaches first at before skipped = BranchReaches first (at + size before) (over_at first at before skipped)

-- a byte is added to the low byte of the word at an address, or subtracted from it
abbrev pub low_raised : ℕ → ℕ → List Instr
low_raised c p = ins 0x18 0 ∷ ins 0xAD p ∷ ins 0x69 c ∷ ins 0x8D p ∷ []

abbrev pub low_lowered : ℕ → ℕ → List Instr
low_lowered c p = ins 0x38 0 ∷ ins 0xAD p ∷ ins 0xE9 c ∷ ins 0x8D p ∷ []

-- the sign of the word goes to C
abbrev pub sign_asked : ℕ → List Instr
sign_asked p = ins 0xAD (p + 1) ∷ ins 0x0A 0 ∷ []

-- C is added to the word, and its new sign goes to C
abbrev pub raised_by_sign : ℕ → List Instr
raised_by_sign p = ins 0xAD p ∷ ins 0x69 0 ∷ ins 0x8D p ∷ ins 0xAD (p + 1) ∷ ins 0x69 0 ∷ ins 0x8D (p + 1) ∷ ins 0x0A 0 ∷ []

-- the word with C before it is shifted to the right
abbrev pub turned_right : ℕ → List Instr
turned_right p = ins 0x6E (p + 1) ∷ ins 0x6E p ∷ []

-- the change of the word at an address
abbrev pub change_code : Way → (at : ℕ) → Change → ℕ → List Piece
change_code first at Increment p = over_code first at (ins 0xEE p ∷ []) Zero false (ins 0xEE (p + 1) ∷ []) []
change_code first at Decrement p = over_code first at (ins 0xAD p ∷ []) Zero false (ins 0xCE (p + 1) ∷ []) (ins 0xCE p ∷ [])
change_code first at (Raise c) p = over_code first at (low_raised c p) Carry false (ins 0xEE (p + 1) ∷ []) []
change_code first at (Lower c) p = over_code first at (low_lowered c p) Carry true (ins 0xCE (p + 1) ∷ []) []
change_code first at Halve p = over_code first at (sign_asked p) Carry false (raised_by_sign p) (turned_right p)
change_code first at Double p = Code (ins 0x0E p ∷ ins 0x2E (p + 1) ∷ []) ∷ []

abbrev pub ChangeReaches : Way → (at : ℕ) → Change → ℕ → Type 0
ChangeReaches first at Increment p = OverReaches first at (ins 0xEE p ∷ []) (ins 0xEE (p + 1) ∷ [])
ChangeReaches first at Decrement p = OverReaches first at (ins 0xAD p ∷ []) (ins 0xCE (p + 1) ∷ [])
ChangeReaches first at (Raise c) p = OverReaches first at (low_raised c p) (ins 0xEE (p + 1) ∷ [])
ChangeReaches first at (Lower c) p = OverReaches first at (low_lowered c p) (ins 0xCE (p + 1) ∷ [])
ChangeReaches first at Halve p = OverReaches first at (sign_asked p) (raised_by_sign p)
ChangeReaches first at Double p = Unit {0}

-- a calculation of line n: in place if it changes a word
abbrev pub changed_or : Option Change → Way → (n at : ℕ) → Operator → Source → Source → ℕ → List Piece
changed_or (Some c) first n at op a b to = change_code first at c to
changed_or None first n at op a b to = calc_code n op a b to

abbrev pub ChangedReaches : Option Change → Way → (at to : ℕ) → Type 0
ChangedReaches (Some c) first at to = ChangeReaches first at c to
ChangedReaches None first at to = Unit {0}

abbrev pub computed_code : Way → (n at : ℕ) → Operator → Source → Source → ℕ → List Piece
computed_code first n at op a b to = changed_or (change_of op a b to) first n at op a b to

-- ---- tests
-- A against a byte, for Z alone: the load of A has set it if that is the constant 0
abbrev pub against : Byte → List Instr
against (Fixed b) = if nat_eq b 0 then [] else cmp (Fixed b) ∷ []
against (At p) = cmp (At p) ∷ []

-- Z tells whether two bytes are equal
abbrev pub matched : Byte → Byte → List Instr
matched a b = lda a ∷ against b

-- where the second branch of a test for equality is
abbrev pub second_at : Way → (at : ℕ) → Source → Source → ℕ
second_at first at a b = at + size (matched (low a) (low b)) + way_size first + size (matched (high a) (high b))

-- where the first branch of such a test leads: out of the line, or past the test if a difference is wanted
abbrev pub first_to : Bool → (first second : Way) (at : ℕ) → Source → Source → ℕ → ℕ
first_to false first second at a b next = next
first_to true first second at a b next = second_at first at a b + way_size second

-- on to the next line if two words differ, or, if a difference is wanted, if they are equal
abbrev pub equality_code : Bool → (first second : Way) (at : ℕ) → Source → Source → ℕ → List Piece
equality_code differ first second at a b next =
    Code (matched (low a) (low b))
    ∷ Code (branch_code first (branch_on Zero false) (at + size (matched (low a) (low b))) (first_to differ first second at a b next))
    ∷ Code (matched (high a) (high b))
    ∷ Code (branch_code second (branch_on Zero differ) (second_at first at a b) next)
    ∷ []

abbrev pub EqualityReaches : Bool → (first second : Way) (at : ℕ) → Source → Source → ℕ → Type 0
EqualityReaches differ first second at a b next =
    BranchReaches first (at + size (matched (low a) (low b))) (first_to differ first second at a b next) × BranchReaches second (second_at first at a b) next

-- the difference of two words, whose N and V are tested
abbrev pub difference : Source → Source → List Instr
difference a b = lda (low a) ∷ cmp (low b) ∷ lda (high a) ∷ sbc (high b) ∷ []

-- where the branch over EOR of a test for order leads, and where its second branch is
abbrev pub turned_at : Way → (at : ℕ) → Source → Source → ℕ
turned_at first at a b = at + size (difference a b) + way_size first + 2

-- N, turned if V is set, tells whether a is below b: on to the next line if it is not, or, if that is wanted, if it is
abbrev pub weighing_code : Bool → (first second : Way) (at : ℕ) → Source → Source → ℕ → List Piece
weighing_code below first second at a b next =
    Code (difference a b)
    ∷ Code (branch_code first (branch_on Overflow false) (at + size (difference a b)) (turned_at first at a b))
    ∷ Code (ins 0x49 128 ∷ [])
    ∷ Code (branch_code second (branch_on Negative below) (turned_at first at a b) next)
    ∷ []

abbrev pub WeighingReaches : (first second : Way) (at : ℕ) → Source → Source → ℕ → Type 0
WeighingReaches first second at a b next =
    BranchReaches first (at + size (difference a b)) (turned_at first at a b) × BranchReaches second (turned_at first at a b) next

-- a test of a against 0: N after the high byte tells whether a is below
abbrev pub sign_code : Bool → (first : Way) (at : ℕ) → Source → ℕ → List Piece
sign_code below first at a next = Code (lda (high a) ∷ []) ∷ Code (branch_code first (branch_on Negative below) (at + size (lda (high a) ∷ [])) next) ∷ []

abbrev pub SignReaches : (first : Way) (at : ℕ) → Source → ℕ → Type 0
SignReaches first at a next = BranchReaches first (at + size (lda (high a) ∷ [])) next

-- where a test of a against 1 asks by Z whether a is 0, after N has told whether it is below 0
abbrev pub zero_asked_at : Way → (at : ℕ) → Source → ℕ
zero_asked_at first at a = at + size (lda (high a) ∷ []) + way_size first + size (ora (low a) ∷ [])

-- where a negative word leads: past the test, or, if it is not to be below, out of the line
abbrev pub negative_to : Bool → (first second : Way) (at : ℕ) → Source → ℕ → ℕ
negative_to false first second at a next = zero_asked_at first at a + way_size second
negative_to true first second at a next = next

abbrev pub positive_code : Bool → (first second : Way) (at : ℕ) → Source → ℕ → List Piece
positive_code below first second at a next =
    Code (lda (high a) ∷ [])
    ∷ Code (branch_code first (branch_on Negative true) (at + size (lda (high a) ∷ [])) (negative_to below first second at a next))
    ∷ Code (ora (low a) ∷ [])
    ∷ Code (branch_code second (branch_on Zero below) (zero_asked_at first at a) next)
    ∷ []

abbrev pub PositiveReaches : Bool → (first second : Way) (at : ℕ) → Source → ℕ → Type 0
PositiveReaches below first second at a next =
    BranchReaches first (at + size (lda (high a) ∷ [])) (negative_to below first second at a next) × BranchReaches second (zero_asked_at first at a) next

-- a word compared with a constant, the highest bits of both turned: C tells whether the word is not below
abbrev pub lifted_both : Source → ℕ → List Instr
lifted_both a w = lda (low a) ∷ cmp (Fixed (w % 256)) ∷ lda (high a) ∷ ins 0x49 128 ∷ sbc (Fixed ((w / 256 + 128) % 256)) ∷ []

-- by the high bytes alone, if the constant's low byte is 0
abbrev pub lifted_high : Source → ℕ → List Instr
lifted_high a w = lda (high a) ∷ ins 0x49 128 ∷ cmp (Fixed ((w / 256 + 128) % 256)) ∷ []

abbrev pub lifted : Source → ℕ → List Instr
lifted a w = if nat_eq (w % 256) 0 then lifted_high a w else lifted_both a w

-- on to the next line if it is not below, or, if that is wanted, if it is
abbrev pub against_code : Bool → (first : Way) (at : ℕ) → Source → ℕ → ℕ → List Piece
against_code below first at a w next = Code (lifted a w) ∷ Code (branch_code first (branch_on Carry (not below)) (at + size (lifted a w)) next) ∷ []

abbrev pub AgainstReaches : (first : Way) (at : ℕ) → Source → ℕ → ℕ → Type 0
AgainstReaches first at a w next = BranchReaches first (at + size (lifted a w)) next

-- whether a word that is below another one leaves, if a side is wanted
abbrev pub leaves_below : Side → Bool
leaves_below Below = false
leaves_below NotBelow = true

-- a test for order, by how it is decided
abbrev pub order_by : Order → Side → (first second : Way) (at next : ℕ) → List Piece
order_by (BySign side a) wanted first second at next = sign_code (leaves_below (wanted_side wanted side)) first at a next
order_by (ByPositive side a) wanted first second at next = positive_code (leaves_below (wanted_side wanted side)) first second at a next
order_by (ByConstant side a w) wanted first second at next = against_code (leaves_below (wanted_side wanted side)) first at a w next
order_by (ByDifference a b) wanted first second at next = weighing_code (leaves_below wanted) first second at a b next

abbrev pub ReachesBy : Order → Side → (first second : Way) (at next : ℕ) → Type 0
ReachesBy (BySign side a) wanted first second at next = SignReaches first at a next
ReachesBy (ByPositive side a) wanted first second at next = PositiveReaches (leaves_below (wanted_side wanted side)) first second at a next
ReachesBy (ByConstant side a w) wanted first second at next = AgainstReaches first at a w next
ReachesBy (ByDifference a b) wanted first second at next = WeighingReaches first second at a b next

abbrev pub order_code : Side → (first second : Way) (at : ℕ) → Source → Source → ℕ → List Piece
order_code wanted first second at a b next = order_by (order_of a b) wanted first second at next

abbrev pub OrderReaches : Side → (first second : Way) (at : ℕ) → Source → Source → ℕ → Type 0
OrderReaches wanted first second at a b next = ReachesBy (order_of a b) wanted first second at next

-- a test by its relation
abbrev pub test_code : Rel → (first second : Way) (at : ℕ) → Source → Source → ℕ → List Piece
test_code rel.Eq first second at a b next = equality_code false first second at a b next
test_code rel.Ne first second at a b next = equality_code true first second at a b next
test_code rel.Lt first second at a b next = order_code Below first second at a b next
test_code rel.Ge first second at a b next = order_code NotBelow first second at a b next
test_code rel.Gt first second at a b next = order_code Below first second at b a next
test_code rel.Le first second at a b next = order_code NotBelow first second at b a next

abbrev pub TestReaches : Rel → (first second : Way) (at : ℕ) → Source → Source → ℕ → Type 0
TestReaches rel.Eq first second at a b next = EqualityReaches false first second at a b next
TestReaches rel.Ne first second at a b next = EqualityReaches true first second at a b next
TestReaches rel.Lt first second at a b next = OrderReaches Below first second at a b next
TestReaches rel.Ge first second at a b next = OrderReaches NotBelow first second at a b next
TestReaches rel.Gt first second at a b next = OrderReaches Below first second at b a next
TestReaches rel.Le first second at a b next = OrderReaches NotBelow first second at b a next

-- straight to a line if a test holds, and else on to the next line, which follows; if there is no such line,
-- the test and then fault 1
abbrev pub go_code : Layout → (n at : ℕ) (first second : Way) → Rel → Source → Source → Bool → ℕ → List Piece
go_code ly n at first second rel a b true to = test_code (denied rel) first second at a b (ly.start to)
go_code ly n at first second rel a b false to = test_code rel first second at a b (next_at ly n) ++ Code (faulting n 1) ∷ []

abbrev pub GoReaches : Layout → (n at : ℕ) (first second : Way) → Rel → Source → Source → Bool → ℕ → Type 0
GoReaches ly n at first second rel a b true to = TestReaches (denied rel) first second at a b (ly.start to)
GoReaches ly n at first second rel a b false to = TestReaches rel first second at a b (next_at ly n)

-- ---- divisibility
-- the lowest bits of a word, and the size of a remainder
abbrev pub lowest_bits : ℕ → Source → List Instr
lowest_bits bits a = lda (low a) ∷ ins 0x29 bits ∷ []

abbrev pub told : List Instr
told = ins 0xAD RESULT ∷ ins 0x0D (RESULT + 1) ∷ []

abbrev pub remainder : Source → Source → List Piece
remainder a b = Code (brought a LEFT) ∷ Code (brought b RIGHT) ∷ Code (call DIVIDE_AT) ∷ Code told ∷ []

-- Z tells whether a divisor divides a word
abbrev pub left_over : ℕ → Option ℕ → Source → Source → List Piece
left_over n (Some bits) a b = Code (lowest_bits bits a) ∷ []
left_over n None a b = lined_code (may_be_zero b) n (remainder a b)

-- the value of Z that leaves
abbrev pub leaves_on : Divisibility → Bool
leaves_on Divisible = false
leaves_on Indivisible = true

-- where the branch of such a test is
abbrev pub divided_at : (n at : ℕ) → Source → Source → ℕ
divided_at n at a b = at + pieces_size (left_over n (mask b) a b)

abbrev pub divided_code : (n at : ℕ) → Way → Divisibility → Source → Source → ℕ → List Piece
divided_code n at first how a b next = left_over n (mask b) a b ++ (Code (branch_code first (branch_on Zero (leaves_on how)) (divided_at n at a b) next) ∷ [])

abbrev pub DividedReaches : (n at : ℕ) → Way → Source → Source → ℕ → Type 0
DividedReaches n at first a b next = BranchReaches first (divided_at n at a b) next

-- straight to a line, or, if there is no such line, to fault 1
abbrev pub divided_go : Layout → (n at : ℕ) → Way → Divisibility → Source → Source → Bool → ℕ → List Piece
divided_go ly n at first how a b true to = divided_code n at first (contrary how) a b (ly.start to)
divided_go ly n at first how a b false to = divided_code n at first how a b (next_at ly n) ++ (Code (faulting n 1) ∷ [])

abbrev pub DividedGoes : Layout → (n at : ℕ) → Way → Source → Source → Bool → ℕ → Type 0
DividedGoes ly n at first a b true to = DividedReaches n at first a b (ly.start to)
DividedGoes ly n at first a b false to = DividedReaches n at first a b (next_at ly n)

-- a test by a divisor that leads to a line, if there is one
abbrev pub divides_code : Layout → (n at : ℕ) → Way → Divisibility → Source → Source → Option ℕ → List Piece
divides_code ly n at first how a b None = divided_code n at first how a b (next_at ly n)
divides_code ly n at first how a b (Some to) = divided_go ly n at first how a b (has_line ly.numbers to) to

abbrev pub DividesReach : Layout → (n at : ℕ) → Way → Source → Source → Option ℕ → Type 0
DividesReach ly n at first a b None = DividedReaches n at first a b (next_at ly n)
DividesReach ly n at first a b (Some to) = DividedGoes ly n at first a b (has_line ly.numbers to) to

-- ---- remainders
-- a byte is taken away from A, unless A is below it: then that is left out with n bytes more
abbrev pub less_once : (place n : ℕ) → List Instr
less_once place n = ins 0xCD place ∷ ins 0x90 n ∷ ins 0xED place ∷ []

-- both words are bytes and the divisor is not 0; A is the remainder
abbrev pub bytes_asked : (dividend divisor : ℕ) → List Instr
bytes_asked dividend divisor =
    ins 0xAD (dividend + 1) ∷ ins 0x0D (divisor + 1) ∷ ins 0xD0 55 ∷ ins 0xAE divisor ∷ ins 0xF0 50 ∷ ins 0xAD dividend ∷ []

abbrev pub all_taken : ℕ → List Instr
all_taken divisor = ins 0xCD divisor ∷ ins 0xB0 10 ∷ ins 0x8D RESULT ∷ ins 0xA9 0 ∷ ins 0x8D (RESULT + 1) ∷ ins 0xF0 23 ∷ []

-- the remainder of bytes by up to four differences
abbrev pub differences : ℕ → List Instr
differences divisor = less_once divisor 32 ++ (less_once divisor 24 ++ (less_once divisor 16 ++ less_once divisor 8))

abbrev pub subtracted : (dividend divisor : ℕ) → List Instr
subtracted dividend divisor = bytes_asked dividend divisor ++ (differences divisor ++ all_taken divisor)

-- that before a call, if neither word is a constant
abbrev pub tried : Source → Source → List Piece → List Piece
tried (AtAddress p) (AtAddress q) ps = Code (subtracted p q) ∷ ps
tried a b ps = ps

-- a word divided by another one, by the routine
abbrev pub rest_asked : ℕ → Source → Source → List Piece
rest_asked n a b = lined_code (may_be_zero b) n (tried a b (Code (brought a LEFT) ∷ Code (brought b RIGHT) ∷ Code (call DIVIDE_AT) ∷ []))

-- the sign of a word goes to N; what is negated if it is set; and what is copied after it
abbrev pub sign_looked_at : Source → List Instr
sign_looked_at a = lda (high a) ∷ []

abbrev pub rest_turned : List Instr
rest_turned = taken (FixedWord 0) (AtAddress RESULT) RESULT

abbrev pub signed_rest : Way → (at : ℕ) → Source → ℕ → List Piece
signed_rest first at a to = over_code first at (sign_looked_at a) Negative false rest_turned (copied RESULT to)

abbrev pub rest_at : (n at : ℕ) → Source → Source → ℕ
rest_at n at a b = at + pieces_size (rest_asked n a b)

-- the lowest bits of a word go to A, 0 to X, the word's sign to N; what is done if it is below 0; and both are stored
abbrev pub rest_and_sign : ℕ → Source → List Instr
rest_and_sign bits a = lda (low a) ∷ ins 0x29 bits ∷ ins 0xA2 0 ∷ ldy (high a) ∷ []

abbrev pub rest_below : ℕ → List Instr
rest_below bits =
    ins 0x18 0 ∷ ins 0x69 bits ∷ ins 0x29 bits ∷ ins 0x38 0 ∷ ins 0xE9 bits ∷ ins 0xA8 0 ∷ ins 0xA9 0 ∷ ins 0xE9 0 ∷ ins 0xAA 0 ∷ ins 0x98 0 ∷ []

abbrev pub both_stored : ℕ → List Instr
both_stored to = ins 0x8D to ∷ ins 0x8E (to + 1) ∷ []

-- a multiple is taken away from a byte in A that is not below it; the same of a word in A and X, which is compared first
abbrev pub byte_round : ℕ → List Instr
byte_round k = ins 0xC9 k ∷ ins 0x90 2 ∷ ins 0xE9 k ∷ []

abbrev pub high_compared : ℕ → List Instr
high_compared k = ins 0xE0 (k / 256) ∷ ins 0x90 14 ∷ ins 0xD0 4 ∷ []

abbrev pub low_compared : ℕ → List Instr
low_compared k = ins 0xC9 (k % 256) ∷ ins 0x90 8 ∷ []

abbrev pub taken_away : ℕ → List Instr
taken_away k = ins 0xE9 (k % 256) ∷ ins 0xA8 0 ∷ ins 0x8A 0 ∷ ins 0xE9 (k / 256) ∷ ins 0xAA 0 ∷ ins 0x98 0 ∷ []

abbrev pub round : ℕ → List Instr
round k = if nat_lt k 128 then byte_round k else high_compared k ++ (low_compared k ++ taken_away k)

-- n of these, the last one for k
abbrev pub rounds : ℕ → ℕ → List Instr
rounds zero k = []
rounds (suc n) k = rounds n (2 * k) ++ round k

-- the word in A and X is negated
abbrev pub negated : List Instr
negated = ins 0x49 255 ∷ ins 0x18 0 ∷ ins 0x69 1 ∷ ins 0xA8 0 ∷ ins 0x8A 0 ∷ ins 0x49 255 ∷ ins 0x69 0 ∷ ins 0xAA 0 ∷ ins 0x98 0 ∷ []

-- a word goes to A and X; from 0 to 255 it goes past six rounds, and below 0 it is negated
abbrev pub both_loaded : Source → List Instr
both_loaded a = lda (low a) ∷ ldx (high a) ∷ ins 0xF0 123 ∷ ins 0x10 13 ∷ []

-- what is in A and X is negated unless a word's sign is clear, and is stored
abbrev pub sign_tested : Source → List Instr
sign_tested a = ldy (high a) ∷ ins 0x10 13 ∷ []

-- the remainder of a word by a divisor that n doublings bring above 512
abbrev pub reduced : (n d : ℕ) → Source → ℕ → List Instr
reduced n d a to = both_loaded a ++ (negated ++ (rounds (n + 6) d ++ (sign_tested a ++ (negated ++ both_stored to))))

-- a remainder with the word's sign: by the word's lowest bits if the divisor is a power of two, by a constant's multiples or by
-- the routine; and that its branch reaches
abbrev pub rest_code : Option ℕ → Option (ℕ × ℕ) → Way → (n at : ℕ) → Source → Source → ℕ → List Piece
rest_code (Some bits) o first n at a b to = over_code first at (rest_and_sign bits a) Negative false (rest_below bits) (both_stored to)
rest_code None (Some r) first n at a b to = Code (reduced r.0 r.1 a to) ∷ []
rest_code None None first n at a b to = rest_asked n a b ++ signed_rest first (rest_at n at a b) a to

abbrev pub RestReachesBy : Option ℕ → Option (ℕ × ℕ) → Way → (n at : ℕ) → Source → Source → Type 0
RestReachesBy (Some bits) o first n at a b = OverReaches first at (rest_and_sign bits a) (rest_below bits)
RestReachesBy None (Some r) first n at a b = Unit {0}
RestReachesBy None None first n at a b = OverReaches first (rest_at n at a b) (sign_looked_at a) rest_turned

abbrev pub remains_code : Way → (n at : ℕ) → Source → Source → ℕ → List Piece
remains_code first n at a b to = rest_code (mask b) (doublings b) first n at a b to

abbrev pub RestReaches : Way → (n at : ℕ) → Source → Source → Type 0
RestReaches first n at a b = RestReachesBy (mask b) (doublings b) first n at a b

-- ---- a result that goes on by a constant
-- the address of that second calculation
abbrev pub going_at : Way → (n at : ℕ) → Operator → Source → Source → ℕ → ℕ
going_at first n at op a b to = at + pieces_size (computed_code first n at op a b to)

abbrev pub stepped_code : (first second : Way) (n at : ℕ) → Operator → Source → Source → Operator → Source → ℕ → List Piece
stepped_code first second n at op a b by c to = computed_code first n at op a b to ++ computed_code second n (going_at first n at op a b to) by (AtAddress to) c to

abbrev pub StepReaches : (first second : Way) (n at : ℕ) → Operator → Source → Source → Operator → Source → ℕ → Type 0
StepReaches first second n at op a b by c to =
    ChangedReaches (change_of op a b to) first at to × ChangedReaches (change_of by (AtAddress to) c to) second (going_at first n at op a b to) to

-- ---- GOSUB and RETURN in line
-- a byte goes to X, and Z tells whether it is 0
abbrev pub asked : ℕ → List Instr
asked place = ins 0xAE place ∷ []

-- a return's two bytes go after the others, and the low byte of their count goes up
abbrev pub return_stored : (low high : ℕ) → List Instr
return_stored low high = ins 0xAE NOTES ∷ ins 0xA9 low ∷ ins 0x9D RETURN_LOW ∷ ins 0xA9 high ∷ ins 0x9D RETURN_HIGH ∷ ins 0xEE NOTES ∷ []

-- X is the low byte of the count of returns: it goes down, and the newest return's two bytes go to page zero
abbrev pub return_taken : List Instr
return_taken = ins 0xCA 0 ∷ ins 0x8E NOTES ∷ ins 0xBD RETURN_LOW ∷ ins 0x85 LEFT ∷ ins 0xBD RETURN_HIGH ∷ ins 0x85 (LEFT + 1) ∷ []

-- where the second branch of a call is, where the line is gone to in line, and where the routine is used
abbrev pub counted_at : Way → ℕ → ℕ
counted_at first at = at + 3 + way_size first + 16

abbrev pub held_at : (first second : Way) → ℕ → ℕ
held_at first second at = counted_at first at + way_size second + 3

abbrev pub pushing_at : (first second : Way) → ℕ → ℕ
pushing_at first second at = held_at first second at + 3

-- the return is put on the list by the routine
abbrev pub pushing_code : Layout → ℕ → ℕ → List Piece
pushing_code ly n to = Code (constant n LINE) ∷ Code (pointed (next_at ly n) LEFT) ∷ Code (call PUSH_AT) ∷ Code (jump (ly.start to)) ∷ []

-- a jump to the line
abbrev pub going_code : Layout → ℕ → ℕ → List Piece
going_code ly n to = Code (jump (ly.start to)) ∷ pushing_code ly n to

-- the count of returns has a carry
abbrev pub raising_code : Layout → ℕ → ℕ → List Piece
raising_code ly n to = Code (ins 0xEE (NOTES + 1) ∷ []) ∷ going_code ly n to

-- the return is put on the list in line
abbrev pub noting_code : Layout → (n at : ℕ) (first second : Way) → ℕ → List Piece
noting_code ly n at first second to =
    Code (return_stored (next_at ly n % 256) (next_at ly n / 256))
    ∷ Code (branch_code second (branch_on Zero false) (counted_at first at) (held_at first second at))
    ∷ raising_code ly n to

-- a call of a line
abbrev pub called_code : Layout → (n at : ℕ) (first second : Way) → ℕ → List Piece
called_code ly n at first second to =
    Code (asked (NOTES + 1)) ∷ Code (branch_code first (branch_on Zero false) (at + 3) (pushing_at first second at)) ∷ noting_code ly n at first second to

-- a call of a line, by whether there is one
abbrev pub call_code : Layout → (n at : ℕ) (first second : Way) → Bool → ℕ → List Piece
call_code ly n at first second true to = called_code ly n at first second to
call_code ly n at first second false to = Code (faulting n 1) ∷ []

abbrev pub CallReaches : (first second : Way) → ℕ → Bool → Type 0
CallReaches first second at true = BranchReaches first (at + 3) (pushing_at first second at) × BranchReaches second (counted_at first at) (held_at first second at)
CallReaches first second at false = Unit {0}

-- where a return tests the low byte, and where the routine is used
abbrev pub some_at : Way → ℕ → ℕ
some_at first at = at + 3 + way_size first

abbrev pub popping_at : (first second : Way) → ℕ → ℕ
popping_at first second at = some_at first at + 3 + way_size second + 14 + 3

-- the newest return is taken by the routine
abbrev pub popping_code : ℕ → List Piece
popping_code n = Code (constant n LINE) ∷ Code (call POP_AT) ∷ Code jump_through ∷ []

-- the newest return is taken in line
abbrev pub taking_code : ℕ → List Piece
taking_code n = Code return_taken ∷ Code (jump_by LEFT) ∷ popping_code n

-- a return, after the test of the count's high byte
abbrev pub low_code : (n at : ℕ) (first second : Way) → List Piece
low_code n at first second =
    Code (asked NOTES) ∷ Code (branch_code second (branch_on Zero true) (some_at first at + 3) (popping_at first second at)) ∷ taking_code n

abbrev pub returned_code : (n at : ℕ) (first second : Way) → List Piece
returned_code n at first second =
    Code (asked (NOTES + 1)) ∷ Code (branch_code first (branch_on Zero false) (at + 3) (popping_at first second at)) ∷ low_code n at first second

abbrev pub ReturnReaches : (first second : Way) → ℕ → Type 0
ReturnReaches first second at = BranchReaches first (at + 3) (popping_at first second at) × BranchReaches second (some_at first at + 3) (popping_at first second at)

-- ---- groups
-- whether an instruction alone always has branches; and whether a group may have one
abbrev pub has_branches : slots.Instr → Bool
has_branches (slots.CallTo to) = true
has_branches slots.Return = true
has_branches _ = false

abbrev pub is_branching : Group → Bool
is_branching (Single i) = has_branches i
is_branching (Calculate op a b d) = true
is_branching (Stepped op a b by w x) = true
is_branching (Remains x d to) = true
is_branching _ = false

-- the code of an instruction with branches, and that these reach
abbrev pub branching_code : Layout → (n at : ℕ) (first second : Way) → slots.Instr → List Piece
branching_code ly n at first second (slots.CallTo to) = call_code ly n at first second (has_line ly.numbers to) to
branching_code ly n at first second slots.Return = returned_code n at first second
branching_code ly n at first second _ = []

abbrev pub BranchingReaches : Layout → (first second : Way) → ℕ → slots.Instr → Type 0
BranchingReaches ly first second at (slots.CallTo to) = CallReaches first second at (has_line ly.numbers to)
BranchingReaches ly first second at slots.Return = ReturnReaches first second at
BranchingReaches ly first second at _ = Unit {0}

abbrev pub OnlyIf : Bool → Type 0 → Type 0
OnlyIf true claim = claim
OnlyIf false claim = Unit {0}

-- an instruction alone without branches, with LINE set before it if it may fault
abbrev pub plain_code : Layout → ℕ → ℕ → slots.Instr → List Piece
plain_code ly n at i = if may_fault i then Code (constant n LINE) ∷ template ly n (at + 10) i else template ly n at i

abbrev pub alone_code : Layout → (n at : ℕ) (first second : Way) → slots.Instr → List Piece
alone_code ly n at first second i = if has_branches i then branching_code ly n at first second i else plain_code ly n at i

-- the code of a group of line n, at an address, with the ways of its branches
abbrev pub group_code : Layout → (n at : ℕ) (first second : Way) → Group → List Piece
group_code ly n at first second (Calculate op a b d) = computed_code first n at op (source_of (slot_of d) a) (source_of (slot_of d + 1) b) (destination_at d)
group_code ly n at first second (Stepped op a b by w x) = stepped_code first second n at op (source_of 0 a) (source_of 1 b) by (source_of 1 (Constant w)) (var_at x)
group_code ly n at first second (Convert what a d) = convert_code ly n what (source_of (slot_of d) a) (destination_at d)
group_code ly n at first second (Move a home) = Code (brought (source_of 0 a) (home_at home)) ∷ []
group_code ly n at first second (Use how a) = use_code ly n how (source_of 0 a)
group_code ly n at first second (Test rel a b) = test_code rel first second at (tested_source a) (source_of 0 b) (next_at ly n)
group_code ly n at first second (TestGo rel a b to) = go_code ly n at first second rel (tested_source a) (source_of 0 b) (has_line ly.numbers to) to
group_code ly n at first second (Remains x d to) = remains_code first n at (AtAddress (var_at x)) (source_of (slot_of to + 2) d) (destination_at to)
group_code ly n at first second (Divides how x d side to) = divides_code ly n at first how (source_of 0 (Variable x)) (source_of 1 d) to
group_code ly n at first second (Single i) = alone_code ly n at first second i

-- the branches of a group reach
abbrev pub BranchesReach : Layout → (n at : ℕ) (first second : Way) → Group → Type 0
BranchesReach ly n at first second (Calculate op a b d) = ChangedReaches (change_of op (source_of (slot_of d) a) (source_of (slot_of d + 1) b) (destination_at d)) first at (destination_at d)
BranchesReach ly n at first second (Stepped op a b by w x) = StepReaches first second n at op (source_of 0 a) (source_of 1 b) by (source_of 1 (Constant w)) (var_at x)
BranchesReach ly n at first second (Remains x d to) = RestReaches first n at (AtAddress (var_at x)) (source_of (slot_of to + 2) d)
BranchesReach ly n at first second (Test rel a b) = TestReaches rel first second at (tested_source a) (source_of 0 b) (next_at ly n)
BranchesReach ly n at first second (TestGo rel a b to) = GoReaches ly n at first second rel (tested_source a) (source_of 0 b) (has_line ly.numbers to) to
BranchesReach ly n at first second (Divides how x d side to) = DividesReach ly n at first (source_of 0 (Variable x)) (source_of 1 d) to
BranchesReach ly n at first second (Single i) = OnlyIf (has_branches i) (BranchingReaches ly first second at i)
BranchesReach ly n at first second _ = Unit {0}

-- what is said of what follows a group, if its code may go on into that
abbrev pub Behind : Group → Type 0 → Type 0
Behind g claim = OnlyIf (not (leaves g)) claim

-- the groups of the rest of line n, after which the next line begins if they go on into what follows them
abbrev pub GroupsLie : Layout → Part → (n at : ℕ) → List Group → Type 0
GroupsLie ly code n at [] = at ≡ next_at ly n
GroupsLie ly code n at (g ∷ gs) =
    (first second : Way) × AreInRange 256 (expand_all (g ∷ gs)) × Lies code at (group_code ly n at first second g)
    × Behind g (GroupsLie ly code n (at + pieces_size (group_code ly n at first second g)) gs) × BranchesReach ly n at first second g × (0x0800 ≤ at)

-- ---- lines
-- after the call of GETIN, at an address: a branch if STOP was pressed, or, in a line that goes on, if it wasn't
abbrev pub poll_code : (at : ℕ) → (away : Bool) → Way → ℕ → List Piece
poll_code at away way to = Code (ins 0xC9 3 ∷ []) ∷ Code (branch_code way (branch_on Zero away) (at + 2) to) ∷ []

-- what is done for the STOP key in line n
abbrev pub broken_code : ℕ → List Piece
broken_code n = Code (faulting n 0) ∷ []

-- a line whose list begins with a poll; its first instruction is among all the program's bytes only; what is done for the
-- STOP key and the line's groups are where the branch goes and behind it, or the other way round
abbrev pub LineStands : Layout → (code whole : Part) (n at : ℕ) → List slots.Instr → Type 0
LineStands ly code whole n at is =
    (away : Bool) × (way : Way) × (to : ℕ) × (at + 3 ≤ highest_code) × Stands whole at (call GETIN) × Lies code (at + 3) (poll_code (at + 3) away way to)
    × BranchReaches way (at + 5) to × Lies code (cond away to (at + 5 + way_size way)) (broken_code n)
    × GroupsLie ly code n (cond away (at + 5 + way_size way) to) (select is)

-- a list that begins with a poll, with the code of the rest after it
pub record PolledLine (ly : Layout) (code whole : Part) (n : ℕ) (js : List slots.Instr) : Type 0 where
  pub rest : List slots.Instr
  pub polled : js ≡ slots.Poll ∷ rest
  pub stands : LineStands ly code whole n (ly.start n) rest
  pub small : n < 65536

-- a program's code by groups, with and without the first byte of each line
pub record GroupsLaid (ly : Layout) (code whole : Part) (program : slots.SlotCode) : Type 0 where
  pub numbered : numbers program ≡ ly.numbers
  pub lines : (n : ℕ) (js : List slots.Instr) → content_at program n ≡ Some js → PolledLine ly code whole n js
  pub absent : (n : ℕ) → content_at program n ≡ None → ly.start n ≡ ly.past
  pub places : (p : Place) → place_address ly p < 65536
  pub past : Lies code ly.past (past_code ly)
  pub find : Lies code ly.find (find_code (compares program) ly)
  pub rising : Rises 0 65536 ly.numbers
  pub top : highest ly.numbers < 65536
  pub table_small : ly.table < 65536
  pub count_small : length ly.numbers < 65536
  pub seed_small : ly.seed < 65536
