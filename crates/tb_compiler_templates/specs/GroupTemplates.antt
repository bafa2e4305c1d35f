-- The code of each group, as items of the assembler.
use Rattle.std.specs.Prelude.{ℕ, ◌+◌, ◌/◌, ◌%◌, Bool, true, false, List, [], ◌∷◌, ◌++◌, if◌then◌else◌, Option, Some, None, ◌||◌, nat_eq, nat_le}
use Rattle.tb_opcodes.specs.declared.Mnemonic.{Mnemonic}
use Rattle.tb_opcodes.specs.declared.Mnemonic.TheVariants.{Adc, Beq, Bpl, Bne, Clc, Cmp, Lda, Ora, Sbc, Sec, Sta}
use Rattle.tb_asm.specs.Layout.{Entry}
use Rattle.tb_words.specs.declared.Rel.{Rel}
use Rattle.tb_words.specs.declared.Rel.TheVariants.{Eq, Lt, Gt, Le, Ge, Ne}
use Rattle.tb_basic_syntax.specs.declared.expressions.Operator.{Operator}
use Rattle.tb_basic_syntax.specs.declared.expressions.Operator.TheVariants.{Add, Subtract, Multiply, Divide}
use Rattle.tb_basic_meaning.specs.Control.{has_line}
use Rattle.tb_lower.specs.Slots.{Instr, Input, Poll}
use Rattle.tb_compiler_selection.specs.Groups.{Conversion, Negated, Drawn, Usage, AsNumber, AsLine, AsSubroutine, Constant, Variable, Divisibility, Divisible}
use Rattle.tb_compiler_selection.specs.Groups.{Indivisible, Group, Calculate, Stepped, Convert, Move, Use, Test, TestGo, Divides, Remains, Single, contrary, denied}
use Rattle.tb_compiler_selection.specs.Groups.{slot_of}
use Rattle.tb_compiled_kept.specs.Addresses.{LEFT, RIGHT, RESULT, WANTED, LINE, var_at}
use Rattle.tb_runtime16.specs.Addresses.{MULTIPLY_AT, DIVIDE_AT, RANDOM_AT, NUMBER_AT}
use Rattle.tb_compiler_templates.specs.declared.labels.Inner.TheVariants.{Behind, Skip}
use Rattle.tb_compiler_templates.specs.declared.labels.Target.{Target}
use Rattle.tb_compiler_templates.specs.declared.labels.Target.TheVariants.{Inside, Line}
use Rattle.tb_compiler_templates.specs.Templates.{at, const, on, alone, branch, here, call, copied, constant, faulted, find, return_address, jump_through, next_line, template}
use Rattle.tb_compiler_templates.specs.Sources.{Source, FixedWord, AtAddress, source_of, tested_source, home_at, destination_at}
pub use Rattle.tb_compiler_templates.specs.Sources.{low_of, high_of}
use Rattle.tb_compiler_templates.specs.Scaled.{scaling, times, shifts, shifted}
use Rattle.tb_compiler_templates.specs.Orders.{Below, NotBelow, ordered}
use Rattle.tb_compiler_templates.specs.InPlace.{Change, change_of, changed}
use Rattle.tb_compiler_templates.specs.Masks.{mask, lowest_bits, masked_rest}
use Rattle.tb_compiler_templates.specs.Reduced.{doublings, reduced_rest}
use Rattle.tb_compiler_templates.specs.Subtracted.{tried}

-- ── words ──
-- a word to an address
abbrev pub brought : Source → ℕ → List Entry
brought a to = low_of Lda a ∷ on Sta to ∷ high_of Lda a ∷ on Sta (to + 1) ∷ []

-- two words combined byte by byte, with C from the low bytes to the high ones
abbrev pub joined : Mnemonic → Source → Source → ℕ → List Entry
joined mnemonic a b to = low_of Lda a ∷ low_of mnemonic b ∷ at Sta to ∷ high_of Lda a ∷ high_of mnemonic b ∷ at Sta (to + 1) ∷ []

-- the sum of two words
abbrev pub summed : Source → Source → ℕ → List Entry
summed a b to = alone Clc ∷ joined Adc a b to

-- the left word less the right one
abbrev pub taken : Source → Source → ℕ → List Entry
taken a b to = alone Sec ∷ joined Sbc a b to

-- what a routine computes from two words, from where it leaves the result
abbrev pub handed : ℕ → ℕ → Source → Source → ℕ → List Entry
handed routine from a b to = brought a LEFT ++ (brought b RIGHT ++ (call routine ∷ copied from to))

-- code with the line's number set before it if it may fault
abbrev pub lined : Bool → ℕ → List Entry → List Entry
lined true n es = constant n LINE ++ es
lined false n es = es

-- whether a division by this word may fault: known if it is a constant
abbrev pub may_be_zero : Source → Bool
may_be_zero (FixedWord w) = nat_eq w 0
may_be_zero (AtAddress p) = true

-- whether a draw below this word may fault: known if it is a constant
abbrev pub may_have_none : Source → Bool
may_have_none (FixedWord w) = nat_eq w 0 || nat_le 32768 w
may_have_none (AtAddress p) = true

-- a product: of a constant and a word by the constant's bits, if they are few, and else by the routine
abbrev pub multiplied : Option (ℕ × Source) → Source → Source → ℕ → List Entry
multiplied (Some scaled) a b to = times scaled.0 scaled.1 to
multiplied None a b to = handed MULTIPLY_AT RESULT a b to

-- a quotient of line n: over 2^(k + 1) by shifts; any other by the routine
abbrev pub divided : ℕ → Option ℕ → Source → Source → ℕ → List Entry
divided n (Some k) a b to = shifted k a to
divided n None a b to = lined (may_be_zero b) n (handed DIVIDE_AT LEFT a b to)

-- a calculation of line n
abbrev pub calculated : ℕ → Operator → Source → Source → ℕ → List Entry
calculated n Add a b to = summed a b to
calculated n Subtract a b to = taken a b to
calculated n Multiply a b to = multiplied (scaling a b) a b to
calculated n Divide a b to = divided n (shifts b) a b to

-- a calculation, by changing a word in place if it is such a change
abbrev pub changed_or : Option Change → ℕ → Target → Operator → Source → Source → ℕ → List Entry
changed_or (Some change) n skip op a b to = changed change to skip
changed_or None n skip op a b to = calculated n op a b to

-- a calculation, by the change in place that it is, if it is one
abbrev pub computed : ℕ → Target → Operator → Source → Source → ℕ → List Entry
computed n skip op a b to = changed_or (change_of op a b to) n skip op a b to

-- a calculation whose result goes to an address, and goes on there by a constant
abbrev pub stepped : ℕ → (skip behind : Target) → Operator → Source → Source → Operator → Source → ℕ → List Entry
stepped n skip behind op a b by c to = computed n skip op a b to ++ computed n behind by (AtAddress to) c to

-- a word made of one in line n: 0 minus it, or a random number below it; the seed is the first RND state
abbrev pub converted : ℕ → ℕ → Conversion → Source → ℕ → List Entry
converted n seed Negated a to = taken (FixedWord 0) a to
converted n seed Drawn a to = lined (may_have_none a) n (handed RANDOM_AT RESULT (FixedWord seed) a to)

-- the search in the line table for a word: it may fault, and so the line's number is set first
abbrev pub searched : ℕ → Source → List Entry
searched n a = constant n LINE ++ (brought a WANTED ++ (find ∷ []))

-- a word used in line n: it is sent, or the line of this number is gone to or called
abbrev pub used : ℕ → Target → Usage → Source → List Entry
used n next AsNumber a = brought a LEFT ++ (call NUMBER_AT ∷ [])
used n next AsLine a = searched n a ++ jump_through
used n next AsSubroutine a = searched n a ++ (return_address next ++ jump_through)

-- ── tests ──
-- A against a constant byte, for Z alone: the load of A has set it if that byte is 0
abbrev pub unless_none : ℕ → List Entry
unless_none b = if nat_eq b 0 then [] else const Cmp b ∷ []

-- A against the low byte of a word, and against its high byte, for Z alone
abbrev pub low_against : Source → List Entry
low_against (FixedWord w) = unless_none (w % 256)
low_against (AtAddress p) = at Cmp p ∷ []

abbrev pub high_against : Source → List Entry
high_against (FixedWord w) = unless_none (w / 256)
high_against (AtAddress p) = at Cmp (p + 1) ∷ []

-- Z tells whether the low bytes of two words are equal, or the high ones
abbrev pub low_matched : Source → Source → List Entry
low_matched a b = low_of Lda a ∷ low_against b

abbrev pub high_matched : Source → Source → List Entry
high_matched a b = high_of Lda a ∷ high_against b

-- goes on in the line if both bytes are equal
abbrev pub equal : Source → Source → Target → List Entry
equal a b next = low_matched a b ++ (branch Bne next ∷ (high_matched a b ++ (branch Bne next ∷ [])))

-- goes on in the line if one of the two bytes differs
abbrev pub unequal : Source → Source → Target → Target → List Entry
unequal a b stays next = low_matched a b ++ (branch Bne stays ∷ (high_matched a b ++ (branch Beq next ∷ here stays ∷ [])))

-- leaves the line unless two words are in this relation
abbrev pub tested : Rel → Source → Source → Target → Target → List Entry
tested Eq a b skip next = equal a b next
tested Ne a b skip next = unequal a b skip next
tested Lt a b skip next = ordered Below a b skip next
tested Ge a b skip next = ordered NotBelow a b skip next
tested Gt a b skip next = ordered Below b a skip next
tested Le a b skip next = ordered NotBelow b a skip next

-- from line n straight to a line if two words are in this relation, and else on to the next line, which follows; if the
-- program has no such line, the test and then fault 1
abbrev pub gone : ℕ → Rel → Source → Source → Target → Target → Bool → ℕ → List Entry
gone n rel a b skip next true to = tested (denied rel) a b skip (Line to)
gone n rel a b skip next false to = tested rel a b skip next ++ faulted n 1

-- ── divisibility ──
-- the size of a division's remainder, with Z set if it is 0
abbrev pub told : List Entry
told = call DIVIDE_AT ∷ at Lda RESULT ∷ at Ora (RESULT + 1) ∷ []

-- the size of the remainder of a word divided by another one, with Z set if it is 0
abbrev pub remainder : Source → Source → List Entry
remainder a b = brought a LEFT ++ (brought b RIGHT ++ told)

-- in line n, Z tells whether a divisor divides a word: by the word's lowest bits if that is a power of two
abbrev pub left_over : ℕ → Option ℕ → Source → Source → List Entry
left_over n (Some bits) a b = lowest_bits bits a
left_over n None a b = lined (may_be_zero b) n (remainder a b)

-- the branch that leaves unless a word is what is asked for
abbrev pub unless : Divisibility → Mnemonic
unless Divisible = Bne
unless Indivisible = Beq

-- leaves line n unless a word is a multiple of a divisor, or unless it is not
abbrev pub divided_by : ℕ → Divisibility → Source → Source → Target → List Entry
divided_by n how a b next = left_over n (mask b) a b ++ (branch (unless how) next ∷ [])

-- straight to a line if the word is what is asked for, as `gone` does
abbrev pub divided_gone : ℕ → Divisibility → Source → Source → Target → Bool → ℕ → List Entry
divided_gone n how a b next true to = divided_by n (contrary how) a b (Line to)
divided_gone n how a b next false to = divided_by n how a b next ++ faulted n 1

-- a test by a divisor that leads to a line, if there is one
abbrev pub divides : List ℕ → ℕ → Divisibility → Source → Source → Option ℕ → List Entry
divides numbers n how a b None = divided_by n how a b (next_line numbers n)
divides numbers n how a b (Some to) = divided_gone n how a b (next_line numbers n) (has_line numbers to) to

-- ── remainders ──
-- the routine divides a word of line n by another one, and leaves the remainder's size; of bytes it may be made by differences
abbrev pub asked_rest : ℕ → Source → Source → List Entry
asked_rest n a b = lined (may_be_zero b) n (tried a b (brought a LEFT ++ (brought b RIGHT ++ (call DIVIDE_AT ∷ []))))

-- the remainder goes to an address, with the sign of the word that was divided
abbrev pub signed_rest : Target → Source → ℕ → List Entry
signed_rest skip a to = high_of Lda a ∷ branch Bpl skip ∷ (taken (FixedWord 0) (AtAddress RESULT) RESULT ++ (here skip ∷ copied RESULT to))

-- a remainder with the word's sign: by a constant's multiples, if the divisor is such a constant, or else by the routine
abbrev pub other_rest : ℕ → Option (ℕ × ℕ) → Target → Source → Source → ℕ → List Entry
other_rest n (Some r) skip a b to = reduced_rest r.0 r.1 a to
other_rest n None skip a b to = asked_rest n a b ++ signed_rest skip a to

-- by the word's lowest bits if the divisor is a power of two up to 256
abbrev pub rest_by : ℕ → Option ℕ → Option (ℕ × ℕ) → Target → Source → Source → ℕ → List Entry
rest_by n (Some bits) r skip a b to = masked_rest bits skip a to
rest_by n None r skip a b to = other_rest n r skip a b to

-- the remainder of a word by a divisor, with the word's sign, in line n
abbrev pub remains : ℕ → Target → Source → Source → ℕ → List Entry
remains n skip a b to = rest_by n (mask b) (doublings b) skip a b to

-- ── templates ──
-- whether a routine that a single instruction calls in any case may fault: then the line's number is set first
abbrev pub may_fault : Instr → Bool
may_fault (Input x) = true
may_fault Poll = true
may_fault _ = false

-- the code of a single instruction, with the line's number before it if it may fault
abbrev pub single : List ℕ → ℕ → ℕ → Instr → List Entry
single numbers n i c = if may_fault c then constant n LINE ++ template numbers n i c else template numbers n i c

-- the code of group i of line n, from 1 on, if the program has these numbers and the option's RND state is the seed
abbrev pub group_template : List ℕ → ℕ → ℕ → ℕ → Group → List Entry
group_template numbers seed n i (Calculate op a b d) = computed n (Inside Skip n i) op (source_of (slot_of d) a) (source_of (slot_of d + 1) b) (destination_at d)
group_template numbers seed n i (Stepped op a b by w x) = stepped n (Inside Skip n i) (Inside Behind n i) op (source_of 0 a) (source_of 1 b) by (source_of 1 (Constant w)) (var_at x)
group_template numbers seed n i (Convert what a d) = converted n seed what (source_of (slot_of d) a) (destination_at d)
group_template numbers seed n i (Move a home) = brought (source_of 0 a) (home_at home)
group_template numbers seed n i (Use how a) = used n (next_line numbers n) how (source_of 0 a)
group_template numbers seed n i (Test rel a b) = tested rel (tested_source a) (source_of 0 b) (Inside Skip n i) (next_line numbers n)
group_template numbers seed n i (TestGo rel a b to) =
    gone n rel (tested_source a) (source_of 0 b) (Inside Skip n i) (next_line numbers n) (has_line numbers to) to
group_template numbers seed n i (Remains x d to) = remains n (Inside Skip n i) (AtAddress (var_at x)) (source_of (slot_of to + 2) d) (destination_at to)
group_template numbers seed n i (Divides how x d side to) = divides numbers n how (source_of 0 (Variable x)) (source_of 1 d) to
group_template numbers seed n i (Single c) = single numbers n i c
