-- The items of a program's code have forms that exist, and they may be moved.
use Rattle.std.proofs.Common.{◌≡◌, ℕ, ◌+◌, Bool, true, false, List, [], ◌∷◌, ◌++◌, length, refl, sym, ap, ◌∙◌, is_some, true≢false, Option, Some, None}
use Rattle.std.specs.Prelude.{◌&&◌, if◌then◌else◌, nat_lt}
use Rattle.std.specs.List.{list_all}
use Rattle.std.proofs.lemmas.Bool.{and_from}
use Rattle.tb_opcodes.specs.declared.Mnemonic.{Mnemonic}
use Rattle.tb_opcodes.specs.declared.Mnemonic.TheVariants.{Beq, Bne, Lda, Sta}
use Rattle.tb_opcodes.specs.declared.Mode.{Mode}
use Rattle.tb_opcodes.specs.declared.Mode.TheVariants.{Absolute, Relative, ZeroPage}
use Rattle.tb_opcodes.specs.Opcodes.{rows, find_opcode, encoded}
use Rattle.tb_words.specs.declared.Rel.{Rel}
use Rattle.tb_basic_syntax.specs.declared.expressions.Operator.{Operator}
use Rattle.tb_basic_syntax.specs.declared.expressions.Operator.TheVariants.{Add, Subtract, Multiply, Divide}
use Rattle.tb_asm.specs.declared.items.Operand.TheVariants.{Byte, Word}
use Rattle.tb_asm.specs.Layout.{Entry, instr, label, bytes, word, suits, has_mode}
use Rattle.tb_basic_meaning.specs.Control.{has_line}
use Rattle.tb_lower.specs.Slots.{Instr, SendText, Load, JumpTo, CallTo, SlotCode}
use Rattle.tb_compiler_selection.specs.Groups.{Conversion, Negated, Drawn, Usage, AsNumber, AsLine, AsSubroutine, Constant, Variable, Divisibility, Divisible}
use Rattle.tb_compiler_selection.specs.Groups.{Indivisible, Group, Calculate, Stepped, Convert, Move, Use, Test, TestGo, Divides, Remains, Single, contrary, denied}
use Rattle.tb_compiler_selection.specs.Groups.{slot_of}
use Rattle.tb_compiler_selection.specs.Select.{select}
use Rattle.tb_compiled_kept.specs.Addresses.{LEFT, RIGHT, RESULT, LINE, var_at}
use Rattle.tb_runtime16.specs.Addresses.{MULTIPLY_AT, DIVIDE_AT, RANDOM_AT}
use Rattle.tb_compiler_templates.specs.declared.labels.Inner.TheVariants.{Behind, Skip, Text}
use Rattle.tb_compiler_templates.specs.declared.labels.Target.{Target}
use Rattle.tb_compiler_templates.specs.declared.labels.Target.TheVariants.{Inside, Line}
use Rattle.tb_compiler_templates.specs.Templates.{branch, byte_sent, here, only_byte, sent, slot_at, on, template, faulted, jump_to, call_to, next_line, call, copied, constant}
use Rattle.tb_compiler_templates.specs.Sources.{source_of, tested_source, home_at, destination_at}
use Rattle.tb_compiler_templates.specs.declared.sources.Source.{Source}
use Rattle.tb_compiler_templates.specs.declared.sources.Source.TheVariants.{FixedWord, AtAddress}
use Rattle.tb_compiler_templates.specs.GroupTemplates.{brought, summed, taken, handed, multiplied, divided, calculated, computed, changed_or, converted, used, equal}
use Rattle.tb_compiler_templates.specs.GroupTemplates.{unequal, tested, gone, may_fault, group_template, lined, may_be_zero, may_have_none, left_over, unless}
use Rattle.tb_compiler_templates.specs.GroupTemplates.{divided_by, divided_gone, divides, asked_rest, signed_rest, rest_by, low_matched, high_matched}
use Rattle.tb_compiler_templates.specs.Scaled.{scaling, times, shifts, shifted}
use Rattle.tb_compiler_templates.specs.InPlace.{change_of, changed}
use Rattle.tb_compiler_templates.specs.declared.in_place.Change.{Change}
use Rattle.tb_compiler_templates.specs.declared.in_place.Change.TheVariants.{Increment, Decrement, Raise, Lower, Halve, Double}
use Rattle.tb_compiler_templates.specs.Masks.{mask}
use Rattle.tb_compiler_templates.specs.Reduced.{doublings, reduced_rest}
use Rattle.tb_compiler_program.proofs.Divided.{asked_rest_plain, left_over_plain}
use Rattle.tb_compiler_templates.proofs.Multiples.{reduced_plain}
use Rattle.tb_compiler_program.proofs.Sent.{byte_plain}
use Rattle.tb_compiler_templates.specs.Orders.{lifted, positive, ordered_by, signed, unless_carry, unless_negative, wanted_side, weighed}
use Rattle.tb_compiler_templates.specs.declared.orders.Side.{Side}
use Rattle.tb_compiler_templates.specs.declared.orders.Order.{Order}
use Rattle.tb_compiler_templates.specs.declared.orders.Side.TheVariants.{Below, NotBelow}
use Rattle.tb_compiler_templates.specs.declared.orders.Order.TheVariants.{BySign, ByPositive, ByConstant, ByDifference}
use Rattle.tb_compiler_program.specs.Program.{rest_code, list_code, line_code, lines_code, past_code, rows_code, table_code, program_code}
use Rattle.tb_compiler_templates.specs.Breaks.{polled, behind}
use Rattle.tb_compiler_program.specs.Search.{all_compared, compares, comparisons, find_code, looked_up}
use Rattle.tb_assembly_settling.specs.Settled.{may_move}
use Rattle.tb_basic_syntax.specs.Source.{numbers}
use Rattle.tb_compiler_program.proofs.Listed.{by_poll, tested_by}
use Rattle.tb_compiler_templates.proofs.Plain.{has_form, low_matched_plain, high_matched_plain, lifted_plain, plain_forms, times_plain, shifted_plain}

-- ── forms ──
encoded_by : (n : Mnemonic) (m : Mode) → encoded n m ≡ find_opcode rows n m
unfolding encoded
encoded_by n m = refl

left_true : (p q : Bool) → (p && q) ≡ true → p ≡ true
left_true true q h = refl
left_true false q h = h

right_true : (p q : Bool) → (p && q) ≡ true → q ≡ true
right_true true q h = h
right_true false q h = absurd (true≢false (sym h))

has_form_mode : (e : Entry) → has_form e ≡ true → has_mode e ≡ true
has_form_mode (instr n m o) h =
    let rest = right_true (is_some (find_opcode rows n m)) (suits m o && may_move (instr n m o)) h in
    and_from (is_some (encoded n m)) (suits m o) (ap is_some (encoded_by n m) ∙ left_true (is_some (find_opcode rows n m))
    (suits m o && may_move (instr n m o)) h) (left_true (suits m o) (may_move (instr n m o)) rest)
has_form_mode (label n) h = refl
has_form_mode (bytes bs) h = refl
has_form_mode (word o) h = h

has_form_moves : (e : Entry) → has_form e ≡ true → may_move e ≡ true
has_form_moves (instr n m o) h =
    right_true (suits m o) (may_move (instr n m o)) (right_true (is_some (find_opcode rows n m)) (suits m o && may_move (instr n m o)) h)
has_form_moves (label n) h = refl
has_form_moves (bytes bs) h = refl
has_form_moves (word o) h = refl

all_by : (p q : Entry → Bool) → ((e : Entry) → p e ≡ true → q e ≡ true) → (es : List Entry) → list_all p es ≡ true → list_all q es ≡ true
all_by p q f [] h = refl
all_by p q f (e ∷ es) h =
    and_from (q e) (list_all q es) (f e (left_true (p e) (list_all p es) h)) (all_by p q f es (right_true (p e) (list_all p es) h))

forms_append : (xs ys : List Entry) → list_all has_form xs ≡ true → list_all has_form ys ≡ true → list_all has_form (xs ++ ys) ≡ true
forms_append [] ys h k = k
forms_append (x ∷ xs) ys h k =
    and_from (has_form x) (list_all has_form (xs ++ ys)) (left_true (has_form x) (list_all has_form xs) h) (forms_append xs ys (right_true (has_form x) (list_all has_form xs) h) k)

-- ── single instructions ──
-- in either mode for an address
on_form : (m : Mnemonic) (p : ℕ) → has_form (instr m ZeroPage (Byte p)) ≡ true → has_form (instr m Absolute (Word p)) ≡ true → has_form (on m p) ≡ true
on_form m p h k = by (nat_lt p 256)
  where
    by : (t : Bool) → has_form (instr m (if t then ZeroPage else Absolute) (if t then Byte p else Word p)) ≡ true
    by true = h
    by false = k

copied_forms : (from to : ℕ) → list_all has_form (copied from to) ≡ true
copied_forms from to = λ i. on_form Lda from refl refl i && (on_form Lda (from + 1) refl refl i && true)

jump_forms : (ns : List ℕ) (n to : ℕ) (t : Bool) → has_line ns to ≡ t → list_all has_form (jump_to ns n to) ≡ true
jump_forms ns n to true e = rw e refl
jump_forms ns n to false e = rw e refl

call_forms : (ns : List ℕ) (n i to : ℕ) (t : Bool) → has_line ns to ≡ t → list_all has_form (call_to ns n i to (next_line ns n)) ≡ true
call_forms ns n i to true e = rw e refl
call_forms ns n i to false e = rw e refl

template_forms : (ns : List ℕ) (n i : ℕ) (c : Instr) → list_all has_form (template ns n i c) ≡ true
template_forms ns n i (Load k x) = copied_forms (var_at x) (slot_at k)
template_forms ns n i (SendText bs) = text_forms (only_byte bs)
  where
    text_forms : (o : Option ℕ) → list_all has_form (sent o (Inside Text n i) (Inside Behind n i) bs) ≡ true
    text_forms (Some b) = plain_forms (byte_sent b) (byte_plain b)
    text_forms None = refl
template_forms ns n i (JumpTo to) = jump_forms ns n to (has_line ns to) refl
template_forms ns n i (CallTo to) = call_forms ns n i to (has_line ns to) refl
template_forms ns n i _ = refl

single_forms : (t : Bool) (ns : List ℕ) (n i : ℕ) (c : Instr) → list_all has_form (if t then constant n LINE ++ template ns n i c else template ns n i c) ≡ true
single_forms true ns n i c = template_forms ns n i c
single_forms false ns n i c = template_forms ns n i c

-- ── groups ──
brought_forms : (a : Source) (to : ℕ) → list_all has_form (brought a to) ≡ true
brought_forms (FixedWord v) to = λ i. on_form Sta to refl refl i && (on_form Sta (to + 1) refl refl i && true)
brought_forms (AtAddress p) to = λ i. on_form Sta to refl refl i && (on_form Sta (to + 1) refl refl i && true)

summed_forms : (a b : Source) (to : ℕ) → list_all has_form (summed a b to) ≡ true
summed_forms (FixedWord v) (FixedWord w) to = refl
summed_forms (FixedWord v) (AtAddress q) to = refl
summed_forms (AtAddress p) (FixedWord w) to = refl
summed_forms (AtAddress p) (AtAddress q) to = refl

taken_forms : (a b : Source) (to : ℕ) → list_all has_form (taken a b to) ≡ true
taken_forms (FixedWord v) (FixedWord w) to = refl
taken_forms (FixedWord v) (AtAddress q) to = refl
taken_forms (AtAddress p) (FixedWord w) to = refl
taken_forms (AtAddress p) (AtAddress q) to = refl

handed_forms : (routine from : ℕ) (a b : Source) (to : ℕ) → list_all has_form (handed routine from a b to) ≡ true
handed_forms routine from a b to =
    forms_append (brought a LEFT) (brought b RIGHT ++ (call routine ∷ copied from to)) (brought_forms a LEFT)
    (forms_append (brought b RIGHT) (call routine ∷ copied from to) (brought_forms b RIGHT) (copied_forms from to))

lined_forms : (t : Bool) (n : ℕ) (es : List Entry) → list_all has_form es ≡ true → list_all has_form (lined t n es) ≡ true
lined_forms true n es h = h
lined_forms false n es h = h

multiplied_forms : (o : Option (ℕ × Source)) (a b : Source) (to : ℕ) → list_all has_form (multiplied o a b to) ≡ true
multiplied_forms (Some s) a b to = plain_forms (times s.0 s.1 to) (times_plain s.0 s.1 to)
multiplied_forms None a b to = handed_forms MULTIPLY_AT RESULT a b to

divided_forms : (n : ℕ) (o : Option ℕ) (a b : Source) (to : ℕ) → list_all has_form (divided n o a b to) ≡ true
divided_forms n (Some k) a b to = plain_forms (shifted k a to) (shifted_plain k a to)
divided_forms n None a b to = lined_forms (may_be_zero b) n (handed DIVIDE_AT LEFT a b to) (handed_forms DIVIDE_AT LEFT a b to)

calculated_forms : (n : ℕ) (op : Operator) (a b : Source) (to : ℕ) → list_all has_form (calculated n op a b to) ≡ true
calculated_forms n Add a b to = summed_forms a b to
calculated_forms n Subtract a b to = taken_forms a b to
calculated_forms n Multiply a b to = multiplied_forms (scaling a b) a b to
calculated_forms n Divide a b to = divided_forms n (shifts b) a b to

changed_forms : (c : Change) (p : ℕ) (skip : Target) → list_all has_form (changed c p skip) ≡ true
changed_forms Increment p skip = refl
changed_forms Decrement p skip = refl
changed_forms (Raise c) p skip = refl
changed_forms (Lower c) p skip = refl
changed_forms Halve p skip = refl
changed_forms Double p skip = refl

computed_forms : (o : Option Change) (n : ℕ) (skip : Target) (op : Operator) (a b : Source) (to : ℕ) → list_all has_form (changed_or o n skip op a b to) ≡ true
computed_forms (Some c) n skip op a b to = changed_forms c to skip
computed_forms None n skip op a b to = calculated_forms n op a b to

converted_forms : (n seed : ℕ) (what : Conversion) (a : Source) (to : ℕ) → list_all has_form (converted n seed what a to) ≡ true
converted_forms n seed Negated a to = taken_forms (FixedWord 0) a to
converted_forms n seed Drawn a to = lined_forms (may_have_none a) n (handed RANDOM_AT RESULT (FixedWord seed) a to) (handed_forms RANDOM_AT RESULT (FixedWord seed) a to)

used_forms : (n : ℕ) (next : Target) (how : Usage) (a : Source) → list_all has_form (used n next how a) ≡ true
used_forms n next AsNumber (FixedWord w) = refl
used_forms n next AsNumber (AtAddress p) = refl
used_forms n next AsLine (FixedWord w) = refl
used_forms n next AsLine (AtAddress p) = refl
used_forms n next AsSubroutine (FixedWord w) = refl
used_forms n next AsSubroutine (AtAddress p) = refl

equal_forms : (a b : Source) (next : Target) → list_all has_form (equal a b next) ≡ true
equal_forms a b next =
    forms_append (low_matched a b) (branch Bne next ∷ (high_matched a b ++ (branch Bne next ∷ []))) (plain_forms (low_matched a b) (low_matched_plain a b))
    (forms_append (high_matched a b) (branch Bne next ∷ []) (plain_forms (high_matched a b) (high_matched_plain a b)) refl)

unequal_forms : (a b : Source) (stays next : Target) → list_all has_form (unequal a b stays next) ≡ true
unequal_forms a b stays next =
    forms_append (low_matched a b) (branch Bne stays ∷ (high_matched a b ++ (branch Beq next ∷ here stays ∷ []))) (plain_forms (low_matched a b) (low_matched_plain a b))
    (forms_append (high_matched a b) (branch Beq next ∷ here stays ∷ []) (plain_forms (high_matched a b) (high_matched_plain a b)) refl)

negative_forms : (side : Side) → is_some (find_opcode rows (unless_negative side) Relative) ≡ true
negative_forms Below = refl
negative_forms NotBelow = refl

carry_forms : (side : Side) (next : Target) → list_all has_form (branch (unless_carry side) next ∷ []) ≡ true
carry_forms Below next = refl
carry_forms NotBelow next = refl

signed_forms : (side : Side) (a : Source) (next : Target) → list_all has_form (signed side a next) ≡ true
signed_forms side (FixedWord v) next = rw (negative_forms side) refl
signed_forms side (AtAddress p) next = rw (negative_forms side) refl

weighed_forms : (side : Side) (a b : Source) (skip next : Target) → list_all has_form (weighed side a b skip next) ≡ true
weighed_forms side (FixedWord v) (FixedWord w) skip next = rw (negative_forms side) refl
weighed_forms side (FixedWord v) (AtAddress q) skip next = rw (negative_forms side) refl
weighed_forms side (AtAddress p) (FixedWord w) skip next = rw (negative_forms side) refl
weighed_forms side (AtAddress p) (AtAddress q) skip next = rw (negative_forms side) refl

positive_forms : (side : Side) (a : Source) (skip next : Target) → list_all has_form (positive side a skip next) ≡ true
positive_forms Below (FixedWord w) skip next = refl
positive_forms Below (AtAddress p) skip next = refl
positive_forms NotBelow (FixedWord w) skip next = refl
positive_forms NotBelow (AtAddress p) skip next = refl

ordered_forms : (order : Order) (wanted : Side) (skip next : Target) → list_all has_form (ordered_by order wanted skip next) ≡ true
ordered_forms (BySign side a) wanted skip next = signed_forms (wanted_side wanted side) a next
ordered_forms (ByPositive side a) wanted skip next = positive_forms (wanted_side wanted side) a skip next
ordered_forms (ByConstant side a w) wanted skip next =
    forms_append (lifted a w) (branch (unless_carry (wanted_side wanted side)) next ∷ []) (plain_forms (lifted a w) (lifted_plain a w)) (carry_forms (wanted_side wanted side) next)
ordered_forms (ByDifference a b) wanted skip next = weighed_forms wanted a b skip next

tested_forms : (rel : Rel) (a b : Source) (skip next : Target) → list_all has_form (tested rel a b skip next) ≡ true
tested_forms rel a b skip next =
    tested_by (λ es. list_all has_form es ≡ true) skip next (λ a b. equal_forms a b next) (λ a b. unequal_forms a b skip next) (λ order side. ordered_forms order side skip next) rel a b

gone_forms : (n : ℕ) (rel : Rel) (a b : Source) (skip next : Target) (t : Bool) (to : ℕ) → list_all has_form (gone n rel a b skip next t to) ≡ true
gone_forms n rel a b skip next true to = tested_forms (denied rel) a b skip (Line to)
gone_forms n rel a b skip next false to = forms_append (tested rel a b skip next) (faulted n 1) (tested_forms rel a b skip next) refl

-- ── divisibility ──
divided_by_forms : (n : ℕ) (how : Divisibility) (a b : Source) (next : Target) → list_all has_form (divided_by n how a b next) ≡ true
divided_by_forms n how a b next =
    forms_append (left_over n (mask b) a b) (branch (unless how) next ∷ []) (plain_forms (left_over n (mask b) a b) (left_over_plain n (mask b) a b)) (by how)
  where
    by : (how : Divisibility) → list_all has_form (branch (unless how) next ∷ []) ≡ true
    by Divisible = refl
    by Indivisible = refl

divides_forms : (ns : List ℕ) (n : ℕ) (how : Divisibility) (a b : Source) (to : Option ℕ) → list_all has_form (divides ns n how a b to) ≡ true
divides_forms ns n how a b None = divided_by_forms n how a b (next_line ns n)
divides_forms ns n how a b (Some to) = by (has_line ns to)
  where
    by : (t : Bool) → list_all has_form (divided_gone n how a b (next_line ns n) t to) ≡ true
    by true = divided_by_forms n (contrary how) a b (Line to)
    by false = forms_append (divided_by n how a b (next_line ns n)) (faulted n 1) (divided_by_forms n how a b (next_line ns n)) refl

remains_forms : (n : ℕ) (o : Option ℕ) (r : Option (ℕ × ℕ)) (skip : Target) (a b : Source) (to : ℕ) → list_all has_form (rest_by n o r skip a b to) ≡ true
remains_forms n (Some bits) r skip (FixedWord w) b to = refl
remains_forms n (Some bits) r skip (AtAddress p) b to = refl
remains_forms n None (Some r) skip a b to = plain_forms (reduced_rest r.0 r.1 a to) (reduced_plain r.0 r.1 a to)
remains_forms n None None skip a b to =
    forms_append (asked_rest n a b) (signed_rest skip a to) (plain_forms (asked_rest n a b) (asked_rest_plain n a b)) (by a)
  where
    by : (a : Source) → list_all has_form (signed_rest skip a to) ≡ true
    by (FixedWord w) = copied_forms RESULT to
    by (AtAddress p) = copied_forms RESULT to

group_forms : (ns : List ℕ) (seed n i : ℕ) (g : Group) → list_all has_form (group_template ns seed n i g) ≡ true
group_forms ns seed n i (Calculate op a b d) =
    let x = source_of (slot_of d) a in let y = source_of (slot_of d + 1) b in let to = destination_at d in
    computed_forms (change_of op x y to) n (Inside Skip n i) op x y to
group_forms ns seed n i (Stepped op a b by w x) =
    let to = var_at x in
    forms_append (computed n (Inside Skip n i) op (source_of 0 a) (source_of 1 b) to) (computed n (Inside Behind n i) by (AtAddress to) (source_of 1 (Constant w)) to)
    (computed_forms (change_of op (source_of 0 a) (source_of 1 b) to) n (Inside Skip n i) op (source_of 0 a) (source_of 1 b) to)
    (computed_forms (change_of by (AtAddress to) (source_of 1 (Constant w)) to) n (Inside Behind n i) by (AtAddress to) (source_of 1 (Constant w)) to)
group_forms ns seed n i (Convert what a d) = converted_forms n seed what (source_of (slot_of d) a) (destination_at d)
group_forms ns seed n i (Move a home) = brought_forms (source_of 0 a) (home_at home)
group_forms ns seed n i (Use how a) = used_forms n (next_line ns n) how (source_of 0 a)
group_forms ns seed n i (Test rel a b) = tested_forms rel (tested_source a) (source_of 0 b) (Inside Skip n i) (next_line ns n)
group_forms ns seed n i (TestGo rel a b to) =
    gone_forms n rel (tested_source a) (source_of 0 b) (Inside Skip n i) (next_line ns n) (has_line ns to) to
group_forms ns seed n i (Remains x d to) =
    remains_forms n (mask (source_of (slot_of to + 2) d)) (doublings (source_of (slot_of to + 2) d)) (Inside Skip n i) (AtAddress (var_at x)) (source_of (slot_of to + 2) d) (destination_at to)
group_forms ns seed n i (Divides how x d side to) = divides_forms ns n how (source_of 0 (Variable x)) (source_of 1 d) to
group_forms ns seed n i (Single c) = single_forms (may_fault c) ns n i c

-- ── a program ──
rest_forms : (ns : List ℕ) (seed n i : ℕ) (gs : List Group) → list_all has_form (rest_code ns seed n i gs) ≡ true
rest_forms ns seed n i [] = refl
rest_forms ns seed n i (g ∷ gs) = forms_append (group_template ns seed n i g) (rest_code ns seed n (i + 1) gs) (group_forms ns seed n i g) (rest_forms ns seed n (i + 1) gs)

polled_forms : (away : Bool) (n : ℕ) → list_all has_form (polled away n) ≡ true
polled_forms true n = refl
polled_forms false n = refl

behind_forms : (away : Bool) (n : ℕ) → list_all has_form (behind away n) ≡ true
behind_forms true n = refl
behind_forms false n = refl

line_forms : (ns : List ℕ) (seed n : ℕ) (is : List Instr) → list_all has_form (list_code ns seed n is) ≡ true
line_forms ns seed n is =
    by_poll (λ es. list_all has_form es ≡ true) ns seed n is (λ js away e.
    let code = rest_code ns seed n 1 (select js) in
    forms_append (polled away n) (code ++ behind away n) (polled_forms away n)
    (forms_append code (behind away n) (rest_forms ns seed n 1 (select js)) (behind_forms away n))) (rest_forms ns seed n 1 (select is))

lines_forms : (ns : List ℕ) (seed : ℕ) (lines : SlotCode) → list_all has_form (lines_code ns seed lines) ≡ true
lines_forms ns seed [] = refl
lines_forms ns seed (line ∷ lines) =
    forms_append (line_code ns seed line) (lines_code ns seed lines) (line_forms ns seed line.number line.content) (lines_forms ns seed lines)

rows_forms : (ns : List ℕ) → list_all has_form (rows_code ns) ≡ true
rows_forms [] = refl
rows_forms (n ∷ ns) = rows_forms ns

compared_forms : (ns : List ℕ) → list_all has_form (all_compared ns) ≡ true
compared_forms [] = refl
compared_forms (n ∷ ns) = compared_forms ns

find_forms : (t : Bool) (ns : List ℕ) → list_all has_form (find_code t ns) ≡ true
find_forms true ns = forms_append (comparisons true ns) (looked_up (length ns)) (compared_forms ns) refl
find_forms false ns = refl

program_forms : (seed : ℕ) (code : SlotCode) → list_all has_form (program_code seed code) ≡ true
program_forms seed code =
    let ns = numbers code in let search = find_code (compares code) ns in
    forms_append (lines_code ns seed code) (past_code ns ++ (search ++ table_code ns)) (lines_forms ns seed code)
    (forms_append search (table_code ns) (find_forms (compares code) ns) (rows_forms ns))

-- each item of a program's code has a form that exists
pub program_modes : (seed : ℕ) (code : SlotCode) → list_all has_mode (program_code seed code) ≡ true
program_modes seed code = all_by has_form has_mode has_form_mode (program_code seed code) (program_forms seed code)

-- each item of a program's code may be moved
pub program_moves : (seed : ℕ) (code : SlotCode) → list_all may_move (program_code seed code) ≡ true
program_moves seed code = all_by has_form may_move has_form_moves (program_code seed code) (program_forms seed code)
