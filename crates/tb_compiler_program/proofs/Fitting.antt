-- The code of a program is no longer than its cost, however many branches are replaced.
use Rattle.std.proofs.Common.{◌≡◌, ℕ, zero, suc, ◌+◌, ◌*◌, ◌/◌, ◌%◌, ◌<◌, ◌≤◌, Bool, true, false, List, [], ◌∷◌}
use Rattle.std.proofs.Common.{◌++◌, length, refl, sym, ap, ◌∙◌, arith, subst, sum_by, Option, Some, None}
use Rattle.std.specs.Prelude.{if◌then◌else◌, nat_eq, nat_le, nat_lt}
use Rattle.std.proofs.lemmas.Bool.{and_parts, leb-true, ltb-true}
use Rattle.std.proofs.lemmas.List.Sums.{sum_by-cons}
use Rattle.std.specs.Prelude.{nat_lt, if◌then◌else◌}
use Rattle.tb_opcodes.specs.declared.Mnemonic.{Mnemonic}
use Rattle.tb_opcodes.specs.declared.Mnemonic.TheVariants.{Adc, Asl, Beq, Bne, Cmp, Lda, Ldy, Ora, Rol, Sbc, Sta}
use Rattle.tb_opcodes.specs.declared.Mode.TheVariants.{Absolute, ZeroPage}
use Rattle.tb_asm.specs.declared.items.Operand.TheVariants.{Byte, Word}
use Rattle.tb_asm.specs.Layout.{Entry, instr}
use Rattle.tb_words.specs.declared.Rel.{Rel}
use Rattle.tb_basic_syntax.specs.declared.expressions.Operator.{Operator}
use Rattle.tb_basic_syntax.specs.declared.expressions.Operator.TheVariants.{Add, Subtract, Multiply, Divide}
use Rattle.tb_basic_syntax.specs.Source.{Expression, Number, Variable, Binary, Item, Text, Value, Zone, Statement, Let, Print, If, Goto, Gosub, Remark, Program}
use Rattle.tb_basic_syntax.specs.Source as source
use Rattle.tb_basic_meaning.specs.Control.{has_line}
use Rattle.tb_basic_meaning.proofs.Costs.{one_node, items_pay}
use Rattle.tb_basic_meaning.specs.Cost.{nodes, item_cost, statement_cost, cost, items_cost}
use Rattle.tb_lower.specs.Lowered.{value_code, or_constant, target_code, item_code, items_code, inputs_code, newline_code, statement_code, program_code}
use Rattle.tb_basic_meaning.specs.Values.{constant}
use Rattle.tb_lower.specs.Slots.{Instr, Put, Load, Store, Negate, Compute, Random, SendNumber, SendText, Hold, LeaveUnless, Jump, Call, JumpTo, CallTo}
use Rattle.tb_compiler_selection.specs.Groups.{Conversion, Negated, Drawn, Usage, AsNumber, AsLine, AsSubroutine, Constant, Variable as OfVariable, InSlot, Operand}
use Rattle.tb_compiler_selection.specs.Groups.{Divisibility, Group, Calculate, Stepped, Convert, Move, Use, Test, TestGo, OnLeft, OnRight, Divides, Remains, Single}
use Rattle.tb_compiler_selection.specs.Groups.{compared, contrary, multiple, onward, Home, IntoVariable, IntoHeld, slot_of, fetch, keep, kept, held, convert, use_of, Destination}
use Rattle.tb_compiler_selection.specs.Groups.{denied, expand, expand_all}
use Rattle.tb_compiler_selection.specs.Select.{select}
use Rattle.tb_compiler_selection.proofs.Bracketed.{brackets}
use Rattle.tb_compiled_kept.specs.Addresses.{LEFT, RIGHT, RESULT, var_at}
use Rattle.tb_runtime16.specs.Addresses.{MULTIPLY_AT, DIVIDE_AT, RANDOM_AT}
use Rattle.tb_compiler_templates.specs.declared.labels.Inner.TheVariants as inner
use Rattle.tb_compiler_templates.specs.declared.labels.Inner.TheVariants.{Behind, Skip}
use Rattle.tb_compiler_templates.specs.declared.labels.Target.{Target}
use Rattle.tb_compiler_templates.specs.declared.labels.Target.TheVariants.{Inside, Line}
use Rattle.tb_compiler_templates.specs.Templates.{branch, const, here, next_line, call, copied, faulted, only_byte, sent, slot_at, on}
use Rattle.tb_compiler_templates.specs.Sources.{source_of, tested_source, home_at, destination_at}
use Rattle.tb_compiler_templates.specs.declared.sources.Source.{Source}
use Rattle.tb_compiler_templates.specs.declared.sources.Source.TheVariants.{FixedWord, AtAddress}
use Rattle.tb_compiler_templates.specs.GroupTemplates.{low_of, high_of, brought, joined, handed, multiplied, divided, calculated, computed, changed_or, converted, used}
use Rattle.tb_compiler_templates.specs.GroupTemplates.{unless_none, low_against, high_against, low_matched, high_matched, equal, unequal, tested, gone, group_template, lined}
use Rattle.tb_compiler_templates.specs.GroupTemplates.{may_be_zero, may_have_none, told, remainder}
use Rattle.tb_compiler_templates.specs.GroupTemplates.{left_over as beyond, unless, divided_by, divided_gone, divides, asked_rest, signed_rest, rest_by}
use Rattle.tb_compiler_templates.specs.Masks.{mask}
use Rattle.tb_compiler_templates.specs.Reduced.{doublings}
use Rattle.tb_compiler_templates.proofs.Multiples.{IsReducing, by_multiples, by_routine as by_division, reduced_size, reducing_is}
use Rattle.tb_compiler_templates.specs.Orders.{ordered_by, positive, wanted_side, lifted, lifted_both, lifted_high}
use Rattle.tb_compiler_templates.specs.declared.orders.Side.{Side}
use Rattle.tb_compiler_templates.specs.declared.orders.Order.{Order}
use Rattle.tb_compiler_templates.specs.declared.orders.Side.TheVariants.{Below, NotBelow}
use Rattle.tb_compiler_templates.specs.declared.orders.Order.TheVariants.{BySign, ByPositive, ByConstant, ByDifference}
use Rattle.tb_compiler_templates.specs.Orders.{unless_carry}
use Rattle.tb_compiler_templates.specs.Scaled.{at_zero, on_a, rounded, raised, halved, halvings, high_first, cut, widened, lowered, shifts, shifted, by_bit, by_bits, bits_size, is_factor}
use Rattle.tb_compiler_templates.specs.Scaled.{scaling, low_first, times}
use Rattle.tb_compiler_templates.specs.InPlace.{change_of, changed}
use Rattle.tb_compiler_templates.specs.declared.in_place.Change.{Change}
use Rattle.tb_compiler_templates.specs.declared.in_place.Change.TheVariants.{Increment, Decrement, Raise, Lower, Halve, Double}
use Rattle.tb_compiler_templates.specs.Breaks.{polled, behind}
use Rattle.tb_compiler_program.specs.Program.{rest_code, list_code}
use Rattle.tb_assembly_settling.specs.Settled.{most_of, most}
use Rattle.tb_assembly_settling.proofs.Forms.{most_append}
use Rattle.tb_compiler_program.specs.Sizes.{room, list_room, lines_room, rest_room}
use Rattle.tb_basic_meaning.specs.Spaced.{AreApart, IsSpaced, AreSpaced}
use Rattle.tb_compiler_templates.specs.Subtracted.{tried}
use Rattle.tb_compiler_program.proofs.Subtractions.{tried_size}
use Rattle.tb_compiler_program.proofs.Listed.{by_poll, tested_by}
use Rattle.tb_compiler_program.proofs.Factors.{IsScaling, by_right, by_left, by_routine, scaling_is, IsShifting, by_shifts, by_call, shifting_is}

list_append : (xs ys : List Instr) → list_room (xs ++ ys) ≡ list_room xs + list_room ys
list_append [] ys = omega arith
list_append (x ∷ xs) ys = let e = list_append xs ys in omega (arith, e)

-- ── a single instruction ──
-- in either mode for an address
on_most : (m : Mnemonic) (p : ℕ) → most_of (on m p) ≤ 3
on_most m p = by (nat_lt p 256)
  where
    by : (t : Bool) → most_of (instr m (if t then ZeroPage else Absolute) (if t then Byte p else Word p)) ≤ 3
    by true = omega arith
    by false = omega arith

copied_fits : (from to : ℕ) → most (copied from to) ≤ 12
copied_fits from to = let l = on_most Lda from in let h = on_most Lda (from + 1) in omega (arith, l, h)

jump_fits : (ns : List ℕ) (seed n i to : ℕ) (t : Bool) → has_line ns to ≡ t → most (group_template ns seed n i (Single (JumpTo to))) ≤ 9
jump_fits ns seed n i to true e = rw e (omega arith)
jump_fits ns seed n i to false e = rw e (omega arith)

call_fits : (ns : List ℕ) (seed n i to : ℕ) (t : Bool) → has_line ns to ≡ t → most (group_template ns seed n i (Single (CallTo to))) ≤ 59
call_fits ns seed n i to true e = rw e (omega arith)
call_fits ns seed n i to false e = rw e (omega arith)

-- a byte in line takes no more than a call with a text
sent_fits : (of behind : Target) (bs : List ℕ) (o : Option ℕ) → most (sent o of behind bs) ≤ 19 + length bs
sent_fits of behind bs (Some b) = omega arith
sent_fits of behind bs None = omega arith

single_fits : (ns : List ℕ) (seed n i : ℕ) (c : Instr) → most (group_template ns seed n i (Single c)) ≤ room c
single_fits ns seed n i (Load k x) = copied_fits (var_at x) (slot_at k)
single_fits ns seed n i (SendText bs) = sent_fits (Inside inner.Text n i) (Inside Behind n i) bs (only_byte bs)
single_fits ns seed n i (JumpTo to) = jump_fits ns seed n i to (has_line ns to) refl
single_fits ns seed n i (CallTo to) = call_fits ns seed n i to (has_line ns to) refl
single_fits ns seed n i _ = omega arith

-- ── a group ──
low_most : (m : Mnemonic) (a : Source) → most_of (low_of m a) ≤ 3
low_most m (FixedWord w) = omega arith
low_most m (AtAddress p) = omega arith

high_most : (m : Mnemonic) (a : Source) → most_of (high_of m a) ≤ 3
high_most m (FixedWord w) = omega arith
high_most m (AtAddress p) = omega arith

brought_fits : (a : Source) (to : ℕ) → most (brought a to) ≤ 12
brought_fits a to =
    let l = low_most Lda a in let h = high_most Lda a in let p = on_most Sta to in let q = on_most Sta (to + 1) in omega (arith, l, h, p, q)

joined_fits : (m : Mnemonic) (a b : Source) (to : ℕ) → most (joined m a b to) ≤ 18
joined_fits m a b to =
    let l = low_most Lda a in let h = high_most Lda a in let p = low_most m b in let q = high_most m b in omega (arith, l, h, p, q)

-- two bytes fewer in page zero
left_fits : (a : Source) → most (brought a LEFT) ≤ 10
left_fits a = let l = low_most Lda a in let h = high_most Lda a in omega (arith, l, h)

right_fits : (a : Source) → most (brought a RIGHT) ≤ 10
right_fits a = let l = low_most Lda a in let h = high_most Lda a in omega (arith, l, h)

handed_fits : (routine from : ℕ) (a b : Source) (to c : ℕ) → most (copied from to) ≤ c → most (handed routine from a b to) ≤ 23 + c
handed_fits routine from a b to c k =
    let e = most_append (brought a LEFT) (brought b RIGHT ++ (call routine ∷ copied from to)) in
    let f = most_append (brought b RIGHT) (call routine ∷ copied from to) in
    let l = left_fits a in let r = right_fits b in
    omega (arith, e, f, l, r, k)

lined_most : (t : Bool) (n : ℕ) (es : List Entry) → most (lined t n es) ≤ 10 + most es
lined_most true n es = omega arith
lined_most false n es = omega arith

rounded_fits : (k : ℕ) (a : Source) → most (rounded k a) ≤ 11
rounded_fits zero a = let l = low_most Lda a in omega (arith, l)
rounded_fits (suc k) a = let l = low_most Adc a in omega (arith, l)

halvings_fit : (k : ℕ) → most (halvings k) ≤ 5 * k
halvings_fit zero = omega arith
halvings_fit (suc k) = let e = most_append (halvings k) halved in let h = halvings_fit k in omega (arith, e, h)

cut_fits : (k : ℕ) → most (cut k) ≤ 3
cut_fits k = by (nat_eq k 6)
  where
    by : (t : Bool) → most (if t then at_zero Asl LEFT ∷ on_a Rol ∷ [] else const Cmp 128 ∷ []) ≤ 3
    by true = omega arith
    by false = omega arith

lowered_fits : (k to : ℕ) → most (lowered k to) ≤ 38
lowered_fits k to = by (nat_lt k 6) refl
  where
    by : (t : Bool) → nat_lt k 6 ≡ t → most (if t then halvings (suc k) ++ high_first to else cut k ++ widened to) ≤ 38
    by true e =
        let few : k < 6 = ltb-true k 6 e in let f = most_append (halvings (suc k)) (high_first to) in let n = halvings_fit (suc k) in omega (arith, f, n, few)
    by false e = let f = most_append (cut k) (widened to) in let c = cut_fits k in omega (arith, f, c)

shifted_fits : (k : ℕ) (a : Source) (to : ℕ) → most (shifted k a to) ≤ 61
shifted_fits k a to =
    let e = most_append (raised k a) (lowered k to) in
    let g = most_append (rounded k a) (at_zero Sta LEFT ∷ high_of Lda a ∷ const Adc 0 ∷ []) in
    let h = high_most Lda a in let r = rounded_fits k a in let n = lowered_fits k to in
    omega (arith, e, g, h, r, n)

bit_fits : (t : Bool) (a : Source) → most (by_bit t a) ≤ (if t then 16 else 3)
bit_fits false a = omega arith
bit_fits true a = let l = low_most Adc a in let h = high_most Adc a in omega (arith, l, h)

bits_fit : (k factor : ℕ) (a : Source) → most (by_bits k factor a) ≤ bits_size k factor
bits_fit zero factor a = omega arith
bits_fit (suc k) factor a = by (bits_fit k (factor / 2) a) (nat_lt factor 2)
  where
    odd : Bool
    odd = nat_eq (factor % 2) 1

    by : most (by_bits k (factor / 2) a) ≤ bits_size k (factor / 2) → (t : Bool) → most (if t then [] else by_bits k (factor / 2) a ++ by_bit odd a)
        ≤ (if t then 0 else bits_size k (factor / 2) + (if odd then 16 else 3))
    by f true = omega arith
    by f false = let e = most_append (by_bits k (factor / 2) a) (by_bit odd a) in let g = bit_fits odd a in omega (arith, e, f, g)

times_fit : (factor : ℕ) (a : Source) (to : ℕ) → is_factor factor ≡ true → most (times factor a to) ≤ 76
times_fit factor a to h =
    let few = leb-true (bits_size 15 factor) 60 (and_parts (nat_le 2 factor) (nat_le (bits_size 15 factor) 60) h).1 in
    let e = most_append (by_bits 15 factor a) (low_first to) in
    let f = bits_fit 15 factor a in let l = low_most Lda a in let g = high_most Lda a in
    omega (arith, few, e, f, l, g)

multiplied_fits : (o : Option (ℕ × Source)) (a b : Source) (to : ℕ) → IsScaling a b o → most (multiplied o a b to) ≤ 76
multiplied_fits _ a b to (by_right w e h) = times_fit w a to h
multiplied_fits _ a b to (by_left v e h) = times_fit v b to h
multiplied_fits _ a b to by_routine = let h = handed_fits MULTIPLY_AT RESULT a b to 12 (copied_fits RESULT to) in omega (arith, h)

divided_fits : (n : ℕ) (o : Option ℕ) (a b : Source) (to : ℕ) → IsShifting b o → most (divided n o a b to) ≤ 76
divided_fits n _ a b to (by_shifts w k e few p) = let h = shifted_fits k a to in omega (arith, h)
divided_fits n _ a b to by_call =
    let h = handed_fits DIVIDE_AT LEFT a b to 10 (omega arith) in let l = lined_most (may_be_zero b) n (handed DIVIDE_AT LEFT a b to) in omega (arith, h, l)

calculated_fits : (n : ℕ) (op : Operator) (a b : Source) (to : ℕ) → most (calculated n op a b to) ≤ 76
calculated_fits n Add a b to = let h = joined_fits Adc a b to in omega (arith, h)
calculated_fits n Subtract a b to = let h = joined_fits Sbc a b to in omega (arith, h)
calculated_fits n Multiply a b to = multiplied_fits (scaling a b) a b to (scaling_is a b)
calculated_fits n Divide a b to = divided_fits n (shifts b) a b to (shifting_is b)

changed_fits : (c : Change) (p : ℕ) (skip : Target) → most (changed c p skip) ≤ 76
changed_fits Increment p skip = omega arith
changed_fits Decrement p skip = omega arith
changed_fits (Raise c) p skip = omega arith
changed_fits (Lower c) p skip = omega arith
changed_fits Halve p skip = omega arith
changed_fits Double p skip = omega arith

computed_fits : (o : Option Change) (n : ℕ) (skip : Target) (op : Operator) (a b : Source) (to : ℕ) → most (changed_or o n skip op a b to) ≤ 76
computed_fits (Some c) n skip op a b to = changed_fits c to skip
computed_fits None n skip op a b to = calculated_fits n op a b to

converted_fits : (n seed k : ℕ) (what : Conversion) (a : Source) (to : ℕ) → most (converted n seed what a to) ≤ room (convert what k)
converted_fits n seed k Negated a to = let p = low_most Sbc a in let q = high_most Sbc a in omega (arith, p, q)
converted_fits n seed k Drawn a to =
    let code = handed RANDOM_AT RESULT (FixedWord seed) a to in
    let e = most_append (brought (FixedWord seed) LEFT) (brought a RIGHT ++ (call RANDOM_AT ∷ copied RESULT to)) in
    let f = most_append (brought a RIGHT) (call RANDOM_AT ∷ copied RESULT to) in
    let r = right_fits a in let k = lined_most (may_have_none a) n code in
    omega (arith, e, f, r, k)

used_fits : (n : ℕ) (next : Target) (how : Usage) (a : Source) → most (used n next how a) ≤ room (use_of how)
used_fits n next AsNumber a = let l = low_most Lda a in let h = high_most Lda a in omega (arith, l, h)
used_fits n next AsLine a = let l = low_most Lda a in let h = high_most Lda a in omega (arith, l, h)
used_fits n next AsSubroutine a = let l = low_most Lda a in let h = high_most Lda a in omega (arith, l, h)

unless_none_most : (b : ℕ) → most (unless_none b) ≤ 3
unless_none_most b = by (nat_eq b 0)
  where
    by : (t : Bool) → most (if t then [] else const Cmp b ∷ []) ≤ 3
    by true = omega arith
    by false = omega arith

low_against_most : (b : Source) → most (low_against b) ≤ 3
low_against_most (FixedWord w) = unless_none_most (w % 256)
low_against_most (AtAddress p) = omega arith

high_against_most : (b : Source) → most (high_against b) ≤ 3
high_against_most (FixedWord w) = unless_none_most (w / 256)
high_against_most (AtAddress p) = omega arith

equal_fits : (a b : Source) (next : Target) → most (equal a b next) ≤ 24
equal_fits a b next =
    let e = most_append (low_matched a b) (branch Bne next ∷ (high_matched a b ++ (branch Bne next ∷ []))) in
    let f = most_append (high_matched a b) (branch Bne next ∷ []) in
    let l = low_most Lda a in let h = high_most Lda a in let p = low_against_most b in let q = high_against_most b in omega (arith, e, f, l, h, p, q)

unequal_fits : (a b : Source) (stays next : Target) → most (unequal a b stays next) ≤ 24
unequal_fits a b stays next =
    let e = most_append (low_matched a b) (branch Bne stays ∷ (high_matched a b ++ (branch Beq next ∷ here stays ∷ []))) in
    let f = most_append (high_matched a b) (branch Beq next ∷ here stays ∷ []) in
    let l = low_most Lda a in let h = high_most Lda a in let p = low_against_most b in let q = high_against_most b in omega (arith, e, f, l, h, p, q)

lifted_fits : (a : Source) (w : ℕ) → most (lifted a w) ≤ 12
lifted_fits a w = by (nat_eq (w % 256) 0)
  where
    by : (t : Bool) → most (if t then lifted_high a w else lifted_both a w) ≤ 12
    by true = let h = high_most Lda a in omega (arith, h)
    by false = let l = low_most Lda a in let h = high_most Lda a in omega (arith, l, h)

positive_fits : (side : Side) (a : Source) (skip next : Target) → most (positive side a skip next) ≤ 24
positive_fits Below a skip next = let h = high_most Lda a in let l = low_most Ora a in omega (arith, h, l)
positive_fits NotBelow a skip next = let h = high_most Lda a in let l = low_most Ora a in omega (arith, h, l)

ordered_fits : (order : Order) (wanted : Side) (skip next : Target) → most (ordered_by order wanted skip next) ≤ 24
ordered_fits (BySign side a) wanted skip next = let h = high_most Lda a in omega (arith, h)
ordered_fits (ByPositive side a) wanted skip next = positive_fits (wanted_side wanted side) a skip next
ordered_fits (ByConstant side a w) wanted skip next =
    let e = most_append (lifted a w) (branch (unless_carry (wanted_side wanted side)) next ∷ []) in let l = lifted_fits a w in omega (arith, e, l)
ordered_fits (ByDifference a b) wanted skip next =
    let l = low_most Lda a in let h = high_most Lda a in let p = low_most Cmp b in let q = high_most Sbc b in omega (arith, l, h, p, q)

tested_fits : (rel : Rel) (a b : Source) (skip next : Target) → most (tested rel a b skip next) ≤ 24
tested_fits rel a b skip next =
    tested_by (λ es. most es ≤ 24) skip next (λ a b. equal_fits a b next) (λ a b. unequal_fits a b skip next) (λ order side. ordered_fits order side skip next) rel a b

gone_fits : (n : ℕ) (rel : Rel) (a b : Source) (skip next : Target) (t : Bool) (to : ℕ) → most (gone n rel a b skip next t to) ≤ 33
gone_fits n rel a b skip next true to = let h = tested_fits (denied rel) a b skip (Line to) in omega (arith, h)
gone_fits n rel a b skip next false to =
    let h = tested_fits rel a b skip next in let e = most_append (tested rel a b skip next) (faulted n 1) in omega (arith, h, e)

-- ── divisibility ──
left_over_fits : (n : ℕ) (o : Option ℕ) (a b : Source) → most (beyond n o a b) ≤ 43
left_over_fits n (Some bits) a b = let l = low_most Lda a in omega (arith, l)
left_over_fits n None a b =
    let e = most_append (brought a LEFT) (brought b RIGHT ++ told) in let f = most_append (brought b RIGHT) told in
    let p = brought_fits a LEFT in let q = brought_fits b RIGHT in
    let l = lined_most (may_be_zero b) n (remainder a b) in
    omega (arith, e, f, p, q, l)

divided_by_fits : (n : ℕ) (how : Divisibility) (a b : Source) (next : Target) → most (divided_by n how a b next) ≤ 48
divided_by_fits n how a b next =
    let e = most_append (beyond n (mask b) a b) (branch (unless how) next ∷ []) in let h = left_over_fits n (mask b) a b in omega (arith, e, h)

divides_fits : (ns : List ℕ) (n : ℕ) (how : Divisibility) (a b : Source) (to : Option ℕ) → most (divides ns n how a b to) ≤ 57
divides_fits ns n how a b None = let h = divided_by_fits n how a b (next_line ns n) in omega (arith, h)
divides_fits ns n how a b (Some to) = by (has_line ns to)
  where
    by : (t : Bool) → most (divided_gone n how a b (next_line ns n) t to) ≤ 57
    by true = let h = divided_by_fits n (contrary how) a b (Line to) in omega (arith, h)
    by false = let h = divided_by_fits n how a b (next_line ns n) in let e = most_append (divided_by n how a b (next_line ns n)) (faulted n 1) in omega (arith, h, e)

remains_fits : (n : ℕ) (o : Option ℕ) (r : Option (ℕ × ℕ)) (skip : Target) (a b : Source) (to : ℕ) → IsReducing b r → most (rest_by n o r skip a b to) ≤ 227
remains_fits n (Some bits) r skip a b to h = let l = low_most Lda a in let h = high_most Ldy a in omega (arith, l, h)
remains_fits n None _ skip a b to (by_multiples w k e few over below) = reduced_size k w a to few below
remains_fits n None _ skip a b to by_division =
    let called = brought a LEFT ++ (brought b RIGHT ++ (call DIVIDE_AT ∷ [])) in
    let e = most_append (asked_rest n a b) (signed_rest skip a to) in
    let l = lined_most (may_be_zero b) n (tried a b called) in
    let t = tried_size a b called in
    let f = most_append (brought a LEFT) (brought b RIGHT ++ (call DIVIDE_AT ∷ [])) in
    let g = most_append (brought b RIGHT) (call DIVIDE_AT ∷ []) in
    let p = left_fits a in let q = right_fits b in let h = high_most Lda a in let c = copied_fits RESULT to in
    omega (arith, e, l, t, f, g, p, q, h, c)

multiple_room : (k x : ℕ) (d : Operand) (is : List Instr) → 70 ≤ list_room (multiple k x d is)
multiple_room k x (Constant w) is = omega arith
multiple_room k x (OfVariable y) is = omega arith
multiple_room k x InSlot is = omega arith

-- the rest of a remainder's instructions are worth a difference and a load more
remains_room : (x : ℕ) (d : Operand) (to : Destination) → 227 ≤ list_room (expand (Remains x d to))
remains_room x (Constant w) to = omega arith
remains_room x (OfVariable y) to = omega arith
remains_room x InSlot to = omega arith

keep_room : (home : Home) → room (keep home) ≡ 12
keep_room (IntoVariable x) = refl
keep_room IntoHeld = refl

group_fits : (ns : List ℕ) (seed n i : ℕ) (g : Group) → most (group_template ns seed n i g) ≤ list_room (expand g)
group_fits ns seed n i (Calculate op a b d) =
    let x = source_of (slot_of d) a in let y = source_of (slot_of d + 1) b in let to = destination_at d in
    let h = computed_fits (change_of op x y to) n (Inside Skip n i) op x y to in
    let e = list_append (fetch (slot_of d) a) (fetch (slot_of d + 1) b ++ Compute op (slot_of d) ∷ kept d) in
    let f = list_append (fetch (slot_of d + 1) b) (Compute op (slot_of d) ∷ kept d) in
    omega (arith, h, e, f)
group_fits ns seed n i (Stepped op a b by w x) =
    let to = var_at x in let y = source_of 0 a in let z = source_of 1 b in
    let h = computed_fits (change_of op y z to) n (Inside Skip n i) op y z to in
    let k = computed_fits (change_of by (AtAddress to) (source_of 1 (Constant w)) to) n (Inside Behind n i) by (AtAddress to) (source_of 1 (Constant w)) to in
    let j = most_append (computed n (Inside Skip n i) op y z to) (computed n (Inside Behind n i) by (AtAddress to) (source_of 1 (Constant w)) to) in
    let e = list_append (fetch 0 a) (fetch 1 b ++ Compute op 0 ∷ Put 1 w ∷ Compute by 0 ∷ Store x ∷ []) in
    let f = list_append (fetch 1 b) (Compute op 0 ∷ Put 1 w ∷ Compute by 0 ∷ Store x ∷ []) in
    omega (arith, h, k, j, e, f)
group_fits ns seed n i (Convert what a d) =
    let h = converted_fits n seed (slot_of d) what (source_of (slot_of d) a) (destination_at d) in
    let e = list_append (fetch (slot_of d) a) (convert what (slot_of d) ∷ kept d) in
    omega (arith, h, e)
group_fits ns seed n i (Move a home) =
    let h = brought_fits (source_of 0 a) (home_at home) in let e = list_append (fetch 0 a) (keep home ∷ []) in let k = keep_room home in
    omega (arith, h, e, k)
group_fits ns seed n i (Use how a) =
    let h = used_fits n (next_line ns n) how (source_of 0 a) in let e = list_append (fetch 0 a) (use_of how ∷ []) in omega (arith, h, e)
group_fits ns seed n i (Test rel a b) =
    let h = tested_fits rel (tested_source a) (source_of 0 b) (Inside Skip n i) (next_line ns n) in
    let e = list_append (held a) (fetch 0 b ++ LeaveUnless rel ∷ []) in
    let f = list_append (fetch 0 b) (LeaveUnless rel ∷ []) in
    omega (arith, h, e, f)
group_fits ns seed n i (TestGo rel a b to) =
    let h = gone_fits n rel (tested_source a) (source_of 0 b) (Inside Skip n i) (next_line ns n) (has_line ns to) to in
    let e = list_append (held a) (fetch 0 b ++ LeaveUnless rel ∷ JumpTo to ∷ []) in
    let f = list_append (fetch 0 b) (LeaveUnless rel ∷ JumpTo to ∷ []) in
    omega (arith, h, e, f)
group_fits ns seed n i (Divides how x d OnLeft to) =
    let h = divides_fits ns n how (source_of 0 (OfVariable x)) (source_of 1 d) to in let m = multiple_room 0 x d (Hold ∷ Load 0 x ∷ LeaveUnless (compared how) ∷ onward to) in omega (arith, h, m)
group_fits ns seed n i (Divides how x d OnRight to) =
    let h = divides_fits ns n how (source_of 0 (OfVariable x)) (source_of 1 d) to in let m = multiple_room 0 x d (LeaveUnless (compared how) ∷ onward to) in omega (arith, h, m)
group_fits ns seed n i (Remains x d to) =
    let h = remains_fits n (mask (source_of (slot_of to + 2) d)) (doublings (source_of (slot_of to + 2) d)) (Inside Skip n i) (AtAddress (var_at x)) (source_of (slot_of to + 2) d) (destination_at to)
    (reducing_is (source_of (slot_of to + 2) d)) in
    let m = remains_room x d to in
    omega (arith, h, m)
group_fits ns seed n i (Single c) = let h = single_fits ns seed n i c in omega (arith, h)

rest_fits : (ns : List ℕ) (seed n i : ℕ) (gs : List Group) → most (rest_code ns seed n i gs) ≤ list_room (expand_all gs)
rest_fits ns seed n i [] = omega arith
rest_fits ns seed n i (g ∷ gs) =
    let e = most_append (group_template ns seed n i g) (rest_code ns seed n (i + 1) gs) in
    let f = list_append (expand g) (expand_all gs) in
    let a = group_fits ns seed n i g in
    let b = rest_fits ns seed n (i + 1) gs in
    omega (arith, e, f, a, b)

selected_fits : (ns : List ℕ) (seed n i : ℕ) (is : List Instr) → most (rest_code ns seed n i (select is)) ≤ list_room is
selected_fits ns seed n i is = subst (λ js. most (rest_code ns seed n i (select is)) ≤ list_room js) (brackets is) (rest_fits ns seed n i (select is))

polled_most : (away : Bool) (n : ℕ) → most (polled away n) + most (behind away n) ≡ 19
polled_most true n = omega arith
polled_most false n = omega arith

-- a list's code takes no more than the room of its instructions and the STOP key's code
pub list_fits : (ns : List ℕ) (seed n : ℕ) (is : List Instr) → most (list_code ns seed n is) ≤ 9 + list_room is
list_fits ns seed n is =
    by_poll (λ es. most es ≤ 9 + list_room is) ns seed n is
    (λ js away e. let code = rest_code ns seed n 1 (select js) in let p = ap list_room e in let q = most_append (polled away n) (code ++ behind away n) in
    let r = most_append code (behind away n) in let s = selected_fits ns seed n 1 js in let t = polled_most away n in omega (arith, p, q, r, s, t))
    (let s = selected_fits ns seed n 1 is in omega (arith, s))

-- ── the code of a statement ──
constant_room : (v : Option ℕ) (k b : ℕ) (code : List Instr) → 46 ≤ b → list_room code + 36 ≤ b → list_room (or_constant v k code) + 36 ≤ b
constant_room (Some v) k b code p q = omega (arith, p)
constant_room None k b code p q = q

-- a number or a variable costs 36 more than its code takes: so there is room for what an operator takes above its cost
value_room : (e : Expression) (k : ℕ) → list_room (value_code e k) + 36 ≤ 48 * nodes e
value_room (Number n) k = omega arith
value_room (Variable x) k = omega arith
value_room (source.Negate e) k =
    let a = value_room e k in let b = list_append (value_code e k) (Negate k ∷ []) in
    constant_room (constant (source.Negate e)) k (48 * nodes (source.Negate e)) (value_code e k ++ Negate k ∷ []) (omega arith) (omega (arith, a, b))
value_room (Binary op l r) k =
    let a = value_room l k in let b = value_room r (k + 1) in
    let d = list_append (value_code r (k + 1)) (Compute op k ∷ []) in
    let c = list_append (value_code l k) (value_code r (k + 1) ++ Compute op k ∷ []) in
    constant_room (constant (Binary op l r)) k (48 * nodes (Binary op l r)) (value_code l k ++ (value_code r (k + 1) ++ Compute op k ∷ [])) (omega arith) (omega (arith, a, b, c, d))
value_room (source.Random e) k =
    let a = value_room e k in let b = list_append (value_code e k) (Random k ∷ []) in omega (arith, a, b)

target_room : (v : Option ℕ) (direct : ℕ → Instr) (d b : ℕ) (code : List Instr) → ((n : ℕ) → room (direct n) ≤ d) → d ≤ b → list_room code ≤ b
    → list_room (target_code v direct code) ≤ b
target_room (Some v) direct d b code p q r = let h = p v in omega (arith, h, q)
target_room None direct d b code p q r = r

value_item_room : (e : Expression) (is : List Item) → list_room (item_code (Value e) ++ items_code is) ≤ 48 * nodes e + 15 + list_room (items_code is)
value_item_room e is =
    let b = value_room e 0 in
    let c = list_append (value_code e 0 ++ SendNumber ∷ []) (items_code is) in
    let d = list_append (value_code e 0) (SendNumber ∷ []) in
    omega (arith, b, c, d)

-- what an earlier text or value pays for a zone
abbrev left_over : Bool → ℕ
left_over true = 3
left_over false = 0

items_room : (behind : Bool) (is : List Item) → AreApart behind is → list_room (items_code is) ≤ items_cost is + left_over behind
items_room behind [] h = omega arith
items_room true (Zone ∷ is) h = let a = items_room false is h in omega (arith, a)
items_room false (Zone ∷ is) h = absurd h
items_room true (Text t ∷ is) h = let a = items_room true is h in omega (arith, a)
items_room false (Text t ∷ is) h = let a = items_room true is h in omega (arith, a)
items_room true (Value e ∷ is) h = let a = items_room true is h in let b = value_item_room e is in omega (arith, a, b)
items_room false (Value e ∷ is) h = let a = items_room true is h in let b = value_item_room e is in omega (arith, a, b)

inputs_room : (xs : List ℕ) → list_room (inputs_code xs) ≤ 32 * length xs
inputs_room [] = omega arith
inputs_room (x ∷ xs) = let a = inputs_room xs in omega (arith, a)

newline_room : (ends : Bool) → list_room (newline_code ends) ≤ 10
newline_room true = omega arith
newline_room false = omega arith

-- a statement's code takes at most 10 bytes more than its cost
pub statement_room : (c : Statement) → IsSpaced c → list_room (statement_code c) ≤ 10 + statement_cost c
statement_room (Let x e) h = let a = value_room e 0 in let b = list_append (value_code e 0) (Store x ∷ []) in omega (arith, a, b)
statement_room (Print items ends) h =
    let a = items_room false items h in let b = newline_room ends in
    let c = list_append (items_code items) (newline_code ends) in let d = items_pay items in
    omega (arith, a, b, c, d)
statement_room (source.Input xs) h = let a = inputs_room xs in omega (arith, a)
statement_room (If l rel r c) h =
    let a = value_room l 0 in let b = value_room r 0 in let d = statement_room c h in
    let e = list_append (value_code r 0) (LeaveUnless rel ∷ statement_code c) in
    let f = list_append (value_code l 0) (Hold ∷ (value_code r 0 ++ (LeaveUnless rel ∷ statement_code c))) in
    omega (arith, a, b, d, e, f)
statement_room (Goto e) h =
    let a = value_room e 0 in let b = list_append (value_code e 0) (Jump ∷ []) in
    target_room (constant e) JumpTo 15 (10 + (48 + 48 * nodes e)) (value_code e 0 ++ Jump ∷ []) (λ n. omega arith) (omega arith) (omega (arith, a, b))
statement_room (Gosub e) h =
    let a = value_room e 0 in let b = list_append (value_code e 0) (Call ∷ []) in
    target_room (constant e) CallTo 59 (10 + (48 + 48 * nodes e)) (value_code e 0 ++ Call ∷ []) (λ n. omega arith) (omega arith) (omega (arith, a, b))
statement_room source.Return h = omega arith
statement_room source.End h = omega arith
statement_room Remark h = omega arith

lines_pay : (lines : Program) → AreSpaced lines → lines_room (program_code lines) ≤ sum_by (λ line. 36 + statement_cost line.content) lines
lines_pay [] h = omega arith
lines_pay (line ∷ lines) h =
    let a = lines_pay lines h.1 in let b = statement_room line.content h.0 in
    let c = sum_by-cons (λ line. 36 + statement_cost line.content) line lines in
    omega (arith, a, b, c)

-- lines, line table and what belongs to no line take no more than the cost says
pub program_fits : (lines : Program) → AreSpaced lines → lines_room (program_code lines) + rest_room ≤ cost lines
program_fits lines h = let a = lines_pay lines h in omega (arith, a)
