-- The labels of a whole program rise.
use Rattle.std.proofs.Common.{◌≡◌, ℕ, ◌+◌, ◌<◌, ◌≤◌, Bool, true, false, List, [], ◌∷◌, ◌++◌, length, refl, sym, ap, ◌∙◌}
use Rattle.std.proofs.Common.{arith, subst, append_assoc, inl, inr, nat_lt, Option, Some, None}
use Rattle.std.specs.Prelude.{if◌then◌else◌}
use Rattle.std.proofs.lemmas.Bool.Decides.{nat_tests}
use Rattle.tb_opcodes.specs.declared.Mnemonic.{Mnemonic}
use Rattle.tb_opcodes.specs.declared.Mnemonic.TheVariants.{Adc, Beq, Bne, Sbc}
use Rattle.tb_words.specs.declared.Rel.{Rel}
use Rattle.tb_basic_syntax.specs.declared.expressions.Operator.{Operator}
use Rattle.tb_basic_syntax.specs.declared.expressions.Operator.TheVariants.{Add, Subtract, Multiply, Divide}
use Rattle.tb_basic_syntax.specs.Source.{numbers, Rises}
use Rattle.tb_asm.specs.Layout.{Entry}
use Rattle.tb_basic_meaning.specs.Control.{At, has_line, next_after}
use Rattle.tb_lower.specs.Slots.{Instr, SendText, JumpTo, CallTo, Return, SlotCode}
use Rattle.tb_compiler_selection.specs.Groups.{Conversion, Negated, Drawn, Usage, AsNumber, AsLine, AsSubroutine, Constant, Variable, Divisibility, Group, Calculate}
use Rattle.tb_compiler_selection.specs.Groups.{Stepped, Convert, Move, Use, Test, TestGo, Divides, Remains, Single, contrary, denied, slot_of}
use Rattle.tb_compiler_selection.specs.Select.{select}
use Rattle.tb_compiled_kept.specs.Addresses.{LEFT, RIGHT, RESULT, LINE, var_at}
use Rattle.tb_runtime16.specs.Addresses.{MULTIPLY_AT, DIVIDE_AT, RANDOM_AT}
use Rattle.tb_compiler_templates.specs.declared.labels.Inner.{Inner}
use Rattle.tb_compiler_templates.specs.declared.labels.Inner.TheVariants as inner
use Rattle.tb_compiler_templates.specs.Labels.{label_of, letter_of}
use Rattle.tb_compiler_templates.specs.declared.labels.Target.{Target}
use Rattle.tb_compiler_templates.specs.declared.labels.Target.TheVariants.{Line, Inside, Polled, Find, Table}
use Rattle.tb_compiler_templates.specs.Templates.{branch, byte_sent, here, only_byte, sent, template, faulted, called, jump_to, next_line, target_of, call, copied, constant}
use Rattle.tb_compiler_templates.specs.Sources.{source_of, tested_source, home_at, destination_at}
use Rattle.tb_compiler_templates.specs.declared.sources.Source.{Source}
use Rattle.tb_compiler_templates.specs.declared.sources.Source.TheVariants.{FixedWord, AtAddress}
use Rattle.tb_compiler_templates.specs.GroupTemplates.{brought, joined, handed, multiplied, divided, calculated, computed, changed_or, converted, used, equal, unequal}
use Rattle.tb_compiler_templates.specs.GroupTemplates.{tested, gone, may_fault, group_template, lined, may_be_zero, may_have_none, left_over, unless, divided_by}
use Rattle.tb_compiler_templates.specs.GroupTemplates.{divided_gone, divides, asked_rest, signed_rest, rest_by, low_matched, high_matched}
use Rattle.tb_compiler_templates.specs.Scaled.{scaling, times, shifts, shifted}
use Rattle.tb_compiler_templates.specs.InPlace.{change_of, changed}
use Rattle.tb_compiler_templates.specs.declared.in_place.Change.{Change}
use Rattle.tb_compiler_templates.specs.declared.in_place.Change.TheVariants.{Increment, Decrement, Raise, Lower, Halve, Double}
use Rattle.tb_compiler_templates.specs.Masks.{mask}
use Rattle.tb_compiler_templates.specs.Reduced.{doublings, reduced_rest}
use Rattle.tb_compiler_program.proofs.Divided.{asked_rest_plain, copied_plain, left_over_plain}
use Rattle.tb_compiler_templates.proofs.Multiples.{reduced_plain}
use Rattle.tb_compiler_program.proofs.Sent.{byte_plain}
use Rattle.tb_compiler_templates.specs.Orders.{positive}
use Rattle.tb_compiler_templates.specs.declared.orders.Side.TheVariants.{Below, NotBelow}
use Rattle.tb_compiler_templates.specs.Orders.{lifted, ordered_by, signed, unless_carry, wanted_side, weighed}
use Rattle.tb_compiler_templates.specs.declared.orders.Side.{Side}
use Rattle.tb_compiler_templates.specs.declared.orders.Order.{Order}
use Rattle.tb_compiler_templates.specs.declared.orders.Order.TheVariants.{BySign, ByPositive, ByConstant, ByDifference}
use Rattle.tb_compiler_program.specs.Program.{rest_code, list_code, line_code, lines_code, past_code, rows_code, table_code, program_code, AreCodable}
use Rattle.tb_compiler_program.specs.Program.{first_of, AreInTurn}
use Rattle.tb_compiler_templates.specs.Breaks.{polled, behind}
use Rattle.tb_compiler_program.specs.Search.{all_compared, compares, comparisons, find_code, looked_up}
use Rattle.tb_compiler_program.proofs.Listed.{tested_by, by_poll}
use Rattle.tb_compiler_templates.proofs.Plain.{low_matched_plain, high_matched_plain, lifted_plain, plain_rises, times_plain, shifted_plain}
use Rattle.tb_compiler_program.proofs.Ranged.{selected_few}
use Rattle.tb_compiler_templates.proofs.Rising.{key_of, base, polled_base, polled_key, line_key, inside_key, Rising, rising_append, rising_lower}
use Rattle.tb_compiler_program.proofs.Woven.{lowest, Woven, woven_lower, rising_woven}

-- ── single instructions ──
jump_rises : (ns : List ℕ) (n to low high : ℕ) (t : Bool) → has_line ns to ≡ t → low ≤ high → Rising low (jump_to ns n to) high
jump_rises ns n to low high true e h = rw e h
jump_rises ns n to low high false e h = rw e h

-- ── words and tests ──
module _ (low high : ℕ) (up : low ≤ high) where
  brought_rises : (a : Source) (to : ℕ) → Rising low (brought a to) high
  brought_rises (FixedWord w) to = up
  brought_rises (AtAddress p) to = up

  joined_rises : (m : Mnemonic) (a b : Source) (to : ℕ) → Rising low (joined m a b to) high
  joined_rises m (FixedWord v) (FixedWord w) to = up
  joined_rises m (FixedWord v) (AtAddress q) to = up
  joined_rises m (AtAddress p) (FixedWord w) to = up
  joined_rises m (AtAddress p) (AtAddress q) to = up

  equal_rises : (a b : Source) (next : Target) → Rising low (equal a b next) high
  equal_rises a b next =
      rising_append low low high (low_matched a b) (branch Bne next ∷ (high_matched a b ++ (branch Bne next ∷ [])))
      (plain_rises low low (low_matched a b) (omega arith) (low_matched_plain a b))
      (rising_append low low high (high_matched a b) (branch Bne next ∷ []) (plain_rises low low (high_matched a b) (omega arith) (high_matched_plain a b)) up)

-- code with only one label
module _ (low high : ℕ) (skip : Target) (above : low ≤ key_of (label_of skip)) (below : key_of (label_of skip) + 1 ≤ high) where
  unequal_rises : (a b : Source) (next : Target) → Rising low (unequal a b skip next) high
  unequal_rises a b next =
      rising_append low low high (low_matched a b) (branch Bne skip ∷ (high_matched a b ++ (branch Beq next ∷ here skip ∷ [])))
      (plain_rises low low (low_matched a b) (omega arith) (low_matched_plain a b))
      (rising_append low low high (high_matched a b) (branch Beq next ∷ here skip ∷ []) (plain_rises low low (high_matched a b) (omega arith) (high_matched_plain a b)) (above, below))

  signed_rises : (side : Side) (a : Source) (next : Target) → Rising low (signed side a next) high
  signed_rises side (FixedWord v) next = omega (arith, above, below)
  signed_rises side (AtAddress p) next = omega (arith, above, below)

  weighed_rises : (side : Side) (a b : Source) (next : Target) → Rising low (weighed side a b skip next) high
  weighed_rises side (FixedWord v) (FixedWord w) next = (above, below)
  weighed_rises side (FixedWord v) (AtAddress q) next = (above, below)
  weighed_rises side (AtAddress p) (FixedWord w) next = (above, below)
  weighed_rises side (AtAddress p) (AtAddress q) next = (above, below)

  changed_rises : (up : low ≤ high) (c : Change) (p : ℕ) → Rising low (changed c p skip) high
  changed_rises up Increment p = (above, below)
  changed_rises up Decrement p = (above, below)
  changed_rises up (Raise c) p = (above, below)
  changed_rises up (Lower c) p = (above, below)
  changed_rises up Halve p = (above, below)
  changed_rises up Double p = up

  positive_rises : (up : low ≤ high) (side : Side) (a : Source) (next : Target) → Rising low (positive side a skip next) high
  positive_rises up Below (FixedWord w) next = (above, below)
  positive_rises up Below (AtAddress p) next = (above, below)
  positive_rises up NotBelow (FixedWord w) next = up
  positive_rises up NotBelow (AtAddress p) next = up

  ordered_rises : (up : low ≤ high) (order : Order) (wanted : Side) (next : Target) → Rising low (ordered_by order wanted skip next) high
  ordered_rises up (BySign side a) wanted next = signed_rises (wanted_side wanted side) a next
  ordered_rises up (ByPositive side a) wanted next = positive_rises up (wanted_side wanted side) a next
  ordered_rises up (ByConstant side a w) wanted next =
      rising_append low low high (lifted a w) (branch (unless_carry (wanted_side wanted side)) next ∷ []) (plain_rises low low (lifted a w) (omega arith) (lifted_plain a w)) up
  ordered_rises up (ByDifference a b) wanted next = weighed_rises wanted a b next

  tested_rises : (up : low ≤ high) (rel : Rel) (a b : Source) (next : Target) → Rising low (tested rel a b skip next) high
  tested_rises up rel a b next =
      tested_by (λ es. Rising low es high) skip next (λ a b. equal_rises low high up a b next) (λ a b. unequal_rises a b next) (λ order side. ordered_rises up order side next) rel a b

handed_rises : (low high : ℕ) (routine from : ℕ) (a b : Source) (to : ℕ) → low ≤ high → Rising low (handed routine from a b to) high
handed_rises low high routine from a b to up =
    let none : low ≤ low = omega arith in
    rising_append low low high (brought a LEFT) (brought b RIGHT ++ (call routine ∷ copied from to)) (brought_rises low low none a LEFT)
    (rising_append low low high (brought b RIGHT) (call routine ∷ copied from to) (brought_rises low low none b RIGHT) up)

lined_rises : (low high : ℕ) (t : Bool) (n : ℕ) (es : List Entry) → Rising low es high → Rising low (lined t n es) high
lined_rises low high true n es h = h
lined_rises low high false n es h = h

multiplied_rises : (low high : ℕ) (o : Option (ℕ × Source)) (a b : Source) (to : ℕ) → low ≤ high → Rising low (multiplied o a b to) high
multiplied_rises low high (Some s) a b to up = plain_rises low high (times s.0 s.1 to) up (times_plain s.0 s.1 to)
multiplied_rises low high None a b to up = handed_rises low high MULTIPLY_AT RESULT a b to up

divided_rises : (low high n : ℕ) (o : Option ℕ) (a b : Source) (to : ℕ) → low ≤ high → Rising low (divided n o a b to) high
divided_rises low high n (Some k) a b to up = plain_rises low high (shifted k a to) up (shifted_plain k a to)
divided_rises low high n None a b to up = lined_rises low high (may_be_zero b) n (handed DIVIDE_AT LEFT a b to) (handed_rises low high DIVIDE_AT LEFT a b to up)

calculated_rises : (low high n : ℕ) (op : Operator) (a b : Source) (to : ℕ) → low ≤ high → Rising low (calculated n op a b to) high
calculated_rises low high n Add a b to up = joined_rises low high up Adc a b to
calculated_rises low high n Subtract a b to up = joined_rises low high up Sbc a b to
calculated_rises low high n Multiply a b to up = multiplied_rises low high (scaling a b) a b to up
calculated_rises low high n Divide a b to up = divided_rises low high n (shifts b) a b to up

converted_rises : (low high n seed : ℕ) (what : Conversion) (a : Source) (to : ℕ) → low ≤ high → Rising low (converted n seed what a to) high
converted_rises low high n seed Negated a to up = joined_rises low high up Sbc (FixedWord 0) a to
converted_rises low high n seed Drawn a to up = lined_rises low high (may_have_none a) n (handed RANDOM_AT RESULT (FixedWord seed) a to)
    (handed_rises low high RANDOM_AT RESULT (FixedWord seed) a to up)

used_rises : (low high n : ℕ) (next : Target) (how : Usage) (a : Source) → low ≤ high → Rising low (used n next how a) high
used_rises low high n next AsNumber (FixedWord w) up = up
used_rises low high n next AsNumber (AtAddress p) up = up
used_rises low high n next AsLine (FixedWord w) up = up
used_rises low high n next AsLine (AtAddress p) up = up
used_rises low high n next AsSubroutine (FixedWord w) up = up
used_rises low high n next AsSubroutine (AtAddress p) up = up

divided_by_rises : (low high n : ℕ) (how : Divisibility) (a b : Source) (next : Target) → low ≤ high → Rising low (divided_by n how a b next) high
divided_by_rises low high n how a b next up =
    rising_append low low high (left_over n (mask b) a b) (branch (unless how) next ∷ []) (plain_rises low low (left_over n (mask b) a b) (omega arith) (left_over_plain n (mask b) a b)) up

divides_rises : (low high : ℕ) (ns : List ℕ) (n : ℕ) (how : Divisibility) (a b : Source) (to : Option ℕ) → low ≤ high → Rising low (divides ns n how a b to) high
divides_rises low high ns n how a b None up = divided_by_rises low high n how a b (next_line ns n) up
divides_rises low high ns n how a b (Some to) up = by (has_line ns to)
  where
    by : (t : Bool) → Rising low (divided_gone n how a b (next_line ns n) t to) high
    by true = divided_by_rises low high n (contrary how) a b (Line to) up
    by false = rising_append low low high (divided_by n how a b (next_line ns n)) (faulted n 1) (divided_by_rises low low n how a b (next_line ns n) (omega arith)) up

-- ── groups ──
module _ (ns : List ℕ) (seed n i : ℕ) (small : n < 65536) (index : i < 65536) where
  up : base n i ≤ base n (i + 1)
  up = omega arith

  keyed : (x : Inner) → key_of (label_of (Inside x n i)) ≡ base n i + letter_of x
  keyed x = inside_key x n i small index

  call_rises : (to : ℕ) (t : Bool) → Rising (base n i) (if t then called n to (next_line ns n) (Inside inner.Skip n i) (Inside inner.Behind n i) else faulted n 1) (base n (i + 1))
  call_rises to true = (let s = keyed inner.Skip in omega (arith, s), (let s = keyed inner.Skip in let u = keyed inner.Behind in omega (arith, s, u), let u = keyed inner.Behind in omega (arith, u)))
  call_rises to false = up

  text_rises : (bs : List ℕ) (o : Option ℕ) → Rising (base n i) (sent o (Inside inner.Text n i) (Inside inner.Behind n i) bs) (base n (i + 1))
  text_rises bs (Some b) = plain_rises (base n i) (base n (i + 1)) (byte_sent b) up (byte_plain b)
  text_rises bs None = (
    let t = keyed inner.Text in omega (arith, t),
    (
      let t = keyed inner.Text in let u = keyed inner.Behind in
          omega (arith, t, u),
      let u = keyed inner.Behind in omega (arith, u),
    ),
  )

  template_rises : (c : Instr) → Rising (base n i) (template ns n i c) (base n (i + 1))
  template_rises (SendText bs) = text_rises bs (only_byte bs)
  template_rises (JumpTo to) = jump_rises ns n to (base n i) (base n (i + 1)) (has_line ns to) refl up
  template_rises (CallTo to) = call_rises to (has_line ns to)
  template_rises Return = (let u = keyed inner.Behind in omega (arith, u), let u = keyed inner.Behind in omega (arith, u))
  template_rises _ = up

  single_rises : (t : Bool) (c : Instr) → Rising (base n i) (if t then constant n LINE ++ template ns n i c else template ns n i c) (base n (i + 1))
  single_rises true c = template_rises c
  single_rises false c = template_rises c

  -- the label of a change in place, wherever it is
  changes_rise : (low high : ℕ) (skip : Target) → low ≤ key_of (label_of skip) → key_of (label_of skip) < high → (o : Option Change) (op : Operator)
      (a b : Source) (to : ℕ) → Rising low (changed_or o n skip op a b to) high
  changes_rise low high skip above below (Some c) op a b to = changed_rises low high skip above (omega (arith, below)) (omega (arith, above, below)) c to
  changes_rise low high skip above below None op a b to = calculated_rises low high n op a b to (omega (arith, above, below))

  -- the label of a remainder's sign
  remains_rise : (o : Option ℕ) (r : Option (ℕ × ℕ)) (a b : Source) (to : ℕ) → Rising (base n i) (rest_by n o r (Inside inner.Skip n i) a b to) (base n (i + 1))
  remains_rise (Some bits) r (FixedWord w) b to = let s = keyed inner.Skip in (omega (arith, s), omega (arith, s))
  remains_rise (Some bits) r (AtAddress p) b to = let s = keyed inner.Skip in (omega (arith, s), omega (arith, s))
  remains_rise None (Some r) a b to = plain_rises (base n i) (base n (i + 1)) (reduced_rest r.0 r.1 a to) up (reduced_plain r.0 r.1 a to)
  remains_rise None None a b to =
      rising_append (base n i) (base n i) (base n (i + 1)) (asked_rest n a b) (signed_rest (Inside inner.Skip n i) a to)
      (plain_rises (base n i) (base n i) (asked_rest n a b) (omega arith) (asked_rest_plain n a b)) (by a)
    where
      by : (a : Source) → Rising (base n i) (signed_rest (Inside inner.Skip n i) a to) (base n (i + 1))
      by (FixedWord w) = let s = keyed inner.Skip in (
        omega (arith, s),
        plain_rises (key_of (label_of (Inside inner.Skip n i)) + 1) (base n (i + 1))
            (copied RESULT to) (omega (arith, s)) (copied_plain RESULT to),
      )
      by (AtAddress p) = let s = keyed inner.Skip in (
        omega (arith, s),
        plain_rises (key_of (label_of (Inside inner.Skip n i)) + 1) (base n (i + 1))
            (copied RESULT to) (omega (arith, s)) (copied_plain RESULT to),
      )

  -- the label of a change in place in its code
  computed_rises : (o : Option Change) (op : Operator) (a b : Source) (to : ℕ) → Rising (base n i) (changed_or o n (Inside inner.Skip n i) op a b to) (base n (i + 1))
  computed_rises (Some c) op a b to =
      let s = keyed inner.Skip in
      changed_rises (base n i) (base n (i + 1)) (Inside inner.Skip n i) (omega (arith, s)) (omega (arith, s)) up c to
  computed_rises None op a b to = calculated_rises (base n i) (base n (i + 1)) n op a b to up

  -- the label of a test in its code
  test_rises : (rel : Rel) (a b : Source) (next : Target) → Rising (base n i) (tested rel a b (Inside inner.Skip n i) next) (base n (i + 1))
  test_rises rel a b next =
      let s = keyed inner.Skip in
      tested_rises (base n i) (base n (i + 1)) (Inside inner.Skip n i) (omega (arith, s)) (omega (arith, s)) up rel a b next

  gone_rises : (rel : Rel) (a b : Source) (t : Bool) (to : ℕ) → Rising (base n i) (gone n rel a b (Inside inner.Skip n i) (next_line ns n) t to) (base n (i + 1))
  gone_rises rel a b true to = test_rises (denied rel) a b (Line to)
  gone_rises rel a b false to =
      rising_append (base n i) (base n (i + 1)) (base n (i + 1)) (tested rel a b (Inside inner.Skip n i) (next_line ns n)) (faulted n 1) (test_rises rel a b (next_line ns n)) (omega arith)

  group_rises : (g : Group) → Rising (base n i) (group_template ns seed n i g) (base n (i + 1))
  group_rises (Calculate op a b d) =
      let x = source_of (slot_of d) a in let y = source_of (slot_of d + 1) b in let to = destination_at d in
      computed_rises (change_of op x y to) op x y to
  group_rises (Stepped op a b by w x) =
      let to = var_at x in
      rising_append (base n i) (key_of (label_of (Inside inner.Skip n i)) + 1) (base n (i + 1)) (computed n (Inside inner.Skip n i) op (source_of 0 a)
      (source_of 1 b) to) (computed n (Inside inner.Behind n i) by (AtAddress to) (source_of 1 (Constant w)) to)
      (changes_rise (base n i) (key_of (label_of (Inside inner.Skip n i)) + 1) (Inside inner.Skip n i) (let s = keyed inner.Skip in omega (arith, s))
      (omega arith) (change_of op (source_of 0 a) (source_of 1 b) to) op (source_of 0 a) (source_of 1 b) to)
      (changes_rise (key_of (label_of (Inside inner.Skip n i)) + 1) (base n (i + 1)) (Inside inner.Behind n i) (let s = keyed inner.Skip in
      let u = keyed inner.Behind in omega (arith, s, u)) (let u = keyed inner.Behind in omega (arith, u))
      (change_of by (AtAddress to) (source_of 1 (Constant w)) to) by (AtAddress to) (source_of 1 (Constant w)) to)
  group_rises (Convert what a d) = converted_rises (base n i) (base n (i + 1)) n seed what (source_of (slot_of d) a) (destination_at d) up
  group_rises (Move a home) = brought_rises (base n i) (base n (i + 1)) up (source_of 0 a) (home_at home)
  group_rises (Use how a) = used_rises (base n i) (base n (i + 1)) n (next_line ns n) how (source_of 0 a) up
  group_rises (Test rel a b) = test_rises rel (tested_source a) (source_of 0 b) (next_line ns n)
  group_rises (TestGo rel a b to) = gone_rises rel (tested_source a) (source_of 0 b) (has_line ns to) to
  group_rises (Remains x d to) = remains_rise (mask (source_of (slot_of to + 2) d)) (doublings (source_of (slot_of to + 2) d)) (AtAddress (var_at x)) (source_of (slot_of to + 2) d) (destination_at to)
  group_rises (Divides how x d side to) = divides_rises (base n i) (base n (i + 1)) ns n how (source_of 0 (Variable x)) (source_of 1 d) to up
  group_rises (Single c) = single_rises (may_fault c) c

rest_rises : (ns : List ℕ) (seed n i : ℕ) (gs : List Group) → n < 65536 → i + length gs ≤ 65536 → Rising (base n i) (rest_code ns seed n i gs) (base (n + 1) 0)
rest_rises ns seed n i [] h k = omega (arith, h, k)
rest_rises ns seed n i (g ∷ gs) h k =
    rising_append (base n i) (base n (i + 1)) (base (n + 1) 0) (group_template ns seed n i g) (rest_code ns seed n (i + 1) gs) (group_rises ns seed n i h (omega (arith, k)) g)
    (rest_rises ns seed n (i + 1) gs h (omega (arith, k)))

-- ── lines ──
groups_rise : (ns : List ℕ) (seed n : ℕ) (is : List Instr) → n < 65536 → length is < 65536 → Rising (base n 1) (rest_code ns seed n 1 (select is)) (base (n + 1) 0)
groups_rise ns seed n is h l = rest_rises ns seed n 1 (select is) h (let f = selected_few is in omega (arith, f, l))

-- a line's groups with the STOP key's code about them, before other items
polled_woven : (away : Bool) (n : ℕ) (code ys : List Entry) → n < 65536 → Rising (base n 1) code (base (n + 1) 0) → Woven (base (n + 1) 0) (polled_base (n + 1)) ys
    → Woven (base n 0 + 1) (polled_base n) (polled away n ++ (code ++ (behind away n ++ ys)))
polled_woven true n code ys h r w =
    let k = polled_key n h in
    woven_lower (base n 0 + 1) (base n 1) (polled_base n) (polled_base n) (code ++ (behind true n ++ ys)) (omega arith) (omega arith)
    (rising_woven (base n 1) (base (n + 1) 0) (polled_base n) code (behind true n ++ ys) (omega arith) r
    (inr (
      omega (arith, k, h),
      omega (arith, k),
      woven_lower (base (n + 1) 0) (base (n + 1) 0) (key_of (label_of (Polled n)) + 1) (polled_base (n + 1)) ys (omega arith) (omega (arith, k)) w,
    )))
polled_woven false n code ys h r w =
    let k = polled_key n h in
    inr (
      omega (arith, k, h),
      omega (arith, k),
      woven_lower (base n 0 + 1) (base n 1) (key_of (label_of (Polled n)) + 1) (polled_base (n + 1)) (code ++ ys) (omega arith) (omega (arith, k))
          (rising_woven (base n 1) (base (n + 1) 0) (polled_base (n + 1)) code ys (omega arith) r w),
    )

-- a line's list before other items
list_woven : (ns : List ℕ) (seed n : ℕ) (is : List Instr) (ys : List Entry) → n < 65536 → length is < 65536 → Woven (base (n + 1) 0) (polled_base (n + 1)) ys
    → Woven (base n 0 + 1) (polled_base n) (list_code ns seed n is ++ ys)
list_woven ns seed n is ys h l w =
    by_poll (λ es. Woven (base n 0 + 1) (polled_base n) (es ++ ys)) ns seed n is
    (λ js away e. let front = polled away n in let code = rest_code ns seed n 1 (select js) in let back = behind away n in
    subst (Woven (base n 0 + 1) (polled_base n)) (sym (append_assoc front (code ++ back) ys ∙ ap (λ es. front ++ es) (append_assoc code back ys)))
    (polled_woven away n code ys h (groups_rise ns seed n js h (let s = ap length e in omega (arith, s, l))) w))
    (rising_woven (base n 0 + 1) (base (n + 1) 0) (polled_base n) (rest_code ns seed n 1 (select is)) ys (omega arith)
    (rising_lower (base n 0 + 1) (base n 1) (base (n + 1) 0) (rest_code ns seed n 1 (select is)) (omega arith) (groups_rise ns seed n is h l))
    (woven_lower (base (n + 1) 0) (base (n + 1) 0) (polled_base n) (polled_base (n + 1)) ys (omega arith) (omega arith) w))

-- after a line comes the first of the lines that rise from it
first_behind : (n : ℕ) (lines : SlotCode) → Rises (n + 1) 65536 (numbers lines) → first_of lines ≡ next_line (numbers lines) n
first_behind n [] r = refl
first_behind n (line ∷ lines) r = by (nat_lt n line.number) refl
  where
    by : (t : Bool) → nat_lt n line.number ≡ t → Line line.number ≡ target_of (if t then At line.number else next_after (numbers lines) n)
    by true e = refl
    by false e = absurd (let no : ⊥ = grind (arith, e, r.0, nat_tests) in no)

not_behind : (n m : ℕ) (ms : List ℕ) → m ≤ n → next_after (m ∷ ms) n ≡ next_after ms n
not_behind n m ms h = by (nat_lt n m) refl
  where
    by : (t : Bool) → nat_lt n m ≡ t → (if t then At m else next_after ms n) ≡ next_after ms n
    by true e = absurd (let no : ⊥ = grind (arith, e, h, nat_tests) in no)
    by false e = refl

-- lines are in turn if they rise and all lines before them are lower
in_turn : (ns : List ℕ) (low : ℕ) (lines : SlotCode) → Rises low 65536 (numbers lines) → ((n : ℕ) → low ≤ n → next_after ns n ≡ next_after (numbers lines) n) → AreInTurn ns lines
in_turn ns low [] r same = tt
in_turn ns low (line ∷ lines) r same =
    let m = line.number in (
      first_behind m lines r.2 ∙ sym (ap target_of (same m r.0 ∙ not_behind m m (numbers lines) (omega arith))),
      in_turn ns (m + 1) lines r.2 (λ n h. same n (let l = r.0 in omega (arith, h, l)) ∙ not_behind n m (numbers lines) (omega (arith, h))),
    )

-- lines that rise are in turn
pub lines_in_turn : (lines : SlotCode) → Rises 0 65536 (numbers lines) → AreInTurn (numbers lines) lines
lines_in_turn lines r = in_turn (numbers lines) 0 lines r (λ n h. refl)

-- lines before other items
lines_woven : (ns : List ℕ) (seed low : ℕ) (lines : SlotCode) (ys : List Entry) → low ≤ 65536 → Rises low 65536 (numbers lines)
    → AreCodable lines → Woven (base 65536 0) (polled_base 65536) ys → Woven (base low 0) (polled_base low) (lines_code ns seed lines ++ ys)
lines_woven ns seed low [] ys l r c w = woven_lower (base low 0) (base 65536 0) (polled_base low) (polled_base 65536) ys (omega (arith, l)) (omega (arith, l)) w
lines_woven ns seed low (line ∷ lines) ys l r c w =
    let n = line.number in
    let k = line_key n r.1 in
    let more = lines_code ns seed lines ++ ys in
    let least = r.0 in let small = r.1 in
    subst (Woven (base low 0) (polled_base low)) (sym (append_assoc (line_code ns seed line) (lines_code ns seed lines) ys))
    (inl (
      omega (arith, k),
      omega (arith, k, least),
      subst (λ x. Woven (x + 1) (polled_base low) (list_code ns seed n line.content ++ more)) (sym k)
          (woven_lower (base n 0 + 1) (base n 0 + 1) (polled_base low) (polled_base n) (list_code ns seed n line.content ++ more) (omega arith) (omega (arith, least))
          (list_woven ns seed n line.content more r.1 c.1 (lines_woven ns seed (n + 1) lines ys (omega (arith, small)) r.2 c.2 w))),
    ))

rows_woven : (ns : List ℕ) (low breaks : ℕ) → Woven low breaks (rows_code ns)
rows_woven [] low breaks = tt
rows_woven (n ∷ ns) low breaks = rows_woven ns low breaks

compared_woven : (ns : List ℕ) (low breaks : ℕ) (es : List Entry) → Woven low breaks es → Woven low breaks (all_compared ns ++ es)
compared_woven [] low breaks es w = w
compared_woven (n ∷ ns) low breaks es w = compared_woven ns low breaks es w

-- what belongs to no line
rest_woven : (t : Bool) (ns : List ℕ) → Woven (base 65536 0) (polled_base 65536) (past_code ns ++ (find_code t ns ++ table_code ns))
rest_woven t ns = inl (omega arith, omega arith, inl (omega arith, omega arith, by t))
  where
    table : Woven (key_of (label_of Find) + 1) (polled_base 65536) (looked_up (length ns) ++ table_code ns)
    table = inl (omega arith, omega arith, rows_woven ns (key_of (label_of Table) + 1) (polled_base 65536))

    by : (t : Bool) → Woven (key_of (label_of Find) + 1) (polled_base 65536) ((comparisons t ns ++ looked_up (length ns)) ++ table_code ns)
    by true = subst (Woven (key_of (label_of Find) + 1) (polled_base 65536)) (sym (append_assoc (all_compared ns) (looked_up (length ns)) (table_code ns)))
        (compared_woven ns (key_of (label_of Find) + 1) (polled_base 65536) (looked_up (length ns) ++ table_code ns) table)
    by false = table

-- the labels of a whole program rise in their two orders
pub program_woven : (seed : ℕ) (code : SlotCode) → Rises 0 65536 (numbers code) → AreCodable code → Woven lowest 0 (program_code seed code)
program_woven seed code r c =
    let ns = numbers code in
    let rest = past_code ns ++ (find_code (compares code) ns ++ table_code ns) in
    woven_lower lowest lowest 0 (polled_base 0) (lines_code ns seed code ++ rest) (omega arith) (omega arith)
    (lines_woven ns seed 0 code rest (omega arith) r c (rest_woven (compares code) ns))
