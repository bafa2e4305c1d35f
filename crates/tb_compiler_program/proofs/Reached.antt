-- Each label that a program's code names is known.
use Rattle.std.proofs.Common.{◌≡◌, ℕ, ◌+◌, ◌%◌, ◌/◌, Bool, true, false, List, [], ◌∷◌, ◌++◌, length, refl, sym, ap, arith, subst}
use Rattle.std.proofs.Common.{Option, Some, None, is_some, true≢false}
use Rattle.std.specs.Prelude.{option_map, if◌then◌else◌, ◌||◌, nat_lt, nat_eq}
use Rattle.std.proofs.lemmas.Bool.Decides.{nat_tests}
use Rattle.std.proofs.lemmas.Bool.{or_right, eq-eqb}
use Rattle.tb_opcodes.specs.declared.Mnemonic.{Mnemonic}
use Rattle.tb_opcodes.specs.declared.Mnemonic.TheVariants.{Adc, Beq, Bne, Cmp, Lda, Ldy, Ora, Sbc, Sta}
use Rattle.tb_opcodes.specs.declared.Mode.TheVariants.{Absolute, ZeroPage}
use Rattle.tb_words.specs.declared.Rel.{Rel}
use Rattle.tb_basic_syntax.specs.declared.expressions.Operator.{Operator}
use Rattle.tb_basic_syntax.specs.declared.expressions.Operator.TheVariants.{Add, Subtract, Multiply, Divide}
use Rattle.tb_asm.specs.declared.names.Name.{Name}
use Rattle.tb_asm.specs.declared.errors.AsmErrorKind.TheVariants.{UnknownLabel}
use Rattle.tb_asm.specs.declared.items.Operand.TheVariants.{Byte, Word}
use Rattle.tb_asm.specs.Layout.{Entry, instr, size, size_of, address_in}
use Rattle.tb_asm.specs.Settle.{unknown_fault}
use Rattle.tb_basic_meaning.specs.Control.{At, has_line, next_after}
use Rattle.tb_lower.specs.Slots.{Instr, Put, Load, SendText, SendZone, SendNewline, Input, Poll, JumpTo, CallTo, Return, End, SlotCode}
use Rattle.tb_compiler_selection.specs.Groups.{Conversion, Negated, Drawn, Usage, AsNumber, AsLine, AsSubroutine, Constant, Variable, Divisibility, Group, Calculate}
use Rattle.tb_compiler_selection.specs.Groups.{Stepped, Convert, Move, Use, Test, TestGo, Divides, Remains, Single, contrary, denied, slot_of}
use Rattle.tb_compiler_selection.specs.Select.{select}
use Rattle.tb_basic_syntax.specs.Source.{numbers}
use Rattle.tb_compiled_kept.specs.Addresses.{LEFT, RIGHT, RESULT, LINE, WANTED, var_at}
use Rattle.tb_runtime16.specs.Addresses.{MULTIPLY_AT, DIVIDE_AT, RANDOM_AT, NUMBER_AT}
use Rattle.tb_compiler_templates.specs.declared.labels.Inner.TheVariants as inner
use Rattle.tb_compiler_templates.specs.declared.labels.Target.{Target}
use Rattle.tb_compiler_templates.specs.declared.labels.Target.TheVariants as target
use Rattle.tb_compiler_templates.specs.Labels.{label_of}
use Rattle.tb_compiler_program.specs.Layout.{LabelsAt}
use Rattle.tb_compiler_templates.specs.Templates.{branch, byte_sent, here, only_byte, sent, slot_at, on, template, jump, faulted, called, returned, find, return_address, jump_through, target_of, next_line, call, copied, constant}
use Rattle.tb_compiler_templates.specs.Sources.{source_of, tested_source, home_at, destination_at}
use Rattle.tb_compiler_templates.specs.declared.sources.Source.{Source}
use Rattle.tb_compiler_templates.specs.declared.sources.Source.TheVariants.{FixedWord, AtAddress}
use Rattle.tb_compiler_templates.specs.GroupTemplates.{low_of, high_of, brought, joined, handed, multiplied, divided, calculated, computed, changed_or, converted}
use Rattle.tb_compiler_templates.specs.GroupTemplates.{searched, used, equal, unequal, tested, gone, may_fault, group_template, lined, may_be_zero, may_have_none}
use Rattle.tb_compiler_templates.specs.GroupTemplates.{left_over, unless, divided_by, divided_gone, divides, asked_rest, signed_rest, rest_by, low_matched}
use Rattle.tb_compiler_templates.specs.GroupTemplates.{high_matched}
use Rattle.tb_compiler_templates.specs.Scaled.{scaling, times, shifts, shifted}
use Rattle.tb_compiler_templates.specs.InPlace.{change_of, changed}
use Rattle.tb_compiler_templates.specs.declared.in_place.Change.{Change}
use Rattle.tb_compiler_templates.specs.declared.in_place.Change.TheVariants.{Increment, Decrement, Raise, Lower, Halve, Double}
use Rattle.tb_compiler_templates.specs.Masks.{mask}
use Rattle.tb_compiler_templates.specs.Reduced.{doublings, reduced_rest}
use Rattle.tb_compiler_program.proofs.Divided.{asked_rest_plain, left_over_plain}
use Rattle.tb_compiler_templates.proofs.Multiples.{reduced_plain}
use Rattle.tb_compiler_program.proofs.Sent.{byte_plain}
use Rattle.tb_compiler_templates.specs.Orders.{positive}
use Rattle.tb_compiler_templates.specs.declared.orders.Side.TheVariants.{Below, NotBelow}
use Rattle.tb_compiler_templates.specs.Orders.{lifted, ordered_by, unless_carry, wanted_side, weighed}
use Rattle.tb_compiler_templates.specs.declared.orders.Side.{Side}
use Rattle.tb_compiler_templates.specs.declared.orders.Order.{Order}
use Rattle.tb_compiler_templates.specs.declared.orders.Order.TheVariants.{BySign, ByPositive, ByConstant, ByDifference}
use Rattle.tb_compiler_program.specs.Program.{rest_code, list_code, line_code, lines_code, past_code, rows_code, table_code, block_code, program_code}
use Rattle.tb_compiler_templates.specs.Breaks.{polled, behind}
use Rattle.tb_compiler_program.specs.Search.{all_compared, compares, comparisons, find_code, looked_up}
use Rattle.tb_assembly_settling.specs.Settled.{AllKnown}
use Rattle.tb_compiler_program.proofs.Listed.{tested_by, by_poll}
use Rattle.tb_compiler_templates.proofs.Plain.{low_matched_plain, high_matched_plain, lifted_plain, plain_known, times_plain, shifted_plain}

-- ── lists one after another ──
pub labels_split : (labels : List (Name × ℕ)) (a : ℕ) (xs ys : List Entry) → LabelsAt labels a (xs ++ ys) → LabelsAt labels a xs × LabelsAt labels (a + size xs) ys
labels_split labels a [] ys h = (tt, subst (λ b. LabelsAt labels b ys) (let e : a ≡ a + 0 = omega arith in e) h)
labels_split labels a (x ∷ xs) ys h =
    let rest = labels_split labels (a + size_of x) xs ys h.1 in
    ((h.0, rest.0), subst (λ b. LabelsAt labels b ys) (let e : a + size_of x + size xs ≡ a + (size_of x + size xs) = omega arith in e) rest.1)

known_append : (labels : List (Name × ℕ)) (xs ys : List Entry) → AllKnown labels xs → AllKnown labels ys → AllKnown labels (xs ++ ys)
known_append labels [] ys h k = k
known_append labels (x ∷ xs) ys h k = (h.0, known_append labels xs ys h.1 k)

-- one fact and the facts after it
infixr 5 ◌▹◌
◌▹◌ : {P Q : Type 0} → P → Q → P × Q
p ▹ q = (p, q)

-- ── what labels there are ──
abbrev pub Stands : List (Name × ℕ) → Target → Type 0
Stands labels to = is_some (address_in labels (label_of to)) ≡ true

abbrev pub LinesStand : List (Name × ℕ) → List ℕ → Type 0
LinesStand labels ns = (n : ℕ) → has_line ns n ≡ true → Stands labels (target.Line n)

pub record Known (labels : List (Name × ℕ)) (ns : List ℕ) : Type 0 where
  pub lines : LinesStand labels ns
  pub past : Stands labels target.Past
  pub find : Stands labels target.Find
  pub table : Stands labels target.Table

first_line : (n : ℕ) (ns : List ℕ) → has_line (n ∷ ns) n ≡ true
first_line n ns = ap (λ b. b || has_line ns n) (eq-eqb n n refl)

next_stands : (labels : List (Name × ℕ)) (ns : List ℕ) (n : ℕ) → LinesStand labels ns → Stands labels target.Past → Stands labels (next_line ns n)
next_stands labels [] n h p = p
next_stands labels (m ∷ ms) n h p = choose (nat_lt n m) (next_stands labels ms n (λ k e. h k (or_right (nat_eq m k) (has_line ms k) e)) p)
  where
    choose : (t : Bool) → Stands labels (next_line ms n) → Stands labels (target_of (if t then At m else next_after ms n))
    choose true k = h m (first_line m ms)
    choose false k = k

-- ── the code of a line ──
part_stands : (f : ℕ → ℕ) (v : Option ℕ) → is_some v ≡ true → is_some (option_map f v) ≡ true
part_stands f (Some x) h = refl
part_stands f None h = h

module _ (labels : List (Name × ℕ)) (ns : List ℕ) (known : Known labels ns) where
  next_known : (n : ℕ) → Stands labels (next_line ns n)
  next_known n = next_stands labels ns n known.lines known.past

  found : (b : Bool) → b ≡ true → (if b then None else Some UnknownLabel) ≡ None
  found b h = ap (λ c. if c then None else Some UnknownLabel) h

  to_label : (to : Target) → Stands labels to → (if is_some (address_in labels (label_of to)) then None else Some UnknownLabel) ≡ None
  to_label to h = found (is_some (address_in labels (label_of to))) h

  low_label : (to : Target) → Stands labels to → (if is_some (option_map (λ v. v % 256) (address_in labels (label_of to))) then None else Some UnknownLabel) ≡ None
  low_label to h = found (is_some (option_map (λ v. v % 256) (address_in labels (label_of to)))) (part_stands (λ v. v % 256) (address_in labels (label_of to)) h)

  high_label : (to : Target) → Stands labels to → (if is_some (option_map (λ v. v / 256) (address_in labels (label_of to))) then None else Some UnknownLabel) ≡ None
  high_label to h = found (is_some (option_map (λ v. v / 256) (address_in labels (label_of to)))) (part_stands (λ v. v / 256) (address_in labels (label_of to)) h)

  jump_known : (n to : ℕ) (t : Bool) → has_line ns to ≡ t → AllKnown labels (if t then jump (target.Line to) ∷ [] else faulted n 1)
  jump_known n to true e = (to_label (target.Line to) (known.lines to e) ▹ tt)
  jump_known n to false e = (refl ▹ refl ▹ refl ▹ refl ▹ tt)

  call_known : (n a to : ℕ) (next skip over : Target) (t : Bool) → has_line ns to ≡ t → Stands labels next → LabelsAt labels a (if t then called n to next skip over else faulted n 1)
      → AllKnown labels (if t then called n to next skip over else faulted n 1)
  call_known n a to next skip over true e s h =
      let line = to_label (target.Line to) (known.lines to e) in
      let held : Stands labels skip = ap is_some h.1.1.1.1.1.1.1.1.1.1.0 in
      let behind : Stands labels over = ap is_some h.1.1.1.1.1.1.1.1.1.1.1.1.0 in
      (refl ▹ to_label over behind ▹ refl ▹ low_label next s ▹ refl ▹ high_label next s ▹ refl ▹ refl ▹ to_label skip held ▹ refl ▹ refl ▹ line ▹ refl ▹
      refl ▹ refl ▹ refl ▹ refl ▹ low_label next s ▹ refl ▹ high_label next s ▹ refl ▹ refl ▹ line ▹ tt)
  call_known n a to next skip over false e s h = (refl ▹ refl ▹ refl ▹ refl ▹ tt)

  returned_known : (n a : ℕ) (over : Target) → LabelsAt labels a (returned n over) → AllKnown labels (returned n over)
  returned_known n a over h =
      let behind : Stands labels over = ap is_some h.1.1.1.1.1.1.1.1.1.1.1.0 in
      (refl ▹ to_label over behind ▹ refl ▹ to_label over behind ▹ refl ▹ refl ▹ refl ▹ refl ▹ refl ▹ refl ▹ refl ▹ refl ▹
      refl ▹ refl ▹ refl ▹ refl ▹ refl ▹ refl ▹ tt)

  text_known : (n i a : ℕ) (bs : List ℕ) (o : Option ℕ) → LabelsAt labels a (sent o (target.Inside inner.Text n i) (target.Inside inner.Behind n i) bs)
      → AllKnown labels (sent o (target.Inside inner.Text n i) (target.Inside inner.Behind n i) bs)
  text_known n i a bs (Some b) h = plain_known labels (byte_sent b) (byte_plain b)
  text_known n i a bs None h =
      let of : Stands labels (target.Inside inner.Text n i) = ap is_some h.1.1.1.1.1.1.1.1.0 in
      let behind : Stands labels (target.Inside inner.Behind n i) = ap is_some h.1.1.1.1.1.1.1.1.1.1.0 in
      (low_label (target.Inside inner.Text n i) of ▹ refl ▹ high_label (target.Inside inner.Text n i) of ▹ refl ▹ refl ▹ refl ▹ refl ▹
      to_label (target.Inside inner.Behind n i) behind ▹ refl ▹ refl ▹ refl ▹ tt)

  -- in either mode for an address
  on_known : (m : Mnemonic) (p : ℕ) → unknown_fault labels (on m p) ≡ None
  on_known m p = by (nat_lt p 256)
    where
      by : (t : Bool) → unknown_fault labels (instr m (if t then ZeroPage else Absolute) (if t then Byte p else Word p)) ≡ None
      by true = refl
      by false = refl

  copied_known : (from to : ℕ) → AllKnown labels (copied from to)
  copied_known from to = (on_known Lda from ▹ refl ▹ on_known Lda (from + 1) ▹ refl ▹ tt)

  template_known : (n i a : ℕ) (c : Instr) → LabelsAt labels a (template ns n i c) → AllKnown labels (template ns n i c)
  template_known n i a (Put k w) h = (refl ▹ refl ▹ refl ▹ refl ▹ tt)
  template_known n i a (Load k x) h = copied_known (var_at x) (slot_at k)
  template_known n i a (SendText bs) h = text_known n i a bs (only_byte bs) h
  template_known n i a SendZone h = (refl ▹ tt)
  template_known n i a SendNewline h = (refl ▹ refl ▹ refl ▹ refl ▹ tt)
  template_known n i a (Input x) h = (refl ▹ refl ▹ refl ▹ refl ▹ refl ▹ tt)
  template_known n i a Poll h = (refl ▹ tt)
  template_known n i a (JumpTo to) h = jump_known n to (has_line ns to) refl
  template_known n i a (CallTo to) h = call_known n a to (next_line ns n) (target.Inside inner.Skip n i) (target.Inside inner.Behind n i) (has_line ns to) refl (next_known n) h
  template_known n i a Return h = returned_known n a (target.Inside inner.Behind n i) h
  template_known n i a End h = (refl ▹ tt)
  template_known n i a _ h = tt

  single_known : (n i a : ℕ) (t : Bool) (c : Instr) → LabelsAt labels a (if t then constant n LINE ++ template ns n i c else template ns n i c)
      → AllKnown labels (if t then constant n LINE ++ template ns n i c else template ns n i c)
  single_known n i a true c h = (refl ▹ refl ▹ refl ▹ refl ▹ template_known n i (a + 2 + 3 + 2 + 3) c h.1.1.1.1)
  single_known n i a false c h = template_known n i a c h

  -- ── words and tests ──
  low_known : (m : Mnemonic) (a : Source) → unknown_fault labels (low_of m a) ≡ None
  low_known m (FixedWord w) = refl
  low_known m (AtAddress p) = refl

  high_known : (m : Mnemonic) (a : Source) → unknown_fault labels (high_of m a) ≡ None
  high_known m (FixedWord w) = refl
  high_known m (AtAddress p) = refl

  brought_known : (a : Source) (to : ℕ) → AllKnown labels (brought a to)
  brought_known a to = (low_known Lda a ▹ on_known Sta to ▹ high_known Lda a ▹ on_known Sta (to + 1) ▹ tt)

  joined_known : (m : Mnemonic) (a b : Source) (to : ℕ) → AllKnown labels (joined m a b to)
  joined_known m a b to = (low_known Lda a ▹ low_known m b ▹ refl ▹ high_known Lda a ▹ high_known m b ▹ refl ▹ tt)

  handed_known : (routine from : ℕ) (a b : Source) (to : ℕ) → AllKnown labels (handed routine from a b to)
  handed_known routine from a b to =
      known_append labels (brought a LEFT) (brought b RIGHT ++ (call routine ∷ copied from to)) (brought_known a LEFT)
      (known_append labels (brought b RIGHT) (call routine ∷ copied from to) (brought_known b RIGHT) (refl ▹ copied_known from to))

  lined_known : (t : Bool) (n : ℕ) (es : List Entry) → AllKnown labels es → AllKnown labels (lined t n es)
  lined_known true n es h = (refl ▹ refl ▹ refl ▹ refl ▹ h)
  lined_known false n es h = h

  multiplied_known : (o : Option (ℕ × Source)) (a b : Source) (to : ℕ) → AllKnown labels (multiplied o a b to)
  multiplied_known (Some s) a b to = plain_known labels (times s.0 s.1 to) (times_plain s.0 s.1 to)
  multiplied_known None a b to = handed_known MULTIPLY_AT RESULT a b to

  divided_known : (n : ℕ) (o : Option ℕ) (a b : Source) (to : ℕ) → AllKnown labels (divided n o a b to)
  divided_known n (Some k) a b to = plain_known labels (shifted k a to) (shifted_plain k a to)
  divided_known n None a b to = lined_known (may_be_zero b) n (handed DIVIDE_AT LEFT a b to) (handed_known DIVIDE_AT LEFT a b to)

  calculated_known : (n : ℕ) (op : Operator) (a b : Source) (to : ℕ) → AllKnown labels (calculated n op a b to)
  calculated_known n Add a b to = (refl ▹ joined_known Adc a b to)
  calculated_known n Subtract a b to = (refl ▹ joined_known Sbc a b to)
  calculated_known n Multiply a b to = multiplied_known (scaling a b) a b to
  calculated_known n Divide a b to = divided_known n (shifts b) a b to

  -- the label of a change in place is in its code
  changed_known : (at : ℕ) (c : Change) (p : ℕ) (skip : Target) → LabelsAt labels at (changed c p skip) → AllKnown labels (changed c p skip)
  changed_known at Increment p skip h = (refl ▹ to_label skip (ap is_some h.1.1.1.0) ▹ refl ▹ refl ▹ tt)
  changed_known at Decrement p skip h = (refl ▹ to_label skip (ap is_some h.1.1.1.0) ▹ refl ▹ refl ▹ refl ▹ tt)
  changed_known at (Raise c) p skip h = (refl ▹ refl ▹ refl ▹ refl ▹ to_label skip (ap is_some h.1.1.1.1.1.1.0) ▹ refl ▹ refl ▹ tt)
  changed_known at (Lower c) p skip h = (refl ▹ refl ▹ refl ▹ refl ▹ to_label skip (ap is_some h.1.1.1.1.1.1.0) ▹ refl ▹ refl ▹ tt)
  changed_known at Halve p skip h =
      (refl ▹ refl ▹ to_label skip (ap is_some h.1.1.1.1.1.1.1.1.1.1.0) ▹ refl ▹ refl ▹ refl ▹ refl ▹ refl ▹ refl ▹ refl ▹ refl ▹ refl ▹ refl ▹ tt)
  changed_known at Double p skip h = (refl ▹ refl ▹ tt)

  computed_known : (n at : ℕ) (o : Option Change) (skip : Target) (op : Operator) (a b : Source) (to : ℕ)
      → LabelsAt labels at (changed_or o n skip op a b to) → AllKnown labels (changed_or o n skip op a b to)
  computed_known n at (Some c) skip op a b to h = changed_known at c to skip h
  computed_known n at None skip op a b to h = calculated_known n op a b to

  converted_known : (n seed : ℕ) (what : Conversion) (a : Source) (to : ℕ) → AllKnown labels (converted n seed what a to)
  converted_known n seed Negated a to = (refl ▹ joined_known Sbc (FixedWord 0) a to)
  converted_known n seed Drawn a to = lined_known (may_have_none a) n (handed RANDOM_AT RESULT (FixedWord seed) a to) (handed_known RANDOM_AT RESULT (FixedWord seed) a to)

  searched_known : (n : ℕ) (a : Source) → AllKnown labels (searched n a)
  searched_known n a =
      (refl ▹ refl ▹ refl ▹ refl ▹ known_append labels (brought a WANTED) (find ∷ []) (brought_known a WANTED) (to_label target.Find known.find ▹ tt))

  used_known : (n : ℕ) (next : Target) (how : Usage) (a : Source) → Stands labels next → AllKnown labels (used n next how a)
  used_known n next AsNumber a h = known_append labels (brought a LEFT) (call NUMBER_AT ∷ []) (brought_known a LEFT) (refl ▹ tt)
  used_known n next AsLine a h = known_append labels (searched n a) jump_through (searched_known n a) (refl ▹ tt)
  used_known n next AsSubroutine a h =
      known_append labels (searched n a) (return_address next ++ jump_through) (searched_known n a) (low_label next h ▹ refl ▹ high_label next h ▹ refl ▹ refl ▹ refl ▹ tt)

  weighed_known : (side : Side) (a b : Source) (skip next : Target) → Stands labels skip → Stands labels next → AllKnown labels (weighed side a b skip next)
  weighed_known side a b skip next s t =
      (low_known Lda a ▹ low_known Cmp b ▹ high_known Lda a ▹ high_known Sbc b ▹ to_label skip s ▹ refl ▹ refl ▹ to_label next t ▹ tt)

  equal_known : (a b : Source) (next : Target) → Stands labels next → AllKnown labels (equal a b next)
  equal_known a b next t =
      known_append labels (low_matched a b) (branch Bne next ∷ (high_matched a b ++ (branch Bne next ∷ []))) (plain_known labels (low_matched a b) (low_matched_plain a b))
      (to_label next t
      ▹ known_append labels (high_matched a b) (branch Bne next ∷ []) (plain_known labels (high_matched a b) (high_matched_plain a b)) (to_label next t ▹ tt))

  unequal_known : (a b : Source) (stays next : Target) → Stands labels stays → Stands labels next → AllKnown labels (unequal a b stays next)
  unequal_known a b stays next s t =
      known_append labels (low_matched a b) (branch Bne stays ∷ (high_matched a b ++ (branch Beq next ∷ here stays ∷ [])))
      (plain_known labels (low_matched a b) (low_matched_plain a b))
      (to_label stays s
      ▹ known_append labels (high_matched a b) (branch Beq next ∷ here stays ∷ []) (plain_known labels (high_matched a b) (high_matched_plain a b)) (to_label next t ▹ refl ▹ tt))

  -- the label of a test, if it has one, is in its code
  unequal_skip : (a : ℕ) (l r : Source) (skip next : Target) → LabelsAt labels a (unequal l r skip next) → Stands labels skip
  unequal_skip a l r skip next h =
      let rest = (labels_split labels a (low_matched l r) (branch Bne skip ∷ (high_matched l r ++ (branch Beq next ∷ here skip ∷ []))) h).1 in
      ap is_some (labels_split labels _ (high_matched l r) (branch Beq next ∷ here skip ∷ []) rest.1).1.1.0

  weighed_skip : (a : ℕ) (side : Side) (l r : Source) (skip next : Target) → LabelsAt labels a (weighed side l r skip next) → Stands labels skip
  weighed_skip a side (FixedWord v) (FixedWord w) skip next h = ap is_some h.1.1.1.1.1.1.0
  weighed_skip a side (FixedWord v) (AtAddress q) skip next h = ap is_some h.1.1.1.1.1.1.0
  weighed_skip a side (AtAddress p) (FixedWord w) skip next h = ap is_some h.1.1.1.1.1.1.0
  weighed_skip a side (AtAddress p) (AtAddress q) skip next h = ap is_some h.1.1.1.1.1.1.0

  positive_skip : (a : ℕ) (l : Source) (skip next : Target) → LabelsAt labels a (positive Below l skip next) → Stands labels skip
  positive_skip a (FixedWord v) skip next h = ap is_some h.1.1.1.1.0
  positive_skip a (AtAddress p) skip next h = ap is_some h.1.1.1.1.0

  positive_known : (at : ℕ) (side : Side) (a : Source) (skip next : Target) → Stands labels next → LabelsAt labels at (positive side a skip next) → AllKnown labels (positive side a skip next)
  positive_known at Below a skip next s h = (high_known Lda a ▹ to_label skip (positive_skip at a skip next h) ▹ low_known Ora a ▹ to_label next s ▹ refl ▹ tt)
  positive_known at NotBelow a skip next s h = (high_known Lda a ▹ to_label next s ▹ low_known Ora a ▹ to_label next s ▹ tt)

  ordered_known : (at : ℕ) (order : Order) (wanted : Side) (skip next : Target) → Stands labels next
      → LabelsAt labels at (ordered_by order wanted skip next) → AllKnown labels (ordered_by order wanted skip next)
  ordered_known at (BySign side a) wanted skip next s h = (high_known Lda a ▹ to_label next s ▹ tt)
  ordered_known at (ByPositive side a) wanted skip next s h = positive_known at (wanted_side wanted side) a skip next s h
  ordered_known at (ByConstant side a w) wanted skip next s h =
      known_append labels (lifted a w) (branch (unless_carry (wanted_side wanted side)) next ∷ []) (plain_known labels (lifted a w) (lifted_plain a w)) (to_label next s ▹ tt)
  ordered_known at (ByDifference a b) wanted skip next s h = weighed_known wanted a b skip next (weighed_skip at wanted a b skip next h) s

  tested_known : (at : ℕ) (rel : Rel) (a b : Source) (skip next : Target) → Stands labels next → LabelsAt labels at (tested rel a b skip next) → AllKnown labels (tested rel a b skip next)
  tested_known at rel a b skip next t h =
      tested_by (λ es. LabelsAt labels at es → AllKnown labels es) skip next (λ a b h. equal_known a b next t) (λ a b h. unequal_known a b skip next (unequal_skip at a b skip next h) t)
      (λ order side h. ordered_known at order side skip next t h) rel a b h

  gone_known : (n at : ℕ) (rel : Rel) (a b : Source) (skip next : Target) (t : Bool) (to : ℕ) → has_line ns to ≡ t → Stands labels next
      → LabelsAt labels at (gone n rel a b skip next t to) → AllKnown labels (gone n rel a b skip next t to)
  gone_known n at rel a b skip next true to e t h = tested_known at (denied rel) a b skip (target.Line to) (known.lines to e) h
  gone_known n at rel a b skip next false to e t h =
      let code = tested rel a b skip next in
      known_append labels code (faulted n 1) (tested_known at rel a b skip next t (labels_split labels at code (faulted n 1) h).0) (refl ▹ refl ▹ refl ▹ refl ▹ tt)

  -- ── divisibility ──
  divided_by_known : (n : ℕ) (how : Divisibility) (a b : Source) (next : Target) → Stands labels next → AllKnown labels (divided_by n how a b next)
  divided_by_known n how a b next t =
      known_append labels (left_over n (mask b) a b) (branch (unless how) next ∷ []) (plain_known labels (left_over n (mask b) a b) (left_over_plain n (mask b) a b)) (to_label next t ▹ tt)

  divides_known : (n : ℕ) (how : Divisibility) (a b : Source) (to : Option ℕ) → AllKnown labels (divides ns n how a b to)
  divides_known n how a b None = divided_by_known n how a b (next_line ns n) (next_known n)
  divides_known n how a b (Some to) = by (has_line ns to) refl
    where
      by : (t : Bool) → has_line ns to ≡ t → AllKnown labels (divided_gone n how a b (next_line ns n) t to)
      by true e = divided_by_known n (contrary how) a b (target.Line to) (known.lines to e)
      by false e = known_append labels (divided_by n how a b (next_line ns n)) (faulted n 1) (divided_by_known n how a b (next_line ns n) (next_known n)) (refl ▹ refl ▹ refl ▹ refl ▹ tt)

  remains_known : (n at : ℕ) (o : Option ℕ) (r : Option (ℕ × ℕ)) (skip : Target) (a b : Source) (to : ℕ) → LabelsAt labels at (rest_by n o r skip a b to)
      → AllKnown labels (rest_by n o r skip a b to)
  remains_known n at (Some bits) r skip a b to h =
      (low_known Lda a ▹ refl ▹ refl ▹ high_known Ldy a ▹ to_label skip (ap is_some h.1.1.1.1.1.1.1.1.1.1.1.1.1.1.1.0)
      ▹ refl ▹ refl ▹ refl ▹ refl ▹ refl ▹ refl ▹ refl ▹ refl ▹ refl ▹ refl ▹ refl ▹ refl ▹ refl ▹ tt)
  remains_known n at None (Some r) skip a b to h = plain_known labels (reduced_rest r.0 r.1 a to) (reduced_plain r.0 r.1 a to)
  remains_known n at None None skip a b to h =
      known_append labels (asked_rest n a b) (signed_rest skip a to) (plain_known labels (asked_rest n a b) (asked_rest_plain n a b))
      (by a (labels_split labels at (asked_rest n a b) (signed_rest skip a to) h).1)
    where
      by : (a : Source) → LabelsAt labels (at + size (asked_rest n a b)) (signed_rest skip a to) → AllKnown labels (signed_rest skip a to)
      by a h = (high_known Lda a ▹ to_label skip (ap is_some h.1.1.1.1.1.1.1.1.1.0) ▹ refl ▹ refl ▹ refl ▹ refl ▹ refl ▹ refl ▹ refl ▹ refl ▹ copied_known RESULT to)

  -- ── groups ──
  group_known : (seed n i at : ℕ) (g : Group) → LabelsAt labels at (group_template ns seed n i g) → AllKnown labels (group_template ns seed n i g)
  group_known seed n i at (Calculate op a b d) h =
      let x = source_of (slot_of d) a in let y = source_of (slot_of d + 1) b in let to = destination_at d in
      computed_known n at (change_of op x y to) (target.Inside inner.Skip n i) op x y to h
  group_known seed n i at (Stepped op a b by w x) h =
      let to = var_at x in
      let front = computed n (target.Inside inner.Skip n i) op (source_of 0 a) (source_of 1 b) to in
      let back = computed n (target.Inside inner.Behind n i) by (AtAddress to) (source_of 1 (Constant w)) to in
      let s = labels_split labels at front back h in
      known_append labels front back
      (computed_known n at (change_of op (source_of 0 a) (source_of 1 b) to) (target.Inside inner.Skip n i) op (source_of 0 a) (source_of 1 b) to s.0)
      (computed_known n (at + size front) (change_of by (AtAddress to) (source_of 1 (Constant w)) to) (target.Inside inner.Behind n i) by (AtAddress to) (source_of 1 (Constant w)) to s.1)
  group_known seed n i at (Convert what a d) h = converted_known n seed what (source_of (slot_of d) a) (destination_at d)
  group_known seed n i at (Move a home) h = brought_known (source_of 0 a) (home_at home)
  group_known seed n i at (Use how a) h = used_known n (next_line ns n) how (source_of 0 a) (next_known n)
  group_known seed n i at (Test rel a b) h = tested_known at rel (tested_source a) (source_of 0 b) (target.Inside inner.Skip n i) (next_line ns n) (next_known n) h
  group_known seed n i at (TestGo rel a b to) h =
      gone_known n at rel (tested_source a) (source_of 0 b) (target.Inside inner.Skip n i) (next_line ns n) (has_line ns to) to refl (next_known n) h
  group_known seed n i at (Remains x d to) h =
      remains_known n at (mask (source_of (slot_of to + 2) d)) (doublings (source_of (slot_of to + 2) d)) (target.Inside inner.Skip n i) (AtAddress (var_at x)) (source_of (slot_of to + 2) d) (destination_at to) h
  group_known seed n i at (Divides how x d side to) h = divides_known n how (source_of 0 (Variable x)) (source_of 1 d) to
  group_known seed n i at (Single c) h = single_known n i at (may_fault c) c h

  rest_known : (seed n i a : ℕ) (gs : List Group) → LabelsAt labels a (rest_code ns seed n i gs) → AllKnown labels (rest_code ns seed n i gs)
  rest_known seed n i a [] h = tt
  rest_known seed n i a (g ∷ gs) h =
      let code = group_template ns seed n i g in let rest = rest_code ns seed n (i + 1) gs in
      let s = labels_split labels a code rest h in
      known_append labels code rest (group_known seed n i a g s.0) (rest_known seed n (i + 1) (a + size code) gs s.1)

  polled_known : (away : Bool) (n : ℕ) → Stands labels (target.Polled n) → AllKnown labels (polled away n)
  polled_known true n h = (refl ▹ refl ▹ to_label (target.Polled n) h ▹ tt)
  polled_known false n h = (refl ▹ refl ▹ to_label (target.Polled n) h ▹ refl ▹ refl ▹ refl ▹ refl ▹ refl ▹ tt)

  behind_known : (away : Bool) (n : ℕ) → AllKnown labels (behind away n)
  behind_known true n = (refl ▹ refl ▹ refl ▹ refl ▹ refl ▹ tt)
  behind_known false n = tt

  -- what a poll branches to is before or behind the line's groups
  polled_stands : (away : Bool) (n a b : ℕ) → LabelsAt labels a (polled away n) → LabelsAt labels b (behind away n) → Stands labels (target.Polled n)
  polled_stands true n a b h k = ap is_some k.0
  polled_stands false n a b h k = ap is_some h.1.1.1.1.1.1.1.0

  list_known : (seed n a : ℕ) (is : List Instr) → LabelsAt labels a (list_code ns seed n is) → AllKnown labels (list_code ns seed n is)
  list_known seed n a is =
      by_poll (λ es. LabelsAt labels a es → AllKnown labels es) ns seed n is
      (λ js away e h. let front = polled away n in let code = rest_code ns seed n 1 (select js) in let back = behind away n in
      let s = labels_split labels a front (code ++ back) h in
      let t = labels_split labels (a + size front) code back s.1 in
      known_append labels front (code ++ back) (polled_known away n (polled_stands away n a (a + size front + size code) s.0 t.1))
      (known_append labels code back (rest_known seed n 1 (a + size front) (select js) t.0) (behind_known away n)))
      (rest_known seed n 1 a (select is))

  lines_known : (seed a : ℕ) (lines : SlotCode) → LabelsAt labels a (lines_code ns seed lines) → AllKnown labels (lines_code ns seed lines)
  lines_known seed a [] h = tt
  lines_known seed a (line ∷ lines) h =
      let code = line_code ns seed line in let more = lines_code ns seed lines in
      let s = labels_split labels a code more h in
      known_append labels code more (refl ▹ list_known seed line.number (a + 0) line.content s.0.1) (lines_known seed (a + size code) lines s.1)

  rows_known : (ms : List ℕ) → LinesStand labels ms → AllKnown labels (rows_code ms)
  rows_known [] h = tt
  rows_known (m ∷ ms) h =
      (refl ▹ to_label (target.Line m) (h m (first_line m ms)) ▹ rows_known ms (λ n e. h n (or_right (nat_eq m n) (has_line ms n) e)))

  compared_known : (ms : List ℕ) → LinesStand labels ms → AllKnown labels (all_compared ms)
  compared_known [] h = tt
  compared_known (m ∷ ms) h =
      let line = h m (first_line m ms) in
      (refl ▹ refl ▹ refl ▹ refl ▹ low_label (target.Line m) line ▹ refl ▹ high_label (target.Line m) line ▹ refl ▹ refl ▹
      compared_known ms (λ n e. h n (or_right (nat_eq m n) (has_line ms n) e)))

  find_known : (t : Bool) → AllKnown labels (find_code t ns)
  find_known t = (refl ▹ known_append labels (comparisons t ns) (looked_up (length ns)) (by t) (low_label target.Table known.table ▹ refl ▹ high_label target.Table known.table ▹ refl ▹
      refl ▹ refl ▹ refl ▹ refl ▹ refl ▹ tt))
    where
      by : (t : Bool) → AllKnown labels (comparisons t ns)
      by true = (refl ▹ refl ▹ compared_known ns known.lines)
      by false = tt

-- ── a program ──
lines_stand : (labels : List (Name × ℕ)) (ns : List ℕ) (seed a : ℕ) (lines : SlotCode)
    → LabelsAt labels a (lines_code ns seed lines) → LinesStand labels (numbers lines)
lines_stand labels ns seed a [] h = λ n e. absurd (true≢false (sym e))
lines_stand labels ns seed a (line ∷ lines) h =
    let code = line_code ns seed line in let more = lines_code ns seed lines in
    let s = labels_split labels a code more h in
    let rest = lines_stand labels ns seed (a + size code) lines s.1 in
    λ n e. by n (nat_eq line.number n) refl e (ap is_some s.0.0) (rest n)
  where
    by : (n : ℕ) (t : Bool) → nat_eq line.number n ≡ t → (t || has_line (numbers lines) n) ≡ true → Stands labels (target.Line line.number)
        → (has_line (numbers lines) n ≡ true → Stands labels (target.Line n)) → Stands labels (target.Line n)
    by n true e k here rest = subst (λ m. Stands labels (target.Line m)) (let same : line.number ≡ n = grind (arith, nat_tests, e) in same) here
    by n false e k here rest = rest k

-- each label that is named is known
pub program_known : (labels : List (Name × ℕ)) (a seed : ℕ) (code : SlotCode) → LabelsAt labels a (program_code seed code) → AllKnown labels (program_code seed code)
program_known labels a seed code h =
    let ns = numbers code in
    let lines = lines_code ns seed code in let past = past_code ns in let search = find_code (compares code) ns in let table = table_code ns in
    let tail = past ++ (search ++ table) in
    let s = labels_split labels a block_code (lines ++ tail) h in
    let b = a + size block_code in
    let t = labels_split labels b lines tail s.1 in
    let c = b + size lines in
    let u = labels_split labels c past (search ++ table) t.1 in
    let w = labels_split labels (c + size past) search table u.1 in
    let known : Known labels ns = record { lines = lines_stand labels ns seed b code t.0; past = ap is_some u.0.0; find = ap is_some w.0.0; table = ap is_some w.1.0 } in
    (refl ▹ refl ▹ known_append labels lines tail (lines_known labels ns known seed b code t.0)
    (refl ▹ refl ▹ refl ▹ refl ▹ refl ▹ known_append labels search table (find_known labels ns known (compares code)) (refl ▹ rows_known labels ns known ns known.lines)))
