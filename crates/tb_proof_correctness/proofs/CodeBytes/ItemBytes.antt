-- The bytes of items without a branch, and forms cut after such items and after a branch.
use Rattle.std.proofs.Common.{◌≡◌, ◌≢◌, ℕ, ◌+◌, ◌*◌, ◌/◌, ◌%◌, ◌≤◌, ◌<◌, Bool, true, false, ◌&&◌, List, [], ◌∷◌, ◌++◌, map}
use Rattle.std.proofs.Common.{refl, sym, ap, ◌∙◌, subst, arith, Some, append_assoc, true≢false}
use Rattle.std.specs.Prelude.{zero, suc, ◌-◌, ◌^◌, if◌then◌else◌, nat_eq, nat_lt, unwrap_or, Option, None}
use Rattle.std.proofs.lemmas.List.{append-nil}
use Rattle.std.specs.List.{list_all}
use Rattle.std.proofs.lemmas.Bool.{and_parts, ltb-true}
use Rattle.tb_opcodes.specs.Opcodes as opcodes
use Rattle.tb_opcodes.specs.declared.Mnemonic.{Mnemonic}
use Rattle.tb_opcodes.specs.declared.Mnemonic.TheVariants.{Adc, Asl, Beq, Bpl, Clc, Cmp, Lda, Ldx, Ldy, Ora, Rol, Sbc, Sec, Sta}
use Rattle.tb_opcodes.specs.declared.Mode.TheVariants.{Absolute, Relative, ZeroPage}
use Rattle.tb_asm.specs.declared.names.Name.{Name}
use Rattle.tb_asm.specs.declared.items.Operand.TheVariants.{Byte, Label, Word}
use Rattle.tb_asm.specs.Layout.{Entry, instr, label, size_of, size, bytes_of, bytes_from, address_in, number_in}
use Rattle.tb_asm.specs.Settle.{Form, kept, items_from, form_size, some_branch_far}
use Rattle.tb_asm.proofs.Laws.{bytes_append}
use Rattle.tb_asm.proofs.Settled.{items_kept}
use Rattle.tb_assembly_settling.specs.Settled.{AreFormsOf}
use Rattle.tb_assembly_settling.proofs.Forms.{forms_append, forms_size, items_size, items_append, kept_size, is_straight, straight_forms, split, near_split}
use Rattle.tb_machine_reaching.proofs.Instr.{Instr, ins, instr_bytes, flat}
use Rattle.tb_basic_syntax.specs.declared.expressions.Operator.{Operator}
use Rattle.tb_basic_syntax.specs.declared.expressions.Operator.TheVariants as op
use Rattle.tb_basic_meaning.specs.Control.{has_line}
use Rattle.tb_lower.specs.Slots as slots
use Rattle.tb_compiled_kept.specs.Addresses.{LINE, LEFT, RIGHT, RESULT, var_at}
use Rattle.tb_runtime16.specs.Addresses.{MULTIPLY_AT, DIVIDE_AT}
use Rattle.tb_compiler_selection.specs.Groups.{Operand, Constant, Variable, InSlot, Tested, HeldBefore, HeldNow}
use Rattle.tb_compiler_program.specs.Layout.{LabelsAt}
use Rattle.tb_compiler_templates.specs.declared.sources.Source.{Source}
use Rattle.tb_compiler_templates.specs.declared.sources.Source.TheVariants.{FixedWord, AtAddress}
use Rattle.tb_compiler_templates.specs.Sources.{source_of, tested_source}
use Rattle.tb_compiler_templates.specs.Templates as product
use Rattle.tb_compiler_templates.specs.GroupTemplates as items
use Rattle.tb_compiler_templates.specs.Orders as orders
use Rattle.tb_compiler_templates.specs.Scaled as scaled
use Rattle.tb_compiler_templates.specs.Scaled.{scaling, shifts}
use Rattle.tb_compiler_program.proofs.Factors.{IsScaling, by_right, by_left, by_routine, scaling_is, IsShifting, by_shifts, by_call, shifting_is}
use Rattle.tb_compiler_templates.specs.Masks.{lowest_bits}
use Rattle.tb_compiler_templates.specs.Masks as masks
use Rattle.tb_compiler_templates.specs.Reduced as reduced
use Rattle.tb_compiler_templates.specs.Subtracted as subtracted
use Rattle.tb_compiler_templates.proofs.Multiples.{doubled_below, twice}
use Rattle.tb_compiler_program.proofs.Divided.{IsMasking, by_bits, by_division}
use Rattle.tb_compiler_templates.specs.declared.labels.Inner.TheVariants as inside
use Rattle.tb_compiler_templates.specs.declared.labels.Target.TheVariants as target
use Rattle.tb_compiler_program.proofs.Sent.{byte_plain}
use Rattle.tb_compiler_templates.proofs.Plain.{plain_straight, low_matched_plain, high_matched_plain, times_plain, shifted_plain}
use Rattle.tb_proof_simulation.proofs.Resolved as resolved
use Rattle.tb_proof_simulation.proofs.Resolved.{Piece, Code, highest_code}
use Rattle.tb_proof_correctness.proofs.Pieces.Sources.{Fixed, lda, adc, sbc, cmp, ldx, ldy, ora}
use Rattle.tb_proof_correctness.proofs.CodeBytes.GroupCode as coded
use Rattle.tb_proof_correctness.proofs.CodeBytes.GroupCode.{low, high, matched, difference, Way, way_size, BranchReaches}
use Rattle.tb_proof_correctness.proofs.Pieces.Halves.{power_size}
use Rattle.tb_proof_correctness.proofs.Arithmetic.Remainders.{mask_small}
use Rattle.tb_proof_correctness.proofs.CodeBytes.Emits.{formed, formed_size, branch_formed, Emits, emitted_size, ends, block, reaches}
use Rattle.tb_proof_simulation.proofs.Numbers.{constant_bytes, copied_bytes, store_bytes, low_byte, high_byte}

-- ---- lists of forms, cut
-- items without a branch are unchanged among the forms, before the others
pub record Cut (xs ys : List Entry) (fs : List Form) : Type 0 where
  pub rest : List Form
  pub is : fs ≡ map kept xs ++ rest
  pub of : AreFormsOf ys rest

-- the forms of items without a branch can be cut off
pub cut : (xs ys : List Entry) (fs : List Form) → list_all is_straight xs ≡ true → AreFormsOf (xs ++ ys) fs → Cut xs ys fs
cut xs ys fs s h =
    let t = split xs ys fs h in
    record { rest = t.back; is = t.are ∙ ap (λ k. k ++ t.back) (straight_forms xs t.front s t.of_front); of = t.of_back }

-- a branch to a label is among the forms by a way, before the others
pub record CutBranch (n : Mnemonic) (l : Name) (ys : List Entry) (fs : List Form) : Type 0 where
  pub way : Way
  pub rest : List Form
  pub is : fs ≡ formed way n l ∷ rest
  pub of : AreFormsOf ys rest

-- the form of a branch can be cut off
pub cut_branch : (n : Mnemonic) (l : Name) (ys : List Entry) (fs : List Form) → AreFormsOf (instr n Relative (Label l) ∷ ys) fs → CutBranch n l ys fs
cut_branch n l ys [] h = absurd h
cut_branch n l ys (f ∷ fs) h = let b = branch_formed n l f h.0 in record { way = b.way; rest = fs; is = ap (λ g. g ∷ fs) b.is; of = h.1 }

-- a constant is a word
abbrev pub IsWord : Source → Type 0
IsWord (FixedWord w) = w < 65536
IsWord (AtAddress p) = Unit {0}

-- the source of an operand is a word
pub source_word : (k : ℕ) (o : Operand) → IsWord (source_of k o)
source_word k (Constant w) = omega arith
source_word k (Variable x) = tt
source_word k InSlot = tt

-- the source of a test's left word is a word
pub tested_word : (a : Tested) → IsWord (tested_source a)
tested_word HeldBefore = tt
tested_word (HeldNow a) = source_word 0 a

-- ---- items without a branch
pub low_straight : (m : Mnemonic) (s : Source) → is_straight (items.low_of m s) ≡ true
low_straight m (FixedWord w) = refl
low_straight m (AtAddress p) = refl

-- an instruction on a word's high byte has no branch
pub high_straight : (m : Mnemonic) (s : Source) → is_straight (items.high_of m s) ≡ true
high_straight m (FixedWord w) = refl
high_straight m (AtAddress p) = refl

place_straight : (m : Mnemonic) (p : ℕ) → is_straight (product.on m p) ≡ true
place_straight m p = by (nat_lt p 256)
  where
    by : (t : Bool) → is_straight (instr m (if t then ZeroPage else Absolute) (if t then Byte p else Word p)) ≡ true
    by true = refl
    by false = refl

-- items without branches, before items without branches
pub all_straight : (xs ys : List Entry) → list_all is_straight xs ≡ true → list_all is_straight ys ≡ true → list_all is_straight (xs ++ ys) ≡ true
all_straight [] ys h k = k
all_straight (x ∷ xs) ys h k = let t = and_parts (is_straight x) (list_all is_straight xs) h in λ i. t.0 i && all_straight xs ys t.1 k i

-- a word brought to an address has no branch
pub brought_straight : (s : Source) (to : ℕ) → list_all is_straight (items.brought s to) ≡ true
brought_straight s to = λ i. low_straight Lda s i && (place_straight Sta to i && (high_straight Lda s i && (place_straight Sta (to + 1) i && true)))

-- a word copied to an address has no branch
pub copied_straight : (from to : ℕ) → list_all is_straight (product.copied from to) ≡ true
copied_straight from to = λ i. place_straight Lda from i && (place_straight Lda (from + 1) i && true)

-- two words combined byte by byte have no branch
pub joined_straight : (m : Mnemonic) (s t : Source) (to : ℕ) → list_all is_straight (items.joined m s t to) ≡ true
joined_straight m s t to = λ i. low_straight Lda s i && (low_straight m t i && (true && (high_straight Lda s i && (high_straight m t i && true))))

-- a routine with its words has no branch
pub handed_straight : (entry from : ℕ) (s t : Source) (to : ℕ) → list_all is_straight (items.handed entry from s t to) ≡ true
handed_straight entry from s t to =
    all_straight (items.brought s LEFT) (items.brought t RIGHT ++ (product.call entry ∷ product.copied from to)) (brought_straight s LEFT)
    (all_straight (items.brought t RIGHT) (product.call entry ∷ product.copied from to) (brought_straight t RIGHT) (copied_straight from to))

-- the line's number before items without branches has none
pub lined_straight : (t : Bool) (n : ℕ) (es : List Entry) → list_all is_straight es ≡ true → list_all is_straight (items.lined t n es) ≡ true
lined_straight true n es h = h
lined_straight false n es h = h

product_straight : (o : Option (ℕ × Source)) (s t : Source) (to : ℕ) → list_all is_straight (items.multiplied o s t to) ≡ true
product_straight (Some p) s t to = plain_straight (scaled.times p.0 p.1 to) (times_plain p.0 p.1 to)
product_straight None s t to = handed_straight MULTIPLY_AT RESULT s t to

quotient_straight : (n : ℕ) (o : Option ℕ) (s t : Source) (to : ℕ) → list_all is_straight (items.divided n o s t to) ≡ true
quotient_straight n (Some k) s t to = plain_straight (scaled.shifted k s to) (shifted_plain k s to)
quotient_straight n None s t to = lined_straight (items.may_be_zero t) n (items.handed DIVIDE_AT LEFT s t to) (handed_straight DIVIDE_AT LEFT s t to)

-- a calculation has no branch
pub calculated_straight : (n : ℕ) (o : Operator) (s t : Source) (to : ℕ) → list_all is_straight (items.calculated n o s t to) ≡ true
calculated_straight n op.Add s t to = joined_straight Adc s t to
calculated_straight n op.Subtract s t to = joined_straight Sbc s t to
calculated_straight n op.Multiply s t to = product_straight (scaling s t) s t to
calculated_straight n op.Divide s t to = quotient_straight n (shifts t) s t to

jump_straight : (ns : List ℕ) (n to : ℕ) (t : Bool) → has_line ns to ≡ t → list_all is_straight (product.jump_to ns n to) ≡ true
jump_straight ns n to true e = rw e refl
jump_straight ns n to false e = rw e refl

text_straight : (n i : ℕ) (t : List ℕ) (o : Option ℕ) → list_all is_straight (product.sent o (target.Inside inside.Text n i) (target.Inside inside.Behind n i) t) ≡ true
text_straight n i t (Some b) = plain_straight (product.byte_sent b) (byte_plain b)
text_straight n i t None = refl

-- the template of an instruction alone has no branch, if the instruction has none
pub template_straight : (ns : List ℕ) (n i : ℕ) (c : slots.Instr) → coded.has_branches c ≡ false → list_all is_straight (product.template ns n i c) ≡ true
template_straight ns n i (slots.Load k x) b = copied_straight (var_at x) (product.slot_at k)
template_straight ns n i (slots.SendText t) b = text_straight n i t (product.only_byte t)
template_straight ns n i (slots.JumpTo to) b = jump_straight ns n to (has_line ns to) refl
template_straight ns n i (slots.CallTo to) b = absurd (true≢false b)
template_straight ns n i slots.Return b = absurd (true≢false b)
template_straight ns n i _ b = refl

-- no items have no forms
pub no_more : (fs : List Form) → AreFormsOf [] fs → fs ≡ []
no_more [] h = refl
no_more (f ∷ fs) h = absurd h

flat_append : (is js : List Instr) → flat (is ++ js) ≡ flat is ++ flat js
flat_append [] js = refl
flat_append (i ∷ is) js = ap (λ t. instr_bytes i ++ t) (flat_append is js) ∙ sym (append_assoc (instr_bytes i) (flat is) (flat js))

masked : (k : ℕ) → k < 8 → scaled.all_but_lowest k % 256 ≡ scaled.all_but_lowest k
masked k few = let p = power_size k few in omega (arith, p.1)

module _ (labels : List (Name × ℕ)) where
  -- the labels of settled items give their addresses, their branches reach, and they end below $A000
  pub record Rest (at : ℕ) (fs : List Form) : Type 0 where
    pub labels_at : LabelsAt labels at (items_from at fs)
    pub near : some_branch_far labels at (items_from at fs) ≡ false
    pub below : at + forms_size fs ≤ 0xa000

  labels_behind : (at : ℕ) (xs ys : List Entry) → LabelsAt labels at (xs ++ ys) → LabelsAt labels (at + size xs) ys
  labels_behind at [] ys h = subst (λ a. LabelsAt labels a ys) (let e : at ≡ at + 0 = omega arith in e) h
  labels_behind at (x ∷ xs) ys h = subst (λ a. LabelsAt labels a ys) (let e : at + size_of x + size xs ≡ at + (size_of x + size xs) = omega arith in e) (labels_behind (at + size_of x) xs ys h.1)

  -- labels of two lists are those of the first
  pub labels_before : (at : ℕ) (xs ys : List Entry) → LabelsAt labels at (xs ++ ys) → LabelsAt labels at xs
  labels_before at [] ys h = tt
  labels_before at (x ∷ xs) ys h = (h.0, labels_before (at + size_of x) xs ys h.1)

  -- forms before others are right if all are
  pub rest_before : (at : ℕ) (fs gs : List Form) → Rest at (fs ++ gs) → Rest at fs
  rest_before at fs gs r =
      let xs = items_from at fs in let ys = items_from (at + forms_size fs) gs in
      let both : items_from at (fs ++ gs) ≡ xs ++ ys = items_append at fs gs in
      record {
        labels_at = labels_before at xs ys (subst (LabelsAt labels at) both r.labels_at);
        near = (near_split labels at xs ys (ap (some_branch_far labels at) (sym both) ∙ r.near)).0;
        below = let l = r.below in let e = forms_append fs gs in omega (arith, l, e);
      }

  -- forms after others are right if all are
  pub rest_behind : (at to : ℕ) (fs gs : List Form) → at + forms_size fs ≡ to → Rest at (fs ++ gs) → Rest to gs
  rest_behind at to fs gs e r = subst (λ a. Rest a gs) e (record {
    labels_at = subst (λ n. LabelsAt labels (at + n) ys) (items_size at fs) (labels_behind at xs ys (subst (LabelsAt labels at) both r.labels_at));
    near = ap (λ n. some_branch_far labels (at + n) ys) (sym (items_size at fs)) ∙ (near_split labels at xs ys (ap (some_branch_far labels at) (sym both) ∙ r.near)).1;
    below = let l = r.below in let q = forms_append fs gs in omega (arith, l, q);
  })
    where
      xs : List Entry
      xs = items_from at fs

      ys : List Entry
      ys = items_from (at + forms_size fs) gs

      both : items_from at (fs ++ gs) ≡ xs ++ ys
      both = items_append at fs gs

  -- ---- single bytes
  -- an item has the bytes of an instruction, wherever it is; and a list of items those of a list of instructions
  pub record Encodes (e : Entry) (i : Instr) : Type 0 where
    pub same : (a : ℕ) → bytes_of labels a e ≡ instr_bytes i

  pub record AllEncode (es : List Entry) (is : List Instr) : Type 0 where
    pub same : (a : ℕ) → bytes_from labels a es ≡ flat is

  lda_low : (s : Source) → Encodes (items.low_of Lda s) (lda (low s))
  unfolding opcodes.encoded
  lda_low (FixedWord w) = record { same = λ a. ap (λ b. 0xa9 ∷ b ∷ []) (low_byte w) }
  lda_low (AtAddress p) = record { same = λ a. refl }

  adc_low : (s : Source) → Encodes (items.low_of Adc s) (adc (low s))
  unfolding opcodes.encoded
  adc_low (FixedWord w) = record { same = λ a. ap (λ b. 0x69 ∷ b ∷ []) (low_byte w) }
  adc_low (AtAddress p) = record { same = λ a. refl }

  sbc_low : (s : Source) → Encodes (items.low_of Sbc s) (sbc (low s))
  unfolding opcodes.encoded
  sbc_low (FixedWord w) = record { same = λ a. ap (λ b. 0xe9 ∷ b ∷ []) (low_byte w) }
  sbc_low (AtAddress p) = record { same = λ a. refl }

  cmp_low : (s : Source) → Encodes (items.low_of Cmp s) (cmp (low s))
  unfolding opcodes.encoded
  cmp_low (FixedWord w) = record { same = λ a. ap (λ b. 0xc9 ∷ b ∷ []) (low_byte w) }
  cmp_low (AtAddress p) = record { same = λ a. refl }

  lda_high : (s : Source) → IsWord s → Encodes (items.high_of Lda s) (lda (high s))
  unfolding opcodes.encoded
  lda_high (FixedWord w) h = record { same = λ a. ap (λ b. 0xa9 ∷ b ∷ []) (high_byte w h) }
  lda_high (AtAddress p) h = record { same = λ a. refl }

  adc_high : (s : Source) → IsWord s → Encodes (items.high_of Adc s) (adc (high s))
  unfolding opcodes.encoded
  adc_high (FixedWord w) h = record { same = λ a. ap (λ b. 0x69 ∷ b ∷ []) (high_byte w h) }
  adc_high (AtAddress p) h = record { same = λ a. refl }

  sbc_high : (s : Source) → IsWord s → Encodes (items.high_of Sbc s) (sbc (high s))
  unfolding opcodes.encoded
  sbc_high (FixedWord w) h = record { same = λ a. ap (λ b. 0xe9 ∷ b ∷ []) (high_byte w h) }
  sbc_high (AtAddress p) h = record { same = λ a. refl }

  cmp_high : (s : Source) → IsWord s → Encodes (items.high_of Cmp s) (cmp (high s))
  unfolding opcodes.encoded
  cmp_high (FixedWord w) h = record { same = λ a. ap (λ b. 0xc9 ∷ b ∷ []) (high_byte w h) }
  cmp_high (AtAddress p) h = record { same = λ a. refl }

  ora_low : (s : Source) → Encodes (items.low_of Ora s) (ora (low s))
  unfolding opcodes.encoded
  ora_low (FixedWord w) = record { same = λ a. ap (λ b. 0x09 ∷ b ∷ []) (low_byte w) }
  ora_low (AtAddress p) = record { same = λ a. refl }

  ldy_high : (s : Source) → IsWord s → Encodes (items.high_of Ldy s) (ldy (high s))
  unfolding opcodes.encoded
  ldy_high (FixedWord w) h = record { same = λ a. ap (λ b. 0xa0 ∷ b ∷ []) (high_byte w h) }
  ldy_high (AtAddress p) h = record { same = λ a. refl }

  none : AllEncode [] []
  none = record { same = λ a. refl }

  infixr 5 ◌▹◌
  ◌▹◌ : {e : Entry} {es : List Entry} {i : Instr} {is : List Instr} → Encodes e i → AllEncode es is → AllEncode (e ∷ es) (i ∷ is)
  ◌▹◌ {e} {es} {i} {is} h k = record { same = λ a. λ j. h.same a j ++ k.same (a + size_of e) j }

  store : (to : ℕ) → Encodes (product.at Sta to) (ins 0x8d to)
  unfolding opcodes.encoded
  store to = record { same = λ a. refl }

  store_at : (to : ℕ) → Encodes (product.on Sta to) (resolved.sta_at to)
  store_at to = record { same = store_bytes labels [] 0 to }

  clear : Encodes (product.alone Clc) (ins 0x18 0)
  unfolding opcodes.encoded
  clear = record { same = λ a. refl }

  set : Encodes (product.alone Sec) (ins 0x38 0)
  unfolding opcodes.encoded
  set = record { same = λ a. refl }

  -- the bytes of a word brought to an address
  pub brought_bytes : (s : Source) (to : ℕ) → IsWord s → AllEncode (items.brought s to) (coded.brought s to)
  brought_bytes s to h = lda_low s ▹ store_at to ▹ lda_high s h ▹ store_at (to + 1) ▹ none

  summed_bytes : (s t : Source) (to : ℕ) → IsWord s → IsWord t → AllEncode (items.summed s t to) (coded.summed s t to)
  summed_bytes s t to h k = clear ▹ lda_low s ▹ adc_low t ▹ store to ▹ lda_high s h ▹ adc_high t k ▹ store (to + 1) ▹ none

  -- the bytes of a difference
  pub taken_bytes : (s t : Source) (to : ℕ) → IsWord s → IsWord t → AllEncode (items.taken s t to) (coded.taken s t to)
  taken_bytes s t to h k = set ▹ lda_low s ▹ sbc_low t ▹ store to ▹ lda_high s h ▹ sbc_high t k ▹ store (to + 1) ▹ none

  -- ---- shifts and sums
  made_append : (xs ys : List Entry) (is js : List Instr) → AllEncode xs is → AllEncode ys js → AllEncode (xs ++ ys) (is ++ js)
  made_append xs ys is js h k = record { same = λ a. bytes_append labels a xs ys ∙ (λ j. h.same a j ++ k.same (a + size xs) j) ∙ sym (flat_append is js) }

  -- items with the bytes of instructions emit these
  pub all_made : {at : ℕ} (es : List Entry) (is : List Instr) → AllEncode es is → Emits labels at (map kept es) (Code is ∷ [])
  all_made {at} es is m = record { bytes = ap (bytes_from labels at) (items_kept at es) ∙ m.same at ∙ sym (append-nil (flat is)) }

  rounded_bytes : (k : ℕ) (s : Source) → k < 8 → AllEncode (scaled.rounded k s) (coded.rounded k s)
  unfolding opcodes.encoded
  rounded_bytes zero s few = lda_low s ▹ record { same = λ a. refl } ▹ none
  rounded_bytes (suc k) s few =
      record { same = λ a. refl } ▹ record { same = λ a. refl } ▹ record { same = λ a. ap (λ b. 0x29 ∷ b ∷ []) (masked (suc k) few) }
      ▹ record { same = λ a. ap (λ b. 0x49 ∷ b ∷ []) (masked (suc k) few) } ▹ adc_low s ▹ none

  signed_bytes : (s : Source) → IsWord s → AllEncode (items.high_of Lda s ∷ product.const Cmp 128 ∷ []) (coded.signed s)
  unfolding opcodes.encoded
  signed_bytes s h = lda_high s h ▹ record { same = λ a. refl } ▹ none

  carried_bytes : (s : Source) → IsWord s → AllEncode (scaled.at_zero Sta LEFT ∷ items.high_of Lda s ∷ product.const Adc 0 ∷ []) (coded.carried s)
  unfolding opcodes.encoded
  carried_bytes s h = record { same = λ a. refl } ▹ lda_high s h ▹ record { same = λ a. refl } ▹ none

  halved_bytes : AllEncode scaled.halved coded.halved
  unfolding opcodes.encoded
  halved_bytes = record { same = λ a. refl }

  halvings_bytes : (k : ℕ) → AllEncode (scaled.halvings k) (coded.halvings k)
  halvings_bytes zero = none
  halvings_bytes (suc k) = made_append (scaled.halvings k) scaled.halved (coded.halvings k) coded.halved (halvings_bytes k) halved_bytes

  high_first_bytes : (to : ℕ) → AllEncode (scaled.high_first to) (coded.high_first to)
  unfolding opcodes.encoded
  high_first_bytes to = record { same = λ a. refl }

  cut_bytes : (k : ℕ) (t : Bool) → AllEncode (if t then scaled.at_zero Asl LEFT ∷ scaled.on_a Rol ∷ [] else product.const Cmp 128 ∷ [])
      (if t then ins 0x06 LEFT ∷ ins 0x2A 0 ∷ [] else ins 0xC9 128 ∷ [])
  unfolding opcodes.encoded
  cut_bytes k true = record { same = λ a. refl }
  cut_bytes k false = record { same = λ a. refl }

  widened_bytes : (to : ℕ) → AllEncode (scaled.widened to) (coded.widened to)
  unfolding opcodes.encoded
  widened_bytes to = record { same = λ a. refl }

  lowered_bytes : (k to : ℕ) (t : Bool) → AllEncode (if t then scaled.halvings (suc k) ++ scaled.high_first to else scaled.cut k ++ scaled.widened to)
      (if t then coded.halvings (suc k) ++ coded.high_first to else coded.cut k ++ coded.widened to)
  lowered_bytes k to true = made_append (scaled.halvings (suc k)) (scaled.high_first to) (coded.halvings (suc k)) (coded.high_first to) (halvings_bytes (suc k)) (high_first_bytes to)
  lowered_bytes k to false = made_append (scaled.cut k) (scaled.widened to) (coded.cut k) (coded.widened to) (cut_bytes k (nat_eq k 6)) (widened_bytes to)

  shifted_bytes : (k : ℕ) (s : Source) (to : ℕ) → k < 8 → IsWord s → AllEncode (scaled.shifted k s to) (coded.shifted k s to)
  shifted_bytes k s to few h =
      let front = made_append (scaled.rounded k s) (scaled.at_zero Sta LEFT ∷ items.high_of Lda s ∷ product.const Adc 0 ∷ []) (coded.rounded k s)
      (coded.carried s) (rounded_bytes k s few) (carried_bytes s h) in
      let raised = made_append (items.high_of Lda s ∷ product.const Cmp 128 ∷ [])
      (scaled.rounded k s ++ (scaled.at_zero Sta LEFT ∷ items.high_of Lda s ∷ product.const Adc 0 ∷ [])) (coded.signed s)
      (coded.rounded k s ++ coded.carried s) (signed_bytes s h) front in
      let all = made_append (scaled.raised k s) (scaled.lowered k to)
      (coded.signed s ++ (coded.rounded k s ++ coded.carried s)) (coded.lowered k to) raised (lowered_bytes k to (nat_lt k 6)) in
      subst (AllEncode (scaled.shifted k s to)) (ap (λ is. coded.signed s ++ is) (append_assoc (coded.rounded k s) (coded.carried s) (coded.lowered k to))) all

  doubled_bytes : AllEncode scaled.doubled coded.doubled
  unfolding opcodes.encoded
  doubled_bytes = record { same = λ a. refl }

  increased_bytes : (s : Source) → IsWord s → AllEncode (scaled.increased s) (coded.increased s)
  unfolding opcodes.encoded
  increased_bytes s h = clear ▹ adc_low s ▹ record { same = λ a. refl } ▹ record { same = λ a. refl } ▹ adc_high s h ▹ record { same = λ a. refl }
      ▹ record { same = λ a. refl } ▹ none

  bit_bytes : (t : Bool) (s : Source) → IsWord s → AllEncode (scaled.by_bit t s) (coded.by_bit t s)
  bit_bytes false s h = doubled_bytes
  bit_bytes true s h = made_append scaled.doubled (scaled.increased s) coded.doubled (coded.increased s) doubled_bytes (increased_bytes s h)

  bits_bytes : (k factor : ℕ) (s : Source) → IsWord s → AllEncode (scaled.by_bits k factor s) (coded.by_bits k factor s)
  bits_bytes zero factor s h = none
  bits_bytes (suc k) factor s h = by (bits_bytes k (factor / 2) s h) (nat_lt factor 2)
    where
      odd : Bool
      odd = nat_eq (factor % 2) 1

      by : AllEncode (scaled.by_bits k (factor / 2) s) (coded.by_bits k (factor / 2) s) → (t : Bool)
          → AllEncode (if t then [] else scaled.by_bits k (factor / 2) s ++ scaled.by_bit odd s) (if t then [] else coded.by_bits k (factor / 2) s ++ coded.by_bit odd s)
      by b true = none
      by b false = made_append (scaled.by_bits k (factor / 2) s) (scaled.by_bit odd s) (coded.by_bits k (factor / 2) s) (coded.by_bit odd s) b (bit_bytes odd s h)

  begun_bytes : (s : Source) → IsWord s → AllEncode (items.high_of Lda s ∷ scaled.at_zero Sta LEFT ∷ items.low_of Lda s ∷ []) (coded.begun s)
  unfolding opcodes.encoded
  begun_bytes s h = lda_high s h ▹ record { same = λ a. refl } ▹ lda_low s ▹ none

  low_first_bytes : (to : ℕ) → AllEncode (scaled.low_first to) (coded.low_first to)
  unfolding opcodes.encoded
  low_first_bytes to = record { same = λ a. refl }

  times_bytes : (factor : ℕ) (s : Source) (to : ℕ) → IsWord s → AllEncode (scaled.times factor s to) (coded.times factor s to)
  times_bytes factor s to h =
      let tail = made_append (scaled.by_bits 15 factor s) (scaled.low_first to) (coded.by_bits 15 factor s) (coded.low_first to) (bits_bytes 15 factor s h) (low_first_bytes to) in
      made_append (items.high_of Lda s ∷ scaled.at_zero Sta LEFT ∷ items.low_of Lda s ∷ []) (scaled.by_bits 15 factor s ++ scaled.low_first to)
      (coded.begun s) (coded.by_bits 15 factor s ++ coded.low_first to) (begun_bytes s h) tail

  -- ---- tests by bytes
  against_bytes : (b : ℕ) → b % 256 ≡ b → (t : Bool) → AllEncode (if t then [] else product.const Cmp b ∷ []) (if t then [] else cmp (Fixed b) ∷ [])
  unfolding opcodes.encoded
  against_bytes b e true = none
  against_bytes b e false = record { same = λ a. ap (λ b. 0xc9 ∷ b ∷ []) e }

  pub matched_low : (s t : Source) → AllEncode (items.low_matched s t) (matched (low s) (low t))
  matched_low s (FixedWord w) = lda_low s ▹ against_bytes (w % 256) (low_byte w) (nat_eq (w % 256) 0)
  matched_low s (AtAddress p) = lda_low s ▹ cmp_low (AtAddress p) ▹ none

  -- the bytes of a comparison of high bytes
  pub matched_high : (s t : Source) → IsWord s → IsWord t → AllEncode (items.high_matched s t) (matched (high s) (high t))
  matched_high s (FixedWord w) h k = lda_high s h ▹ against_bytes (w / 256) (high_byte w k) (nat_eq (w / 256) 0)
  matched_high s (AtAddress p) h k = lda_high s h ▹ cmp_high (AtAddress p) k ▹ none

  -- they have no branch
  pub matched_straight : (s t : Source) → (list_all is_straight (items.low_matched s t) ≡ true) × (list_all is_straight (items.high_matched s t) ≡ true)
  matched_straight s t = (plain_straight (items.low_matched s t) (low_matched_plain s t), plain_straight (items.high_matched s t) (high_matched_plain s t))

  -- the bytes of a difference of two words, for a test
  pub difference_bytes : (s t : Source) → IsWord s → IsWord t → AllEncode (items.low_of Lda s ∷ items.low_of Cmp t ∷ items.high_of Lda s ∷ items.high_of Sbc t ∷ []) (difference s t)
  difference_bytes s t h k = lda_low s ▹ cmp_low t ▹ lda_high s h ▹ sbc_high t k ▹ none

  -- by both bytes, and by the high ones
  lifted_both_bytes : (s : Source) (w : ℕ) → IsWord s → AllEncode (orders.lifted_both s w) (coded.lifted_both s w)
  unfolding opcodes.encoded
  lifted_both_bytes s w h = lda_low s ▹ cmp_low (FixedWord w) ▹ lda_high s h ▹ record { same = λ a. refl } ▹ sbc_low (FixedWord (w / 256 + 128)) ▹ none

  lifted_high_bytes : (s : Source) (w : ℕ) → IsWord s → AllEncode (orders.lifted_high s w) (coded.lifted_high s w)
  unfolding opcodes.encoded
  lifted_high_bytes s w h = lda_high s h ▹ record { same = λ a. refl } ▹ record { same = λ a. ap (λ b. 0xc9 ∷ b ∷ []) (let e : (w / 256 + 128) % 256 % 256 ≡ (w / 256 + 128) % 256 = omega arith in e) } ▹ none

  -- the bytes of a word compared with a constant
  pub lifted_bytes : (s : Source) (w : ℕ) → IsWord s → AllEncode (orders.lifted s w) (coded.lifted s w)
  lifted_bytes s w h = by (nat_eq (w % 256) 0)
    where
      by : (t : Bool) → AllEncode (if t then orders.lifted_high s w else orders.lifted_both s w) (if t then coded.lifted_high s w else coded.lifted_both s w)
      by true = lifted_high_bytes s w h
      by false = lifted_both_bytes s w h

  -- a routine with its words emits its code
  pub handed_emits : {at : ℕ} (entry from : ℕ) (s t : Source) (to : ℕ) → IsWord s → IsWord t → Emits labels at (map kept (items.handed entry from s t to)) (coded.routine entry from s t to)
  unfolding opcodes.encoded
  handed_emits entry from s t to h k =
      block labels (items.brought s LEFT) (coded.brought s LEFT) ((brought_bytes s LEFT h).same _)
      (block labels (items.brought t RIGHT) (coded.brought t RIGHT) ((brought_bytes t RIGHT k).same _)
      (block labels (product.call entry ∷ []) (resolved.call entry) refl
      (block labels (product.copied from to) (resolved.copied from to) (copied_bytes labels [] 0 _ from to) (ends labels))))

  -- the line's number and items emit the code with that number
  pub lined_emits : (at : ℕ) (t : Bool) (n : ℕ) → n < 65536 → (es : List Entry) (ps : List Piece) → ((b : ℕ) → Emits labels b (map kept es) ps)
      → Emits labels at (map kept (items.lined t n es)) (coded.lined_code t n ps)
  lined_emits at true n l es ps e = block labels (product.constant n LINE) (resolved.constant n LINE) (constant_bytes labels [] 0 at n LINE l) (e (at + 10))
  lined_emits at false n l es ps e = e at

  product_emits : {at : ℕ} (o : Option (ℕ × Source)) (s t : Source) (to : ℕ) → IsScaling s t o → IsWord s → IsWord t
      → Emits labels at (map kept (items.multiplied o s t to)) (coded.product_code o s t to)
  product_emits _ s t to (by_right w e good) h k = all_made (scaled.times w s to) (coded.times w s to) (times_bytes w s to h)
  product_emits _ s t to (by_left v e good) h k = all_made (scaled.times v t to) (coded.times v t to) (times_bytes v t to k)
  product_emits _ s t to by_routine h k = handed_emits MULTIPLY_AT RESULT s t to h k

  quotient_emits : (n at : ℕ) (o : Option ℕ) (s t : Source) (to : ℕ) → IsShifting t o → n < 65536 → IsWord s → IsWord t
      → Emits labels at (map kept (items.divided n o s t to)) (coded.quotient_code n o s t to)
  unfolding opcodes.encoded
  quotient_emits n at _ s t to (by_shifts w j e few p) l h k = all_made (scaled.shifted j s to) (coded.shifted j s to) (shifted_bytes j s to few h)
  quotient_emits n at _ s t to by_call l h k =
      lined_emits at (items.may_be_zero t) n l (items.handed DIVIDE_AT LEFT s t to) (coded.routine DIVIDE_AT LEFT s t to) (λ b. handed_emits {at = b} DIVIDE_AT LEFT s t to h k)

  -- ---- divisibility
  remainder_emits : {at : ℕ} (s t : Source) → IsWord s → IsWord t → Emits labels at (map kept (items.remainder s t)) (coded.remainder s t)
  unfolding opcodes.encoded
  remainder_emits s t h k =
      block labels (items.brought s LEFT) (coded.brought s LEFT) ((brought_bytes s LEFT h).same _)
      (block labels (items.brought t RIGHT) (coded.brought t RIGHT) ((brought_bytes t RIGHT k).same _)
      (block labels (product.call DIVIDE_AT ∷ []) (resolved.call DIVIDE_AT) refl
      (block labels (product.at Lda RESULT ∷ product.at Ora (RESULT + 1) ∷ []) coded.told refl (ends labels))))

  called_emits : {at : ℕ} (s t : Source) → IsWord s → IsWord t
      → Emits labels at (map kept (items.brought s LEFT ++ (items.brought t RIGHT ++ (product.call DIVIDE_AT ∷ [])))) (Code (coded.brought s LEFT)
      ∷ Code (coded.brought t RIGHT) ∷ Code (resolved.call DIVIDE_AT) ∷ [])
  unfolding opcodes.encoded
  called_emits s t h k =
      block labels (items.brought s LEFT) (coded.brought s LEFT) ((brought_bytes s LEFT h).same _)
      (block labels (items.brought t RIGHT) (coded.brought t RIGHT) ((brought_bytes t RIGHT k).same _)
      (block labels (product.call DIVIDE_AT ∷ []) (resolved.call DIVIDE_AT) refl (ends labels)))

  once_bytes : (q n : ℕ) → n < 256 → AllEncode (subtracted.less_once q n) (coded.less_once q n)
  unfolding opcodes.encoded
  once_bytes q n small =
      let low : (0x90 + 256 * n) % 256 ≡ 0x90 = omega arith in
      let high : (0x90 + 256 * n) / 256 ≡ n = omega arith in
      record { same = λ a. refl } ▹ record { same = λ a. λ j. low j ∷ high j ∷ [] } ▹ record { same = λ a. refl } ▹ none

  bytes_asked_bytes : (p q : ℕ) → AllEncode (subtracted.bytes_asked p q) (coded.bytes_asked p q)
  unfolding opcodes.encoded
  bytes_asked_bytes p q = record { same = λ a. refl }

  all_taken_bytes : (q : ℕ) → AllEncode (subtracted.all_taken q) (coded.all_taken q)
  unfolding opcodes.encoded
  all_taken_bytes q = record { same = λ a. refl }

  differences_bytes : (q : ℕ) → AllEncode (subtracted.differences q) (coded.differences q)
  differences_bytes q =
      let last = made_append (subtracted.less_once q 16) (subtracted.less_once q 8) (coded.less_once q 16) (coded.less_once q 8)
      (once_bytes q 16 (omega arith)) (once_bytes q 8 (omega arith)) in
      let three = made_append (subtracted.less_once q 24) (subtracted.less_once q 16 ++ subtracted.less_once q 8) (coded.less_once q 24)
      (coded.less_once q 16 ++ coded.less_once q 8) (once_bytes q 24 (omega arith)) last in
      made_append (subtracted.less_once q 32) (subtracted.less_once q 24 ++ (subtracted.less_once q 16 ++ subtracted.less_once q 8)) (coded.less_once q 32)
      (coded.less_once q 24 ++ (coded.less_once q 16 ++ coded.less_once q 8)) (once_bytes q 32 (omega arith)) three

  subtracted_bytes : (p q : ℕ) → AllEncode (subtracted.subtracted p q) (coded.subtracted p q)
  subtracted_bytes p q =
      made_append (subtracted.bytes_asked p q) (subtracted.differences q ++ subtracted.all_taken q) (coded.bytes_asked p q) (coded.differences q ++ coded.all_taken q)
      (bytes_asked_bytes p q) (made_append (subtracted.differences q) (subtracted.all_taken q) (coded.differences q) (coded.all_taken q) (differences_bytes q) (all_taken_bytes q))

  tried_emits : (at : ℕ) (s t : Source) (es : List Entry) (ps : List Piece) → ((b : ℕ) → Emits labels b (map kept es) ps)
      → Emits labels at (map kept (subtracted.tried s t es)) (coded.tried s t ps)
  tried_emits at (AtAddress p) (AtAddress q) es ps e = subst (λ k. Emits labels at k (Code (coded.subtracted p q) ∷ ps)) (sym (map_append (subtracted.subtracted p q) es))
      (block labels (subtracted.subtracted p q) (coded.subtracted p q) ((subtracted_bytes p q).same at) (e (at + resolved.size (coded.subtracted p q))))
    where
      map_append : (xs ys : List Entry) → map kept (xs ++ ys) ≡ map kept xs ++ map kept ys
      map_append [] ys = refl
      map_append (x ∷ xs) ys = ap (λ l. kept x ∷ l) (map_append xs ys)
  tried_emits at (AtAddress p) (FixedWord w) es ps e = e at
  tried_emits at (FixedWord v) t es ps e = e at

  -- a remainder by the routine emits its code
  pub asked_emits : (n at : ℕ) (s t : Source) → n < 65536 → IsWord s → IsWord t → Emits labels at (map kept (items.asked_rest n s t)) (coded.rest_asked n s t)
  asked_emits n at s t l h k = lined_emits at (items.may_be_zero t) n l _ _ (λ b. tried_emits b s t _ _ (λ c. called_emits {at = c} s t h k))

  -- the bytes of ORA with a word's low byte
  pub joined_made : (s : Source) → AllEncode (items.low_of Ora s ∷ []) (ora (low s) ∷ [])
  joined_made s = ora_low s ▹ none

  -- the bytes of a look at a sign
  pub high_made : (s : Source) → IsWord s → AllEncode (items.high_of Lda s ∷ []) (coded.sign_looked_at s)
  high_made s h = lda_high s h ▹ none

  -- the bytes of a word copied
  pub copied_made : (from to : ℕ) → AllEncode (product.copied from to) (resolved.copied from to)
  copied_made from to = record { same = λ a. copied_bytes labels [] 0 a from to }

  bits_bytes_of : (k : ℕ) (s : Source) → k < 8 → AllEncode (lowest_bits (2 ^ (k + 1) - 1) s) (coded.lowest_bits (2 ^ (k + 1) - 1) s)
  unfolding opcodes.encoded
  bits_bytes_of k s few = lda_low s ▹ record { same = λ a. ap (λ b. 0x29 ∷ b ∷ []) (mask_small k few) } ▹ none

  -- the bytes of a remainder by the lowest bits: up to its branch, behind it, and at its end
  pub rest_and_sign_bytes : (k : ℕ) (s : Source) → k < 8 → IsWord s → AllEncode (masks.rest_and_sign (2 ^ (k + 1) - 1) s) (coded.rest_and_sign (2 ^ (k + 1) - 1) s)
  unfolding opcodes.encoded
  rest_and_sign_bytes k s few h =
      lda_low s ▹ record { same = λ a. ap (λ b. 0x29 ∷ b ∷ []) (mask_small k few) } ▹ record { same = λ a. refl } ▹ ldy_high s h ▹ none

  pub rest_below_bytes : (k : ℕ) → k < 8 → AllEncode (masks.rest_below (2 ^ (k + 1) - 1)) (coded.rest_below (2 ^ (k + 1) - 1))
  unfolding opcodes.encoded
  rest_below_bytes k few =
      clear ▹ record { same = λ a. ap (λ b. 0x69 ∷ b ∷ []) (mask_small k few) } ▹ record { same = λ a. ap (λ b. 0x29 ∷ b ∷ []) (mask_small k few) }
      ▹ set ▹ record { same = λ a. ap (λ b. 0xe9 ∷ b ∷ []) (mask_small k few) } ▹ record { same = λ a. refl } ▹ record { same = λ a. refl }
      ▹ record { same = λ a. refl } ▹ record { same = λ a. refl } ▹ record { same = λ a. refl } ▹ none

  pub both_stored_bytes : (to : ℕ) → AllEncode (masks.both_stored to) (coded.both_stored to)
  unfolding opcodes.encoded
  both_stored_bytes to = store to ▹ record { same = λ a. refl } ▹ none

  ldx_high : (s : Source) → IsWord s → Encodes (items.high_of Ldx s) (ldx (high s))
  unfolding opcodes.encoded
  ldx_high (FixedWord w) h = record { same = λ a. ap (λ b. 0xa2 ∷ b ∷ []) (high_byte w h) }
  ldx_high (AtAddress p) h = record { same = λ a. refl }

  round_bytes : (k : ℕ) → k < 65536 → AllEncode (reduced.round k) (coded.round k)
  unfolding opcodes.encoded
  round_bytes k small = by (nat_lt k 128) refl
    where
      high_part : k / 256 % 256 ≡ k / 256
      high_part = omega (arith, small)

      low_part : k % 256 % 256 ≡ k % 256
      low_part = omega arith

      by : (t : Bool) → nat_lt k 128 ≡ t → AllEncode (if t then reduced.byte_round k else reduced.word_round k)
          (if t then coded.byte_round k else coded.high_compared k ++ (coded.low_compared k ++ coded.taken_away k))
      by true e =
          let same : k % 256 ≡ k = omega (arith, ltb-true k 128 e) in
          record { same = λ a. ap (λ b. 0xc9 ∷ b ∷ []) same } ▹ record { same = λ a. refl } ▹ record { same = λ a. ap (λ b. 0xe9 ∷ b ∷ []) same } ▹ none
      by false e =
          record { same = λ a. ap (λ b. 0xe0 ∷ b ∷ []) high_part } ▹ record { same = λ a. refl } ▹ record { same = λ a. refl }
          ▹ record { same = λ a. ap (λ b. 0xc9 ∷ b ∷ []) low_part } ▹ record { same = λ a. refl } ▹ record { same = λ a. ap (λ b. 0xe9 ∷ b ∷ []) low_part }
          ▹ record { same = λ a. refl } ▹ record { same = λ a. refl } ▹ record { same = λ a. ap (λ b. 0xe9 ∷ b ∷ []) high_part } ▹ record { same = λ a. refl }
          ▹ record { same = λ a. refl } ▹ none

  rounds_bytes : (n k : ℕ) → k * 2 ^ n < 65536 → AllEncode (reduced.rounds n k) (coded.rounds n k)
  rounds_bytes zero k h = none
  rounds_bytes (suc n) k h =
      let some : suc n ≢ 0 = λ e. omega (arith, e) in
      let d = doubled_below (suc n) k 65536 some h in
      made_append (reduced.rounds n (2 * k)) (reduced.round k) (coded.rounds n (2 * k)) (coded.round k)
      (rounds_bytes n (2 * k) (subst (λ p. p < 65536) (sym (twice k n)) h)) (round_bytes k (omega (arith, d)))

  negated_bytes : AllEncode reduced.negated coded.negated
  unfolding opcodes.encoded
  negated_bytes = record { same = λ a. refl }

  loaded_bytes : (s : Source) → IsWord s
      → AllEncode (items.low_of Lda s ∷ items.high_of Ldx s ∷ reduced.over Beq 123 ∷ reduced.over Bpl 13 ∷ []) (coded.both_loaded s)
  unfolding opcodes.encoded
  loaded_bytes s h = lda_low s ▹ ldx_high s h ▹ record { same = λ a. refl } ▹ record { same = λ a. refl } ▹ none

  tested_bytes : (s : Source) → IsWord s → AllEncode (items.high_of Ldy s ∷ reduced.over Bpl 13 ∷ []) (coded.sign_tested s)
  unfolding opcodes.encoded
  tested_bytes s h = ldy_high s h ▹ record { same = λ a. refl } ▹ none

  -- the bytes of a remainder by a constant's multiples
  pub reduced_bytes : (n d : ℕ) (s : Source) (to : ℕ) → d * 2 ^ (n + 6) < 65536 → IsWord s → AllEncode (reduced.reduced_rest n d s to) (coded.reduced n d s to)
  reduced_bytes n d s to small h =
      let stored = made_append reduced.negated (masks.both_stored to) coded.negated (coded.both_stored to) negated_bytes (both_stored_bytes to) in
      let signed = made_append (items.high_of Ldy s ∷ reduced.over Bpl 13 ∷ []) (reduced.negated ++ masks.both_stored to) (coded.sign_tested s)
      (coded.negated ++ coded.both_stored to) (tested_bytes s h) stored in
      let rest = made_append (reduced.rounds (n + 6) d) (reduced.with_sign s to) (coded.rounds (n + 6) d) (coded.sign_tested s ++ (coded.negated ++ coded.both_stored to))
      (rounds_bytes (n + 6) d small) signed in
      let turned = made_append reduced.negated (reduced.rounds (n + 6) d ++ reduced.with_sign s to) coded.negated
      (coded.rounds (n + 6) d ++ (coded.sign_tested s ++ (coded.negated ++ coded.both_stored to))) negated_bytes rest in
      made_append (items.low_of Lda s ∷ items.high_of Ldx s ∷ reduced.over Beq 123 ∷ reduced.over Bpl 13 ∷ [])
      (reduced.negated ++ (reduced.rounds (n + 6) d ++ reduced.with_sign s to)) (coded.both_loaded s)
      (coded.negated ++ (coded.rounds (n + 6) d ++ (coded.sign_tested s ++ (coded.negated ++ coded.both_stored to)))) (loaded_bytes s h) turned

  -- a remainder for a test emits its code
  pub left_over_emits : (n at : ℕ) (o : Option ℕ) (s t : Source) → IsMasking t o → n < 65536 → IsWord s → IsWord t
      → Emits labels at (map kept (items.left_over n o s t)) (coded.left_over n o s t)
  left_over_emits n at _ s t (by_bits w k e few p) l h g = all_made (lowest_bits (2 ^ (k + 1) - 1) s) (coded.lowest_bits (2 ^ (k + 1) - 1) s) (bits_bytes_of k s few)
  left_over_emits n at _ s t by_division l h g = lined_emits at (items.may_be_zero t) n l (items.remainder s t) (coded.remainder s t) (λ b. remainder_emits {at = b} s t h g)

  -- a calculation emits its code
  pub calculated_emits : (n at : ℕ) (o : Operator) (s t : Source) (to : ℕ) → n < 65536 → IsWord s → IsWord t
      → Emits labels at (map kept (items.calculated n o s t to)) (coded.calc_code n o s t to)
  unfolding opcodes.encoded
  calculated_emits n at op.Add s t to l h k = block labels (items.summed s t to) (coded.summed s t to) ((summed_bytes s t to h k).same at) (ends labels)
  calculated_emits n at op.Subtract s t to l h k = block labels (items.taken s t to) (coded.taken s t to) ((taken_bytes s t to h k).same at) (ends labels)
  calculated_emits n at op.Multiply s t to l h k = product_emits (scaling s t) s t to (scaling_is s t) h k
  calculated_emits n at op.Divide s t to l h k = quotient_emits n at (shifts t) s t to (shifting_is t) l h k

  -- ---- cut after straight items and after a branch
  make_size : (es : List Entry) (is : List Instr) → AllEncode es is → size es ≡ resolved.size is
  make_size es is m =
      let one : Emits labels 0 (map kept es ++ []) (Code is ∷ []) = block labels es is (m.same 0) (ends labels) in
      let a = emitted_size labels one in let b = kept_size es in let c = forms_append (map kept es) [] in omega (arith, a, b, c)

  -- forms after items without branches are right if all are
  pub behind_straight : (at : ℕ) (es : List Entry) (is : List Instr) (fs : List Form) → AllEncode es is → Rest at (map kept es ++ fs) → Rest (at + resolved.size is) fs
  behind_straight at es is fs m r = rest_behind at (at + resolved.size is) (map kept es) fs (let s = make_size es is m in let k = kept_size es in omega (arith, s, k)) r

  -- forms after a branch are right if all are
  pub behind_branch : (at : ℕ) (way : Way) (n : Mnemonic) (l : Name) (fs : List Form) → Rest at (formed way n l ∷ fs) → Rest (at + way_size way) fs
  behind_branch at way n l fs r = rest_behind at (at + way_size way) (formed way n l ∷ []) fs (let s = formed_size way n l in omega (arith, s)) r

  -- a label gives its own address, and takes no room
  pub label_here : (at : ℕ) (l : Name) (fs : List Form) → Rest at (kept (label l) ∷ fs) → address_in labels l ≡ Some at
  label_here at l fs r = r.labels_at.0

  -- forms after a label are right if all are
  pub behind_label : (at : ℕ) (l : Name) (fs : List Form) → Rest at (kept (label l) ∷ fs) → Rest at fs
  behind_label at l fs r = rest_behind at at (kept (label l) ∷ []) fs (omega arith) r

  -- a label's number is its address
  pub value_of : (l : Name) (a : ℕ) → address_in labels l ≡ Some a → number_in labels (Label l) ≡ a
  value_of l a e = ap (λ o. unwrap_or o 0) e

  -- a branch of these forms reaches
  pub gets_there : (at to : ℕ) (way : Way) (n : Mnemonic) (l : Name) (fs : List Form) → address_in labels l ≡ Some to → to ≤ highest_code
      → Rest at (formed way n l ∷ fs) → BranchReaches way at to
  gets_there at to way n l fs h top r = reaches labels way n at to l (items_from (at + form_size (formed way n l)) fs) h top r.near
