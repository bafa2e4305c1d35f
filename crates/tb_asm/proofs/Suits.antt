-- Laws of images, and of items that assemble.
use Rattle.std.proofs.Common.{◌≡◌, ℕ, ◌+◌, ◌<◌, Bool, true, false, not, ◌||◌, cond, List, [], ◌∷◌, ◌++◌, length, take, drop}
use Rattle.std.proofs.Common.{Option, Some, None, refl, sym, ap, subst, ◌∙◌, arith, append_assoc, true≢false, if◌then◌else◌, is_some}
use Rattle.std.specs.Prelude.{slice_index, unwrap_or}
use Rattle.std.specs.List.{list_all, list_any}
use Rattle.std.proofs.lemmas.Bool.Decides.{nat_tests}
use Rattle.std.proofs.lemmas.Cmp.{nat_list_eq_equiv}
use Rattle.std.proofs.lemmas.List.{append-nil}
use Rattle.std.proofs.lemmas.Bool.{and_parts, or_parts}
use Rattle.tb_opcodes.specs.declared.Mnemonic.{Mnemonic}
use Rattle.tb_opcodes.specs.declared.Mode.{Mode}
use Rattle.tb_opcodes.specs.Opcodes.{decoded, encoded, length_of}
use Rattle.tb_opcodes.proofs.Inverse.{decodes_back}
use Rattle.tb_asm.specs.declared.names.Name.{Name}
use Rattle.tb_asm.specs.declared.errors.AsmErrorKind.{AsmErrorKind}
use Rattle.tb_asm.specs.declared.errors.AsmErrorKind.TheVariants.{NoSuchMode, LabelTwice, RunsPast}
use Rattle.tb_asm.specs.Layout.{Entry, instr, label, bytes, word, size_of, size, suits, has_mode, same_name, address_in, labels_from, bytes_from, opcode_of}
use Rattle.tb_asm.specs.Layout.{operand_bytes, number_in, image_of, is_label_in, runs_past, place_fault, place_fault_in, code_fault_in, first_fault}
use Rattle.tb_asm.specs.Layout.{place_refusal, code_refusal}
use Rattle.tb_asm.specs.Assembled.{refusal, either}
use Rattle.tb_asm.specs.Suited.{BytesStand, Decodes, LabelsStand, name_at, names_of, AreDistinct, AllReachFrom, Suited}
use Rattle.tb_asm.proofs.Faults.{first_none, none_first, size_push, taken}
use Rattle.tb_asm.proofs.Laws.{none_of, stands, label_stands, bytes_append, all_size}

-- if nothing is refused, no item has a fault at its address
fault_none : (fault : List Entry → Entry → Option AsmErrorKind) (front before after : List Entry) (e : Entry)
    → first_fault fault front (before ++ e ∷ after) ≡ None → fault (front ++ before) e ≡ None
fault_none fault front [] after e h = ap (λ f. fault f e) (append-nil front) ∙ none_first fault front after e h
fault_none fault front (x ∷ before) after e h =
    let none = none_first fault front (before ++ e ∷ after) x h in
    ap (λ f. fault f e) (sym (append_assoc front (x ∷ []) before)) ∙ fault_none fault (front ++ x ∷ []) before after e (sym (first_none fault front (before ++ e ∷ after) x none) ∙ h)

module _ (at : ℕ) (es : List Entry) (placed : place_refusal at es ≡ None) where
  item_taken : (before : List Entry) (e : Entry) (after : List Entry) → es ≡ before ++ e ∷ after → place_fault (labels_from at before) (at + size before) e ≡ None
  item_taken before e after is = fault_none (place_fault_in at) [] before after e (ap (first_fault (place_fault_in at) []) (sym is) ∙ placed)

  -- the image has each item's bytes at its address
  pub bytes_stand : BytesStand at es (image_of at es) (labels_from at es)
  bytes_stand = λ before e after is.
      ap (λ t. take (size_of e) (drop (size before) (bytes_from (labels_from at es) at t))) is ∙ stands (labels_from at es) at before after e

  -- each label's value is the address of its item
  pub labels_stand : LabelsStand at es (labels_from at es)
  labels_stand = λ before n after is.
      let new = (taken (labels_from at before) (at + size before) (label n) (item_taken before (label n) after is)).new in
      ap (λ t. address_in (labels_from at t) n) is ∙ label_stands at before after n (none_of (address_in (labels_from at before) n) new)

  -- each instruction's first byte decodes to its mnemonic and mode
  pub decodes : Decodes es (image_of at es)
  decodes = λ before n m o after is.
      let mode = (taken (labels_from at before) (at + size before) (instr n m o) (item_taken before (instr n m o) after is)).mode in
      let labels = labels_from at es in
      let there : slice_index (image_of at es) (size before) ≡ opcode_of n m =
      ap (λ t. slice_index (bytes_from labels at t) (size before)) is ∙ ap (λ t. slice_index t (size before)) (bytes_append labels at before (instr n m o ∷ after))
      ∙ ap (λ k. slice_index (bytes_from labels at before ++ bytes_from labels (at + size before) (instr n m o ∷ after)) k) (sym (all_size labels at before))
      ∙ behind_front (bytes_from labels at before) (opcode_of n m) (operand_bytes m (at + size before) (number_in labels o) ++ bytes_from labels (at + size before + length_of m) after) in
      ap decoded there ∙ by n m (encoded n m) refl (and_parts (is_some (encoded n m)) (suits m o) mode).0
    where
      behind_front : (xs : List ℕ) (y : ℕ) (ys : List ℕ) → slice_index (xs ++ y ∷ ys) (length xs) ≡ y
      behind_front [] y ys = refl
      behind_front (x ∷ xs) y ys = behind_front xs y ys

      by : (n : Mnemonic) (m : Mode) (c : Option ℕ) → encoded n m ≡ c → is_some (encoded n m) ≡ true → decoded (unwrap_or (encoded n m) 0) ≡ Some (n, m)
      by n m None e s = absurd (true≢false (sym s ∙ ap is_some e))
      by n m (Some b) e s = ap (λ x. decoded (unwrap_or x 0)) e ∙ decodes_back b n m e

-- the names of two lists of items are those of the first and then those of the second
pub names_append : (xs ys : List Entry) → names_of (xs ++ ys) ≡ names_of xs ++ names_of ys
names_append [] ys = refl
names_append (x ∷ xs) ys = ap (λ ns. name_at x ++ ns) (names_append xs ys) ∙ sym (append_assoc (name_at x) (names_of xs) (names_of ys))

absent : (n : Name) (a : ℕ) (es : List Entry) → list_any (same_name n) (names_of es) ≡ false → is_some (address_in (labels_from a es) n) ≡ false
absent n a [] h = refl
absent n a (instr m d o ∷ es) h = absent n (a + length_of d) es h
absent n a (bytes bs ∷ es) h = absent n (a + length bs) es h
absent n a (word o ∷ es) h = absent n (a + 2) es h
absent n a (label l ∷ es) h = by (same_name n l) h (absent n (a + 0) es)
  where
    by : (s : Bool) → (s || list_any (same_name n) (names_of es)) ≡ false → (list_any (same_name n) (names_of es) ≡ false → is_some (address_in (labels_from (a + 0) es) n) ≡ false)
        → is_some (cond s (Some a) (address_in (labels_from (a + 0) es) n)) ≡ false
    by true k go = absurd (true≢false k)
    by false k go = go k

any_behind : (n m : Name) (ns ms : List Name) → list_any (same_name n) (ns ++ m ∷ ms) ≡ false → same_name n m ≡ false
any_behind n m [] ms h = (or_parts _ _ h).0
any_behind n m (x ∷ ns) ms h = any_behind n m ns ms (or_parts _ _ h).1

-- a name after distinct names is none of them
distinct_behind : (ns : List Name) (m : Name) (ms : List Name) → AreDistinct (ns ++ m ∷ ms) → list_any (same_name m) ns ≡ false
distinct_behind [] m ms h = refl
distinct_behind (n ∷ ns) m ms h =
    (λ i. (nat_list_eq_equiv.symm m.letters.items n.letters.items ∙ any_behind n m ns ms h.0) i || distinct_behind ns m ms h.1 i)

placed_by : (m t r : Bool) → m ≡ true → t ≡ false → r ≡ false → (if not m then Some NoSuchMode else if t then Some LabelTwice else if r then Some RunsPast else None) ≡ None
placed_by m t r hm ht hr = λ i. if not (hm i) then Some NoSuchMode else if ht i then Some LabelTwice else if hr i then Some RunsPast else None

new_label : (at : ℕ) (before : List Entry) (e : Entry) (es : List Entry) → AreDistinct (names_of (before ++ e ∷ es)) → is_label_in (labels_from at before) e ≡ false
new_label at before (instr n m o) es h = refl
new_label at before (bytes bs) es h = refl
new_label at before (word o) es h = refl
new_label at before (label n) es h = absent n at before (distinct_behind (names_of before) n (names_of es) (subst AreDistinct (names_append before (label n ∷ es)) h))

-- an item that ends below 65,536 does not run past the end
pub ends_below : (a : ℕ) (e : Entry) → a + size_of e < 65536 → runs_past a e ≡ false
ends_below a (instr n m o) h = grind (arith, nat_tests)
ends_below a (label n) h = grind (arith, nat_tests)
ends_below a (bytes bs) h = grind (arith, nat_tests)
ends_below a (word o) h = grind (arith, nat_tests)

-- items of suitable operands and distinct labels that end below 65,536 pass the first pass
pub placed_suits : (at : ℕ) (before es : List Entry) → list_all has_mode es ≡ true → AreDistinct (names_of (before ++ es)) → at + size before + size es < 65536
    → first_fault (place_fault_in at) before es ≡ None
placed_suits at before [] m d l = refl
placed_suits at before (e ∷ es) m d l =
    let t = and_parts (has_mode e) (list_all has_mode es) m in
    let grows : size (before ++ e ∷ []) ≡ size before + size_of e = size_push before e in
    let none : place_fault (labels_from at before) (at + size before) e ≡ None =
    placed_by (has_mode e) (is_label_in (labels_from at before) e) (runs_past (at + size before) e) t.0 (new_label at before e es d) (ends_below (at + size before) e (omega arith)) in
    first_none (place_fault_in at) before es e none
    ∙ placed_suits at (before ++ e ∷ []) es t.1 (subst (λ xs. AreDistinct (names_of xs)) (sym (append_assoc before (e ∷ []) es)) d) (omega arith)

coded_suits : (labels : List (Name × ℕ)) (at : ℕ) (before es : List Entry) → AllReachFrom labels (at + size before) es → first_fault (code_fault_in at labels) before es ≡ None
coded_suits labels at before [] h = refl
coded_suits labels at before (e ∷ es) h =
    let grows : size (before ++ e ∷ []) ≡ size before + size_of e = size_push before e in
    let behind : at + size before + size_of e ≡ at + size (before ++ e ∷ []) = omega arith in
    first_none (code_fault_in at labels) before es e h.0 ∙ coded_suits labels at (before ++ e ∷ []) es (subst (λ n. AllReachFrom labels n es) behind h.1)

-- items that suit are not refused
pub suited_accepted : (at : ℕ) (es : List Entry) → Suited at es → refusal at es ≡ None
suited_accepted at es s =
    let l = s.ends in
    let here : at ≡ at + 0 = omega arith in
    let p : place_refusal at es ≡ None = placed_suits at [] es s.modes s.names (omega arith) in
    let c : code_refusal at es ≡ None = coded_suits (labels_from at es) at [] es (subst (λ n. AllReachFrom (labels_from at es) n es) here s.reach) in
    λ i. either (p i) (c i)
