-- What statements make: the items of `tbc asm` with numbers for names, and the same image.
use Rattle.std.proofs.Common.{subst, cond, append_assoc, ◌≡◌, ℕ, ◌+◌, ◌<◌, ◌≤◌, Bool, true, false, not, ◌&&◌, ◌||◌, List, [], ◌∷◌, ◌++◌, map, length, Option, Some, None, Ok, refl, sym, ap, ◌∙◌, if◌then◌else◌, arith, is_some}
use Rattle.std.specs.Prelude.{unwrap_or}
use Rattle.std.specs.List.{list_any}
use Rattle.std.proofs.lemmas.Bool.{and_parts}
use Rattle.tb_opcodes.specs.Opcodes.{encoded, length_of}
use Rattle.tb_opcodes.specs.declared.Mnemonic.{Mnemonic}
use Rattle.tb_opcodes.specs.declared.Mode.{Mode}
use Rattle.tb_opcodes.specs.declared.Mode.TheVariants.{Implied, ZeroPage, ZeroPageX, ZeroPageY, IndirectX, IndirectY}
use Rattle.tb_asm.specs.declared.names.Name.{Name}
use Rattle.tb_asm.specs.declared.items.Operand.{Operand}
use Rattle.tb_asm.specs.declared.items.Operand.TheVariants.{Nothing, Byte, Word, Label, LowOf, HighOf}
use Rattle.tb_asm.specs.declared.errors.AsmErrorKind.{AsmErrorKind}
use Rattle.tb_asm.specs.declared.errors.AsmErrorKind.TheVariants.{NoSuchMode, RunsPast}
use Rattle.tb_asm.specs.Names.{fold_byte, name_from}
use Rattle.tb_asm.specs.Text.{is_branch}
use Rattle.tb_asm.proofs.Laws.{labels_append}
use Rattle.tb_asm.specs.Layout.{same_name, address_in as address_of_label, Entry, instr, label, bytes, word, size_of, size, suits, has_mode, labels_from, value_in, number_in, opcode_of, operand_bytes, word_bytes, bytes_from, image_of}
use Rattle.tb_asm.specs.Layout.{runs_past, place_fault, place_fault_in, code_fault, code_fault_in, first_fault, with_value, reach_fault, place_refusal, code_refusal}
use Rattle.tb_asm.specs.Assembled.{refusal, either}
use Rattle.tb_asm.proofs.Faults.{first_none, none_first, size_push, taken, ends_by}
use Rattle.tb_assembly_meaning.specs.Names.{Env}
use Rattle.tb_assembly_meaning.specs.Bytes.{byte_of, word_of}
use Rattle.tb_assembly_meaning.specs.Places.{and_then, here_at, located, spot, start_at, reached_from, resolved_all}
use Rattle.tb_assembly_meaning.specs.Items.{before as laid_before, instruction_item, content_bytes, data_bytes, word_content, as_bytes}
use Rattle.tb_assembly_meaning.specs.Meaning.{outcome, listed, items_in, faults_in, items_from, faults_from, names_of, items_of}
use Rattle.tb_assembly_meaning.specs.Settling.{may_lengthen, falls_short, is_far}
use Rattle.tb_assembly_laws.specs.Items.{resolved, made_of, all_made_of, none_shortened, Means}
use Rattle.tb_assembly_laws.proofs.Words.{none_some}
use Rattle.tb_assembly_laws.proofs.Operands.{Address, Given, sum_at, address_in, mode_in, operand_in, form_in, never_long}
use Rattle.tb_assembly_laws.proofs.Lines.{Stated, named_here, instructed, laid, word_laid, entry, said, content_in, number_in as byte_in, AreBytes}
use Rattle.tb_assembly_laws.proofs.Values.{IsKnown, StandsFor, AreWords, number_value, sum_value, address_word, word_is, byte_is, value_there, operand_made}
use Rattle.tb_assembly_laws.proofs.Placing.{IsKnownAt, AreKnown, known_on, mode_at, spots, at_start, all_placed, none_resolved}

-- what holds of all statements with the labels of all
abbrev pub AreFinal : List (Name × ℕ) → List Stated → Type 0
AreFinal labels [] = Unit {0}
AreFinal labels (s ∷ ss) = IsKnownAt labels s × AreFinal labels ss

module _ (env : Env) (labels : List (Name × ℕ)) (stands : StandsFor env labels) (words : AreWords labels) where
  -- ── one statement ──
  data_made : (a : ℕ) (ps : List (ℕ × ℕ)) → AreBytes ps → data_bytes env a (map content_in ps) ≡ Ok (map byte_in ps)
  data_made a [] l = refl
  data_made a (p ∷ ps) l =
      let one : content_bytes env a (content_in p) ≡ Ok (p.1 ∷ []) =
      ap (λ r. and_then (and_then r (λ z. located p.0 (byte_of z))) (λ b. Ok (b ∷ []))) (number_value env (here_at a) p.0 p.1 (omega (arith, l.0)))
      ∙ ap (λ r. and_then (located p.0 r) (λ b. Ok (b ∷ []))) (byte_is p.1 l.0) in
      λ i. laid_before (one i) (data_made a ps l.1 i)

  abbrev IsMade : Stated → ℕ → Type 0
  IsMade s a = (o : Option Entry) × (outcome env (said s, Ok (spot a (size_of (entry s)) (mode_at s))) ≡ Ok o) × (listed o ≡ made_of labels (entry s))

  made : (s : Stated) (a : ℕ) → IsKnownAt labels s → a ≤ 65536 → code_fault labels a (entry s) ≡ None → IsMade s a
  made (named_here c w) a l fits h = (None, refl, refl)
  made (instructed c m g) a l fits h =
      let mode = mode_in (is_branch m) g in
      let p = spot a (length_of mode) mode in (
        Some (instr m mode (resolved labels (operand_in g))),
        ap (instruction_item env p m (form_in g)) (never_long g mode)
            ∙ ap (λ r. and_then r (λ o. Ok (Some (instr m mode o)))) (operand_made env labels stands words a (length_of mode) fits m g l h),
        refl,
      )
  made (laid c ps) a l fits h = (Some (bytes (map byte_in ps)), ap as_bytes (data_made a ps l), refl)
  made (word_laid c d p) a l fits h =
      let (v, e, free) = value_there (value_in labels (address_in p)) (λ v. None) h in
      let one : word_content env a (sum_at d p) ≡ Ok (word_bytes v) =
      ap (λ r. and_then (and_then r (λ z. located d (word_of z))) (λ w. Ok (word_bytes w))) (sum_value env labels stands (here_at a) d p v l e)
      ∙ ap (λ r. and_then (located d r) (λ w. Ok (word_bytes w))) (word_is v (address_word env labels stands words a 2 fits p v l e)) in
      (Some (bytes (word_bytes v)), ap (λ r. as_bytes (laid_before r (Ok []))) one, ap (λ o. bytes (word_bytes (unwrap_or o 0)) ∷ []) (sym e))

  -- ── all statements ──
  never : (b : Bool) → (b && false) ≡ false
  never true = refl
  never false = refl

  pub all_made : (at : ℕ) (ss : List Stated) (before : List Entry) (i : ℕ) → AreFinal labels ss → at + size before ≤ 65536
      → first_fault (place_fault_in at) before (map entry ss) ≡ None → first_fault (code_fault_in at labels) before (map entry ss) ≡ None
      → (faults_from env i (spots (at + size before) ss) ≡ []) × (items_from env (spots (at + size before) ss) ≡ all_made_of labels (map entry ss))
      × (list_any (is_far env) (spots (at + size before) ss) ≡ false)
  all_made at [] before i l fits free free_too = (refl, refl, refl)
  all_made at (s ∷ ss) before i l fits free free_too =
      let e = entry s in
      let a = at + size before in
      let none : place_fault (labels_from at before) a e ≡ None = none_first (place_fault_in at) before (map entry ss) e free in
      let t = taken (labels_from at before) a e none in
      let sizes : size (before ++ e ∷ []) ≡ size before + size_of e = size_push before e in
      let behind : at + size before + size_of e ≡ at + size (before ++ e ∷ []) = omega arith in
      let end : at + size before + size_of e ≤ 65536 = ends_by a e fits t.ends in
      let (o, is, list) = made s a l.0 fits (none_first (code_fault_in at labels) before (map entry ss) e free_too) in
      let on = all_made at ss (before ++ e ∷ []) (i + 1) l.1 (omega (arith, end, behind)) (sym (first_none (place_fault_in at) before (map entry ss) e none) ∙ free)
      (sym (first_none (code_fault_in at labels) before (map entry ss) e (none_first (code_fault_in at labels) before (map entry ss) e free_too)) ∙ free_too) in (
        (λ j. faults_in i (is j) ++ faults_from env (i + 1) (spots (behind j) ss)) ∙ on.0,
        (λ j. items_in (is j) ++ items_from env (spots (behind j) ss)) ∙ (λ j. list j ++ on.1 j),
        (λ j. (may_lengthen (said s) && falls_short (is j)) || list_any (is_far env) (spots (behind j) ss)) ∙ (λ j. never (may_lengthen (said s)) j || on.2 j),
      )

-- ── the same image ──
-- an operand with numbers for names has the same value
same_number : (labels others : List (Name × ℕ)) (o : Operand) → number_in others (resolved labels o) ≡ number_in labels o
same_number labels others Nothing = refl
same_number labels others (Byte b) = refl
same_number labels others (Word w) = refl
same_number labels others (Label n) = refl
same_number labels others (LowOf n) = refl
same_number labels others (HighOf n) = refl

pub same_bytes : (labels others : List (Name × ℕ)) (a : ℕ) (es : List Entry) → bytes_from others a (all_made_of labels es) ≡ bytes_from labels a es
same_bytes labels others a [] = refl
same_bytes labels others a (instr n m o ∷ es) =
    λ i. (opcode_of n m ∷ operand_bytes m a (same_number labels others o i)) ++ same_bytes labels others (a + length_of m) es i
same_bytes labels others a (label n ∷ es) = same_bytes labels others a es ∙ ap (λ k. bytes_from labels k es) (let e : a ≡ a + 0 = omega arith in e)
same_bytes labels others a (bytes bs ∷ es) = ap (λ t. bs ++ t) (same_bytes labels others (a + length bs) es)
same_bytes labels others a (word o ∷ es) = ap (λ t. word_bytes (number_in labels o) ++ t) (same_bytes labels others (a + 2) es)

-- ── no refusal ──
-- an operand with numbers for names suits where the operand does
suits_still : (labels : List (Name × ℕ)) (m : Mode) (o : Operand) → suits m o ≡ true → suits m (resolved labels o) ≡ true
suits_still labels m Nothing h = h
suits_still labels m (Byte b) h = h
suits_still labels m (Word w) h = h
suits_still labels Implied (Label n) h = h
suits_still labels m (Label n) h = h
suits_still labels ZeroPage (LowOf n) h = refl
suits_still labels ZeroPageX (LowOf n) h = refl
suits_still labels ZeroPageY (LowOf n) h = refl
suits_still labels IndirectX (LowOf n) h = refl
suits_still labels IndirectY (LowOf n) h = refl
suits_still labels m (LowOf n) h = h
suits_still labels ZeroPage (HighOf n) h = refl
suits_still labels ZeroPageX (HighOf n) h = refl
suits_still labels ZeroPageY (HighOf n) h = refl
suits_still labels IndirectX (HighOf n) h = refl
suits_still labels IndirectY (HighOf n) h = refl
suits_still labels m (HighOf n) h = h

-- an item that is no label is placed if it has its mode and ends in time
placed_by : (m r : Bool) → m ≡ true → r ≡ false → (if not m then Some NoSuchMode else if r then Some RunsPast else None) ≡ None
placed_by m r h k = λ i. if not (h i) then Some NoSuchMode else if k i then Some RunsPast else None

-- the value stays
value_still : (labels others : List (Name × ℕ)) (o : Operand) (v : ℕ) → value_in labels o ≡ Some v → value_in others (resolved labels o) ≡ Some v
value_still labels others Nothing v e = e
value_still labels others (Byte b) v e = e
value_still labels others (Word w) v e = e
value_still labels others (Label n) v e = ap (λ o. Some (unwrap_or o 0)) e
value_still labels others (LowOf n) v e = ap (λ o. Some (unwrap_or o 0)) e
value_still labels others (HighOf n) v e = ap (λ o. Some (unwrap_or o 0)) e

code_still : (labels others : List (Name × ℕ)) (a : ℕ) (n : Mnemonic) (m : Mode) (o : Operand) → code_fault labels a (instr n m o) ≡ None → code_fault others a (instr n m (resolved labels o)) ≡ None
code_still labels others a n m o h =
    let (v, e, free) = value_there (value_in labels o) (reach_fault m a) h in ap (λ x. with_value x (reach_fault m a)) (value_still labels others o v e) ∙ free

module _ (at : ℕ) (labels : List (Name × ℕ)) where
  sizes_still : (before made : List Entry) (e f : Entry) → size made ≡ size before → size_of f ≡ size_of e → size (made ++ f ∷ []) ≡ size (before ++ e ∷ [])
  sizes_still before made e f same long = size_push made f ∙ (λ i. same i + long i) ∙ sym (size_push before e)

  -- an item of the first pass
  place_one : (before made es : List Entry) (e f : Entry) → size made ≡ size before → size_of f ≡ size_of e
      → first_fault (place_fault_in at) before (e ∷ es) ≡ None → place_fault_in at made f ≡ None
      → ((before made : List Entry) → size made ≡ size before → first_fault (place_fault_in at) before es ≡ None → first_fault (place_fault_in at) made (all_made_of labels es) ≡ None)
      → first_fault (place_fault_in at) made (f ∷ all_made_of labels es) ≡ None
  place_one before made es e f same long free none on =
      first_none (place_fault_in at) made (all_made_of labels es) f none
      ∙ on (before ++ e ∷ []) (made ++ f ∷ []) (sizes_still before made e f same long)
      (sym (first_none (place_fault_in at) before es e (none_first (place_fault_in at) before es e free)) ∙ free)

  -- the first pass
  place_still : (es before made : List Entry) → size made ≡ size before → first_fault (place_fault_in at) before es ≡ None → first_fault (place_fault_in at) made (all_made_of labels es) ≡ None
  place_still [] before made same free = refl
  place_still (instr n m o ∷ es) before made same free =
      let t = taken (labels_from at before) (at + size before) (instr n m o) (none_first (place_fault_in at) before es (instr n m o) free) in
      let modes = and_parts (is_some (encoded n m)) (suits m o) t.mode in
      let f = instr n m (resolved labels o) in
      let mode : has_mode f ≡ true = λ i. modes.0 i && suits_still labels m o modes.1 i in
      place_one before made es (instr n m o) f same refl free
      (placed_by (has_mode f) (runs_past (at + size made) f) mode (ap (λ k. runs_past (at + k) f) same ∙ t.ends)) (place_still es)
  place_still (label n ∷ es) before made same free =
      let e = label n in
      place_still es (before ++ e ∷ []) made (same ∙ (let z : size before ≡ size before + 0 = omega arith in z) ∙ sym (size_push before e))
      (sym (first_none (place_fault_in at) before es e (none_first (place_fault_in at) before es e free)) ∙ free)
  place_still (bytes bs ∷ es) before made same free =
      let t = taken (labels_from at before) (at + size before) (bytes bs) (none_first (place_fault_in at) before es (bytes bs) free) in
      place_one before made es (bytes bs) (bytes bs) same refl free
      (placed_by true (runs_past (at + size made) (bytes bs)) refl (ap (λ k. runs_past (at + k) (bytes bs)) same ∙ t.ends)) (place_still es)
  place_still (word o ∷ es) before made same free =
      let t = taken (labels_from at before) (at + size before) (word o) (none_first (place_fault_in at) before es (word o) free) in
      let f = bytes (word_bytes (number_in labels o)) in
      place_one before made es (word o) f same refl free
      (placed_by true (runs_past (at + size made) f) refl (ap (λ k. runs_past (at + k) f) same ∙ t.ends)) (place_still es)

  -- an item of the second pass
  code_one : (others : List (Name × ℕ)) (before made es : List Entry) (e f : Entry) → size made ≡ size before → size_of f ≡ size_of e
      → first_fault (code_fault_in at labels) before (e ∷ es) ≡ None → code_fault_in at others made f ≡ None
      → ((before made : List Entry) → size made ≡ size before → first_fault (code_fault_in at labels) before es ≡ None → first_fault (code_fault_in at others) made (all_made_of labels es) ≡ None)
      → first_fault (code_fault_in at others) made (f ∷ all_made_of labels es) ≡ None
  code_one others before made es e f same long free none on =
      first_none (code_fault_in at others) made (all_made_of labels es) f none
      ∙ on (before ++ e ∷ []) (made ++ f ∷ []) (sizes_still before made e f same long)
      (sym (first_none (code_fault_in at labels) before es e (none_first (code_fault_in at labels) before es e free)) ∙ free)

  -- the second pass
  code_all : (others : List (Name × ℕ)) (es before made : List Entry) → size made ≡ size before → first_fault (code_fault_in at labels) before es ≡ None
      → first_fault (code_fault_in at others) made (all_made_of labels es) ≡ None
  code_all others [] before made same free = refl
  code_all others (instr n m o ∷ es) before made same free =
      let none = none_first (code_fault_in at labels) before es (instr n m o) free in
      code_one others before made es (instr n m o) (instr n m (resolved labels o)) same refl free
      (code_still labels others (at + size made) n m o (ap (λ k. code_fault labels (at + k) (instr n m o)) same ∙ none)) (code_all others es)
  code_all others (label n ∷ es) before made same free =
      let e = label n in
      code_all others es (before ++ e ∷ []) made (same ∙ (let z : size before ≡ size before + 0 = omega arith in z) ∙ sym (size_push before e))
      (sym (first_none (code_fault_in at labels) before es e (none_first (code_fault_in at labels) before es e free)) ∙ free)
  code_all others (bytes bs ∷ es) before made same free = code_one others before made es (bytes bs) (bytes bs) same refl free refl (code_all others es)
  code_all others (word o ∷ es) before made same free = code_one others before made es (word o) (bytes (word_bytes (number_in labels o))) same refl free refl (code_all others es)

-- ── the whole ──
both_none : (a b : Option (AsmErrorKind × ℕ)) → either a b ≡ None → (a ≡ None) × (b ≡ None)
both_none None b h = (refl, h)
both_none (Some f) b h = absurd (none_some (sym h))

-- a label above is one of all labels
persists : (xs ys : List (Name × ℕ)) (n : Name) (v : ℕ) → address_of_label xs n ≡ Some v → address_of_label (xs ++ ys) n ≡ Some v
persists [] ys n v h = absurd (none_some h)
persists (p ∷ xs) ys n v h = by (same_name n p.0) h (persists xs ys n v)
  where
    by : (b : Bool) → cond b (Some p.1) (address_of_label xs n) ≡ Some v → (address_of_label xs n ≡ Some v → address_of_label (xs ++ ys) n ≡ Some v)
        → cond b (Some p.1) (address_of_label (xs ++ ys) n) ≡ Some v
    by true h go = h
    by false h go = go h

keeps_value : (xs ys : List (Name × ℕ)) (a : Address) (v : ℕ) → value_in xs (address_in a) ≡ Some v → value_in (xs ++ ys) (address_in a) ≡ Some v
keeps_value xs ys (Address.at n) v h = h
keeps_value xs ys (Address.of w) v h = persists xs ys (name_from (map fold_byte w)) v h

keeps_given : (xs ys : List (Name × ℕ)) (g : Given) → IsKnown xs g → IsKnown (xs ++ ys) g
keeps_given xs ys (Given.low_place c a v i) h = (h.0, h.1, keeps_value xs ys a v h.2)
keeps_given xs ys g h = h

keeps : (xs ys : List (Name × ℕ)) (s : Stated) → IsKnownAt xs s → IsKnownAt (xs ++ ys) s
keeps xs ys (instructed c m g) h = keeps_given xs ys g h
keeps xs ys s h = h

-- what is known below some labels is known with all
all_final : (at : ℕ) (ss : List Stated) (before : List Entry) → AreKnown (labels_from at before) (at + size before) ss → AreFinal (labels_from at (before ++ map entry ss)) ss
all_final at [] before h = tt
all_final at (s ∷ ss) before h = (
  subst (λ ls. IsKnownAt ls s) (sym (labels_append at before (map entry (s ∷ ss)))) (keeps (labels_from at before) (labels_from (at + size before) (map entry (s ∷ ss))) s h.0),
  subst (λ es. AreFinal (labels_from at es) ss) (append_assoc before (entry s ∷ []) (map entry ss)) (all_final at ss (before ++ entry s ∷ []) (known_on at before s ss h.1)),
)

-- statements mean what their items do
pub means : (at : ℕ) (ss : List Stated) → at < 65536 → AreKnown [] at ss → refusal at (map entry ss) ≡ None → none_shortened [] at (map entry ss) ≡ true → Means at (map entry ss) (map said ss)
means at ss low l free long =
    let es = map entry ss in
    let here : at ≡ at + 0 = omega arith in
    let below = subst (λ a. AreKnown [] a ss) here l in
    let (place, code) = both_none (place_refusal at es) (code_refusal at es) free in
    let (lies, reached) = all_placed at ss [] (start_at at) (at_start at) below place (ap (λ a. none_shortened [] a es) (sym here) ∙ long) in
    let env = (reached_from (start_at at) (map said ss)).env in
    let labels = labels_from at es in
    let names : names_of at (map said ss) ≡ env = ap (resolved_all env) lies ∙ none_resolved env at ss in
    let (faults, items, near) = all_made env labels reached.stands reached.words at ss [] 0 (all_final at ss [] below) (omega (arith, low)) place code in
    let is : items_of at (map said ss) ≡ all_made_of labels es = (λ i. items_from (names i) (lies i)) ∙ ap (λ a. items_from env (spots a ss)) here ∙ items in
    let still : refusal at (all_made_of labels es) ≡ None =
    λ i. either (place_still at labels es [] [] refl place i) (code_all at labels (labels_from at (all_made_of labels es)) es [] [] refl code i) in
    record {
      faults = (λ i. faults_from (names i) 0 (lies i)) ∙ ap (λ a. faults_from env 0 (spots a ss)) here ∙ faults;
      reach = (λ i. list_any (is_far (names i)) (lies i)) ∙ ap (λ a. list_any (is_far env) (spots a ss)) here ∙ near;
      base = reached.base;
      items = is;
      accepted = ap (refusal at) is ∙ still;
      image = ap (image_of at) is ∙ same_bytes labels (labels_from at (all_made_of labels es)) at es;
    }
