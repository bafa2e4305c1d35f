-- The settled items of a program: where its lines and labels are among them.
use Rattle.std.proofs.Common.{◌≡◌, ℕ, ◌+◌, ◌≤◌, Bool, false, List, [], ◌∷◌, ◌++◌, append_assoc, length, ap, sym, subst, ◌∙◌, arith, refl, true, inl, inr, Some}
use Rattle.std.specs.Prelude.{unwrap_or}
use Rattle.std.specs.List.{list_all}
use Rattle.tb_asm.specs.declared.names.Name.{Name}
use Rattle.tb_asm.specs.Layout.{Entry, label, instr, bytes, word, size, size_of, address_in, labels_from}
use Rattle.tb_asm.specs.Settle.{Form, kept, long, items_from}
use Rattle.tb_asm.proofs.Settled.{items_kept}
use Rattle.tb_basic_syntax.specs.Source.{Numbered, numbers, Rises}
use Rattle.tb_lower.specs.Slots.{Instr, Poll, SlotCode}
use Rattle.tb_runtime16.specs.Addresses.{PROLOGUE_AT}
use Rattle.tb_compiled_kept.specs.Addresses.{LINES_AT}
use Rattle.tb_assembly_settling.specs.Settled.{AreFormsOf, IsSettled}
use Rattle.tb_assembly_settling.proofs.Forms.{forms_size, items_append, items_size, size_append, split, is_straight, straight_forms}
use Rattle.tb_compiler_templates.specs.declared.labels.Target.TheVariants.{Line, Past, Table}
use Rattle.tb_compiler_templates.specs.Labels.{label_of}
use Rattle.tb_compiler_program.specs.Layout.{LabelAt, LabelsAt}
use Rattle.tb_compiler_program.specs.Program.{line_code, lines_code, past_code, rows_code, table_code, block_code, program_code, AreCodable}
use Rattle.tb_compiler_program.specs.Search.{all_compared, compares, find_code, looked_up}
use Rattle.tb_compiler_program.proofs.Ordered.{program_woven}
use Rattle.tb_compiler_program.proofs.Reached.{labels_split}
use Rattle.tb_compiler_templates.proofs.Rising.{key_of}
use Rattle.tb_compiler_program.proofs.Woven.{lowest, Woven, labels_hold}
use Rattle.tb_compiler_program.proofs.Taken.{block_size}

-- ── settled items, one list after another ──
-- the items of the forms of two lists
pub joined_items : (a : ℕ) (fs front back : List Form) → fs ≡ front ++ back → items_from a fs ≡ items_from a front ++ items_from (a + forms_size front) back
joined_items a fs front back e = ap (items_from a) e ∙ items_append a front back

-- the size of two lists of forms is the sum of their sizes
pub total_size : (a : ℕ) (fs front back : List Form) → fs ≡ front ++ back → forms_size fs ≡ forms_size front + forms_size back
total_size a fs front back e =
    let b = a + forms_size front in
    let q = items_size a fs in let r = ap size (joined_items a fs front back e) in let t = size_append (items_from a front) (items_from b back) in
    let u = items_size a front in let v = items_size b back in
    omega (arith, q, r, t, u, v)

-- labels of the second of two settled lists
pub labels_behind : (labels : List (Name × ℕ)) (a : ℕ) (fs front back : List Form) → fs ≡ front ++ back → LabelsAt labels a (items_from a fs)
    → LabelsAt labels a (items_from a front) × LabelsAt labels (a + forms_size front) (items_from (a + forms_size front) back)
labels_behind labels a fs front back e h =
    let own = items_from a front in let rest = items_from (a + forms_size front) back in
    let s = labels_split labels a own rest (subst (LabelsAt labels a) (joined_items a fs front back e) h) in
    (s.0, subst (λ b. LabelsAt labels b rest) (let q = items_size a front in let there : a + size own ≡ a + forms_size front = omega (arith, q) in there) s.1)

-- items without branches to labels are their own settled items
pub straight_items : (a : ℕ) (es : List Entry) (fs : List Form) → list_all is_straight es ≡ true → AreFormsOf es fs → items_from a fs ≡ es
straight_items a es fs h of = ap (items_from a) (straight_forms es fs h of) ∙ items_kept a es

-- ── the order of labels ──
-- settled items have the labels of what they came from, so these rise in the same way
woven_settled : (a low breaks : ℕ) (es : List Entry) (fs : List Form) → AreFormsOf es fs → Woven low breaks es → Woven low breaks (items_from a fs)
woven_settled a low breaks [] [] h r = r
woven_settled a low breaks [] (f ∷ fs) h r = absurd h
woven_settled a low breaks (e ∷ es) [] h r = absurd h
woven_settled a low breaks (instr n m o ∷ es) (kept k ∷ fs) h r = subst (λ k. Woven low breaks (k ∷ items_from (a + size_of k) fs)) (sym h.0)
    (woven_settled (a + size_of (instr n m o)) low breaks es fs h.1 r)
woven_settled a low breaks (label n ∷ es) (kept k ∷ fs) h (inl r) = subst (λ k. Woven low breaks (k ∷ items_from (a + size_of k) fs)) (sym h.0)
    (inl (r.0, r.1, woven_settled (a + size_of (label n)) (key_of n + 1) breaks es fs h.1 r.2))
woven_settled a low breaks (label n ∷ es) (kept k ∷ fs) h (inr r) = subst (λ k. Woven low breaks (k ∷ items_from (a + size_of k) fs)) (sym h.0)
    (inr (r.0, r.1, woven_settled (a + size_of (label n)) low (key_of n + 1) es fs h.1 r.2))
woven_settled a low breaks (bytes bs ∷ es) (kept k ∷ fs) h r = subst (λ k. Woven low breaks (k ∷ items_from (a + size_of k) fs)) (sym h.0)
    (woven_settled (a + size_of (bytes bs)) low breaks es fs h.1 r)
woven_settled a low breaks (word o ∷ es) (kept k ∷ fs) h r = subst (λ k. Woven low breaks (k ∷ items_from (a + size_of k) fs)) (sym h.0)
    (woven_settled (a + size_of (word o)) low breaks es fs h.1 r)
woven_settled a low breaks (instr n m o ∷ es) (long k l ∷ fs) h r = woven_settled (a + 5) low breaks es fs h.1 r
woven_settled a low breaks (label n ∷ es) (long k l ∷ fs) h r = absurd (let no : ⊥ = cc in no)
woven_settled a low breaks (bytes bs ∷ es) (long k l ∷ fs) h r = absurd (let no : ⊥ = cc in no)
woven_settled a low breaks (word o ∷ es) (long k l ∷ fs) h r = absurd (let no : ⊥ = cc in no)

-- ── lines ──
-- a line's label is the address of its code
pub line_at : (labels : List (Name × ℕ)) (ns : List ℕ) (seed a : ℕ) (line : Numbered (List Instr)) (fs : List Form)
    → AreFormsOf (line_code ns seed line) fs → LabelsAt labels a (items_from a fs) → address_in labels (label_of (Line line.number)) ≡ Some a
line_at labels ns seed a line [] h l = absurd h
line_at labels ns seed a line (kept e ∷ fs) h l = subst (LabelAt labels a) h.0 l.0
line_at labels ns seed a line (long m t ∷ fs) h l = absurd (let no : ⊥ = cc in no)

-- a line that takes an answer has bytes
pub some_bytes : (ns : List ℕ) (seed n : ℕ) (is : List Instr) (fs : List Form) → AreFormsOf (line_code ns seed (record { number = n; content = Poll ∷ is })) fs → 1 ≤ forms_size fs
some_bytes ns seed n is [] h = absurd h
some_bytes ns seed n is (f ∷ []) h = absurd h.1
some_bytes ns seed n is (f ∷ long k t ∷ fs) h = omega arith
some_bytes ns seed n is (f ∷ kept e ∷ fs) h = let q = ap size_of h.1.0 in omega (arith, q)

-- ── the whole program ──
rows_straight : (ns : List ℕ) → list_all is_straight (rows_code ns) ≡ true
rows_straight [] = refl
rows_straight (n ∷ ns) = rows_straight ns

compared_straight : (ns : List ℕ) (es : List Entry) → list_all is_straight es ≡ true → list_all is_straight (all_compared ns ++ es) ≡ true
compared_straight [] es h = h
compared_straight (n ∷ ns) es h = compared_straight ns es h

-- what belongs to no line has no branch to a label
rest_straight : (t : Bool) (ns : List ℕ) → list_all is_straight (past_code ns ++ (find_code t ns ++ table_code ns)) ≡ true
rest_straight true ns = subst (λ es. list_all is_straight es ≡ true) (sym (append_assoc (all_compared ns) (looked_up (length ns)) (table_code ns)))
    (compared_straight ns (looked_up (length ns) ++ table_code ns) (rows_straight ns))
rest_straight false ns = rows_straight ns

-- a program's settled items: the block, the lines' settled items, and what belongs to none of them
pub record Sections (seed : ℕ) (code : SlotCode) (items : List Entry) (labels : List (Name × ℕ)) : Type 0 where
  pub lines : List Form
  pub of_lines : AreFormsOf (lines_code (numbers code) seed code) lines
  pub are : items ≡ block_code ++ (items_from LINES_AT lines ++ (past_code (numbers code) ++ (find_code (compares code) (numbers code) ++ table_code (numbers code))))
  pub all_labels : LabelsAt labels PROLOGUE_AT items
  pub line_labels : LabelsAt labels LINES_AT (items_from LINES_AT lines)
  pub past : unwrap_or (address_in labels (label_of Past)) 0 ≡ LINES_AT + forms_size lines
  pub table : address_in labels (label_of Table) ≡ Some (LINES_AT + forms_size lines + size (past_code (numbers code)) + size (find_code (compares code) (numbers code)))

-- the settled items of a program consist of these sections
pub sections : (seed : ℕ) (code : SlotCode) → AreCodable code → Rises 0 65536 (numbers code) → (items : List Entry)
    → IsSettled PROLOGUE_AT (program_code seed code) items → Sections seed code items (labels_from PROLOGUE_AT items)
sections seed code lists rises items settled =
    let ns = numbers code in
    let labels = labels_from PROLOGUE_AT items in
    let lines = lines_code ns seed code in let past = past_code ns in let search = find_code (compares code) ns in let table = table_code ns in
    let tail = past ++ (search ++ table) in
    let s = split block_code (lines ++ tail) settled.forms settled.of in
    let t = split lines tail s.back s.of_back in
    let block : items_from PROLOGUE_AT s.front ≡ block_code = straight_items PROLOGUE_AT block_code s.front refl s.of_front in
    let start : PROLOGUE_AT + forms_size s.front ≡ LINES_AT = (let a = items_size PROLOGUE_AT s.front in let b = ap size block in let c = block_size in omega (arith, a, b, c)) in
    let here = LINES_AT + forms_size t.front in
    let last_items : items_from here t.back ≡ tail = straight_items here tail t.back (rest_straight (compares code) ns) t.of_back in
    let rest : items_from (PROLOGUE_AT + forms_size s.front) s.back ≡ items_from LINES_AT t.front ++ tail = ap (λ a. items_from a s.back) start
    ∙ joined_items LINES_AT s.back t.front t.back t.are ∙ ap (λ es. items_from LINES_AT t.front ++ es) last_items in
    let are : items ≡ block_code ++ (items_from LINES_AT t.front ++ tail) = settled.are ∙ joined_items PROLOGUE_AT settled.forms s.front s.back s.are ∙ (λ i. block i ++ rest i) in
    let hold : LabelsAt labels PROLOGUE_AT items = labels_hold PROLOGUE_AT lowest 0 [] items tt (subst (λ es. Woven lowest 0 es) (sym settled.are)
    (woven_settled PROLOGUE_AT lowest 0 (program_code seed code) settled.forms settled.of (program_woven seed code rises lists))) in
    let own = items_from LINES_AT t.front in
    let long : size own ≡ forms_size t.front = items_size LINES_AT t.front in
    let after_block = labels_split labels PROLOGUE_AT block_code (own ++ tail) (subst (LabelsAt labels PROLOGUE_AT) are hold) in
    let at_lines : LabelsAt labels LINES_AT (own ++ tail) = subst (λ a. LabelsAt labels a (own ++ tail)) (let b = block_size in
    let e : PROLOGUE_AT + size block_code ≡ LINES_AT = omega (arith, b) in e) after_block.1 in
    let after_lines = labels_split labels LINES_AT own tail at_lines in
    let at_past : LabelsAt labels here tail = subst (λ a. LabelsAt labels a tail) (let e : LINES_AT + size own ≡ here = omega (arith, long) in e) after_lines.1 in
    let after_past = labels_split labels here past (search ++ table) at_past in
    let after_find = labels_split labels (here + size past) search table after_past.1 in
    record {
      lines = t.front;
      of_lines = t.of_front;
      are = are;
      all_labels = hold;
      line_labels = after_lines.0;
      past = ap (λ o. unwrap_or o 0) after_past.0.0;
      table = after_find.1.0;
    }
