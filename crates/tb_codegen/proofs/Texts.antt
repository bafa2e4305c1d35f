-- The texts of a line are in its settled code.
use Rattle.std.proofs.Common.{◌≡◌, ℕ, ◌+◌, ◌≤◌, List, [], ◌∷◌, ◌++◌, length, take, drop, map, true, refl, sym, ap, subst, ◌∙◌}
use Rattle.std.proofs.Common.{arith, append_assoc, length-append, Bool, Option, Some, None}
use Rattle.std.specs.Prelude.{◌/◌, ◌%◌, ◌<◌, unwrap_or}
use Rattle.std.specs.List.{list_all}
use Rattle.tb_words.specs.declared.Rel.{Rel}
use Rattle.tb_basic_syntax.specs.declared.expressions.Operator.{Operator}
use Rattle.tb_basic_syntax.specs.declared.expressions.Operator.TheVariants.{Subtract}
use Rattle.tb_compiler_templates.specs.Labels.{label_of}
use Rattle.tb_runtime16.specs.Addresses.{PROLOGUE_AT, SEND_AT}
use Rattle.tb_asm.specs.declared.names.Name.{Name}
use Rattle.tb_asm.specs.Layout.{Entry, bytes, size, bytes_from}
use Rattle.tb_asm.specs.Settle as settle
use Rattle.tb_asm.specs.Settle.{Form, items_from}
use Rattle.tb_asm.proofs.Settled.{items_kept}
use Rattle.tb_asm.proofs.Laws.{all_size, bytes_append}
use Rattle.tb_basic_syntax.specs.Source.{Program, Statement, Numbered, numbers}
use Rattle.tb_lower.specs.Lowered as lowered
use Rattle.tb_lower.specs.Slots.{Instr, Put, Load, Store, Negate, Compute, Random, SendText, SendNumber, SendZone, SendNewline, Input, Poll, Hold, LeaveUnless, Jump, Call, JumpTo, CallTo, Return, End}
use Rattle.tb_lower.specs.Weights.{instr_texts}
use Rattle.tb_basic_syntax.specs.Texts.{statement_texts}
use Rattle.tb_lower.proofs.Weighed.{same_texts}
use Rattle.tb_compiler_templates.specs.declared.labels.Inner.TheVariants as inner
use Rattle.tb_compiler_templates.specs.declared.labels.Target.TheVariants as target
use Rattle.tb_compiled_kept.specs.Addresses.{POINTER}
use Rattle.tb_opcodes.specs.Opcodes as opcodes
use Rattle.tb_compiler_templates.specs.Templates.{address, byte_sent, only_byte, sent, text_call, jump, here}
use Rattle.tb_compiler_program.proofs.Sent.{IsOnly, only, only_is, other}
use Rattle.tb_compiler_templates.specs.GroupTemplates.{group_template}
use Rattle.tb_compiler_templates.specs.Breaks.{polled, behind, some_leaves}
use Rattle.tb_compiler_program.specs.Layout.{LabelsAt}
use Rattle.tb_compiler_program.specs.Program.{rest_code, line_code, lines_code}
use Rattle.tb_assembly_settling.specs.Settled.{AreFormsOf}
use Rattle.tb_assembly_settling.proofs.Forms.{forms_size, items_append, items_size, size_append, split, is_straight, straight_forms}
use Rattle.tb_compiler_selection.specs.Groups.{Operand, Constant, Variable, InSlot, Home, IntoVariable, IntoHeld, Destination, IntoSlot, IntoHome, Tested, HeldBefore}
use Rattle.tb_compiler_selection.specs.Groups.{HeldNow, Conversion, Negated, Drawn, Usage, AsNumber, AsLine, AsSubroutine, Divisibility, Group, Calculate, Convert, Move}
use Rattle.tb_compiler_selection.specs.Groups.{Use, Test, TestGo, Divides, Single, fetch, keep, kept, held, convert, use_of, slot_of, expand, expand_all, Side, OnLeft}
use Rattle.tb_compiler_selection.specs.Groups.{OnRight, Remains, Stepped, multiple, compared}
use Rattle.tb_compiler_selection.specs.Select.{select}
use Rattle.tb_compiler_selection.proofs.Bracketed.{brackets}
use Rattle.tb_codegen.specs.Compiled.{stands_at, starts_in}
use Rattle.tb_compiler_program.proofs.Settled.{joined_items, labels_behind, line_at, total_size}
use Rattle.tb_compiled.specs.Texts.{TextsStand, none, text, offset_of, end_before, LinesHoldTexts}

lower : (image : List ℕ) (to from from' : ℕ) (texts : List (List ℕ)) → from ≤ from' → TextsStand image to from' texts → TextsStand image to from texts
lower image to from from' _ l (none _ h) = none from (omega (arith, l, h))
lower image to from from' _ l (text _ place t texts h is rest) = text from place t texts (omega (arith, l, h)) is rest

raise : (image : List ℕ) (to to' from : ℕ) (texts : List (List ℕ)) → to ≤ to' → TextsStand image to from texts → TextsStand image to' from texts
raise image to to' from _ l (none _ h) = none from (omega (arith, l, h))
raise image to to' from _ l (text _ place t texts h is rest) = text from place t texts h is (raise image to to' (place + length t) texts l rest)

take_middle : (front t back : List ℕ) → take (length t) (drop (length front) (front ++ (t ++ back))) ≡ t
take_middle [] [] back = refl
take_middle [] (b ∷ t) back = ap (λ r. b ∷ r) (take_middle [] t back)
take_middle (f ∷ front) t back = take_middle front t back

-- code in an image, from an offset on
abbrev pub Holds : List (Name × ℕ) → ℕ → List Entry → List (List ℕ) → Type 0
Holds labels a es texts = (front back : List ℕ) → TextsStand (front ++ (bytes_from labels a es ++ back)) (length front + size es) (length front) texts

-- the image of two pieces, with the first one among what is before
joined : (labels : List (Name × ℕ)) (a : ℕ) (xs ys : List Entry) (front back : List ℕ)
    → front ++ (bytes_from labels a (xs ++ ys) ++ back) ≡ (front ++ bytes_from labels a xs) ++ (bytes_from labels (a + size xs) ys ++ back)
joined labels a xs ys front back =
    let code = bytes_from labels a xs in let more = bytes_from labels (a + size xs) ys in
    ap (λ b. front ++ (b ++ back)) (bytes_append labels a xs ys) ∙ ap (λ b. front ++ b) (append_assoc code more back) ∙ sym (append_assoc front code (more ++ back))

front_length : (labels : List (Name × ℕ)) (a : ℕ) (xs : List Entry) (front : List ℕ) → length (front ++ bytes_from labels a xs) ≡ length front + size xs
front_length labels a xs front = length-append front (bytes_from labels a xs) ∙ ap (λ n. length front + n) (all_size labels a xs)

-- after a piece, from its end on
later : (labels : List (Name × ℕ)) (a : ℕ) (xs ys : List Entry) (texts : List (List ℕ)) → Holds labels (a + size xs) ys texts
    → (front back : List ℕ) → TextsStand (front ++ (bytes_from labels a (xs ++ ys) ++ back)) (length front + size (xs ++ ys)) (length front + size xs) texts
later labels a xs ys texts h front back =
    let code = bytes_from labels a xs in
    let l = front_length labels a xs front in
    let e : length (front ++ code) + size ys ≡ length front + size (xs ++ ys) = (let s = size_append xs ys in omega (arith, l, s)) in
    subst (λ image. TextsStand image (length front + size (xs ++ ys)) (length front + size xs) texts) (sym (joined labels a xs ys front back))
    (subst (λ to. TextsStand ((front ++ code) ++ (bytes_from labels (a + size xs) ys ++ back)) to (length front + size xs) texts) e
    (subst (λ from. TextsStand ((front ++ code) ++ (bytes_from labels (a + size xs) ys ++ back)) (length (front ++ code) + size ys) from texts) l (h (front ++ code) back)))

-- a piece without texts before others
quiet : (labels : List (Name × ℕ)) (a : ℕ) (xs ys : List Entry) (texts : List (List ℕ)) → Holds labels (a + size xs) ys texts → Holds labels a (xs ++ ys) texts
quiet labels a xs ys texts h front back =
    lower (front ++ (bytes_from labels a (xs ++ ys) ++ back)) (length front + size (xs ++ ys)) (length front) (length front + size xs) texts (omega arith) (later labels a xs ys texts h front back)

-- a text between two pieces
loud : (labels : List (Name × ℕ)) (a : ℕ) (xs ys : List Entry) (t : List ℕ) (texts : List (List ℕ))
    → Holds labels (a + size (xs ++ bytes t ∷ [])) ys texts → Holds labels a ((xs ++ bytes t ∷ []) ++ ys) (t ∷ texts)
loud labels a xs ys t texts h front back =
    let es = xs ++ bytes t ∷ [] in
    let image = front ++ (bytes_from labels a (es ++ ys) ++ back) in
    let p = bytes_from labels a xs in
    let m = bytes_from labels (a + size es) ys ++ back in
    let l = front_length labels a xs front in
    let s : size es ≡ size xs + (length t + 0) = size_append xs (bytes t ∷ []) in
    let shown : image ≡ (front ++ p) ++ (t ++ m) =
    joined labels a es ys front back ∙ ap (λ b. (front ++ b) ++ m) (bytes_append labels a xs (bytes t ∷ []))
    ∙ ap (λ b. b ++ m) (sym (append_assoc front p (t ++ []))) ∙ append_assoc (front ++ p) (t ++ []) m ∙ ap (λ b. (front ++ p) ++ b) (append_assoc t [] m) in
    let stands : take (length t) (drop (length front + size xs) image) ≡ t =
    ap (λ i. take (length t) (drop (length front + size xs) i)) shown ∙ ap (λ n. take (length t) (drop n ((front ++ p) ++ (t ++ m)))) (sym l) ∙ take_middle (front ++ p) t m in
    text (length front) (length front + size xs) t texts (omega arith) stands
    (lower image (length front + size (es ++ ys)) (length front + size xs + length t) (length front + size es) texts (omega (arith, s)) (later labels a es ys texts h front back))

-- the byte of a text of one byte, in an instruction before another piece
loud_byte : (labels : List (Name × ℕ)) (a b : ℕ) (ys : List Entry) (texts : List (List ℕ)) → b < 256 → Holds labels (a + 5) ys texts → Holds labels a (byte_sent b ++ ys) ((b ∷ []) ∷ texts)
unfolding opcodes.encoded
loud_byte labels a b ys texts small h front back =
    let m = bytes_from labels (a + 5) ys ++ back in
    let image = front ++ (bytes_from labels a (byte_sent b ++ ys) ++ back) in
    let e : b % 256 ≡ b = omega (arith, small) in
    let tail = 0x20 ∷ SEND_AT % 256 ∷ SEND_AT / 256 ∷ m in
    let there : bytes_from labels (a + 2 + 3) ys ≡ bytes_from labels (a + 5) ys = (let q : a + 2 + 3 ≡ a + 5 = omega arith in ap (λ n. bytes_from labels n ys) q) in
    let shown : image ≡ (front ++ 0xa9 ∷ []) ++ ((b ∷ []) ++ tail) =
    (λ i. front ++ 0xa9 ∷ e i ∷ 0x20 ∷ SEND_AT % 256 ∷ SEND_AT / 256 ∷ (there i ++ back)) ∙ sym (append_assoc front (0xa9 ∷ []) ((b ∷ []) ++ tail)) in
    let long : length (front ++ 0xa9 ∷ []) ≡ length front + 1 = length-append front (0xa9 ∷ []) in
    let stands : take 1 (drop (length front + 1) image) ≡ b ∷ [] =
    ap (λ i. take 1 (drop (length front + 1) i)) shown ∙ ap (λ n. take 1 (drop n ((front ++ 0xa9 ∷ []) ++ ((b ∷ []) ++ tail)))) (sym long)
    ∙ take_middle (front ++ 0xa9 ∷ []) (b ∷ []) tail in
    let s : size (byte_sent b ++ ys) ≡ 5 + size ys = omega arith in
    text (length front) (length front + 1) (b ∷ []) texts (omega arith) stands
    (lower image (length front + size (byte_sent b ++ ys)) (length front + 1 + 1) (length front + size (byte_sent b)) texts (omega arith) (later labels a (byte_sent b) ys texts h front back))

-- a piece without texts after another one
quiet_behind : (labels : List (Name × ℕ)) (a : ℕ) (xs ys : List Entry) (texts : List (List ℕ)) → Holds labels a xs texts → Holds labels a (xs ++ ys) texts
quiet_behind labels a xs ys texts h front back =
    let code = bytes_from labels a xs in let more = bytes_from labels (a + size xs) ys in
    let same : front ++ (code ++ (more ++ back)) ≡ front ++ (bytes_from labels a (xs ++ ys) ++ back) =
    sym (ap (λ b. front ++ (b ++ back)) (bytes_append labels a xs ys) ∙ ap (λ b. front ++ b) (append_assoc code more back)) in
    raise (front ++ (bytes_from labels a (xs ++ ys) ++ back)) (length front + size xs) (length front + size (xs ++ ys)) (length front) texts (let e = size_append xs ys in omega (arith, e))
    (subst (λ image. TextsStand image (length front + size xs) (length front) texts) same (h front (more ++ back)))

-- ---- settled items
-- the settled items of a piece without texts before others
quiet_forms : (labels : List (Name × ℕ)) (a : ℕ) (xs ys : List Entry) (fs : List Form) (texts : List (List ℕ)) → AreFormsOf (xs ++ ys) fs
    → ((b : ℕ) (gs : List Form) → AreFormsOf ys gs → Holds labels b (items_from b gs) texts) → Holds labels a (items_from a fs) texts
quiet_forms labels a xs ys fs texts h rest =
    let s = split xs ys fs h in
    let front = items_from a s.front in
    let there : a + forms_size s.front ≡ a + size front = (let e = items_size a s.front in omega (arith, e)) in
    subst (λ es. Holds labels a es texts) (sym (ap (items_from a) s.are ∙ items_append a s.front s.back))
    (quiet labels a front (items_from (a + forms_size s.front) s.back) texts
    (subst (λ b. Holds labels b (items_from (a + forms_size s.front) s.back) texts) there (rest (a + forms_size s.front) s.back s.of_back)))

-- the settled items of a piece that ends with a text and a label
loud_forms : (labels : List (Name × ℕ)) (a : ℕ) (xs : List Entry) (t : List ℕ) (l : Entry) (ys : List Entry) (fs : List Form) (texts : List (List ℕ))
    → list_all is_straight ((xs ++ bytes t ∷ []) ++ l ∷ []) ≡ true
    → AreFormsOf (((xs ++ bytes t ∷ []) ++ l ∷ []) ++ ys) fs → ((b : ℕ) (gs : List Form) → AreFormsOf ys gs → Holds labels b (items_from b gs) texts)
    → Holds labels a (items_from a fs) (t ∷ texts)
loud_forms labels a xs t l ys fs texts straight h rest =
    let own = (xs ++ bytes t ∷ []) ++ l ∷ [] in
    let s = split own ys fs h in
    let same : s.front ≡ map settle.kept own = straight_forms own s.front straight s.of_front in
    let front : items_from a s.front ≡ own = ap (items_from a) same ∙ items_kept a own in
    let b = a + forms_size s.front in
    let back = items_from b s.back in
    let whole : items_from a fs ≡ (xs ++ bytes t ∷ []) ++ (l ∷ back) = ap (items_from a) s.are ∙ items_append a s.front s.back
    ∙ ap (λ es. es ++ back) front ∙ append_assoc (xs ++ bytes t ∷ []) (l ∷ []) back in
    let there : b ≡ a + size (xs ++ bytes t ∷ []) + size (l ∷ []) = (let e = items_size a s.front in let f = ap size front in
    let g = size_append (xs ++ bytes t ∷ []) (l ∷ []) in omega (arith, e, f, g)) in
    subst (λ es. Holds labels a es (t ∷ texts)) (sym whole)
    (loud labels a xs (l ∷ back) t texts
    (quiet labels (a + size (xs ++ bytes t ∷ [])) (l ∷ []) back texts (subst (λ c. Holds labels c back texts) there (rest b s.back s.of_back))))

-- ---- the texts of groups
fetch_texts : (k : ℕ) (a : Operand) (is : List Instr) → instr_texts (fetch k a ++ is) ≡ instr_texts is
fetch_texts k (Constant w) is = refl
fetch_texts k (Variable x) is = refl
fetch_texts k InSlot is = refl

home_texts : (home : Home) (is : List Instr) → instr_texts (keep home ∷ is) ≡ instr_texts is
home_texts (IntoVariable x) is = refl
home_texts IntoHeld is = refl

kept_texts : (d : Destination) (is : List Instr) → instr_texts (kept d ++ is) ≡ instr_texts is
kept_texts (IntoSlot k) is = refl
kept_texts (IntoHome home) is = home_texts home is

held_texts : (a : Tested) (is : List Instr) → instr_texts (held a ++ is) ≡ instr_texts is
held_texts HeldBefore is = refl
held_texts (HeldNow a) is = ap instr_texts (append_assoc (fetch 0 a) (Hold ∷ []) is) ∙ fetch_texts 0 a (Hold ∷ is)

-- a group of several words has no text
calculate_texts : (op : Operator) (a b : Operand) (d : Destination) (is : List Instr) → instr_texts (expand (Calculate op a b d) ++ is) ≡ instr_texts is
calculate_texts op a b d is =
    let k = slot_of d in
    ap instr_texts (append_assoc (fetch k a) (fetch (k + 1) b ++ Compute op k ∷ kept d) is) ∙ fetch_texts k a ((fetch (k + 1) b ++ Compute op k ∷ kept d) ++ is)
    ∙ ap instr_texts (append_assoc (fetch (k + 1) b) (Compute op k ∷ kept d) is) ∙ fetch_texts (k + 1) b (Compute op k ∷ (kept d ++ is)) ∙ kept_texts d is

convert_texts : (what : Conversion) (a : Operand) (d : Destination) (is : List Instr) → instr_texts (expand (Convert what a d) ++ is) ≡ instr_texts is
convert_texts what a d is =
    let k = slot_of d in
    ap instr_texts (append_assoc (fetch k a) (convert what k ∷ kept d) is) ∙ fetch_texts k a (convert what k ∷ (kept d ++ is)) ∙ by what ∙ kept_texts d is
  where
    by : (what : Conversion) → instr_texts (convert what (slot_of d) ∷ (kept d ++ is)) ≡ instr_texts (kept d ++ is)
    by Negated = refl
    by Drawn = refl

use_texts : (how : Usage) (a : Operand) (is : List Instr) → instr_texts (expand (Use how a) ++ is) ≡ instr_texts is
use_texts how a is = ap instr_texts (append_assoc (fetch 0 a) (use_of how ∷ []) is) ∙ fetch_texts 0 a (use_of how ∷ is) ∙ by how
  where
    by : (how : Usage) → instr_texts (use_of how ∷ is) ≡ instr_texts is
    by AsNumber = refl
    by AsLine = refl
    by AsSubroutine = refl

move_texts : (a : Operand) (home : Home) (is : List Instr) → instr_texts (expand (Move a home) ++ is) ≡ instr_texts is
move_texts a home is = ap instr_texts (append_assoc (fetch 0 a) (keep home ∷ []) is) ∙ fetch_texts 0 a (keep home ∷ is) ∙ home_texts home is

multiple_texts : (k x : ℕ) (d : Operand) (js is : List Instr) → instr_texts (multiple k x d js ++ is) ≡ instr_texts (js ++ is)
multiple_texts k x (Constant w) js is = refl
multiple_texts k x (Variable y) js is = refl
multiple_texts k x InSlot js is = refl

divides_texts : (how : Divisibility) (x : ℕ) (d : Operand) (side : Side) (to : Option ℕ) (is : List Instr) → instr_texts (expand (Divides how x d side to) ++ is) ≡ instr_texts is
divides_texts how x d OnLeft None is = multiple_texts 0 x d (Hold ∷ Load 0 x ∷ LeaveUnless (compared how) ∷ []) is
divides_texts how x d OnLeft (Some to) is = multiple_texts 0 x d (Hold ∷ Load 0 x ∷ LeaveUnless (compared how) ∷ JumpTo to ∷ []) is
divides_texts how x d OnRight None is = multiple_texts 0 x d (LeaveUnless (compared how) ∷ []) is
divides_texts how x d OnRight (Some to) is = multiple_texts 0 x d (LeaveUnless (compared how) ∷ JumpTo to ∷ []) is

remains_texts : (x : ℕ) (d : Operand) (to : Destination) (is : List Instr) → instr_texts (expand (Remains x d to) ++ is) ≡ instr_texts is
remains_texts x d to is = multiple_texts (slot_of to + 1) x d (Compute Subtract (slot_of to) ∷ kept to) is ∙ kept_texts to is

stepped_texts : (op : Operator) (a b : Operand) (by : Operator) (w x : ℕ) (is : List Instr) → instr_texts (expand (Stepped op a b by w x) ++ is) ≡ instr_texts is
stepped_texts op a b by w x is =
    ap instr_texts (append_assoc (fetch 0 a) (fetch 1 b ++ Compute op 0 ∷ Put 1 w ∷ Compute by 0 ∷ Store x ∷ []) is)
    ∙ fetch_texts 0 a ((fetch 1 b ++ Compute op 0 ∷ Put 1 w ∷ Compute by 0 ∷ Store x ∷ []) ++ is)
    ∙ ap instr_texts (append_assoc (fetch 1 b) (Compute op 0 ∷ Put 1 w ∷ Compute by 0 ∷ Store x ∷ []) is) ∙ fetch_texts 1 b (Compute op 0 ∷ Put 1 w ∷ Compute by 0 ∷ Store x ∷ is)

test_texts : (rel : Rel) (a : Tested) (b : Operand) (js is : List Instr) → instr_texts (js ++ is) ≡ instr_texts is
    → instr_texts ((held a ++ (fetch 0 b ++ LeaveUnless rel ∷ js)) ++ is) ≡ instr_texts is
test_texts rel a b js is e =
    ap instr_texts (append_assoc (held a) (fetch 0 b ++ LeaveUnless rel ∷ js) is) ∙ held_texts a ((fetch 0 b ++ LeaveUnless rel ∷ js) ++ is)
    ∙ ap instr_texts (append_assoc (fetch 0 b) (LeaveUnless rel ∷ js) is) ∙ fetch_texts 0 b (LeaveUnless rel ∷ (js ++ is)) ∙ e

module _ (labels : List (Name × ℕ)) (ns : List ℕ) (seed n : ℕ) where
  -- what is before the text
  abbrev before_text : ℕ → List ℕ → List Entry
  before_text i t = address (target.Inside inner.Text n i) POINTER ++ (text_call (length t) ++ (jump (target.Inside inner.Behind n i) ∷ here (target.Inside inner.Text n i) ∷ []))

  -- settled forms of groups from group i on hold texts, wherever they are laid
  abbrev RestHolds : ℕ → List Group → List (List ℕ) → Type 0
  RestHolds i gs texts = (a : ℕ) (fs : List Form) → AreFormsOf (rest_code ns seed n i gs) fs → Holds labels a (items_from a fs) texts

  -- a group without texts before others
  silent : (i : ℕ) (g : Group) (gs : List Group) (texts : List (List ℕ)) → texts ≡ instr_texts (expand_all gs)
      → RestHolds (i + 1) gs (instr_texts (expand_all gs)) → RestHolds i (g ∷ gs) texts
  silent i g gs texts e rest a fs h =
      quiet_forms labels a (group_template ns seed n i g) (rest_code ns seed n (i + 1) gs) fs texts h (λ b fs' h'. subst (Holds labels b (items_from b fs')) (sym e) (rest b fs' h'))

  nothing : (a : ℕ) (fs : List Form) → AreFormsOf [] fs → Holds labels a (items_from a fs) []
  nothing a [] h = λ front back. none (length front) (omega arith)
  nothing a (f ∷ fs) h = absurd h

  -- a text, of one byte or of others, before other groups
  sent_texts : (i : ℕ) (t : List ℕ) (o : Option ℕ) → IsOnly t o → (gs : List Group) (a : ℕ) (fs : List Form)
      → AreFormsOf (sent o (target.Inside inner.Text n i) (target.Inside inner.Behind n i) t ++ rest_code ns seed n (i + 1) gs) fs
      → RestHolds (i + 1) gs (instr_texts (expand_all gs)) → Holds labels a (items_from a fs) (t ∷ instr_texts (expand_all gs))
  sent_texts i _ _ (only b small) gs a fs h rest =
      let own = byte_sent b in
      let s = split own (rest_code ns seed n (i + 1) gs) fs h in
      let same : s.front ≡ map settle.kept own = straight_forms own s.front refl s.of_front in
      let front : items_from a s.front ≡ own = ap (items_from a) same ∙ items_kept a own in
      let there : a + forms_size s.front ≡ a + 5 = (let e = items_size a s.front in let f = ap size front in omega (arith, e, f)) in
      subst (λ es. Holds labels a es ((b ∷ []) ∷ instr_texts (expand_all gs)))
      (sym (ap (items_from a) s.are ∙ items_append a s.front s.back ∙ (λ j. front j ++ items_from (there j) s.back)))
      (loud_byte labels a b (items_from (a + 5) s.back) (instr_texts (expand_all gs)) small (rest (a + 5) s.back s.of_back))
  sent_texts i t _ (other _) gs a fs h rest =
      loud_forms labels a (before_text i t) t (here (target.Inside inner.Behind n i)) (rest_code ns seed n (i + 1) gs) fs (instr_texts (expand_all gs)) refl h rest

  rest_texts : (i : ℕ) (gs : List Group) → RestHolds i gs (instr_texts (expand_all gs))
  rest_texts i [] = nothing
  rest_texts i (Calculate op x y d ∷ gs) = silent i (Calculate op x y d) gs _ (calculate_texts op x y d (expand_all gs)) (rest_texts (i + 1) gs)
  rest_texts i (Convert what x d ∷ gs) = silent i (Convert what x d) gs _ (convert_texts what x d (expand_all gs)) (rest_texts (i + 1) gs)
  rest_texts i (Use how x ∷ gs) = silent i (Use how x) gs _ (use_texts how x (expand_all gs)) (rest_texts (i + 1) gs)
  rest_texts i (Move x home ∷ gs) = silent i (Move x home) gs _ (move_texts x home (expand_all gs)) (rest_texts (i + 1) gs)
  rest_texts i (Test rel x y ∷ gs) = silent i (Test rel x y) gs _ (test_texts rel x y [] (expand_all gs) refl) (rest_texts (i + 1) gs)
  rest_texts i (TestGo rel x y to ∷ gs) = silent i (TestGo rel x y to) gs _ (test_texts rel x y (JumpTo to ∷ []) (expand_all gs) refl) (rest_texts (i + 1) gs)
  rest_texts i (Divides how x d side to ∷ gs) = silent i (Divides how x d side to) gs _ (divides_texts how x d side to (expand_all gs)) (rest_texts (i + 1) gs)
  rest_texts i (Remains x d to ∷ gs) = silent i (Remains x d to) gs _ (remains_texts x d to (expand_all gs)) (rest_texts (i + 1) gs)
  rest_texts i (Stepped op x y by w v ∷ gs) = silent i (Stepped op x y by w v) gs _ (stepped_texts op x y by w v (expand_all gs)) (rest_texts (i + 1) gs)
  rest_texts i (Single (SendText t) ∷ gs) = λ a fs h. sent_texts i t (only_byte t) (only_is t) gs a fs h (rest_texts (i + 1) gs)
  rest_texts i (Single (Put k w) ∷ gs) = silent i (Single (Put k w)) gs _ refl (rest_texts (i + 1) gs)
  rest_texts i (Single (Load k x) ∷ gs) = silent i (Single (Load k x)) gs _ refl (rest_texts (i + 1) gs)
  rest_texts i (Single (Store x) ∷ gs) = silent i (Single (Store x)) gs _ refl (rest_texts (i + 1) gs)
  rest_texts i (Single (Negate k) ∷ gs) = silent i (Single (Negate k)) gs _ refl (rest_texts (i + 1) gs)
  rest_texts i (Single (Compute op k) ∷ gs) = silent i (Single (Compute op k)) gs _ refl (rest_texts (i + 1) gs)
  rest_texts i (Single (Random k) ∷ gs) = silent i (Single (Random k)) gs _ refl (rest_texts (i + 1) gs)
  rest_texts i (Single SendNumber ∷ gs) = silent i (Single SendNumber) gs _ refl (rest_texts (i + 1) gs)
  rest_texts i (Single SendZone ∷ gs) = silent i (Single SendZone) gs _ refl (rest_texts (i + 1) gs)
  rest_texts i (Single SendNewline ∷ gs) = silent i (Single SendNewline) gs _ refl (rest_texts (i + 1) gs)
  rest_texts i (Single (Input x) ∷ gs) = silent i (Single (Input x)) gs _ refl (rest_texts (i + 1) gs)
  rest_texts i (Single Poll ∷ gs) = silent i (Single Poll) gs _ refl (rest_texts (i + 1) gs)
  rest_texts i (Single Hold ∷ gs) = silent i (Single Hold) gs _ refl (rest_texts (i + 1) gs)
  rest_texts i (Single (LeaveUnless rel) ∷ gs) = silent i (Single (LeaveUnless rel)) gs _ refl (rest_texts (i + 1) gs)
  rest_texts i (Single Jump ∷ gs) = silent i (Single Jump) gs _ refl (rest_texts (i + 1) gs)
  rest_texts i (Single Call ∷ gs) = silent i (Single Call) gs _ refl (rest_texts (i + 1) gs)
  rest_texts i (Single (JumpTo to) ∷ gs) = silent i (Single (JumpTo to)) gs _ refl (rest_texts (i + 1) gs)
  rest_texts i (Single (CallTo to) ∷ gs) = silent i (Single (CallTo to)) gs _ refl (rest_texts (i + 1) gs)
  rest_texts i (Single Return ∷ gs) = silent i (Single Return) gs _ refl (rest_texts (i + 1) gs)
  rest_texts i (Single End ∷ gs) = silent i (Single End) gs _ refl (rest_texts (i + 1) gs)

  -- what is done for the STOP key behind the groups of a line has no text
  ended_texts : (away : Bool) (gs : List Group) (texts : List (List ℕ)) → RestHolds 1 gs texts → (a : ℕ) (fs : List Form) → AreFormsOf (rest_code ns seed n 1 gs ++ behind away n) fs
      → Holds labels a (items_from a fs) texts
  ended_texts away gs texts rest a fs h =
      let s = split (rest_code ns seed n 1 gs) (behind away n) fs h in
      subst (λ es. Holds labels a es texts) (sym (joined_items a fs s.front s.back s.are))
      (quiet_behind labels a (items_from a s.front) (items_from (a + forms_size s.front) s.back) texts (rest a s.front s.of_front))

  -- the texts of a line's statement are in the line's code
  line_texts : (a : ℕ) (c : Statement) (fs : List Form) → AreFormsOf (line_code ns seed (record { number = n; content = lowered.list_code c })) fs
      → Holds labels a (items_from a fs) (statement_texts c)
  line_texts a c fs h =
      let gs = select (lowered.statement_code c) in let away = some_leaves gs in let texts = instr_texts (expand_all gs) in
      subst (Holds labels a (items_from a fs)) (ap instr_texts (brackets (lowered.statement_code c)) ∙ same_texts c)
      (quiet_forms labels a (here (target.Line n) ∷ polled away n) (rest_code ns seed n 1 gs ++ behind away n) fs texts h
      (ended_texts away gs texts (rest_texts 1 gs)))

-- ---- lines
module _ (labels : List (Name × ℕ)) (ns : List ℕ) (seed past : ℕ) where
  abbrev own_line : Numbered Statement → Numbered (List Instr)
  own_line line = record { number = line.number; content = lowered.list_code line.content }

  -- a line begins at the address of its label
  begins : (a : ℕ) (line : Numbered Statement) (fs : List Form) → AreFormsOf (line_code ns seed (own_line line)) fs
      → LabelsAt labels a (items_from a fs) → stands_at labels (label_of (target.Line line.number)) ≡ a
  begins a line fs h l = ap (λ o. unwrap_or o 0) (line_at labels ns seed a (own_line line) fs h l)

  -- where these lines begin, or what follows them
  ends_there : (a : ℕ) (p : Program) (fs : List Form) → AreFormsOf (lines_code ns seed (lowered.program_code p)) fs
      → LabelsAt labels a (items_from a fs) → past ≡ a + forms_size fs → end_before past (starts_in labels (numbers p)) ≡ a
  ends_there a [] [] h l e = e ∙ (let q : a + 0 ≡ a = omega arith in q)
  ends_there a [] (f ∷ fs) h l e = absurd h
  ends_there a (line ∷ lines) fs h l e =
      let own = own_line line in
      let s = split (line_code ns seed own) (lines_code ns seed (lowered.program_code lines)) fs h in
      begins a line s.front s.of_front (labels_behind labels a fs s.front s.back s.are l).0

  -- if the settled code of lines is in a file, so are their texts
  pub lines_texts : (a : ℕ) (p : Program) (fs : List Form) (front back : List ℕ)
      → AreFormsOf (lines_code ns seed (lowered.program_code p)) fs → LabelsAt labels a (items_from a fs) → past ≡ a + forms_size fs
      → PROLOGUE_AT ≤ a → length front ≡ offset_of a
      → LinesHoldTexts (front ++ (bytes_from labels a (items_from a fs) ++ back)) past (starts_in labels (numbers p)) p
  lines_texts a [] fs front back h l e low at = tt
  lines_texts a (line ∷ lines) fs front back h l e low at =
      let mine = own_line line in
      let more = lines_code ns seed (lowered.program_code lines) in
      let s = split (line_code ns seed mine) more fs h in
      let b = a + forms_size s.front in
      let own = items_from a s.front in let rest = items_from b s.back in
      let whole : items_from a fs ≡ own ++ rest = joined_items a fs s.front s.back s.are in
      let ls = labels_behind labels a fs s.front s.back s.are l in
      let long : size own ≡ forms_size s.front = items_size a s.front in
      let total : forms_size fs ≡ forms_size s.front + forms_size s.back = total_size a fs s.front s.back s.are in
      let there : a + size own ≡ b = omega (arith, long) in
      let past_is : past ≡ b + forms_size s.back = omega (arith, e, total) in
      let file = front ++ (bytes_from labels a (items_from a fs) ++ back) in
      let own_bytes = bytes_from labels a own in let rest_bytes = bytes_from labels b rest in
      let shown : file ≡ (front ++ own_bytes) ++ (rest_bytes ++ back) =
      ap (λ es. front ++ (bytes_from labels a es ++ back)) whole ∙ joined labels a own rest front back ∙ ap (λ c. (front ++ own_bytes) ++ (bytes_from labels c rest ++ back)) there in
      let starts_there : stands_at labels (label_of (target.Line line.number)) ≡ a = begins a line s.front s.of_front ls.0 in
      let ends : end_before past (starts_in labels (numbers lines)) ≡ b = ends_there b lines s.back s.of_back ls.1 past_is in
      let here_from : length front ≡ offset_of (stands_at labels (label_of (target.Line line.number))) = at ∙ ap offset_of (sym starts_there) in
      let here_to : length front + size own ≡ offset_of (end_before past (starts_in labels (numbers lines))) = (let q = ap offset_of ends in omega (arith, q, at, long, low)) in
      let first : TextsStand file (length front + size own) (length front) (statement_texts line.content) =
      subst (λ f. TextsStand f (length front + size own) (length front) (statement_texts line.content)) (sym (shown ∙ append_assoc front own_bytes (rest_bytes ++ back)))
      (line_texts labels ns seed line.number a line.content s.front s.of_front front (rest_bytes ++ back)) in
      let next : length (front ++ own_bytes) ≡ offset_of b = (let q = front_length labels a own front in omega (arith, q, at, long, low)) in (
        subst (λ to. TextsStand file to (offset_of (stands_at labels (label_of (target.Line line.number)))) (statement_texts line.content)) here_to
            (subst (λ from. TextsStand file (length front + size own) from (statement_texts line.content)) here_from first),
        subst (λ f. LinesHoldTexts f past (starts_in labels (numbers lines)) lines) (sym shown)
            (lines_texts b lines s.back (front ++ own_bytes) back s.of_back ls.1 past_is (omega (arith, low)) next),
      )
