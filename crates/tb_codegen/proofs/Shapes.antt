-- Items that differ in nothing but bytes of operands settle alike, and take as many bytes.
use Rattle.std.proofs.Common.{◌≡◌, ℕ, ◌+◌, Bool, true, false, ◌||◌, List, [], ◌∷◌, ◌++◌, Option, Some, None, refl, sym, ap, ◌∙◌, subst, map, if◌then◌else◌}
use Rattle.tb_opcodes.specs.declared.Mnemonic.{Mnemonic}
use Rattle.tb_opcodes.specs.declared.Mode.TheVariants.{Relative}
use Rattle.tb_asm.specs.declared.names.Name.{Name}
use Rattle.tb_asm.specs.declared.items.Operand.TheVariants.{Byte, Label}
use Rattle.tb_asm.specs.Layout.{Entry, instr, size_of, size, label_at, labels_from}
use Rattle.tb_asm.specs.Settle.{Form, kept, long, branch_to, far_to, form_size, form_far, items_from, long_of, lengthened, some_far, some_far_in, widen, round, round_labels, Settles, done, more}
use Rattle.tb_assembly_settling.proofs.Rounds.{rounds_end, one_way}

-- an item with 0 in place of its operand's byte
abbrev pub shape : Entry → Entry
shape (instr n m (Byte b)) = instr n m (Byte 0)
shape e = e

-- a form with 0 in place of the byte of the operand, if it keeps an item
abbrev form_shape : Form → Form
form_shape (kept e) = kept (shape e)
form_shape (long n l) = long n l

-- ── an item and its shape ──
same_branch : (e : Entry) → branch_to (shape e) ≡ branch_to e
same_branch (instr n Relative (Byte b)) = refl
same_branch (instr n m (Byte b)) = refl
same_branch e = refl

same_size : (e : Entry) → size_of (shape e) ≡ size_of e
same_size (instr n m (Byte b)) = refl
same_size e = refl

same_label : (a : ℕ) (e : Entry) → label_at a (shape e) ≡ label_at a e
same_label a (instr n m (Byte b)) = refl
same_label a e = refl

-- ── forms and their shapes ──
same_form_size : (f : Form) → form_size (form_shape f) ≡ form_size f
same_form_size (kept e) = same_size e
same_form_size (long n l) = refl

-- the labels of forms stand at the addresses where those of their shapes do
labels_shape : (b a : ℕ) (fs : List Form) → labels_from b (items_from a (map form_shape fs)) ≡ labels_from b (items_from a fs)
labels_shape b a [] = refl
labels_shape b a (kept e ∷ fs) =
    ap (λ n. label_at b (shape e) ++ labels_from (b + n) (items_from (a + n) (map form_shape fs))) (same_size e)
    ∙ (λ i. same_label b e i ++ labels_shape (b + size_of e) (a + size_of e) fs i)
labels_shape b a (long n l ∷ fs) = labels_shape (b + 2 + 3) (a + 5) fs

-- they take as many bytes
sizes_shape : (a : ℕ) (fs : List Form) → size (items_from a (map form_shape fs)) ≡ size (items_from a fs)
sizes_shape a [] = refl
sizes_shape a (kept e ∷ fs) =
    ap (λ n. n + size (items_from (a + n) (map form_shape fs))) (same_size e) ∙ ap (λ n. size_of e + n) (sizes_shape (a + size_of e) fs)
sizes_shape a (long n l ∷ fs) = ap (λ n. 2 + (3 + n)) (sizes_shape (a + 5) fs)

module _ (labels : List (Name × ℕ)) where
  -- the branch of a form is too far if and only if that of its shape is
  far_shape : (a : ℕ) (f : Form) → form_far labels a (form_shape f) ≡ form_far labels a f
  far_shape a (kept e) = ap (far_to labels a) (same_branch e)
  far_shape a (long n l) = refl

  some_shape : (a : ℕ) (fs : List Form) → some_far_in labels a (map form_shape fs) ≡ some_far_in labels a fs
  some_shape a [] = refl
  some_shape a (f ∷ fs) =
      ap (λ n. form_far labels a (form_shape f) || some_far_in labels (a + n) (map form_shape fs)) (same_form_size f)
      ∙ (λ i. far_shape a f i || some_shape (a + form_size f) fs i)

  long_shape : (e : Entry) → long_of (branch_to (shape e)) (shape e) ≡ form_shape (long_of (branch_to e) e)
  long_shape e = ap (λ o. long_of o (shape e)) (same_branch e) ∙ by (branch_to e)
    where
      by : (o : Option (Mnemonic × Name)) → long_of o (shape e) ≡ form_shape (long_of o e)
      by None = refl
      by (Some b) = refl

  lengthened_shape : (f : Form) → lengthened (form_shape f) ≡ form_shape (lengthened f)
  lengthened_shape (kept e) = long_shape e
  lengthened_shape (long n l) = refl

  wide_shape : (far : Bool) (f : Form) → (if far then lengthened (form_shape f) else form_shape f) ≡ form_shape (if far then lengthened f else f)
  wide_shape true f = lengthened_shape f
  wide_shape false f = refl

  widen_shape : (a : ℕ) (fs : List Form) → widen labels a (map form_shape fs) ≡ map form_shape (widen labels a fs)
  widen_shape a [] = refl
  widen_shape a (f ∷ fs) =
      ap (λ n. (if form_far labels a (form_shape f) then lengthened (form_shape f) else form_shape f) ∷ widen labels (a + n) (map form_shape fs)) (same_form_size f)
      ∙ ap (λ far. (if far then lengthened (form_shape f) else form_shape f) ∷ widen labels (a + form_size f) (map form_shape fs)) (far_shape a f)
      ∙ (λ i. wide_shape (form_far labels a f) f i ∷ widen_shape (a + form_size f) fs i)

-- ── rounds ──
round_shape : (at : ℕ) (fs : List Form) → round at (map form_shape fs) ≡ map form_shape (round at fs)
round_shape at fs = ap (λ labels. widen labels at (map form_shape fs)) (labels_shape at at fs) ∙ widen_shape (round_labels at fs) at fs

any_shape : (at : ℕ) (fs : List Form) → some_far at (map form_shape fs) ≡ some_far at fs
any_shape at fs = ap (λ labels. some_far_in labels at (map form_shape fs)) (labels_shape at at fs) ∙ some_shape (round_labels at fs) at fs

settles_shape : (at : ℕ) (fs gs : List Form) → Settles at fs gs → Settles at (map form_shape fs) (map form_shape gs)
settles_shape at fs gs (done _ near) = done (map form_shape fs) (any_shape at fs ∙ near)
settles_shape at fs gs (more _ _ far rest) =
    more (map form_shape fs) (map form_shape gs) (any_shape at fs ∙ far)
    (subst (λ hs. Settles at hs (map form_shape gs)) (sym (round_shape at fs)) (settles_shape at (round at fs) gs rest))

kept_shape : (es : List Entry) → map form_shape (map kept es) ≡ map kept (map shape es)
kept_shape [] = refl
kept_shape (e ∷ es) = ap (λ fs. kept (shape e) ∷ fs) (kept_shape es)

-- settled forms that take a number of bytes
pub record SettlesIn (at : ℕ) (es : List Entry) (bytes : ℕ) : Type 0 where
  pub forms : List Form
  pub rounds : Settles at (map kept es) forms
  pub takes : size (items_from at forms) ≡ bytes

-- items of the same shapes settle, in as many bytes
pub settles_alike : (at : ℕ) (es others : List Entry) (gs : List Form) → map shape es ≡ map shape others → Settles at (map kept es) gs
    → SettlesIn at others (size (items_from at gs))
settles_alike at es others gs alike settled =
    let ends = rounds_end at others in
    let one = settles_shape at (map kept es) gs settled in
    let two = settles_shape at (map kept others) ends.0 ends.1 in
    let start : map form_shape (map kept others) ≡ map form_shape (map kept es) = kept_shape others ∙ ap (map kept) (sym alike) ∙ sym (kept_shape es) in
    let same = one_way at (map form_shape (map kept es)) (map form_shape ends.0) (map form_shape gs)
    (subst (λ fs. Settles at fs (map form_shape ends.0)) start two) one in
    record {
      forms = ends.0;
      rounds = ends.1;
      takes = sym (sizes_shape at ends.0) ∙ ap (λ fs. size (items_from at fs)) same ∙ sizes_shape at gs;
    }
