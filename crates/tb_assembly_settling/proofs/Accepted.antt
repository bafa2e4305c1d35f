-- Items that suit are refused neither by settling nor by the two passes after it.
use Rattle.std.proofs.Common.{◌≡◌, ℕ, ◌+◌, ◌/◌, ◌%◌, ◌<◌, Bool, true, false, not, ◌&&◌, ◌||◌, cond, List, []}
use Rattle.std.proofs.Common.{◌∷◌, ◌++◌, Option, Some, None, refl, sym, ap, ◌∙◌, subst, arith, true≢false, is_some, map, if◌then◌else◌}
use Rattle.std.specs.Prelude.{eqb}
use Rattle.std.specs.List.{list_all, list_any}
use Rattle.std.specs.Option.{option_map}
use Rattle.std.proofs.lemmas.Bool.Decides.{nat_tests}
use Rattle.std.proofs.lemmas.Bool.{and_parts, or_parts}
use Rattle.tb_opcodes.specs.Opcodes.{encoded, length_of}
use Rattle.tb_opcodes.specs.declared.Mnemonic.{Mnemonic}
use Rattle.tb_opcodes.specs.declared.Mnemonic.TheVariants.{Bcc, Bcs, Beq, Bmi, Bne, Bpl, Bvc, Bvs}
use Rattle.tb_opcodes.specs.declared.Mode.TheVariants.{Implied, Accumulator, Immediate, ZeroPage, ZeroPageX, ZeroPageY, IndirectX, IndirectY, Relative, Absolute, AbsoluteX, AbsoluteY, Indirect}
use Rattle.tb_asm.specs.declared.names.Name.{Name}
use Rattle.tb_asm.specs.declared.items.Operand.{Operand}
use Rattle.tb_asm.specs.declared.items.Operand.TheVariants.{Nothing, Byte, Word, Label, LowOf, HighOf}
use Rattle.tb_asm.specs.declared.errors.AsmErrorKind.{AsmErrorKind}
use Rattle.tb_asm.specs.declared.errors.AsmErrorKind.TheVariants.{NoSuchMode, UnknownLabel, LabelTwice, BranchOutOfRange, RunsPast, IndirectAtPageEnd, NoMemory}
use Rattle.tb_asm.specs.Layout.{Entry, instr, label, bytes, word, size_of, size, has_mode, same_name, labels_from, address_in, value_in, distance, is_near}
use Rattle.tb_asm.specs.Layout.{with_value, reach_fault, code_fault, first_fault, place_refusal, image_of}
use Rattle.tb_asm.specs.Assembled.{refusal, either, RefusesAt}
use Rattle.tb_asm.specs.Settle.{Form, Settles, kept, long, inverse, items_at, items_from, form_size, is_beyond, is_far}
use Rattle.tb_asm.specs.Settle.{form_past, past_from, unknown_fault, early_refusal, SettlesTo, some_branch_far, AllReach}
use Rattle.tb_asm.specs.Marks.{SettleErr}
use Rattle.tb_asm.specs.Suited.{names_of, AreDistinct, AllReachFrom, Suited}
use Rattle.tb_asm.proofs.Faults.{first_none}
use Rattle.tb_asm.proofs.Settled.{settled_as_they_are, settled_reaches, only_memory}
use Rattle.tb_asm.proofs.Suits.{placed_suits, ends_below, suited_accepted}
use Rattle.tb_assembly_settling.specs.Settled.{IsFormOf, AreFormsOf, IsLaid, may_move, AllKnown, MayRefuse, unsettled, settled, Suits}
use Rattle.tb_assembly_settling.proofs.Forms.{is_branch, kept_forms, settled_forms, settled_by, forms_size, items_size, items_names}
use Rattle.tb_assembly_settling.proofs.Rounds.{rounds_end, forms_least}

inverse_mode : (n : Mnemonic) → is_some (encoded n Relative) ≡ true → is_some (encoded (inverse n) Relative) ≡ true
unfolding encoded
inverse_mode Bpl h = refl
inverse_mode Bmi h = refl
inverse_mode Bvc h = refl
inverse_mode Bvs h = refl
inverse_mode Bcc h = refl
inverse_mode Bcs h = refl
inverse_mode Bne h = refl
inverse_mode Beq h = refl
inverse_mode n h = h

-- ---- modes
form_modes : (a : ℕ) (e : Entry) (f : Form) → IsFormOf e f → has_mode e ≡ true → list_all has_mode (items_at a f) ≡ true
unfolding encoded
form_modes a e (kept k) h m = ap (λ b. b && true) (ap has_mode h ∙ m)
form_modes a e (long n l) h m =
    let there = (and_parts (is_some (encoded n Relative)) true (ap has_mode (sym (is_branch e n l h)) ∙ m)).0 in
    ap (λ b. (b && true) && true) (inverse_mode n there)

all_append : (xs ys : List Entry) → list_all has_mode xs ≡ true → list_all has_mode ys ≡ true → list_all has_mode (xs ++ ys) ≡ true
all_append [] ys h k = k
all_append (x ∷ xs) ys h k =
    let t = and_parts (has_mode x) (list_all has_mode xs) h in
    λ i. t.0 i && all_append xs ys t.1 k i

items_modes : (a : ℕ) (es : List Entry) (fs : List Form) → AreFormsOf es fs → list_all has_mode es ≡ true → list_all has_mode (items_from a fs) ≡ true
items_modes a [] [] h m = refl
items_modes a [] (f ∷ fs) h m = absurd h
items_modes a (e ∷ es) [] h m = absurd h
items_modes a (e ∷ es) (f ∷ fs) h m =
    let t = and_parts (has_mode e) (list_all has_mode es) m in
    all_append (items_at a f) (items_from (a + form_size f) fs) (form_modes a e f h.0 t.0) (items_modes (a + form_size f) es fs h.1 t.1)

-- ---- labels
-- whether a name has an address depends only on the names
has_address : (a : ℕ) (es : List Entry) (n : Name) → is_some (address_in (labels_from a es) n) ≡ list_any (same_name n) (names_of es)
has_address a [] n = refl
has_address a (instr m d o ∷ es) n = has_address (a + length_of d) es n
has_address a (label l ∷ es) n = by (same_name n l) (has_address (a + 0) es n)
  where
    by : (s : Bool) → is_some (address_in (labels_from (a + 0) es) n) ≡ list_any (same_name n) (names_of es)
        → is_some (cond s (Some a) (address_in (labels_from (a + 0) es) n)) ≡ (s || list_any (same_name n) (names_of es))
    by true h = refl
    by false h = h
has_address a (bytes bs ∷ es) n = has_address (a + size_of (bytes bs)) es n
has_address a (word o ∷ es) n = has_address (a + 2) es n

module _ (labels others : List (Name × ℕ)) (same : (n : Name) → is_some (address_in labels n) ≡ is_some (address_in others n)) where
  has_part : (o : Option ℕ) (f : ℕ → ℕ) → is_some (option_map f o) ≡ is_some o
  has_part None f = refl
  has_part (Some v) f = refl

  has_value : (o : Operand) → is_some (value_in labels o) ≡ is_some (value_in others o)
  has_value Nothing = refl
  has_value (Byte b) = refl
  has_value (Word w) = refl
  has_value (Label n) = same n
  has_value (LowOf n) = has_part (address_in labels n) (λ a. a % 256) ∙ same n ∙ sym (has_part (address_in others n) (λ a. a % 256))
  has_value (HighOf n) = has_part (address_in labels n) (λ a. a / 256) ∙ same n ∙ sym (has_part (address_in others n) (λ a. a / 256))

  same_fault : (e : Entry) → unknown_fault labels e ≡ unknown_fault others e
  same_fault (instr n m o) = ap (λ b. if b then None else Some UnknownLabel) (has_value o)
  same_fault (label n) = refl
  same_fault (bytes bs) = refl
  same_fault (word o) = ap (λ b. if b then None else Some UnknownLabel) (has_value o)

  same_known : (es : List Entry) → AllKnown others es → AllKnown labels es
  same_known [] h = tt
  same_known (e ∷ es) h = (same_fault e ∙ h.0, same_known es h.1)

known_first : (labels : List (Name × ℕ)) (before es : List Entry) → AllKnown labels es → first_fault (λ front e. unknown_fault labels e) before es ≡ None
known_first labels before [] h = refl
known_first labels before (e ∷ es) h =
    first_none (λ front x. unknown_fault labels x) before es e h.0 ∙ known_first labels (before ++ e ∷ []) es h.1

-- ---- addresses
form_below : (a : ℕ) (f : Form) → a + form_size f < 65536 → form_past a f ≡ false
form_below a (kept e) h = ends_below a e h
form_below a (long n l) h = grind (arith, nat_tests)

none_past : (i a : ℕ) (fs : List Form) → a + forms_size fs < 65536 → past_from i a fs ≡ None
none_past i a [] h = refl
none_past i a (f ∷ fs) h =
    ap (λ b. if b then Some i else past_from (i + 1) (a + form_size f) fs) (form_below a f (omega (arith, h)))
    ∙ none_past (i + 1) (a + form_size f) fs (omega (arith, h))

-- ---- reach
near_there : (labels : List (Name × ℕ)) (a : ℕ) (o : Option ℕ) → (if is_some o then None else Some UnknownLabel) ≡ None → is_beyond a o ≡ false
    → with_value o (reach_fault Relative a) ≡ None
near_there labels a None k h = cc
near_there labels a (Some v) k h = by (is_near (distance a v)) h
  where
    by : (b : Bool) → not b ≡ false → (if b then None else Some BranchOutOfRange) ≡ None
    by true q = refl
    by false q = absurd (true≢false q)

inside_there : (w a : ℕ) (b : Bool) → not b ≡ true → (if b then Some IndirectAtPageEnd else None) ≡ None
inside_there w a true q = absurd (true≢false (sym q))
inside_there w a false q = refl

known_there : (o : Option ℕ) → (if is_some o then None else Some UnknownLabel) ≡ None → with_value o (λ v. None) ≡ None
known_there None k = cc
known_there (Some v) k = refl

item_reaches : (labels : List (Name × ℕ)) (a : ℕ) (e : Entry) → unknown_fault labels e ≡ None → may_move e ≡ true → is_far labels a e ≡ false → code_fault labels a e ≡ None
item_reaches labels a (instr n Relative (Label l)) k m h = near_there labels a (address_in labels l) k h
item_reaches labels a (instr n Relative Nothing) k m h = absurd (true≢false (sym m))
item_reaches labels a (instr n Relative (Byte b)) k m h = absurd (true≢false (sym m))
item_reaches labels a (instr n Relative (Word w)) k m h = absurd (true≢false (sym m))
item_reaches labels a (instr n Relative (LowOf l)) k m h = absurd (true≢false (sym m))
item_reaches labels a (instr n Relative (HighOf l)) k m h = absurd (true≢false (sym m))
item_reaches labels a (instr n Indirect (Word w)) k m h = inside_there w a (eqb (w % 256) 255) m
item_reaches labels a (instr n Indirect Nothing) k m h = absurd (true≢false (sym m))
item_reaches labels a (instr n Indirect (Byte b)) k m h = absurd (true≢false (sym m))
item_reaches labels a (instr n Indirect (Label l)) k m h = absurd (true≢false (sym m))
item_reaches labels a (instr n Indirect (LowOf l)) k m h = absurd (true≢false (sym m))
item_reaches labels a (instr n Indirect (HighOf l)) k m h = absurd (true≢false (sym m))
item_reaches labels a (instr n Implied o) k m h = known_there (value_in labels o) k
item_reaches labels a (instr n Accumulator o) k m h = known_there (value_in labels o) k
item_reaches labels a (instr n Immediate o) k m h = known_there (value_in labels o) k
item_reaches labels a (instr n ZeroPage o) k m h = known_there (value_in labels o) k
item_reaches labels a (instr n ZeroPageX o) k m h = known_there (value_in labels o) k
item_reaches labels a (instr n ZeroPageY o) k m h = known_there (value_in labels o) k
item_reaches labels a (instr n IndirectX o) k m h = known_there (value_in labels o) k
item_reaches labels a (instr n IndirectY o) k m h = known_there (value_in labels o) k
item_reaches labels a (instr n Absolute o) k m h = known_there (value_in labels o) k
item_reaches labels a (instr n AbsoluteX o) k m h = known_there (value_in labels o) k
item_reaches labels a (instr n AbsoluteY o) k m h = known_there (value_in labels o) k
item_reaches labels a (label n) k m h = refl
item_reaches labels a (bytes bs) k m h = refl
item_reaches labels a (word o) k m h = known_there (value_in labels o) k

-- the inverse branch reaches the address after the jump
over_reaches : (a v : ℕ) → a + 5 < 65536 → v ≡ (a + 5) % 65536 → reach_fault Relative a v ≡ None
over_reaches a v h e =
    let three : distance a v ≡ 3 = omega (arith, h, e) in
    ap (λ d. if is_near d then None else Some BranchOutOfRange) three

items_reach : (labels : List (Name × ℕ)) (a : ℕ) (es : List Entry) (fs : List Form) → AreFormsOf es fs → AllKnown labels es → list_all may_move es ≡ true
    → a + forms_size fs < 65536 → some_branch_far labels a (items_from a fs) ≡ false → AllReachFrom labels a (items_from a fs)
items_reach labels a [] [] h k m l r = tt
items_reach labels a [] (f ∷ fs) h k m l r = absurd h
items_reach labels a (e ∷ es) [] h k m l r = absurd h
items_reach labels a (e ∷ es) (kept x ∷ fs) h k m l r =
    let t = and_parts (may_move e) (list_all may_move es) m in
    let near = or_parts (is_far labels a x) (some_branch_far labels (a + size_of x) (items_from (a + size_of x) fs)) r in (
      item_reaches labels a x (ap (unknown_fault labels) h.0 ∙ k.0) (ap may_move h.0 ∙ t.0) near.0,
      items_reach labels (a + size_of x) es fs h.1 k.1 t.1 (omega (arith, l)) near.1,
    )
items_reach labels a (e ∷ es) (long n b ∷ fs) h k m l r =
    let t = and_parts (may_move e) (list_all may_move es) m in
    let rest : a + 2 + 3 ≡ a + 5 = omega arith in
    let known : unknown_fault labels (instr n Relative (Label b)) ≡ None = ap (unknown_fault labels) (sym (is_branch e n b h.0)) ∙ k.0 in (
      over_reaches a ((a + 5) % 65536) (omega (arith, l)) refl,
      (
        known_there (address_in labels b) known,
        subst (λ p. AllReachFrom labels p (items_from (a + 5) fs)) (sym rest)
            (items_reach labels (a + 5) es fs h.1 k.1 t.1 (omega (arith, l)) (ap (λ p. some_branch_far labels p (items_from (a + 5) fs)) (sym rest) ∙ r)),
      ),
    )

-- no refusal is a refusal for want of memory alone
none_but_memory : (k : AsmErrorKind) (i : ℕ) → RefusesAt None k i → k ≡ NoMemory
none_but_memory NoMemory i q = refl
none_but_memory NoSuchMode i q = cc
none_but_memory UnknownLabel i q = cc
none_but_memory LabelTwice i q = cc
none_but_memory BranchOutOfRange i q = cc
none_but_memory RunsPast i q = cc
none_but_memory IndirectAtPageEnd i q = cc

-- ---- items that suit, and end below 65,536 once they are settled
module _ (at : ℕ) (es : List Entry) (s : Suits at es) (ends : (gs : List Form) → Settles at (map kept es) gs → at + forms_size gs < 65536) where
  fits : at + size [] + size es < 65536
  fits =
      let r = rounds_end at es in
      let a = forms_least es r.0 (settled_forms at es (map kept es) r.0 r.1 (kept_forms es)) in let b = ends r.0 r.1 in omega (arith, a, b)

  placed : place_refusal at es ≡ None
  placed = placed_suits at [] es s.modes s.names fits

  nothing_early : early_refusal at es ≡ None
  nothing_early = λ i. either (placed i) (known_first (labels_from at es) [] es s.known i)

  -- settling refuses such items only if memory runs out
  settling_short : (k : AsmErrorKind) (i : ℕ) → SettleErr at es k i → k ≡ NoMemory
  settling_short = only_memory at es nothing_early (λ gs r. none_past 0 at gs (ends gs r))

  -- settled items suit as they are
  module _ (items : List Entry) (to : SettlesTo at es items) where
    of : AreFormsOf es to.forms
    of = settled_forms at es (map kept es) to.forms to.settled (kept_forms es)

    same_names : names_of items ≡ names_of es
    same_names = ap names_of to.are ∙ items_names at es to.forms of

    same_labels : (n : Name) → is_some (address_in (labels_from at items) n) ≡ is_some (address_in (labels_from at es) n)
    same_labels n = has_address at items n ∙ ap (list_any (same_name n)) same_names ∙ sym (has_address at es n)

    suit : Suited at items
    suit =
        let labels = labels_from at items in
        let near : some_branch_far labels at (items_from at to.forms) ≡ false = ap (some_branch_far labels at) (sym to.are) ∙ settled_reaches at es items to in
        record {
          modes = ap (list_all has_mode) to.are ∙ items_modes at es to.forms of s.modes;
          names = subst AreDistinct (sym same_names) s.names;
          ends = let a = ends to.forms to.settled in let b = ap size to.are ∙ items_size at to.forms in omega (arith, a, b);
          reach = subst (AllReachFrom labels at) (sym to.are)
              (items_reach labels at es to.forms of (same_known labels (labels_from at es) same_labels es s.known) s.movable (ends to.forms to.settled) near);
        }

    -- the two passes refuse none of the settled items
    passes_take : refusal at items ≡ None
    passes_take = suited_accepted at items suit

  -- such items are refused only if memory runs out
  pub memory_short : (k : AsmErrorKind) (i : ℕ) → MayRefuse at es k i → k ≡ NoMemory
  memory_short _ _ (unsettled k i h) = settling_short k i h
  memory_short _ _ (settled items k i to h) = none_but_memory k i (subst (λ r. RefusesAt r k i) (passes_take items to) h)

-- ---- the image
-- items that settle and then assemble are laid
pub laid_by : (at : ℕ) (es items : List Entry) (from : ℕ) (image : List ℕ) (labels : List (Name × ℕ)) → SettlesTo at es items → AllReach at items
    → (refusal at items ≡ None) × (from ≡ at) × (image ≡ image_of at items) × (labels ≡ labels_from at items) → IsLaid at es from image labels
laid_by at es items from image labels rounds reach h = record {
  items = items;
  settled = settled_by at es items rounds reach;
  rounds = rounds;
  accepted = h.0;
  from_is = h.1;
  bytes_are = h.2;
  labels_are = h.3;
}

-- items that assemble as they are, are laid as they are
pub laid_at_once : (at : ℕ) (es : List Entry) (from : ℕ) (image : List ℕ) (labels : List (Name × ℕ))
    → (refusal at es ≡ None) × (from ≡ at) × (image ≡ image_of at es) × (labels ≡ labels_from at es) → IsLaid at es from image labels
laid_at_once at es from image labels h =
    let rounds = settled_as_they_are at es h.0 in
    laid_by at es es from image labels rounds (settled_reaches at es es rounds) h
