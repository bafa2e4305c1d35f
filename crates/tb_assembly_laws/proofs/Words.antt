-- Words: names, registers, mnemonics and directives mean the same to both.
use Rattle.std.proofs.Common.{◌≡◌, ℕ, Bool, true, false, ◌&&◌, ◌||◌, List, [], ◌∷◌, ◌++◌, map, Option, Some, None, refl, sym, ap, ◌∙◌, eqb, if◌then◌else◌, arith, true≢false}
use Rattle.std.specs.Prelude.{codes, is_some}
use Rattle.std.proofs.lemmas.Bool.Decides.{nat_tests}
use lib.Pointwise.{bytes_decides}
use Rattle.tb_opcodes.specs.declared.Mnemonic.{Mnemonic}
use Rattle.tb_asm.specs.Names.{fold_byte, is_letter, is_name, begins_name}
use Rattle.tb_asm.specs.Mnemonics.{same_text, mnemonic_of}
use Rattle.tb_assembly_text.specs.Names.{begins_local, is_local, full_name}
use Rattle.tb_assembly_text.specs.Words.{directive_of, mnemonic_named, is_item}
use Rattle.tb_assembly_text.specs.declared.faults.FaultKind.TheVariants.{Reserved, UnknownDirective}
use Rattle.tb_assembly_text.specs.Lines.{is_marked, label_fault}
use Rattle.tb_assembly_text.specs.declared.words.Directive.{Directive}
use Rattle.tb_assembly_text.specs.declared.words.Directive.TheVariants.{Byte, Word, Text, Fill, Align, Origin, Include}

-- nothing is no something, and something is what it is
pub none_some : {A : Type 0} {x : A} → None ≡ Some x → ⊥
none_some h = cc

pub some_is : {A : Type 0} {x y : A} → Some x ≡ Some y → y ≡ x
some_is h = cc

-- texts with the same bytes are the same
pub text_is : (a b : List ℕ) → same_text a b ≡ true → a ≡ b
text_is a b = (bytes_decides a b).0

-- ── names ──
first_of_three : (a b c : Bool) → (a && b && c) ≡ true → (a ≡ true) × (c ≡ true)
first_of_three true true true h = (refl, refl)
first_of_three true true false h = absurd (true≢false (sym h))
first_of_three true false c h = absurd (true≢false (sym h))
first_of_three false b c h = absurd (true≢false (sym h))

first_of_two : (a b : Bool) → (a && b) ≡ true → a ≡ true
first_of_two true b h = refl
first_of_two false b h = h

no_local : (b : ℕ) → is_letter (fold_byte b) ≡ true → begins_local b ≡ false
no_local b h = grind (arith, nat_tests)

no_mark : (b : ℕ) → is_letter (fold_byte b) ≡ true → eqb b 33 ≡ false
no_mark b h = grind (arith, nat_tests)

-- what holds of the letters of a name: it belongs to no label, and no directive begins so
pub record IsPlain (w : List ℕ) : Type 0 where
  pub local : is_local w ≡ false
  pub marked : is_marked w ≡ false

plain_by : (w : List ℕ) → begins_name (map fold_byte w) ≡ true → IsPlain w
plain_by [] h = absurd (true≢false (sym h))
plain_by (b ∷ bs) h =
    let letter = first_of_two (is_letter (fold_byte b)) _ h in
    record { local = no_local b letter; marked = no_mark b letter }

pub name_plain : (w : List ℕ) → is_name (map fold_byte w) ≡ true → IsPlain w
name_plain w h = plain_by w (first_of_three (begins_name (map fold_byte w)) _ _ h).0

pub name_full : (scope w : List ℕ) → is_name (map fold_byte w) ≡ true → full_name scope w ≡ map fold_byte w
name_full scope w h = ap (λ x. if x then scope ++ 58 ∷ map fold_byte w else map fold_byte w) (name_plain w h).local

-- the single letter A is no name
single_a : (w : List ℕ) → is_name w ≡ true → same_text w (65 ∷ []) ≡ false
single_a w h = by (same_text w (65 ∷ [])) refl
  where
    by : (t : Bool) → same_text w (65 ∷ []) ≡ t → same_text w (65 ∷ []) ≡ false
    by false e = e
    by true e = absurd (true≢false (sym h ∙ ap is_name (text_is w (65 ∷ []) e)))

-- a name is a label for both
pub name_label : (w : List ℕ) → is_name (map fold_byte w) ≡ true → label_fault w ≡ None
name_label w h = λ i. if single_a (map fold_byte w) h i then Some Reserved else if (name_plain w h).marked i then Some UnknownDirective else None

-- ── mnemonics and directives ──
-- the directive of a word in upper case
abbrev pub directive_in : List ℕ → Option Directive
directive_in w =
    if same_text w (codes ".BYTE") || same_text w (codes ".BYT") || same_text w (codes "!BYTE") then Some Byte else
    if same_text w (codes ".WORD") || same_text w (codes "!WORD") then Some Word else
    if same_text w (codes ".TEXT") || same_text w (codes "!TEXT") || same_text w (codes "!PET") then Some Text else
    if same_text w (codes ".FILL") || same_text w (codes ".RES") || same_text w (codes "!FILL") then Some Fill else
    if same_text w (codes ".ALIGN") then Some Align else
    if same_text w (codes ".ORG") then Some Origin else
    if same_text w (codes ".INCLUDE") then Some Include else None

-- a directive by its word in upper case: it is no mnemonic
pub directive_by : (w v : List ℕ) (d : Directive) → map fold_byte w ≡ v → directive_in v ≡ Some d → directive_of w ≡ Some d
directive_by w v d e h = ap directive_in e ∙ h

pub no_mnemonic : (w v : List ℕ) → map fold_byte w ≡ v → mnemonic_of v ≡ None → mnemonic_named w ≡ None
no_mnemonic w v e h = ap mnemonic_of e ∙ h

pub item_by_directive : (w : List ℕ) (d : Directive) → mnemonic_named w ≡ None → directive_of w ≡ Some d → is_item w ≡ true
item_by_directive w d n e = λ i. is_some (n i) || is_some (e i)

pub item_by_mnemonic : (w : List ℕ) (m : Mnemonic) → mnemonic_named w ≡ Some m → is_item w ≡ true
item_by_mnemonic w m e = ap (λ x. is_some x || is_some (directive_of w)) e
