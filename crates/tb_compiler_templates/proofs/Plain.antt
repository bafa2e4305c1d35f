-- Instructions that name no label, as the code for constants is: what is asked of items holds of each of them.
use Rattle.std.proofs.Common.{◌≡◌, ℕ, zero, suc, ◌+◌, ◌/◌, ◌%◌, ◌≤◌, Bool, true, false, List, [], ◌∷◌, ◌++◌, refl, ap, is_some, None}
use Rattle.std.specs.Prelude.{◌&&◌, if◌then◌else◌, nat_eq, nat_lt}
use Rattle.std.specs.List.{list_all}
use Rattle.std.proofs.lemmas.Bool.{and_from}
use Rattle.tb_opcodes.specs.declared.Mnemonic.{Mnemonic}
use Rattle.tb_opcodes.specs.declared.Mnemonic.TheVariants.{Adc, And, Asl, Clc, Cmp, Eor, Lda, Rol, Ror, Sbc, Sta, Tax, Txa}
use Rattle.tb_opcodes.specs.declared.Mode.{Mode}
use Rattle.tb_opcodes.specs.declared.Mode.TheVariants.{Absolute, Accumulator, Immediate, Implied, ZeroPage}
use Rattle.tb_opcodes.specs.Opcodes.{rows, find_opcode}
use Rattle.tb_asm.specs.declared.names.Name.{Name}
use Rattle.tb_asm.specs.Layout.{Entry, instr, label, bytes, word, suits, is_address}
use Rattle.tb_asm.specs.Settle.{unknown_fault}
use Rattle.tb_assembly_settling.specs.Settled.{AllKnown, may_move}
use Rattle.tb_assembly_settling.proofs.Forms.{is_straight}
use Rattle.tb_compiled_kept.specs.Addresses.{LEFT}
use Rattle.tb_compiler_templates.specs.Templates.{alone, at, const}
use Rattle.tb_compiler_templates.specs.Sources.{Source, FixedWord, AtAddress, low_of, high_of}
use Rattle.tb_compiler_templates.specs.Scaled.{on_a, at_zero, all_but_lowest, rounded, raised, halved, halvings, high_first, cut, widened, lowered, shifted, doubled, increased, by_bit, by_bits, low_first, times}
use Rattle.tb_compiler_templates.specs.GroupTemplates.{unless_none, low_matched, high_matched}
use Rattle.tb_compiler_templates.specs.Orders.{lifted, lifted_both, lifted_high}
use Rattle.tb_compiler_templates.proofs.Rising.{Rising}

-- whether an item has a form that exists, and may be at any address
abbrev pub has_form : Entry → Bool
has_form (instr n m o) = is_some (find_opcode rows n m) && (suits m o && may_move (instr n m o))
has_form (label n) = true
has_form (bytes bs) = true
has_form (word o) = is_address o

-- ── plain items ──
pub record IsPlain (e : Entry) : Type 0 where
  pub form : has_form e ≡ true
  pub straight : is_straight e ≡ true
  pub known : (labels : List (Name × ℕ)) → unknown_fault labels e ≡ None
  pub rises : (low high : ℕ) (es : List Entry) → Rising low es high → Rising low (e ∷ es) high

abbrev pub ArePlain : List Entry → Type 0
ArePlain [] = Unit {0}
ArePlain (e ∷ es) = IsPlain e × ArePlain es

-- plain items before plain items are plain
pub plain_append : (xs ys : List Entry) → ArePlain xs → ArePlain ys → ArePlain (xs ++ ys)
plain_append [] ys h k = k
plain_append (x ∷ xs) ys h k = (h.0, plain_append xs ys h.1 k)

-- plain items have forms that exist
pub plain_forms : (es : List Entry) → ArePlain es → list_all has_form es ≡ true
plain_forms [] h = refl
plain_forms (e ∷ es) h = and_from (has_form e) (list_all has_form es) h.0.form (plain_forms es h.1)

-- plain items have no branches to labels
pub plain_straight : (es : List Entry) → ArePlain es → list_all is_straight es ≡ true
plain_straight [] h = refl
plain_straight (e ∷ es) h = and_from (is_straight e) (list_all is_straight es) h.0.straight (plain_straight es h.1)

-- plain items name no unknown label
pub plain_known : (labels : List (Name × ℕ)) (es : List Entry) → ArePlain es → AllKnown labels es
plain_known labels [] h = tt
plain_known labels (e ∷ es) h = (h.0.known labels, plain_known labels es h.1)

-- plain items have no labels that could fall
pub plain_rises : (low high : ℕ) (es : List Entry) → low ≤ high → ArePlain es → Rising low es high
plain_rises low high [] up h = up
plain_rises low high (e ∷ es) up h = h.0.rises low high es (plain_rises low high es up h.1)

-- ── instructions, by their modes ──
-- there is such an instruction
abbrev pub Is : Mnemonic → Mode → Type 0
Is n m = is_some (find_opcode rows n m) ≡ true

formed : (b : Bool) → b ≡ true → (b && true) ≡ true
formed b h = ap (λ b. b && true) h

-- an instruction without an operand is plain
pub implied : (n : Mnemonic) → Is n Implied → IsPlain (alone n)
implied n h = record { form = formed (is_some (find_opcode rows n Implied)) h; straight = refl; known = λ l. refl; rises = λ low high es h. h }

accumulator : (n : Mnemonic) → Is n Accumulator → IsPlain (on_a n)
accumulator n h = record { form = formed (is_some (find_opcode rows n Accumulator)) h; straight = refl; known = λ l. refl; rises = λ low high es h. h }

-- an instruction with a constant byte is plain
pub immediate : (n : Mnemonic) (b : ℕ) → Is n Immediate → IsPlain (const n b)
immediate n b h = record { form = formed (is_some (find_opcode rows n Immediate)) h; straight = refl; known = λ l. refl; rises = λ low high es h. h }

-- an instruction on a byte of page zero is plain
pub zero_page : (n : Mnemonic) (p : ℕ) → Is n ZeroPage → IsPlain (at_zero n p)
zero_page n p h = record { form = formed (is_some (find_opcode rows n ZeroPage)) h; straight = refl; known = λ l. refl; rises = λ low high es h. h }

-- an instruction with an address is plain
pub absolute : (n : Mnemonic) (p : ℕ) → Is n Absolute → IsPlain (at n p)
absolute n p h = record { form = formed (is_some (find_opcode rows n Absolute)) h; straight = refl; known = λ l. refl; rises = λ low high es h. h }

-- an instruction on a word's low byte is plain
pub low_byte : (n : Mnemonic) (a : Source) → Is n Immediate → Is n Absolute → IsPlain (low_of n a)
low_byte n (FixedWord w) h k = immediate n (w % 256) h
low_byte n (AtAddress p) h k = absolute n p k

-- an instruction on a word's high byte is plain
pub high_byte : (n : Mnemonic) (a : Source) → Is n Immediate → Is n Absolute → IsPlain (high_of n a)
high_byte n (FixedWord w) h k = immediate n (w / 256) h
high_byte n (AtAddress p) h k = absolute n (p + 1) k

-- one item and those after it
infixr 5 ◌▹◌
pub ◌▹◌ : {P Q : Type 0} → P → Q → P × Q
p ▹ q = (p, q)

-- ── over a power of two ──
rounded_plain : (k : ℕ) (a : Source) → ArePlain (rounded k a)
rounded_plain zero a = (low_byte Lda a refl refl ▹ immediate Adc 0 refl ▹ tt)
rounded_plain (suc k) a =
    (immediate Lda 0 refl ▹ immediate Adc 255 refl ▹ immediate And (all_but_lowest (suc k)) refl ▹ immediate Eor (all_but_lowest (suc k)) refl ▹ low_byte Adc a refl refl ▹ tt)

raised_plain : (k : ℕ) (a : Source) → ArePlain (raised k a)
raised_plain k a =
    (high_byte Lda a refl refl ▹ immediate Cmp 128 refl ▹ plain_append (rounded k a) (at_zero Sta LEFT ∷ high_of Lda a ∷ const Adc 0 ∷ []) (rounded_plain k a)
    (zero_page Sta LEFT refl ▹ high_byte Lda a refl refl ▹ immediate Adc 0 refl ▹ tt))

halvings_plain : (k : ℕ) → ArePlain (halvings k)
halvings_plain zero = tt
halvings_plain (suc k) = plain_append (halvings k) halved (halvings_plain k) (immediate Cmp 128 refl ▹ accumulator Ror refl ▹ zero_page Ror LEFT refl ▹ tt)

cut_plain : (k : ℕ) → ArePlain (cut k)
cut_plain k = by (nat_eq k 6)
  where
    by : (t : Bool) → ArePlain (if t then at_zero Asl LEFT ∷ on_a Rol ∷ [] else const Cmp 128 ∷ [])
    by true = (zero_page Asl LEFT refl ▹ accumulator Rol refl ▹ tt)
    by false = (immediate Cmp 128 refl ▹ tt)

-- the items of a quotient by shifts are plain
pub shifted_plain : (k : ℕ) (a : Source) (to : ℕ) → ArePlain (shifted k a to)
shifted_plain k a to =
    plain_append (raised k a) (lowered k to) (raised_plain k a) (by (nat_lt k 6))
  where
    by : (t : Bool) → ArePlain (if t then halvings (suc k) ++ high_first to else cut k ++ widened to)
    by true = plain_append (halvings (suc k)) (high_first to) (halvings_plain (suc k)) (absolute Sta (to + 1) refl ▹ zero_page Lda LEFT refl ▹ absolute Sta to refl ▹ tt)
    by false =
        plain_append (cut k) (widened to) (cut_plain k)
        (absolute Sta to refl ▹ immediate Lda 0 refl ▹ immediate Adc 255 refl ▹ immediate Eor 255 refl ▹ absolute Sta (to + 1) refl ▹ tt)

-- ── times a constant ──
doubled_plain : ArePlain doubled
doubled_plain = (accumulator Asl refl ▹ zero_page Rol LEFT refl ▹ tt)

increased_plain : (a : Source) → ArePlain (increased a)
increased_plain a =
    (implied Clc refl ▹ low_byte Adc a refl refl ▹ implied Tax refl ▹ zero_page Lda LEFT refl ▹ high_byte Adc a refl refl ▹ zero_page Sta LEFT refl ▹ implied Txa refl ▹ tt)

bit_plain : (t : Bool) (a : Source) → ArePlain (by_bit t a)
bit_plain false a = doubled_plain
bit_plain true a = plain_append doubled (increased a) doubled_plain (increased_plain a)

bits_plain : (k factor : ℕ) (a : Source) → ArePlain (by_bits k factor a)
bits_plain zero factor a = tt
bits_plain (suc k) factor a = by (bits_plain k (factor / 2) a) (nat_lt factor 2)
  where
    by : ArePlain (by_bits k (factor / 2) a) → (t : Bool) → ArePlain (if t then [] else by_bits k (factor / 2) a ++ by_bit (nat_eq (factor % 2) 1) a)
    by h true = tt
    by h false = plain_append (by_bits k (factor / 2) a) (by_bit (nat_eq (factor % 2) 1) a) h (bit_plain (nat_eq (factor % 2) 1) a)

-- the items of a product by a constant's bits are plain
pub times_plain : (factor : ℕ) (a : Source) (to : ℕ) → ArePlain (times factor a to)
times_plain factor a to =
    (high_byte Lda a refl refl ▹ zero_page Sta LEFT refl ▹ low_byte Lda a refl refl ▹ plain_append (by_bits 15 factor a) (low_first to) (bits_plain 15 factor a)
    (absolute Sta to refl ▹ zero_page Lda LEFT refl ▹ absolute Sta (to + 1) refl ▹ tt))

-- ── for equality ──
unless_none_plain : (b : ℕ) → ArePlain (unless_none b)
unless_none_plain b = by (nat_eq b 0)
  where
    by : (t : Bool) → ArePlain (if t then [] else const Cmp b ∷ [])
    by true = tt
    by false = (immediate Cmp b refl ▹ tt)

-- the items that compare low bytes are plain
pub low_matched_plain : (a b : Source) → ArePlain (low_matched a b)
low_matched_plain a (FixedWord w) = (low_byte Lda a refl refl ▹ unless_none_plain (w % 256))
low_matched_plain a (AtAddress p) = (low_byte Lda a refl refl ▹ absolute Cmp p refl ▹ tt)

-- those that compare high bytes too
pub high_matched_plain : (a b : Source) → ArePlain (high_matched a b)
high_matched_plain a (FixedWord w) = (high_byte Lda a refl refl ▹ unless_none_plain (w / 256))
high_matched_plain a (AtAddress p) = (high_byte Lda a refl refl ▹ absolute Cmp (p + 1) refl ▹ tt)

-- ── against a constant ──
pub lifted_plain : (a : Source) (w : ℕ) → ArePlain (lifted a w)
lifted_plain a w = by (nat_eq (w % 256) 0)
  where
    by : (t : Bool) → ArePlain (if t then lifted_high a w else lifted_both a w)
    by true = (high_byte Lda a refl refl ▹ immediate Eor 128 refl ▹ immediate Cmp ((w / 256 + 128) % 256) refl ▹ tt)
    by false =
        (low_byte Lda a refl refl ▹ immediate Cmp (w % 256) refl ▹ high_byte Lda a refl refl ▹ immediate Eor 128 refl ▹ immediate Sbc ((w / 256 + 128) % 256) refl ▹ tt)
