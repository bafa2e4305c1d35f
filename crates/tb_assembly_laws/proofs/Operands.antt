-- Operands that `tbc asm` reads, `tbc assemble` reads as forms of the same.
use Rattle.std.proofs.Common.{◌≡◌, ℕ, ◌<◌, Bool, true, false, List, [], ◌∷◌, map, Some, None, Ok, refl, ap, ◌∙◌, if◌then◌else◌}
use Rattle.std.specs.Prelude.{option_and_then, option_map}
use Rattle.tb_opcodes.specs.declared.Mode.{Mode}
use Rattle.tb_opcodes.specs.declared.Mode.TheVariants as modes
use Rattle.tb_asm.specs.declared.items.Operand.{Operand}
use Rattle.tb_asm.specs.declared.items.Operand.TheVariants.{Nothing, Byte, Word, Label, LowOf, HighOf}
use Rattle.tb_asm.specs.Names.{fold_byte, is_name, name_from, name_in}
use Rattle.tb_asm.specs.Mnemonics.{same_text}
use Rattle.tb_asm.specs.Text.{by_index, after_byte, after_address, after_hash, byte_in_brackets, after_left, accumulator as accumulator_form, after_identifier, operand_form}
use Rattle.tb_assembly_text.specs.declared.expressions.Unary.TheVariants.{Low, High}
use Rattle.tb_assembly_text.specs.declared.operands.Width.TheVariants.{Free}
use Rattle.tb_assembly_text.specs.declared.operands.Index.{Index}
use Rattle.tb_assembly_text.specs.declared.operands.Index.TheVariants.{Without, X, Y}
use Rattle.tb_assembly_text.specs.Names.{full_name}
use Rattle.tb_assembly_text.specs.declared.tokens.Sign.TheVariants as signs
use Rattle.tb_assembly_text.specs.Tokens.{word, sign}
use Rattle.tb_assembly_text.specs.Expressions.{Deed, Sum, value, named, unary}
use Rattle.tb_assembly_text.specs.Operands.{Form, nothing, accumulator, immediate, direct_by, indirect, by_x, by_y, register_of, register_or, with_index, with_ending, after_comma, only_y, direct, operand}
use Rattle.tb_assembly_meaning.specs.Modes.{long_target}
use Rattle.tb_assembly_laws.proofs.Pieces.{letters, two, four, hash, less, greater, left, right, comma, Written, part, token, doubles, AreSound}
use Rattle.tb_assembly_laws.proofs.Words.{none_some, some_is, text_is, name_full}

-- an address: a number, or a name by its letters
pub data Address : Type 0 where
  at : ℕ → Address
  of : List ℕ → Address

-- an operand with the columns of its parts: nothing, `A`, a byte after `#`, a byte of a name's address, a byte or an address
-- with a register, an address that takes one byte with its value, an address or a byte in parentheses
pub data Given : Type 0 where
  none : Given
  on_a : Given
  byte_now : ℕ → ℕ → Given
  low_of : ℕ → ℕ → List ℕ → Given
  high_of : ℕ → ℕ → List ℕ → Given
  page : ℕ → ℕ → Index → Given
  place : ℕ → Address → Index → Given
  low_place : ℕ → Address → ℕ → Index → Given
  through : ℕ → Address → Given
  through_x : ℕ → ℕ → Given
  through_y : ℕ → ℕ → Given

-- the mode of a register
abbrev pub mode_by : Mode → Mode → Mode → Index → Mode
mode_by z x y Without = z
mode_by z x y X = x
mode_by z x y Y = y

-- the mode that `tbc asm` gives an operand
abbrev pub mode_in : Bool → Given → Mode
mode_in branch none = modes.Implied
mode_in branch on_a = modes.Accumulator
mode_in branch (byte_now c b) = modes.Immediate
mode_in branch (low_of c d w) = modes.Immediate
mode_in branch (high_of c d w) = modes.Immediate
mode_in branch (page c b i) = mode_by modes.ZeroPage modes.ZeroPageX modes.ZeroPageY i
mode_in branch (place c a i) = mode_by (if branch then modes.Relative else modes.Absolute) modes.AbsoluteX modes.AbsoluteY i
mode_in branch (low_place c a v i) = mode_by modes.ZeroPage modes.ZeroPageX modes.ZeroPageY i
mode_in branch (through c a) = modes.Indirect
mode_in branch (through_x c b) = modes.IndirectX
mode_in branch (through_y c b) = modes.IndirectY

-- an address as an operand
abbrev pub address_in : Address → Operand
address_in (at n) = Word n
address_in (of w) = Label (name_from (map fold_byte w))

-- the operand of `tbc asm`
abbrev pub operand_in : Given → Operand
operand_in none = Nothing
operand_in on_a = Nothing
operand_in (byte_now c b) = Byte b
operand_in (low_of c d w) = LowOf (name_from (map fold_byte w))
operand_in (high_of c d w) = HighOf (name_from (map fold_byte w))
operand_in (page c b i) = Byte b
operand_in (place c a i) = address_in a
operand_in (low_place c a v i) = Byte v
operand_in (through c a) = address_in a
operand_in (through_x c b) = Byte b
operand_in (through_y c b) = Byte b

-- what an address does
abbrev pub deed_in : Address → Deed
deed_in (at n) = value n
deed_in (of w) = named (map fold_byte w)

-- an address as an expression
abbrev pub sum_at : ℕ → Address → Sum
sum_at c a = (c, (c, deed_in a) ∷ [])

-- the form of `tbc assemble`
abbrev pub form_in : Given → Form
form_in none = nothing
form_in on_a = accumulator
form_in (byte_now c b) = immediate (sum_at c (at b))
form_in (low_of c d w) = immediate (c, (d, named (map fold_byte w)) ∷ (c, unary Low) ∷ [])
form_in (high_of c d w) = immediate (c, (d, named (map fold_byte w)) ∷ (c, unary High) ∷ [])
form_in (page c b i) = direct_by Free (sum_at c (at b)) i
form_in (place c a i) = direct_by Free (sum_at c a) i
form_in (low_place c a v i) = direct_by Free (sum_at c a) i
form_in (through c a) = indirect (sum_at c a)
form_in (through_x c b) = by_x (sum_at c (at b))
form_in (through_y c b) = by_y (sum_at c (at b))

-- a number of two bytes, or a name
abbrev pub IsAddress : Address → Type 0
IsAddress (at n) = n < 65536
IsAddress (of w) = Unit {0}

-- numbers are bytes or words; no line says that an address takes one byte
abbrev pub IsGiven : Given → Type 0
IsGiven (byte_now c b) = b < 256
IsGiven (page c b i) = b < 256
IsGiven (place c a i) = IsAddress a
IsGiven (low_place c a v i) = ⊥
IsGiven (through c a) = IsAddress a
IsGiven (through_x c b) = b < 256
IsGiven (through_y c b) = b < 256
IsGiven g = Unit {0}

-- the register of a word
index_read : (z x y : Mode) (o : Operand) (r : List ℕ) (f : Mode × Operand) → by_index (map fold_byte r) x y o ≡ Some f
    → (i : Index) × (f ≡ (mode_by z x y i, o)) × (register_of r ≡ Some i)
index_read z x y o r f h = by (same_text (map fold_byte r) (88 ∷ [])) (same_text (map fold_byte r) (89 ∷ [])) refl refl h
  where
    by : (s t : Bool) → same_text (map fold_byte r) (88 ∷ []) ≡ s → same_text (map fold_byte r) (89 ∷ []) ≡ t
        → (if s then Some (x, o) else if t then Some (y, o) else None) ≡ Some f → (i : Index) × (f ≡ (mode_by z x y i, o)) × (register_of r ≡ Some i)
    by true t is other e = (X, some_is e, (λ i. if is i then Some X else if same_text (map fold_byte r) (89 ∷ []) then Some Y else None))
    by false true is other e = (Y, some_is e, (λ i. if is i then Some X else if other i then Some Y else None))
    by false false is other e = absurd (none_some e)

-- what is read of an operand
abbrev pub IsOperand : List ℕ → ℕ → Bool → List Written → Mode × Operand → Type 0
IsOperand scope end branch qs f =
    (g : Given) × (f ≡ (mode_in branch g, operand_in g)) × (operand scope end (map token qs) ≡ Ok (form_in g)) × IsGiven g × (doubles qs ≡ false)

module _ (scope : List ℕ) (end : ℕ) (branch : Bool) (f : Mode × Operand) where
  -- two digits
  byte_read : (c b : ℕ) (qs : List Written) → b < 256 → after_byte b (map part qs) ≡ Some f → IsOperand scope end branch ((c, two b) ∷ qs) f
  byte_read c b [] l h = (page c b Without, some_is h, refl, l, refl)
  byte_read c b ((d, comma) ∷ (e, letters r) ∷ []) l h =
      let (i, is, register) = index_read modes.ZeroPage modes.ZeroPageX modes.ZeroPageY (Byte b) r f h in
      (page c b i, is, ap (λ x. with_index Free (sum_at c (at b)) (register_or e x)) register, l, refl)
  byte_read c b qs l h = absurd (none_some h)

  -- four digits
  word_read : (c n : ℕ) (qs : List Written) → n < 65536 → after_address branch (Word n) (map part qs) ≡ Some f → IsOperand scope end branch ((c, four n) ∷ qs) f
  word_read c n [] l h = (place c (at n) Without, some_is h, refl, l, refl)
  word_read c n ((d, comma) ∷ (e, letters r) ∷ []) l h =
      let (i, is, register) = index_read (if branch then modes.Relative else modes.Absolute) modes.AbsoluteX modes.AbsoluteY (Word n) r f h in
      (place c (at n) i, is, ap (λ x. with_index Free (sum_at c (at n)) (register_or e x)) register, l, refl)
  word_read c n qs l h = absurd (none_some h)

  -- a name
  name_read : (c : ℕ) (w : List ℕ) (qs : List Written) → is_name (map fold_byte w) ≡ true → same_text (map fold_byte w) (65 ∷ []) ≡ false
      → after_address branch (Label (name_from (map fold_byte w))) (map part qs) ≡ Some f → IsOperand scope end branch ((c, letters w) ∷ qs) f
  name_read c w [] name other h = (
    place c (of w) Without,
    some_is h,
    ap (λ x. if x then Ok accumulator else direct scope end Free (token (c, letters w) ∷ [])) other
        ∙ ap (λ n. Ok (direct_by Free (c, (c, named n) ∷ []) Without)) (name_full scope w name),
    tt,
    refl,
  )
  name_read c w ((d, comma) ∷ (e, letters r) ∷ []) name other h =
      let (i, is, register) = index_read (if branch then modes.Relative else modes.Absolute) modes.AbsoluteX modes.AbsoluteY (Label (name_from (map fold_byte w))) r f h in (
        place c (of w) i,
        is,
        ap (λ x. with_index Free (c, (c, named (full_name scope w)) ∷ []) (register_or e x)) register
            ∙ ap (λ n. Ok (direct_by Free (c, (c, named n) ∷ []) i)) (name_full scope w name),
        tt,
        refl,
      )
  name_read c w qs name other h = absurd (none_some h)

  -- a word: `A`, or a name
  identifier_read : (c : ℕ) (w : List ℕ) (qs : List Written) → after_identifier branch (map fold_byte w) (map part qs) ≡ Some f → IsOperand scope end branch ((c, letters w) ∷ qs) f
  identifier_read c w qs h = by (same_text (map fold_byte w) (65 ∷ [])) refl h
    where
      alone : (qs : List Written) → same_text (map fold_byte w) (65 ∷ []) ≡ true → accumulator_form (map part qs) ≡ Some f → IsOperand scope end branch ((c, letters w) ∷ qs) f
      alone [] is e = (on_a, some_is e, ap (λ x. if x then Ok accumulator else direct scope end Free (token (c, letters w) ∷ [])) is, tt, refl)
      alone (q ∷ qs) is e = absurd (none_some e)

      named_by : (t : Bool) → is_name (map fold_byte w) ≡ t → same_text (map fold_byte w) (65 ∷ []) ≡ false
          → option_and_then (λ n. after_address branch (Label n) (map part qs)) (if t then Some (name_from (map fold_byte w)) else None) ≡ Some f
          → IsOperand scope end branch ((c, letters w) ∷ qs) f
      named_by true name other e = name_read c w qs name other e
      named_by false name other e = absurd (none_some e)

      by : (t : Bool) → same_text (map fold_byte w) (65 ∷ []) ≡ t
          → (if t then accumulator_form (map part qs) else option_and_then (λ n. after_address branch (Label n) (map part qs)) (name_in (map fold_byte w))) ≡ Some f
          → IsOperand scope end branch ((c, letters w) ∷ qs) f
      by true is e = alone qs is e
      by false is e = named_by (is_name (map fold_byte w)) refl is e

  -- after `#`
  hash_read : (c : ℕ) (qs : List Written) → AreSound qs → after_hash (map part qs) ≡ Some f → IsOperand scope end branch ((c, hash) ∷ qs) f
  hash_read c ((d, two b) ∷ []) s h = (byte_now d b, some_is h, refl, s.0, refl)
  hash_read c ((d, less) ∷ (e, letters w) ∷ []) s h = by (is_name (map fold_byte w)) refl h
    where
      by : (t : Bool) → is_name (map fold_byte w) ≡ t → option_map (λ n. (modes.Immediate, LowOf n)) (if t then Some (name_from (map fold_byte w)) else None) ≡ Some f
          → IsOperand scope end branch ((c, hash) ∷ (d, less) ∷ (e, letters w) ∷ []) f
      by true name k = (low_of d e w, some_is k, ap (λ n. Ok (immediate (d, (e, named n) ∷ (d, unary Low) ∷ []))) (name_full scope w name), tt, refl)
      by false name k = absurd (none_some k)
  hash_read c ((d, greater) ∷ (e, letters w) ∷ []) s h = by (is_name (map fold_byte w)) refl h
    where
      by : (t : Bool) → is_name (map fold_byte w) ≡ t → option_map (λ n. (modes.Immediate, HighOf n)) (if t then Some (name_from (map fold_byte w)) else None) ≡ Some f
          → IsOperand scope end branch ((c, hash) ∷ (d, greater) ∷ (e, letters w) ∷ []) f
      by true name k = (high_of d e w, some_is k, ap (λ n. Ok (immediate (d, (e, named n) ∷ (d, unary High) ∷ []))) (name_full scope w name), tt, refl)
      by false name k = absurd (none_some k)
  hash_read c qs s h = absurd (none_some h)

  -- after `(` and two digits
  brackets_read : (c d b : ℕ) (qs : List Written) → b < 256 → byte_in_brackets b (map part qs) ≡ Some f → IsOperand scope end branch ((c, left) ∷ (d, two b) ∷ qs) f
  brackets_read c d b ((e, comma) ∷ (g, letters r) ∷ (k, right) ∷ []) l h = by (same_text (map fold_byte r) (88 ∷ [])) refl h
    where
      by : (t : Bool) → same_text (map fold_byte r) (88 ∷ []) ≡ t → (if t then Some (modes.IndirectX, Byte b) else None) ≡ Some f
          → IsOperand scope end branch ((c, left) ∷ (d, two b) ∷ (e, comma) ∷ (g, letters r) ∷ (k, right) ∷ []) f
      by true is m = (
        through_x d b,
        some_is m,
        ap (λ x. with_ending (if x then after_comma 0 ((0, word (88 ∷ [])) ∷ (0, sign signs.Right) ∷ []) else after_comma g []) (sum_at d (at b)) (direct scope end Free (map token ((c, left) ∷ (d, two b) ∷ (e, comma) ∷ (g, letters r) ∷ (k, right) ∷ [])))) is,
        l,
        refl,
      )
      by false is m = absurd (none_some m)
  brackets_read c d b ((e, right) ∷ (g, comma) ∷ (k, letters r) ∷ []) l h = by (same_text (map fold_byte r) (89 ∷ [])) refl h
    where
      by : (t : Bool) → same_text (map fold_byte r) (89 ∷ []) ≡ t → (if t then Some (modes.IndirectY, Byte b) else None) ≡ Some f
          → IsOperand scope end branch ((c, left) ∷ (d, two b) ∷ (e, right) ∷ (g, comma) ∷ (k, letters r) ∷ []) f
      by true is m =
          let register : register_of r ≡ Some Y =
          ap (λ x. if same_text x (88 ∷ []) then Some X else if same_text x (89 ∷ []) then Some Y else None) (text_is (map fold_byte r) (89 ∷ []) is) in (
            through_y d b,
            some_is m,
            ap (λ x. with_ending (only_y k x) (sum_at d (at b)) (direct scope end Free (map token ((c, left) ∷ (d, two b) ∷ (e, right) ∷ (g, comma) ∷ (k, letters r) ∷ [])))) register,
            l,
            refl,
          )
      by false is m = absurd (none_some m)
  brackets_read c d b qs l h = absurd (none_some h)

  -- after `(`
  left_read : (c : ℕ) (qs : List Written) → AreSound qs → after_left (map part qs) ≡ Some f → IsOperand scope end branch ((c, left) ∷ qs) f
  left_read c ((d, two b) ∷ qs) s h = brackets_read c d b qs s.0 h
  left_read c ((d, four n) ∷ (e, right) ∷ []) s h = (through d (at n), some_is h, refl, s.0, refl)
  left_read c ((d, letters w) ∷ (e, right) ∷ []) s h = by (is_name (map fold_byte w)) refl h
    where
      by : (t : Bool) → is_name (map fold_byte w) ≡ t → option_map (λ n. (modes.Indirect, Label n)) (if t then Some (name_from (map fold_byte w)) else None) ≡ Some f
          → IsOperand scope end branch ((c, left) ∷ (d, letters w) ∷ (e, right) ∷ []) f
      by true name k = (through d (of w), some_is k, ap (λ n. Ok (indirect (d, (d, named n) ∷ []))) (name_full scope w name), tt, refl)
      by false name k = absurd (none_some k)
  left_read c qs s h = absurd (none_some h)

  -- an operand
  pub operand_read : (qs : List Written) → AreSound qs → operand_form branch (map part qs) ≡ Some f → IsOperand scope end branch qs f
  operand_read [] s h = (none, some_is h, refl, tt, refl)
  operand_read ((c, letters w) ∷ qs) s h = identifier_read c w qs h
  operand_read ((c, two b) ∷ qs) s h = byte_read c b qs s.0 h
  operand_read ((c, four n) ∷ qs) s h = word_read c n qs s.0 h
  operand_read ((c, hash) ∷ qs) s h = hash_read c qs s.1 h
  operand_read ((c, left) ∷ qs) s h = left_read c qs s.1 h
  operand_read (q ∷ qs) s h = absurd (none_some h)

-- none of them is a long branch
pub never_long : (g : Given) (mode : Mode) → long_target (form_in g) mode ≡ None
never_long none mode = refl
never_long on_a mode = refl
never_long (byte_now c b) mode = refl
never_long (low_of c d w) mode = refl
never_long (high_of c d w) mode = refl
never_long (page c b i) mode = refl
never_long (place c a i) mode = refl
never_long (low_place c a v i) mode = refl
never_long (through c a) mode = refl
never_long (through_x c b) mode = refl
never_long (through_y c b) mode = refl
