-- Addresses that take one byte: statements with items that do.
use Rattle.std.proofs.Common.{◌≡◌, ℕ, ◌+◌, ◌<◌, Bool, true, false, not, ◌&&◌, List, [], ◌∷◌, ◌++◌, map, Option, Some, None, refl, sym, ap, ◌∙◌, arith, true≢false, if◌then◌else◌}
use Rattle.std.specs.Prelude.{unwrap_or}
use Rattle.std.proofs.lemmas.Bool.{and_parts}
use Rattle.std.proofs.lemmas.Bool.Decides.{nat_tests}
use Rattle.tb_opcodes.specs.declared.Mnemonic.{Mnemonic}
use Rattle.tb_opcodes.specs.declared.Mode.TheVariants as modes
use Rattle.tb_asm.specs.declared.names.Name.{Name}
use Rattle.tb_asm.specs.declared.items.Operand.TheVariants.{Byte}
use Rattle.tb_asm.specs.Names.{fold_byte, name_from}
use Rattle.tb_asm.specs.Text.{is_branch}
use Rattle.tb_asm.specs.Layout.{Entry, instr, size_of, address_in as address_of_label, label_at, value_in, number_in}
use Rattle.tb_assembly_text.specs.declared.operands.Index.TheVariants.{Without, X, Y}
use Rattle.tb_assembly_laws.specs.Items.{has_short, is_low, is_known_low, is_shortened, none_shortened, short_mode, short_item, all_shortened}
use Rattle.tb_assembly_laws.proofs.Operands.{Address, at, of, Given, none, on_a, byte_now, low_of, high_of, page, place, low_place, through, through_x, through_y, address_in, IsAddress, IsGiven}
use Rattle.tb_assembly_laws.proofs.Lines.{Stated, named_here, instructed, laid, word_laid, entry, said, IsStated, AreStated}
use Rattle.tb_assembly_laws.proofs.Values.{IsKnown}
use Rattle.tb_assembly_laws.proofs.Placing.{IsKnownAt, AreKnown, split_short}

-- an address as one byte
abbrev short_given : List (Name × ℕ) → Given → Given
short_given above (place c a i) = low_place c a (number_in above (address_in a)) i
short_given above g = g

-- a statement with its address as one byte, or the statement as it is
abbrev short_stated : Bool → List (Name × ℕ) → Stated → Stated
short_stated true above (instructed c m g) = instructed c m (short_given above g)
short_stated b above s = s

-- statements of which each address that is known and small takes one byte
abbrev pub shorten : List (Name × ℕ) → ℕ → List Stated → List Stated
shorten above a [] = []
shorten above a (s ∷ ss) =
    let t = short_stated (is_shortened above (entry s)) above s in t ∷ shorten (above ++ label_at a (entry t)) (a + size_of (entry t)) ss

-- ── one statement ──
-- an address that is known and small has its value
known_low : (above : List (Name × ℕ)) (a : Address) → is_known_low above (address_in a) ≡ true
    → (number_in above (address_in a) < 256) × (value_in above (address_in a) ≡ Some (number_in above (address_in a)))
known_low above (at n) h = ((let l : n < 256 = grind (arith, nat_tests) in l), refl)
known_low above (of w) h = by (address_of_label above (name_from (map fold_byte w))) h
  where
    by : (o : Option ℕ) → is_low o ≡ true → (unwrap_or o 0 < 256) × (o ≡ Some (unwrap_or o 0))
    by None e = absurd (true≢false (sym e))
    by (Some v) e = ((let l : v < 256 = grind (arith, nat_tests) in l), refl)

-- numbers that a line gives are known
given_known : (above : List (Name × ℕ)) (g : Given) → IsGiven g → IsKnown above g
given_known above (low_place c a v i) l = absurd l
given_known above g l = l

stated_known : (above : List (Name × ℕ)) (s : Stated) → IsStated s → IsKnownAt above s
stated_known above (instructed c m g) l = given_known above g l
stated_known above s l = l

-- a statement and the same with one byte: the item, the statement, and that it is known and not shortened once more
abbrev IsShort : List (Name × ℕ) → Stated → Bool → Type 0
IsShort above s b =
    (entry (short_stated b above s) ≡ short_item b above (entry s)) × (said (short_stated b above s) ≡ said s)
    × IsKnownAt above (short_stated b above s) × (is_shortened above (entry (short_stated b above s)) ≡ false)

module _ (above : List (Name × ℕ)) (c : ℕ) (m : Mnemonic) where
  no_register : (d : ℕ) (a : Address) → IsAddress a → is_shortened above (entry (instructed c m (place d a Without))) ≡ true → IsShort above (instructed c m (place d a Without)) true
  no_register d a l e = by (is_branch m) refl e
    where
      by : (t : Bool) → is_branch m ≡ t → (has_short m (if t then modes.Relative else modes.Absolute) && is_known_low above (address_in a)) ≡ true → IsShort above (instructed c m (place d a Without)) true
      by true is h = absurd (true≢false (sym h))
      by false is h =
          let (low, value) = known_low above a (and_parts (has_short m modes.Absolute) (is_known_low above (address_in a)) h).1 in
          (ap (λ x. instr m (short_mode (if x then modes.Relative else modes.Absolute)) (Byte (number_in above (address_in a)))) (sym is), refl, (low, l, value), refl)

  short_instruction : (g : Given) → IsGiven g → is_shortened above (entry (instructed c m g)) ≡ true → IsShort above (instructed c m g) true
  short_instruction none l e = absurd (true≢false (sym e))
  short_instruction on_a l e = absurd (true≢false (sym e))
  short_instruction (byte_now d b) l e = absurd (true≢false (sym e))
  short_instruction (low_of d k w) l e = absurd (true≢false (sym e))
  short_instruction (high_of d k w) l e = absurd (true≢false (sym e))
  short_instruction (page d b Without) l e = absurd (true≢false (sym e))
  short_instruction (page d b X) l e = absurd (true≢false (sym e))
  short_instruction (page d b Y) l e = absurd (true≢false (sym e))
  short_instruction (place d a Without) l e = no_register d a l e
  short_instruction (place d a X) l e =
      let (low, value) = known_low above a (and_parts (has_short m modes.AbsoluteX) (is_known_low above (address_in a)) e).1 in (refl, refl, (low, l, value), refl)
  short_instruction (place d a Y) l e =
      let (low, value) = known_low above a (and_parts (has_short m modes.AbsoluteY) (is_known_low above (address_in a)) e).1 in (refl, refl, (low, l, value), refl)
  short_instruction (low_place d a v i) l e = absurd l
  short_instruction (through d a) l e = absurd (true≢false (sym e))
  short_instruction (through_x d b) l e = absurd (true≢false (sym e))
  short_instruction (through_y d b) l e = absurd (true≢false (sym e))

short_one : (above : List (Name × ℕ)) (s : Stated) → IsStated s → (b : Bool) → is_shortened above (entry s) ≡ b → IsShort above s b
short_one above s l false e = (refl, refl, stated_known above s l, e)
short_one above (named_here c w) l true e = absurd (true≢false (sym e))
short_one above (instructed c m g) l true e = short_instruction above c m g l e
short_one above (laid c ps) l true e = absurd (true≢false (sym e))
short_one above (word_laid c d a) l true e = absurd (true≢false (sym e))

-- ── all statements ──
pub all_short : (ss : List Stated) (above : List (Name × ℕ)) (a : ℕ) → AreStated ss
    → (map entry (shorten above a ss) ≡ all_shortened above a (map entry ss)) × (map said (shorten above a ss) ≡ map said ss)
    × AreKnown above a (shorten above a ss) × (none_shortened above a (map entry (shorten above a ss)) ≡ true)
all_short [] above a l = (refl, refl, tt, refl)
all_short (s ∷ ss) above a l =
    let (item, word, known, long) = short_one above s l.0 (is_shortened above (entry s)) refl in
    let t = short_stated (is_shortened above (entry s)) above s in
    let (items, words, all_known, all_long) = all_short ss (above ++ label_at a (entry t)) (a + size_of (entry t)) l.1 in (
      ap (λ x. entry t ∷ x) items ∙ (λ i. item i ∷ all_shortened (above ++ label_at a (item i)) (a + size_of (item i)) (map entry ss)),
      (λ i. word i ∷ words i),
      (known, all_known),
      (λ i. not (long i) && all_long i),
    )

-- where nothing is shortened, all stays
pub unshortened : (es : List Entry) (above : List (Name × ℕ)) (a : ℕ) → none_shortened above a es ≡ true → all_shortened above a es ≡ es
unshortened [] above a h = refl
unshortened (e ∷ es) above a h =
    let (long, all_long) = split_short (is_shortened above e) (none_shortened (above ++ label_at a e) (a + size_of e) es) h in
    (λ i. short_item (long i) above e ∷ all_shortened (above ++ label_at a (short_item (long i) above e)) (a + size_of (short_item (long i) above e)) es)
    ∙ ap (λ x. e ∷ x) (unshortened es (above ++ label_at a e) (a + size_of e) all_long)
