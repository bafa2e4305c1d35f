-- The items that `tbc assemble` makes of those that `tbc asm` reads, and where it makes others.
use Rattle.std.specs.Prelude.{◌≡◌, ℕ, ◌+◌, Bool, true, false, not, ◌&&◌, ◌||◌, Option, Some, None, List, [], ◌∷◌, ◌++◌, nat_lt, eqb, is_some}
use Rattle.tb_opcodes.specs.Opcodes.{encoded}
use Rattle.tb_opcodes.specs.declared.Mnemonic.{Mnemonic}
use Rattle.tb_opcodes.specs.declared.Mode.{Mode}
use Rattle.tb_opcodes.specs.declared.Mode.TheVariants.{ZeroPage, ZeroPageX, ZeroPageY, Absolute, AbsoluteX, AbsoluteY}
use Rattle.tb_asm.specs.declared.names.Name.{Name}
use Rattle.tb_asm.specs.declared.items.Operand.{Operand}
use Rattle.tb_asm.specs.declared.items.Operand.TheVariants.{Byte, Word, Label, LowOf, HighOf}
use Rattle.tb_asm.specs.Layout.{Entry, instr, label, bytes, word, size_of, label_at, labels_from, address_in, image_of, number_in, word_bytes}
use Rattle.tb_asm.specs.Assembled.{refusal}
use Rattle.tb_asm.specs.Text.{begins_with_10}
use Rattle.tb_assembly_text.specs.Statements.{Said}
use Rattle.tb_assembly_meaning.specs.Meaning.{base_of, faults_of, items_of}
use Rattle.tb_assembly_meaning.specs.Settling.{some_far}

-- ── what means something else ──
-- whether a byte 13 stands in a text that no 10 follows: `tbc asm` has it in comments alone, and here it ends the line
abbrev pub has_lone_return : List ℕ → Bool
has_lone_return [] = false
has_lone_return (b ∷ bs) = (eqb b 13 && not (begins_with_10 bs)) || has_lone_return bs

-- whether a mnemonic has the mode of one byte that belongs to a mode of two
abbrev pub has_short : Mnemonic → Mode → Bool
has_short n Absolute = is_some (encoded n ZeroPage)
has_short n AbsoluteX = is_some (encoded n ZeroPageX)
has_short n AbsoluteY = is_some (encoded n ZeroPageY)
has_short n m = false

-- whether there is an address, and it is less than 256
abbrev pub is_low : Option ℕ → Bool
is_low None = false
is_low (Some a) = nat_lt a 256

-- whether the address of an operand is less than 256 and known where it is read: a number, or a label above
abbrev pub is_known_low : List (Name × ℕ) → Operand → Bool
is_known_low above (Word w) = is_low (Some w)
is_known_low above (Label n) = is_low (address_in above n)
is_known_low above o = false

-- whether `assemble` takes one byte for an address of two, with these labels above
abbrev pub is_shortened : List (Name × ℕ) → Entry → Bool
is_shortened above (instr n m o) = has_short n m && is_known_low above o
is_shortened above e = false

-- whether it does so for none of some items that lie from an address, below others with these labels
abbrev pub none_shortened : List (Name × ℕ) → ℕ → List Entry → Bool
none_shortened above a [] = true
none_shortened above a (e ∷ es) = not (is_shortened above e) && none_shortened (above ++ label_at a e) (a + size_of e) es

-- the mode of one byte that belongs to a mode of two
abbrev pub short_mode : Mode → Mode
short_mode Absolute = ZeroPage
short_mode AbsoluteX = ZeroPageX
short_mode AbsoluteY = ZeroPageY
short_mode m = m

-- an item that takes one byte for its address, with these labels above, or that stays as it is
abbrev pub short_item : Bool → List (Name × ℕ) → Entry → Entry
short_item true above (instr n m o) = instr n (short_mode m) (Byte (number_in above o))
short_item b above e = e

-- some items that lie from an address, below others with these labels, where each such address takes one byte
abbrev pub all_shortened : List (Name × ℕ) → ℕ → List Entry → List Entry
all_shortened above a [] = []
all_shortened above a (e ∷ es) =
    let f = short_item (is_shortened above e) above e in f ∷ all_shortened (above ++ label_at a f) (a + size_of f) es

-- whether an item has a number below 256 for an address of two bytes, and its mnemonic the mode of one
abbrev pub has_low_number : Entry → Bool
has_low_number (instr n m (Word w)) = has_short n m && nat_lt w 256
has_low_number e = false

-- ── what is the same ──
-- an operand with numbers for names
abbrev pub resolved : List (Name × ℕ) → Operand → Operand
resolved labels (Label n) = Word (number_in labels (Label n))
resolved labels (LowOf n) = Byte (number_in labels (LowOf n))
resolved labels (HighOf n) = Byte (number_in labels (HighOf n))
resolved labels o = o

-- an item as `assemble` makes it: with numbers for names, and bytes for a word; a label is no item
abbrev pub made_of : List (Name × ℕ) → Entry → List Entry
made_of labels (instr n m o) = instr n m (resolved labels o) ∷ []
made_of labels (label n) = []
made_of labels (bytes bs) = bytes bs ∷ []
made_of labels (word o) = bytes (word_bytes (number_in labels o)) ∷ []

-- items as `assemble` makes them: with numbers for names, and bytes for words; labels are no items
abbrev pub all_made_of : List (Name × ℕ) → List Entry → List Entry
all_made_of labels [] = []
all_made_of labels (e ∷ es) = made_of labels e ++ all_made_of labels es

-- statements mean items, and no more: nothing is wrong with them, no branch becomes long, their image begins at this
-- address, it has these items with numbers for names, and the assembler makes the same bytes of them
pub record Means (at : ℕ) (es : List Entry) (said : List Said) : Type 0 where
  pub faults : faults_of at said ≡ []
  pub reach : some_far at said ≡ false
  pub base : base_of at said ≡ at
  pub items : items_of at said ≡ all_made_of (labels_from at es) es
  pub accepted : refusal at (items_of at said) ≡ None
  pub image : image_of at (items_of at said) ≡ image_of at es
