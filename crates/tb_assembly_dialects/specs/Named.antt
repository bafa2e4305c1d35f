-- The listing of a program with labels, as `tbc asm` takes it.
use Rattle.std.specs.Prelude.{◌≡◌, ◌⊎◌, ℕ, ◌+◌, ◌%◌, Bool, true, false, ◌||◌, Option, Some, None, List, [], ◌∷◌, ◌++◌, codes, flat_map, length, nat_lt, nat_le, if◌then◌else◌}
use Rattle.tb_words.specs.Hexadecimal.{two_digits, four_digits}
use Rattle.tb_opcodes.specs.declared.Mnemonic.{Mnemonic}
use Rattle.tb_opcodes.specs.declared.Mode.{Mode}
use Rattle.tb_opcodes.specs.declared.Mode.TheVariants.{Relative}
use Rattle.tb_asm.specs.declared.items.Operand.{Operand}
use Rattle.tb_asm.specs.declared.items.Operand.TheVariants.{Word}
use Rattle.tb_asm.specs.Assembled.{refusal}
use Rattle.tb_asm.specs.Layout.{Entry, instr, distance, image_of, opcode_of}
use Rattle.tb_asm.specs.Mnemonics.{name_of}
use Rattle.tb_disasm.specs.Back.{GivesBack}
use Rattle.tb_disasm.specs.Listing.{lines_of}
use Rattle.tb_disasm.specs.ListingText.{address_text, item_text, text_of}
use Rattle.tb_assembly_dialects.specs.Places.{View, has_label, target_of, view_below}

-- whether a branch at `a` leads past an end of the memory, which not every assembler takes
abbrev pub leads_around : ℕ → Mode → ℕ → Bool
leads_around a Relative to = nat_lt (to + 128) (a + 2) || nat_le (a + 2 + 128) to
leads_around a m to = false

-- the name of an address
abbrev pub label_name : ℕ → List ℕ
label_name a = codes "at" ++ four_digits a []

-- the two bytes of a branch at `a`
abbrev pub branch_bytes : Mnemonic → ℕ → ℕ → List ℕ
branch_bytes n a to = codes ".byte $" ++ two_digits (opcode_of n Relative) (codes ",$" ++ two_digits (distance a to) (codes " "))

-- an instruction that jumps, by the name of its target, if that has one; else as it is
abbrev pub by_name : View → Mnemonic → Option ℕ → List ℕ → List ℕ
by_name v n None plain = plain
by_name v n (Some to) plain = if has_label v to then name_of n ++ codes " " ++ label_name to ++ codes " " else plain

-- an item at `a`: a branch past an end of the memory as bytes
abbrev pub item_named : View → ℕ → Entry → List ℕ
item_named v a (instr n m (Word w)) =
    if leads_around a m w then branch_bytes n a w else by_name v n (target_of (instr n m (Word w))) (item_text (instr n m (Word w)) [])
item_named v a e = item_text e []

-- the label of a line, if it has one
abbrev pub label_line : View → ℕ → List ℕ
label_line v a = if has_label v a then label_name a ++ 58 ∷ 10 ∷ [] else []

-- a line below its label
abbrev pub line_named : View → ℕ × Entry → List ℕ
line_named v l = label_line v l.0 ++ codes "  " ++ item_named v l.0 l.1 ++ address_text l.0 ++ 10 ∷ []

-- the lines of a listing whose addresses lie below `end`
abbrev pub text_named : ℕ → List (ℕ × Entry) → List ℕ
text_named end lines = flat_map (line_named (view_below end lines)) lines

-- the listing of bytes with labels, and the one without
abbrev pub named : ℕ → List ℕ → List ℕ
named at bs = text_named (at + length bs) (lines_of at bs)

abbrev pub plain : ℕ → List ℕ → List ℕ
plain at bs = text_of (lines_of at bs)

-- items assemble at an address, without a refusal, to bytes
pub record AssembleTo (at : ℕ) (bs : List ℕ) (items : List Entry) : Type 0 where
  pub accepted : refusal at items ≡ None
  pub same : image_of at items ≡ bs

-- The listing with labels, if it assembles to the bytes; else the one without. No program is known of which the one with
-- labels does not.
abbrev pub IsNamed : ℕ → List ℕ → List ℕ → Type 0
IsNamed at bs text =
    ((text ≡ named at bs) × GivesBack at (named at bs) bs) ⊎ ((text ≡ plain at bs) × ¬ (GivesBack at (named at bs) bs))
