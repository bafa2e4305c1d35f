-- How cells of the machine's screen look at a terminal.
use Rattle.std.specs.Prelude.{◌≡◌, ℕ, ◌%◌, Bool, nat_le, List, take, drop, codes}
use Rattle.std.specs.List.{slice_index_or}
use Rattle.tb_machine_screen.specs.declared.cells.Cell.{Cell}
use Rattle.tb_machine_screen.specs.declared.colours.Colour.{Colour}
use Rattle.tb_machine_screen.specs.declared.colours.Colour.TheVariants.{Black, White, Red, Cyan, Purple, Green, Blue, Yellow, Orange, Brown, LightRed, DarkGrey, Grey, LightGreen, LightBlue, LightGrey}
use Rattle.tb_machine_screen.specs.declared.colours.CharacterSet.{CharacterSet}
use Rattle.tb_machine_screen.specs.declared.colours.CharacterSet.TheVariants.{Graphics, Letters}
use Rattle.tb_machine_screen.specs.declared.glyphs.TheConstants.{GRAPHICS, LETTERS}
use Rattle.tb_machine_screen.specs.declared.strokes.Pen.{Pen}

-- the character of a screen code, without its highest bit
unfoldable pub glyph_of : ℕ → CharacterSet → ℕ
glyph_of code Graphics = slice_index_or GRAPHICS (code % 128) 0
glyph_of code Letters = slice_index_or LETTERS (code % 128) 0

-- the codes of marks and digits look as in ASCII
abbrev pub MarksLookAlike : List ℕ → Type 0
MarksLookAlike table = take 32 (drop 32 table) ≡ codes " !\"#$%&'()*+,-./0123456789:;<=>?"

-- and so do those of letters; the other codes of both tables are graphics
abbrev pub TextsLookAlike : Type 0
TextsLookAlike =
    (take 27 GRAPHICS ≡ codes "@ABCDEFGHIJKLMNOPQRSTUVWXYZ") × MarksLookAlike GRAPHICS
    × (take 27 LETTERS ≡ codes "@abcdefghijklmnopqrstuvwxyz") × MarksLookAlike LETTERS × (take 26 (drop 65 LETTERS) ≡ codes "ABCDEFGHIJKLMNOPQRSTUVWXYZ")

-- the terminal's colour for one of the machine
unfoldable pub fore_of : Colour → ℕ
fore_of Black = 16
fore_of White = 231
fore_of Red = 88
fore_of Cyan = 116
fore_of Purple = 96
fore_of Green = 71
fore_of Blue = 19
fore_of Yellow = 227
fore_of Orange = 94
fore_of Brown = 58
fore_of LightRed = 167
fore_of DarkGrey = 239
fore_of Grey = 243
fore_of LightGreen = 157
fore_of LightBlue = 63
fore_of LightGrey = 249

-- the pen for a colour of the machine, reversed or not
abbrev pub pen_for : Colour → Bool → Pen
pen_for colour reverse = record { fore = fore_of colour; reverse = reverse }

-- the pen of a cell: its highest bit reverses it
abbrev pub pen_of : Cell → Pen
pen_of cell = pen_for cell.colour (nat_le 128 cell.code)
