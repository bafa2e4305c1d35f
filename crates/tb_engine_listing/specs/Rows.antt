-- The listing with names, row by row.
use Rattle.std.specs.Prelude.{ℕ, suc, ◌+◌, ◌*◌, ◌||◌, not, Option, Some, None, is_some, List, [], ◌∷◌, ◌++◌, codes, map, flat_map, take, drop, length}
use Rattle.std.specs.Prelude.{eqb, nat_le, if◌then◌else◌}
use Rattle.tb_words.specs.Hexadecimal.{two_digits, four_digits}
use Rattle.tb_opcodes.specs.declared.Mnemonic.{Mnemonic}
use Rattle.tb_opcodes.specs.declared.Mode.{Mode}
use Rattle.tb_opcodes.specs.declared.Mode.TheVariants.{Immediate, Relative, Absolute, AbsoluteX, AbsoluteY, Indirect}
use Rattle.tb_asm.specs.Layout.{Entry, instr}
use Rattle.tb_asm.specs.Mnemonics as mnemonics
use Rattle.tb_disasm.specs.Listing.{line_at}
use Rattle.tb_disasm.specs.ListingText.{item_text}
use Rattle.tb_basic_source.specs.Lines.{last_of, numbered}
use Rattle.tb_basic_source.specs.ShownBytes.{shown}
use Rattle.tb_engine_listing.specs.declared.labelled.Around.{Around}
use Rattle.tb_engine_listing.specs.declared.marks.Mark.{Mark}
use Rattle.tb_engine_listing.specs.declared.pieces.Kind.TheVariants.{Code, Data, Number, Address}
use Rattle.tb_engine_listing.specs.declared.pieces.Kind.{Kind}
use Rattle.tb_engine_listing.specs.declared.pieces.Named.{Named}
use Rattle.tb_engine_listing.specs.declared.pieces.Named.TheVariants.{Whole, Low, High}
use Rattle.tb_engine_listing.specs.Comments.{comment_row, label_row}
use Rattle.tb_engine_listing.specs.Pieces.{Plan, Row, rows_of, sends_byte}
use Rattle.tb_engine_listing.specs.PlaceNames.{address_named, has_label, is_line, mark_at, marks_of, name_of, outside_text}

-- ── items ──
-- what stands before a name and after it, as contracts see it
abbrev pub pair_of : Around → List ℕ × List ℕ
pair_of around = (around.before.now, around.behind.now)

-- what an instruction of a mode writes before the name of an address and after it, for the whole address or a byte of it;
-- none if it names no address
abbrev pub signs_around : Mode → Named → Option (List ℕ × List ℕ)
signs_around Immediate (Low a) = Some (codes " #<", codes " ")
signs_around Immediate (High a) = Some (codes " #>", codes " ")
signs_around Relative (Whole a) = Some (codes " ", codes " ")
signs_around Absolute (Whole a) = Some (codes " ", codes " ")
signs_around AbsoluteX (Whole a) = Some (codes " ", codes ",X ")
signs_around AbsoluteY (Whole a) = Some (codes " ", codes ",Y ")
signs_around Indirect (Whole a) = Some (codes " (", codes ") ")
signs_around m n = None

-- the name of the address of the image that a piece names, if a piece begins there
abbrev pub name_if_begun : Plan → List Mark → Option ℕ → Option (List ℕ)
name_if_begun p marks None = None
name_if_begun p marks (Some a) = if is_some (mark_at marks a).begins then Some (name_of p marks a) else None

-- the name of the address of the image that a row names, if a piece begins there
abbrev pub named_place : Plan → List Mark → Row → Option (List ℕ)
named_place p marks r = name_if_begun p marks (address_named r.named)

-- an instruction with a name between what stands before it and after it, or as it is without a name
abbrev pub with_name : Mnemonic → Option (List ℕ) → Option (List ℕ × List ℕ) → List ℕ → List ℕ
with_name n None around plain = plain
with_name n (Some name) None plain = plain
with_name n (Some name) (Some around) plain = mnemonics.name_of n ++ around.0 ++ name ++ around.1

-- an item of code
abbrev pub item_named : Plan → List Mark → Row → Entry → List ℕ
item_named p marks r (instr n m o) = with_name n (named_place p marks r) (signs_around m r.named) (item_text (instr n m o) [])
item_named p marks r e = item_text e []

-- the item of a row of code; a row has a byte at least
abbrev pub code_item : Plan → List Mark → Row → List ℕ
code_item p marks r = if eqb (length r.bytes) 0 then [] else item_named p marks r (line_at r.at r.bytes).1

-- bytes with commas between them
abbrev pub bytes_behind : List ℕ → List ℕ → List ℕ
bytes_behind before [] = []
bytes_behind before (b ∷ bs) = (before ++ two_digits b []) ++ bytes_behind (codes ",$") bs

-- `.byte` with its bytes
abbrev pub data_item : List ℕ → List ℕ
data_item bs = bytes_behind (codes ".byte $") bs ++ codes " "

-- `.word` with a number; bytes that are no word are bytes
abbrev pub word_item : List ℕ → List ℕ
word_item (low ∷ high ∷ []) = codes ".word $" ++ four_digits (low + 256 * high) (codes " ")
word_item bs = data_item bs

-- `.word` with a name, or else the number
abbrev pub address_item : Option (List ℕ) → List ℕ → List ℕ
address_item None bs = word_item bs
address_item (Some name) bs = codes ".word " ++ name ++ codes " "

-- the item of a row, by what it is
abbrev pub item_by : Kind → Plan → List Mark → Row → List ℕ
item_by Code p marks r = code_item p marks r
item_by Data p marks r = data_item r.bytes
item_by Number p marks r = word_item r.bytes
item_by Address p marks r = address_item (named_place p marks r) r.bytes

-- ── comments ──
-- each byte in two digits
abbrev pub spaced : List ℕ → List ℕ
spaced bs = flat_map (λ b. codes " " ++ two_digits b []) bs

-- the bytes of a row as its comment has them: data as text, all else in digits
abbrev pub bytes_shown : Kind → List ℕ → List ℕ
bytes_shown Data bs = codes " " ++ bs
bytes_shown k bs = spaced bs

-- the name of an address outside the image that a row names whole
abbrev pub outside_of : Named → List ℕ
outside_of (Whole a) = outside_text a
outside_of n = []

-- the byte that two bytes of code load, as a text
abbrev pub byte_text : List ℕ → List ℕ
byte_text (opcode ∷ b ∷ []) = codes " \"" ++ b ∷ codes "\""
byte_text bs = []

-- the byte that a row of code loads, as a text, if that byte is sent
abbrev pub sent_by : Kind → Plan → Row → List ℕ
sent_by Code p r = if sends_byte p r.at then byte_text r.bytes else []
sent_by k p r = []

-- the content of a row: its item, and as a comment its address, its bytes, a text of one byte that it sends, and a name
-- outside the image
abbrev pub row_content : Plan → List Mark → Row → List ℕ
row_content p marks r =
    item_by r.kind p marks r ++ (codes "; " ++ four_digits r.at (codes " ")) ++ bytes_shown r.kind r.bytes ++ sent_by r.kind p r ++ outside_of r.named

-- ── rows ──
-- a row of two parts, with its end
abbrev pub row_text : List ℕ → List ℕ → List ℕ
row_text front row = map shown front ++ map shown row ++ 10 ∷ []

-- the label of an address, if it has one; that of a line is below its comment
abbrev pub label_text : Plan → List Mark → ℕ → List ℕ
label_text p marks at = if is_line p at || not (has_label p marks at) then [] else row_text (name_of p marks at) (codes ":")

-- a piece below its label
abbrev pub piece_text : Plan → List Mark → Row → List ℕ
piece_text p marks r = label_text p marks r.at ++ row_text (codes "  ") (row_content p marks r)

-- pieces one after another
abbrev pub pieces_text : Plan → List Mark → List Row → List ℕ
pieces_text p marks rows = flat_map (piece_text p marks) rows

-- how many of the first pieces lie before an address
abbrev pub count_before : ℕ → List Row → ℕ
count_before at [] = 0
count_before at (r ∷ rows) = if nat_le at r.at then 0 else suc (count_before at rows)

-- the comment of a line, and its label
abbrev pub line_head : List (ℕ × List ℕ) → ℕ → List ℕ
line_head sources n = comment_row (last_of [] n sources) ++ label_row n

-- the pieces before each line, the line's comment and its label
abbrev pub lines_text : Plan → List Mark → List (ℕ × List ℕ) → List (ℕ × ℕ) → List Row → List ℕ
lines_text p marks sources [] rows = pieces_text p marks rows
lines_text p marks sources (s ∷ starts) rows =
    pieces_text p marks (take (count_before s.1 rows) rows) ++ line_head sources s.0 ++ lines_text p marks sources starts (drop (count_before s.1 rows) rows)

-- the listing with names of a source's program
abbrev pub named_text : List ℕ → Plan → List ℕ
named_text source p = lines_text p (marks_of (length p.image) (rows_of p)) (numbered source) p.starts (rows_of p)
