-- An image in pieces: the bytes of each row of a listing with names, and the addresses that they name.
use Rattle.std.specs.Prelude.{ℕ, zero, suc, ◌+◌, ◌-◌, ◌*◌, ◌%◌, min, max, Bool, ◌&&◌, ◌||◌, List, [], ◌∷◌, length, take, drop, map, nat_lt, nat_le, eqb}
use Rattle.std.specs.Prelude.{if◌then◌else◌}
use Rattle.tb_opcodes.specs.declared.Mode.{Mode}
use Rattle.tb_opcodes.specs.declared.Mode.TheVariants.{Implied, Accumulator, Immediate}
use Rattle.tb_asm.specs.Layout.{Entry, instr, size_of, number_in}
use Rattle.tb_disasm.specs.Listing.{line_at}
use Rattle.tb_runtime16.specs.Addresses.{PROLOGUE_AT, SEND_AT}
use Rattle.tb_compiled_kept.specs.Addresses.{LINES_AT, RETURN_LOW, WANTED}
use Rattle.tb_runtime16.specs.declared.addresses.Routine.TheVariants.{Push, Text}
use Rattle.tb_compiled.specs.Compiled.{pair_of}
use Rattle.tb_engine_listing.specs.declared.pieces.Kind.{Kind}
use Rattle.tb_engine_listing.specs.declared.pieces.Kind.TheVariants.{Code, Data, Number, Address}
use Rattle.tb_engine_listing.specs.declared.pieces.Named.{Named}
use Rattle.tb_engine_listing.specs.declared.pieces.Named.TheVariants.{Nothing, Whole, Low, High}
use Rattle.tb_engine_listing.specs.declared.pieces.Piece.{Piece}
use Rattle.tb_engine_listing.specs.declared.pieces.Program.{Program}
use Rattle.tb_engine_listing.specs.declared.pieces.Span.{Span}
use Rattle.tb_engine_listing.specs.declared.sizes.TheConstants.{ASKED_SIZE, BLOCK_SIZE, COMPARED_SIZE, FAULT_SIZE, LOOK_UP_SIZE, ROW_SIZE, TOO_MANY_LINES, WORD}
use Rattle.tb_engine_listing.specs.Bytes.{back, forth, last, word_in, pair_in, is_at, is_call}

-- ── a program ──
-- what a listing knows of a program: its image, its lines with the addresses of their code, and where its line table is
pub record Plan : Type 0 where
  pub image : List ℕ
  pub starts : List (ℕ × ℕ)
  pub table : ℕ

-- a program of the code as a plan
abbrev pub plan_of : Program → Plan
plan_of p = record { image = p.image.now; starts = map pair_of p.starts.now; table = p.table }

-- where the search in the line table is, before the table
abbrev pub look_up : Plan → ℕ
look_up p = back p.table LOOK_UP_SIZE

-- where the comparisons with the lines' numbers begin, if there are any
abbrev pub comparisons : Plan → ℕ
comparisons p = back (look_up p) (ASKED_SIZE + COMPARED_SIZE * length p.starts)

-- the bytes of the image from an address on
abbrev pub bytes_from : Plan → ℕ → List ℕ
bytes_from p at = last (length p.image - back at PROLOGUE_AT) p.image

-- whether the number of the line that is sought is loaded here
abbrev pub asks_for_wanted : List ℕ → Bool
asks_for_wanted rest = is_at rest 0 0xAD && (eqb (word_in rest 1) WANTED && (is_at rest 3 0xAE && eqb (word_in rest 4) (WANTED + 1)))

-- where the search for a line is: its comparisons, if it begins with these
abbrev pub search : Plan → ℕ
search p = if nat_lt (length p.starts) TOO_MANY_LINES && asks_for_wanted (bytes_from p (comparisons p)) then comparisons p else look_up p

-- whether a byte is loaded here, and Send is called then
abbrev pub is_sending : List ℕ → Bool
is_sending rest = is_at rest 0 0xA9 && (is_at rest 2 0x20 && (nat_le 5 (length rest) && eqb (word_in rest 3) SEND_AT))

-- whether the code at an address does so
abbrev pub sends_byte : Plan → ℕ → Bool
sends_byte p at = is_sending (bytes_from p at)

-- where fault 7 is, between the last line and the search
abbrev pub past : Plan → ℕ
past p = back (search p) FAULT_SIZE

-- ── the addresses that code names ──
-- after both loads, STA to page zero and JSR Push
abbrev pub hands_to_push : List ℕ → Bool
hands_to_push rest = is_at rest 6 0x85 && is_call rest 8 Push

-- after both loads, STA to page zero, LDA of the length, STA and JSR Text
abbrev pub hands_to_text : List ℕ → Bool
hands_to_text rest = is_at rest 6 0x85 && (is_at rest 8 0xA9 && (is_at rest 10 0x8D && is_call rest 13 Text))

-- whether an address is loaded byte by byte into page zero: for the search, for Push, or for Text
abbrev pub is_load : Plan → ℕ → List ℕ → Bool
is_load p at rest =
    is_at rest 0 0xA9 && (is_at rest 2 0x85 && (is_at rest 4 0xA9 && (nat_le 6 (length rest) && (eqb at (look_up p) || (hands_to_push rest || hands_to_text rest)))))

-- whether the address of the line to return to is loaded byte by byte, each stored in the list of returns
abbrev pub is_load_by_x : List ℕ → Bool
is_load_by_x rest =
    is_at rest 0 0xA9 && (is_at rest 2 0x9D && (eqb (word_in rest 3) RETURN_LOW && (is_at rest 5 0xA9 && (is_at rest 7 0x9D && nat_le 10 (length rest)))))

-- the address of which an immediate operand is a byte, by the code from both loads on
abbrev pub loaded : Plan → ℕ → List ℕ → Named
loaded p at rest =
    if is_load p at rest then Low (pair_in rest 1 5) else
    if is_load_by_x rest then Low (pair_in rest 1 6) else
    if is_load p (back at 4) (last (length rest + 4) p.image) then High (pair_in (last (length rest + 4) p.image) 1 5) else
    if is_load_by_x (last (length rest + 5) p.image) then High (pair_in (last (length rest + 5) p.image) 1 6) else Nothing

-- what an instruction names, by its mode and the number of its operand
abbrev pub named_by_operand : Plan → ℕ → List ℕ → Mode → ℕ → Named
named_by_operand p at rest Immediate n = loaded p at rest
named_by_operand p at rest Implied n = Nothing
named_by_operand p at rest Accumulator n = Nothing
named_by_operand p at rest m n = Whole n

-- what an item names
abbrev pub named_by_entry : Plan → ℕ → List ℕ → Entry → Named
named_by_entry p at rest (instr n m o) = named_by_operand p at rest m (number_in [] o)
named_by_entry p at rest e = Nothing

-- what the first instruction names
abbrev pub named_by_code : Plan → ℕ → List ℕ → Named
named_by_code p at rest = named_by_entry p at rest (line_at at rest).1

-- what the first piece names
abbrev pub named_first : Plan → Kind → ℕ → List ℕ → Named
named_first p Code at rest = named_by_code p at rest
named_first p Address at rest = if nat_le 2 (length rest) then Whole (word_in rest 0) else Nothing
named_first p k at rest = Nothing

-- ── pieces ──
-- the text of a PRINT, if its call of Text is here: the jump after the call leads past the text; else the one before
abbrev pub text_here : Span → ℕ → List ℕ → Span
text_here text at rest =
    if is_call rest 0 Text && (is_at rest 3 0x4C && nat_le 6 (length rest)) then record { from = forth at 6; to = word_in rest 4 } else text

-- where the block ends
abbrev pub block_end : ℕ
block_end = PROLOGUE_AT + BLOCK_SIZE

-- how many bytes of data begin here, by the text that was found last: of a text, and of what lies between the block and
-- the lines; 0 for code and for the line table
abbrev pub data_size : Span → ℕ → ℕ
data_size text at =
    if eqb at text.from then text.to - text.from else
    if eqb at block_end then LINES_AT - block_end else 0

-- what comes first
abbrev pub first_kind : ℕ → Span → ℕ → Kind
first_kind table text at =
    if nat_lt 0 (data_size text at) then Data else
    if nat_lt at table then Code else
    if eqb ((at - table) % ROW_SIZE) 0 then Number else Address

-- how many bytes it has, by what it is
abbrev pub kind_size : Kind → Span → ℕ → List ℕ → ℕ
kind_size Data text at rest = data_size text at
kind_size Code text at rest = size_of (line_at at rest).1
kind_size Number text at rest = WORD
kind_size Address text at rest = WORD

-- that, but at least one, and no more than there are
abbrev pub first_size : Kind → Span → ℕ → List ℕ → ℕ
first_size k text at rest = min (max (kind_size k text at rest) 1) (length rest)

-- a piece: where it lies, its bytes, what it is, and what it names
pub record Row : Type 0 where
  pub at : ℕ
  pub bytes : List ℕ
  pub kind : Kind
  pub named : Named

-- a piece of the code as a row
abbrev pub row_of : Piece → Row
row_of p = record { at = p.at; bytes = p.bytes.now; kind = p.kind; named = p.named }

-- a piece of a kind
abbrev pub row_as : Plan → Kind → Span → ℕ → List ℕ → Row
row_as p k text at rest = record { at = at; bytes = take (first_size k text at rest) rest; kind = k; named = named_first p k at rest }

-- the first piece
abbrev pub first_row : Plan → Span → ℕ → List ℕ → Row
first_row p text at rest = row_as p (first_kind p.table text at) text at rest

-- the pieces of bytes from an address, by the text that was found last; the first number bounds their count
abbrev pub rows_from : ℕ → Plan → Span → ℕ → List ℕ → List Row
rows_from zero p text at rest = []
rows_from (suc k) p text at [] = []
rows_from (suc k) p text at (b ∷ bs) =
    let found = text_here text at (b ∷ bs) in
    let row = first_row p found at (b ∷ bs) in
    row ∷ rows_from k p found (forth at (length row.bytes)) (drop (length row.bytes) (b ∷ bs))

-- no text yet
abbrev pub no_text : Span
no_text = record { from = 0; to = 0 }

-- the pieces of a program's image
abbrev pub rows_of : Plan → List Row
rows_of p = rows_from (length p.image) p no_text PROLOGUE_AT p.image
