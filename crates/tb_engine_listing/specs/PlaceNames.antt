-- The names of addresses: of those that every program has, of lines, and of what pieces name.
use Rattle.std.specs.Prelude.{ℕ, ◌+◌, ◌-◌, ◌/◌, ◌%◌, Bool, true, false, not, ◌&&◌, ◌||◌, Option, Some, None, is_some, List, [], ◌∷◌, ◌++◌, codes}
use Rattle.std.specs.Prelude.{length, replicate, nat_lt, nat_le, eqb, get_or, set, if◌then◌else◌}
use Rattle.std.specs.Fmt.{decimal}
use Rattle.tb_words.specs.Hexadecimal.{four_digits}
use Rattle.tb_kernal.specs.Numbers.{CHRIN, CHROUT, GETIN}
use Rattle.tb_compiled_kept.specs.Addresses.{BYTE, COLUMN, COUNT, HELD, HOME_S, LEFT, LENGTH, LINE, LINES_AT, NOTES, OPEN, RESULT, RETURN_HIGH, RETURN_LOW, RIGHT, SCRATCH, SEED, SEEDED, SLOTS, VARS, WANTED}
use Rattle.tb_runtime16.specs.Addresses.{PROLOGUE_AT, SEND_AT, entry_of}
use Rattle.tb_runtime16.specs.declared.addresses.Routine.{Routine}
use Rattle.tb_engine_listing.specs.declared.marks.Mark.{Mark}
use Rattle.tb_engine_listing.specs.declared.pieces.Kind.{Kind}
use Rattle.tb_engine_listing.specs.declared.pieces.Kind.TheVariants.{Data}
use Rattle.tb_engine_listing.specs.declared.pieces.Named.{Named}
use Rattle.tb_engine_listing.specs.declared.pieces.Named.TheVariants.{Nothing, Whole, Low, High}
use Rattle.tb_engine_listing.specs.Bytes.{back}
use Rattle.tb_engine_listing.specs.Labels.{all_routines, name_of as routine_name_of}
use Rattle.tb_engine_listing.specs.Pieces.{Plan, Row, past, search}

-- ── what is known of the addresses of an image ──
-- nothing begins there, and nothing names it
abbrev pub no_mark : Mark
no_mark = record { begins = None; is_named = false }

-- the offset of an address in the image; an address below the image has one after its end
abbrev pub offset_of : ℕ → ℕ
offset_of at = back at PROLOGUE_AT

-- an address as one where a piece of a kind begins
abbrev pub begun : Kind → ℕ → List Mark → List Mark
begun k at marks =
    if nat_lt (offset_of at) (length marks) then set marks (offset_of at) (record (get_or marks (offset_of at) no_mark) { begins = Some k }) else marks

-- an address as one that is named
abbrev pub named : ℕ → List Mark → List Mark
named at marks =
    if nat_lt (offset_of at) (length marks) then set marks (offset_of at) (record (get_or marks (offset_of at) no_mark) { is_named = true }) else marks

-- the address that is named, if one is
abbrev pub address_named : Named → Option ℕ
address_named Nothing = None
address_named (Whole a) = Some a
address_named (Low a) = Some a
address_named (High a) = Some a

-- an address as one that is named, if there is one
abbrev pub named_if : Option ℕ → List Mark → List Mark
named_if None marks = marks
named_if (Some a) marks = named a marks

-- what a piece tells
abbrev pub marked : List Mark → Row → List Mark
marked marks r = named_if (address_named r.named) (begun r.kind r.at marks)

-- what pieces tell
abbrev pub marked_all : List Mark → List Row → List Mark
marked_all marks [] = marks
marked_all marks (r ∷ rows) = marked_all (marked marks r) rows

-- a mark for each address of an image of this length
abbrev pub marks_of : ℕ → List Row → List Mark
marks_of n rows = marked_all (replicate n no_mark) rows

-- the mark of an address; outside the image no piece begins
abbrev pub mark_at : List Mark → ℕ → Mark
mark_at marks at = get_or marks (offset_of at) no_mark

-- ── names of places ──
-- the number of the line whose code begins at an address
abbrev pub line_at : List (ℕ × ℕ) → ℕ → Option ℕ
line_at [] at = None
line_at (s ∷ starts) at = if eqb s.1 at then Some s.0 else line_at starts at

-- the name of a routine that begins at an address, by a list of routines; empty if none does
abbrev pub routine_at : List Routine → ℕ → List ℕ
routine_at [] at = []
routine_at (r ∷ rs) at = if eqb (entry_of r) at then routine_name_of r else routine_at rs at

-- the name of an address that every program has; empty for any other address
abbrev pub own_name : Plan → ℕ → List ℕ
own_name p at =
    if eqb at PROLOGUE_AT then codes "prologue" else
    if eqb at SEND_AT then codes "send" else
    if eqb at (past p) then codes "past" else
    if eqb at (search p) then codes "find" else
    if eqb at p.table then codes "line_table" else routine_at all_routines at

-- whether a text is empty
abbrev pub is_empty : List ℕ → Bool
is_empty bs = eqb (length bs) 0

-- whether a line begins at an address, which has no name of its own then
abbrev pub is_line : Plan → ℕ → Bool
is_line p at = is_empty (own_name p at) && is_some (line_at p.starts at)

-- whether the piece at an address has a label above it: the address has a name of its own, or is named by a piece
abbrev pub has_label : Plan → List Mark → ℕ → Bool
has_label p marks at = (mark_at marks at).is_named || not (is_empty (own_name p at))

-- the prefix of a name in data: of routines or of lines
abbrev pub data_name : ℕ → List ℕ
data_name at = if nat_lt at LINES_AT then codes "data" else codes "text"

-- the prefix of a name that is built from an address: in the code, or in the data of routines or lines
abbrev pub inner_name : Option Kind → ℕ → List ℕ
inner_name (Some Data) at = data_name at
inner_name k at = codes "at"

-- the name of an address where a line begins, or else a piece within one
abbrev pub name_of_start : Option ℕ → List ℕ → ℕ → List ℕ
name_of_start (Some n) inner at = codes "line" ++ decimal n
name_of_start None inner at = inner ++ four_digits at []

-- the name of an address of the image
abbrev pub name_of : Plan → List Mark → ℕ → List ℕ
name_of p marks at =
    if is_empty (own_name p at) then name_of_start (line_at p.starts at) (inner_name (mark_at marks at).begins at) at else own_name p at

-- ── names of addresses outside the image ──
-- an offset, if it isn't 0
abbrev pub offset_text : ℕ → List ℕ
offset_text n = if eqb n 0 then [] else codes "+" ++ decimal n

-- the name of a byte or of a word's low byte; empty if it has none
abbrev pub outside_name : ℕ → List ℕ
outside_name at =
    if eqb at LEFT then codes "left" else if eqb at RIGHT then codes "right" else
    if eqb at COLUMN then codes "column" else if eqb at OPEN then codes "open" else
    if eqb at SEEDED then codes "seeded" else if eqb at HOME_S then codes "home_s" else
    if eqb at SEED then codes "seed" else if eqb at LINE then codes "line" else
    if eqb at NOTES then codes "notes" else if eqb at HELD then codes "held" else
    if eqb at RESULT then codes "result" else if eqb at WANTED then codes "wanted" else
    if eqb at COUNT then codes "count" else if eqb at LENGTH then codes "length" else
    if eqb at BYTE then codes "byte" else if eqb at RETURN_LOW then codes "note_low" else
    if eqb at RETURN_HIGH then codes "note_high" else if eqb at CHRIN then codes "chrin" else
    if eqb at CHROUT then codes "chrout" else if eqb at GETIN then codes "getin" else []

-- the name of an address, or of the word whose high byte is there
abbrev pub word_name : ℕ → List ℕ
word_name at =
    if not (is_empty (outside_name at)) then codes "  " ++ outside_name at else
    if not (is_empty (outside_name (back at 1))) then codes "  " ++ outside_name (back at 1) ++ offset_text 1 else []

-- the name of a variable, by an offset among the variables
abbrev pub variable_text : ℕ → List ℕ
variable_text n = codes "  var" ++ ((65 + n / 2) ∷ []) ++ offset_text (n % 2)

-- two spaces and the name of an address outside the image, if it has one
abbrev pub outside_text : ℕ → List ℕ
outside_text at =
    if nat_le VARS at && nat_lt at (VARS + 52) then variable_text (at - VARS) else
    if nat_le SLOTS at && nat_lt at (SLOTS + 32) then codes "  slots" ++ offset_text (at - SLOTS) else
    if nat_le SCRATCH at && nat_lt at 0xC080 then codes "  scratch" ++ offset_text (at - SCRATCH) else word_name at
