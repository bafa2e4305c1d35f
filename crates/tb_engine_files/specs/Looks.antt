-- What files look like that a command may replace.
use Rattle.std.specs.Prelude.{ℕ, Bool, true, false, not, if◌then◌else◌, ◌==◌, ◌&&◌, ◌||◌, nat_eq, nat_le, ◌/◌, ◌%◌, List, [], ◌∷◌, ◌++◌, codes, drop, length, take, Option, Some, None}
use Rattle.std.specs.Char.{is_ascii_hexdigit}
use Rattle.std.specs.List.{list_all, starts_with}
use Rattle.tb_engine_files.specs.Names.{ends_as, prg_ending}
use Rattle.tb_engine_files.specs.Numbers.{IMAGE_SIZE, MOST_PRG}
use Rattle.tb_engine_files.specs.declared.looks.Kind.{Kind}
use Rattle.tb_engine_files.specs.declared.looks.Kind.TheVariants.{Program, Code, Image, Labels, Listing, Map, Watch, Page, Keys, Transcript}
use Rattle.tb_engine_files.specs.declared.looks.Look.{Look}
use Rattle.tb_engine_files.specs.declared.looks.Row.{Row}
use Rattle.tb_engine_files.specs.declared.looks.Row.TheVariants.{Begins, Indented, Lacks, Whole}

-- a file begins with these bytes
abbrev pub begins : Look → List ℕ → Bool
begins look head = starts_with nat_eq look.beginning.items head

-- the load address $0801, and the BASIC line `10 SYS2061`
abbrev pub program_head : List ℕ
program_head = 1 ∷ 8 ∷ 11 ∷ 8 ∷ 10 ∷ 0 ∷ 158 ∷ codes "2061" ++ 0 ∷ 0 ∷ 0 ∷ []

-- a byte that a text may have: a character of ASCII, a tabulator or a line end
abbrev pub is_text_byte : ℕ → Bool
is_text_byte b = (b == 9) || ((b == 10) || ((b == 13) || (nat_le 32 b && nat_le b 126)))

-- a byte that a key file may have: a hexadecimal digit or a line end
abbrev pub is_key_byte : ℕ → Bool
is_key_byte b = (b == 10) || ((b == 13) || is_ascii_hexdigit b)

-- a text goes on with the address of an instruction: ` ; C000`
abbrev pub is_row : List ℕ → Bool
is_row text = nat_le 7 (length text) && (starts_with nat_eq text (codes " ; ") && list_all is_ascii_hexdigit (take 4 (drop 3 text)))

-- somewhere in a text an instruction has its address
abbrev pub has_address : List ℕ → Bool
has_address [] = false
has_address (b ∷ bs) = is_row (b ∷ bs) || has_address bs

-- how far a line of a listing is, after a byte with which the rest of the text begins: an instruction is indented, and lacks its
-- address until that comes; a directive may have none
abbrev pub after : Row → List ℕ → ℕ → Row
after Begins text b = if b == 32 then Indented else Whole
after Indented text b = if b == 32 then Indented else (if b == 46 then Whole else Lacks)
after Lacks text b = if is_row text then Whole else Lacks
after Whole text b = Whole

-- a line lacks its address
abbrev pub lacks : Row → Bool
lacks Lacks = true
lacks Begins = false
lacks Indented = false
lacks Whole = false

-- each instruction of a text has its address; the last line may be cut off
abbrev pub are_rows : Row → List ℕ → Bool
are_rows row [] = true
are_rows row (b ∷ bs) = if b == 10 then not (lacks row) && are_rows Begins bs else are_rows (after row (b ∷ bs) b) bs

-- bytes begin with an address, low byte first, if it is known
abbrev pub loads_at : List ℕ → Option ℕ → Bool
loads_at bytes (Some at) = starts_with nat_eq bytes (at % 256 ∷ at / 256 ∷ [])
loads_at bytes None = nat_le 2 (length bytes)

-- a file may be a PRG file: it is no text, and no longer than the memory with a load address
abbrev pub is_code : Look → Option ℕ → Bool
is_code look at = nat_le look.size MOST_PRG && (loads_at look.beginning.items at && not (list_all is_text_byte look.beginning.items))

-- the kind of an assembled PRG file: any one where its name ends in `.prg`, else one of its address
abbrev pub code_kind : List ℕ → Option ℕ → Kind
code_kind path at = if ends_as path prg_ending then Code None else Code at

-- a file that is not empty looks like one of a kind
abbrev pub has_look : Kind → Look → Bool
has_look Program look = begins look program_head
has_look (Code at) look = is_code look at
has_look Image look = look.size == IMAGE_SIZE
has_look Labels look = begins look (codes "al C:")
has_look Listing look = has_address look.beginning.items && are_rows Begins look.beginning.items
has_look Map look = begins look (codes "part        addr   bytes    cost\n")
has_look Watch look = begins look (codes "; For VICE's monitor: it stops where a ROM writes ")
has_look Page look = begins look (codes "<!DOCTYPE html>\n<html lang=\"en\">\n<head>\n<meta charset=\"utf-8\">\n")
has_look Keys look = list_all is_key_byte look.beginning.items
has_look Transcript look = begins look (codes "# ")

-- a file looks like one of a kind; an empty one does, since nothing is lost with it
abbrev pub looks_like : Kind → Look → Bool
looks_like kind look = (look.size == 0) || has_look kind look
