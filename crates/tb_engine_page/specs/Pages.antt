-- The page of a program, in HTML.
use Rattle.std.specs.Prelude.{ℕ, List, [], ◌∷◌, ◌++◌, codes, flat_map, nat_le, Option, Some, None, unwrap_or, if◌then◌else◌}
use Rattle.std.specs.Fmt.{decimal}
use Rattle.std.specs.Path.{path_file_stem}
use Rattle.hex.specs.Hex.{encode_lower}
use Rattle.tb_machine_screen.specs.declared.glyphs.TheConstants.{GRAPHICS, LETTERS}
use Rattle.tb_basic_source.specs.Lines.{last_of, numbered}
use Rattle.tb_compiled.specs.Compiled.{prg_of, starts_of}
use Rattle.tb_compiled.specs.declared.compiled.Compiled.{Compiled}
use Rattle.tb_engine_profile_table.specs.Cells.{escaped}
use Rattle.tb_words.specs.Hexadecimal.{four_digits}
use Rattle.tb_engine_page.specs.declared.texts.TheConstants.{HEAD, STYLE, MIDDLE, PROGRAM, CHARACTERS, LINES, FOOT}

-- the title of a page: the one that is asked for, or else the last part of the file's path without its ending
abbrev pub title_of : Option (List ℕ) → List ℕ → List ℕ
title_of (Some title) path = title
title_of None path = unwrap_or (path_file_stem path) path

-- pieces, one after the other
abbrev pub joined : List (List ℕ) → List ℕ
joined pieces = flat_map (λ p. p) pieces

-- a byte of a title: one of a character above 127 stays, another one is escaped if HTML would read it otherwise
abbrev pub titled_byte : ℕ → List ℕ
titled_byte b = if nat_le 128 b then b ∷ [] else escaped b

-- a title
abbrev pub titled : List ℕ → List ℕ
titled title = flat_map titled_byte title

-- a character by its number
abbrev pub reference : ℕ → List ℕ
reference c = codes "&#" ++ decimal c ++ codes ";"

-- the characters of the screen codes 0 to 127, of the set of capitals and graphics and then of that of small letters
abbrev pub characters : List ℕ
characters = flat_map reference GRAPHICS ++ flat_map reference LETTERS

-- a text, each of its bytes escaped if need be
abbrev pub escaped_text : List ℕ → List ℕ
escaped_text text = flat_map escaped text

-- the row of a line: its number, the address where its code begins, and its text in HTML
abbrev pub line_row : ℕ × ℕ → List ℕ → List ℕ
line_row start shown =
    joined (codes "<li value=\"" ∷ decimal start.0 ∷ codes "\" data-at=\"" ∷ four_digits start.1 [] ∷ codes "\">" ∷ shown ∷ codes "</li>\n" ∷ [])

-- the row of a line whose text is that of its number among these lines
abbrev pub row_in : List (ℕ × List ℕ) → ℕ × ℕ → List ℕ
row_in lines start = line_row start (escaped_text (last_of [] start.0 lines))

-- the rows of a source's lines, which begin at these places
abbrev pub source_rows : List ℕ → List (ℕ × ℕ) → List ℕ
source_rows source starts = flat_map (row_in (numbered source)) starts

-- the page: fixed texts, and between them the title, the first state of RND, the PRG file, the characters and the rows
abbrev pub page_of : (title seed prg rows : List ℕ) → List ℕ
page_of title seed prg rows =
    joined
    (HEAD.now ∷ titled title ∷ STYLE.now ∷ titled title ∷ MIDDLE.now ∷ seed ∷ PROGRAM.now ∷ encode_lower prg ∷ CHARACTERS.now ∷ characters
    ∷ LINES.now ∷ rows ∷ FOOT.now ∷ [])

-- the page of the program that a source was compiled to with a first state of RND
abbrev pub source_page : List ℕ → ℕ → List ℕ → Compiled → List ℕ
source_page title seed source program = page_of title (decimal seed) (prg_of program) (source_rows source (starts_of program))
