-- Which lines no transcript reached, as a text and as a page.
use Rattle.std.specs.Prelude.{ℕ, ◌*◌, ◌/◌, ◌++◌, List, [], ◌∷◌, codes, flat_map, length, nat_eq, nat_lt, string_bytes, if◌then◌else◌}
use Rattle.std.specs.Fmt.{decimal}
use Rattle.tb_engine_profile_table.specs.Cells.{escaped}
use Rattle.tb_basic_source.specs.Lines.{last_of, numbered}
use Rattle.tb_engine_test.specs.Reaching.{reached_in}
use Rattle.tb_engine_test.specs.declared.covering.Coverage.{Coverage}
use Rattle.tb_engine_test.specs.declared.page.TheConstants.{BEGUN, FOOT, HEAD, LINE, LINE_END, NEVER, NOT_REACHED, ROWS, ROWS_END, SECTION, SHARE}
use Rattle.tb_engine_test.specs.declared.reaching.Reach.{Reach}

-- a source by its name, its text, and how often its lines were begun
pub record Covered : Type 0 where
  pub name : List ℕ
  pub source : List ℕ
  pub lines : List Reach

-- what a coverage says
abbrev pub covered_of : Coverage → Covered
covered_of c = record { name = string_bytes c.name; source = c.source.items; lines = c.lines.items }

-- how many of a hundred lines were reached; all if there are none
abbrev pub share : ℕ → ℕ → ℕ
share reached all = if nat_eq all 0 then 100 else reached * 100 / all

-- so many of all lines, and their share
abbrev pub share_words : ℕ → ℕ → ℕ → List ℕ
share_words reached all share =
    decimal reached ++ (codes " of " ++ (decimal all ++ (codes " lines reached (" ++ (decimal share ++ codes " %)"))))

-- how many lines were reached, in words
abbrev pub share_text : ℕ → ℕ → List ℕ
share_text reached all = share_words reached all (share reached all)

-- the number of a line that was never begun, behind a space
abbrev pub missed : Reach → List ℕ
missed r = if nat_eq r.times 0 then codes " " ++ decimal r.number else []

-- pieces, one after the other
abbrev pub joined : List (List ℕ) → List ℕ
joined pieces = flat_map (λ p. p) pieces

-- what stands before the numbers of the lines that were not reached; nothing if there are none
abbrev pub missed_words : List Reach → List ℕ
missed_words lines = if nat_lt (reached_in lines) (length lines) then NOT_REACHED.now else []

-- what is told of a source, by its parts
abbrev pub source_line : (name share words missed : List ℕ) → List ℕ
source_line name share words missed = joined (name ∷ codes ": " ∷ share ∷ words ∷ missed ∷ codes "\n" ∷ [])

-- what is told of a source: how many of its lines were reached, and which were not
abbrev pub source_text : Covered → List ℕ
source_text c = source_line c.name (share_text (reached_in c.lines) (length c.lines)) (missed_words c.lines) (flat_map missed c.lines)

-- how the row of a line begins, by how often the line was begun
abbrev pub opening_of : ℕ → List ℕ
opening_of times = if nat_eq times 0 then NEVER.now else BEGUN.now

-- the row of a line: how often it was begun, and the line
abbrev pub line_row : List (ℕ × List ℕ) → Reach → List ℕ
line_row written r =
    joined (opening_of r.times ∷ decimal r.times ∷ LINE.now ∷ flat_map escaped (last_of [] r.number written) ∷ LINE_END.now ∷ [])

-- the rows of the lines of a source
abbrev pub source_rows : Covered → List ℕ
source_rows c = flat_map (line_row (numbered c.source)) c.lines

-- the part of a page that shows a source
abbrev pub section : Covered → List ℕ
section c =
    joined
    (SECTION.now ∷ flat_map escaped c.name ∷ SHARE.now ∷ share_text (reached_in c.lines) (length c.lines) ∷ ROWS.now ∷ source_rows c ∷ ROWS_END.now ∷ [])

-- the page of sources
abbrev pub coverage_page : List Covered → List ℕ
coverage_page sources = joined (HEAD.now ∷ flat_map section sources ∷ FOOT.now ∷ [])
