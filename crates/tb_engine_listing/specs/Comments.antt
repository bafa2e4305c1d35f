-- The comments of a listing, and the labels below them.
use Rattle.std.specs.Prelude.{ℕ, ◌≡◌, Bool, false, not, List, [], ◌∷◌, ◌++◌, codes, map, take, ◌==◌, if◌then◌else◌}
use Rattle.std.specs.List.{filter}
use Rattle.std.specs.Fmt.{decimal}
use Rattle.tb_asm.specs.Text.{split_lines}
use Rattle.tb_disasm.specs.Listing.{lines_of}
use Rattle.tb_disasm.specs.ListingText.{text_of}
use Rattle.tb_runtime16.specs.Addresses.{PROLOGUE_AT}
use Rattle.tb_basic_source.specs.Lines.{last_of}
use Rattle.tb_basic_source.specs.ShownBytes.{shown}

-- a line that is a comment and nothing else
abbrev pub is_comment : List ℕ → Bool
is_comment [] = false
is_comment (b ∷ line) = b == 59

-- the lines of a text that are comments
abbrev pub comments : List ℕ → List (List ℕ)
comments text = filter is_comment (split_lines text)

-- what a comment shows of a line: its first 120 bytes
abbrev pub comment : List ℕ → List ℕ
comment line = 59 ∷ 32 ∷ map shown (take 120 line)

-- the comment above a line's code, by the lines of the source
abbrev pub comment_on : List (ℕ × List ℕ) → ℕ × ℕ → List ℕ
comment_on lines start = comment (last_of [] start.0 lines)

-- the listing without names
abbrev pub plain : List ℕ → List ℕ
plain image = text_of (lines_of PROLOGUE_AT image)

-- ── headings: comments, each with the line after it ──
-- the first of some lines
abbrev pub first_line : List (List ℕ) → List ℕ
first_line [] = []
first_line (line ∷ lines) = line

-- the comments among lines, each with the line after it
abbrev pub headings_in : List (List ℕ) → List (List ℕ × List ℕ)
headings_in [] = []
headings_in (line ∷ lines) = if is_comment line then (line, first_line lines) ∷ headings_in lines else headings_in lines

-- the comments of a text, each with the line after it
abbrev pub headings : List ℕ → List (List ℕ × List ℕ)
headings text = headings_in (split_lines text)

-- the label of a line: `line10:`
abbrev pub label_line : ℕ → List ℕ
label_line number = map shown (codes "line" ++ decimal number) ++ 58 ∷ []

-- the heading of a line's code: the line as it was written, and its label
abbrev pub heading_on : List (ℕ × List ℕ) → ℕ × ℕ → List ℕ × List ℕ
heading_on lines start = (comment_on lines start, label_line start.0)

-- ── texts of whole lines ──
-- a comment with its end
abbrev pub comment_row : List ℕ → List ℕ
comment_row line = comment line ++ 10 ∷ []

-- a line's label with its end
abbrev pub label_row : ℕ → List ℕ
label_row number = label_line number ++ 10 ∷ []

-- whether a text begins, and not as a comment does
abbrev pub begins_plainly : List ℕ → Bool
begins_plainly [] = false
begins_plainly (b ∷ text) = not (b == 59)

-- whatever follows, a text has these headings before those of what follows
abbrev pub HasHeadings : List ℕ → List (List ℕ × List ℕ) → Type 0
HasHeadings text hs = (more : List ℕ) → headings (text ++ more) ≡ hs ++ headings more

-- what was appended are whole lines without comments
abbrev pub KeepsHeadings : List ℕ → List ℕ → Type 0
KeepsHeadings old new = (hs : List (List ℕ × List ℕ)) → HasHeadings old hs → HasHeadings new hs
