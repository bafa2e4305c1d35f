-- The canonical text of a transcript.
use Rattle.std.specs.Prelude.{ℕ, ◌==◌, ◌||◌, Bool, true, false, List, [], ◌∷◌, ◌++◌, map, flat_map, Option, Some, None, if◌then◌else◌}
use Rattle.std.specs.Option.{is_some}
use Rattle.std.specs.Fmt.{decimal}
use Rattle.tb_engine_transcripts.specs.Contents.{Content}
use Rattle.tb_engine_transcripts.specs.Marks.{behind}
use Rattle.tb_engine_transcripts.specs.declared.marks.TheConstants.{ESCAPE, OPTION, TYPED}
use Rattle.tb_engine_transcripts.specs.declared.options.TheConstants as word
use Rattle.tb_engine_transcripts.specs.declared.transcript.RunEnd.{RunEnd}
use Rattle.tb_engine_transcripts.specs.declared.transcript.RunEnd.TheVariants.{Fault, Returned, Runs, Waits}
use Rattle.tb_engine_transcripts.specs.declared.transcript.RunOptions.{RunOptions}

-- a line with its end
abbrev pub ended : List ℕ → List ℕ
ended line = line ++ 10 ∷ []

-- ---- the header

-- the line of an option that has a number, if it is asked for
abbrev pub number_lines : List ℕ → Option ℕ → List (List ℕ)
number_lines name None = []
number_lines name (Some n) = (OPTION.now ++ name ++ decimal n) ∷ []

-- the line of an option that has none
abbrev pub flag_lines : List ℕ → Bool → List (List ℕ)
flag_lines name false = []
flag_lines name true = (OPTION.now ++ name) ∷ []

-- the lines of options, in their order
abbrev pub option_lines : RunOptions → List (List ℕ)
option_lines o =
    number_lines word.SEED.now o.seed
    ++ flag_lines word.FIT.now o.fits
    ++ flag_lines word.PETSCII.now o.signs
    ++ number_lines word.LIMIT.now o.limit
    ++ number_lines word.RUDE.now o.rude

-- the text of an end
abbrev pub end_text : RunEnd → List ℕ
end_text Returned = word.ENDS.now
end_text Waits = word.WAITS.now
end_text Runs = word.RUNS.now
end_text (Fault code line) = word.FAULT.now ++ decimal code ++ word.AT.now ++ decimal line

-- the line of an end
abbrev pub end_line : RunEnd → List ℕ
end_line e = OPTION.now ++ end_text e

-- ---- what was sent

-- one more byte at the front of the first piece
abbrev pub longer : ℕ → List (List ℕ) → List (List ℕ)
longer b [] = (b ∷ []) ∷ []
longer b (piece ∷ pieces) = (b ∷ piece) ∷ pieces

-- what stands between the bytes 10 of a text, before the first and behind the last
unfoldable pub pieces : List ℕ → List (List ℕ)
pieces [] = [] ∷ []
pieces (b ∷ text) = if b == 10 then [] ∷ pieces text else longer b (pieces text)

-- a line that would be read as something else
abbrev pub needs_escape : List ℕ → Bool
needs_escape line = is_some (behind OPTION.now line) || is_some (behind TYPED.now line) || is_some (behind ESCAPE.now line)

-- a line that was sent, with `\` before it if need be
abbrev pub marked : List ℕ → List ℕ
marked line = if needs_escape line then ESCAPE.now ++ line else line

-- the lines of what was sent before a line that was typed
abbrev pub sent_lines : List ℕ → List (List ℕ)
sent_lines [] = []
sent_lines (b ∷ sent) = map marked (pieces (b ∷ sent))

-- the lines of a turn
abbrev pub turn_lines : List ℕ × List ℕ → List (List ℕ)
turn_lines t = sent_lines t.0 ++ (TYPED.now ++ t.1) ∷ []

-- the last piece of what was sent last: nothing behind a line's end, else a line that says that it has none
abbrev pub open_lines : List ℕ → List (List ℕ)
open_lines [] = []
open_lines (b ∷ piece) = marked (b ∷ piece) ∷ ESCAPE.now ∷ []

-- the lines of what was sent last, by its pieces
abbrev pub last_lines : List (List ℕ) → List (List ℕ)
last_lines [] = []
last_lines (piece ∷ []) = open_lines piece
last_lines (piece ∷ next ∷ pieces) = marked piece ∷ last_lines (next ∷ pieces)

-- ---- the whole

-- the lines below the header
abbrev pub output_lines : Content → List (List ℕ)
output_lines c = flat_map turn_lines c.turns ++ last_lines (pieces c.last)

-- all lines
abbrev pub lines_of : Content → List (List ℕ)
lines_of c = option_lines c.options ++ end_line c.end ∷ output_lines c

-- the text below the header
abbrev pub output_text : Content → List ℕ
output_text c = flat_map ended (output_lines c)

-- the canonical text
abbrev pub text_of : Content → List ℕ
text_of c = flat_map ended (lines_of c)
