-- Where a run differs from what was wanted.
use Rattle.std.specs.Prelude.{ℕ, zero, suc, ◌+◌, ◌-◌, ◌==◌, List, [], ◌∷◌, ◌++◌, length, take, drop, flat_map, Option, Some, None, if◌then◌else◌, codes}
use Rattle.std.specs.Fmt.{decimal}
use Rattle.std.specs.Str.{bytes_eq}
use Rattle.tb_basic_text.specs.Lines.{lines_of_file}
use Rattle.tb_engine_transcripts.specs.Comparing.{is_same, is_same_output, same_turns}
use Rattle.tb_engine_transcripts.specs.Contents.{Content}
use Rattle.tb_engine_transcripts.specs.Writing.{end_line, option_lines, output_text}
use Rattle.tb_engine_transcripts.specs.declared.transcript.Difference.{Difference}

-- ---- how far two are alike

-- how many bytes at the front are the same
abbrev pub alike_bytes : List ℕ → List ℕ → ℕ
alike_bytes [] other = 0
alike_bytes (b ∷ one) [] = 0
alike_bytes (b ∷ one) (c ∷ other) = if b == c then suc (alike_bytes one other) else 0

-- how many lines at the front are the same
abbrev pub alike_lines : List (List ℕ) → List (List ℕ) → ℕ
alike_lines [] other = 0
alike_lines (l ∷ one) [] = 0
alike_lines (l ∷ one) (m ∷ other) = if bytes_eq l m then suc (alike_lines one other) else 0

-- what was sent in a turn, or after the last one
abbrev pub sent_in : List (List ℕ × List ℕ) → List ℕ → ℕ → List ℕ
sent_in [] last k = last
sent_in (t ∷ turns) last zero = t.0
sent_in (t ∷ turns) last (suc k) = sent_in turns last k

-- what was sent in a turn of a transcript, or after its last one
abbrev pub sent_at : Content → ℕ → List ℕ
sent_at c k = sent_in c.turns c.last k

-- ---- a hunk

-- the number of a hunk's first line: the one behind as many, or the last of those if there is none
abbrev pub start : ℕ → ℕ → ℕ
start before count = if count == 0 then before else before + 1

-- which lines of a text a hunk has: `7,4`, by how many are before it and how many it has
abbrev pub range_text : ℕ × ℕ → List ℕ
range_text lines = decimal (start lines.0 lines.1) ++ 44 ∷ decimal lines.1

-- the line that a hunk begins with, by the same of both texts
abbrev pub hunk_head : ℕ × ℕ → ℕ × ℕ → List ℕ
hunk_head wanted ran = codes "@@ -" ++ range_text wanted ++ codes " +" ++ range_text ran ++ codes " @@\n"

-- a line with a mark before it
abbrev pub marked : List ℕ → List ℕ → List ℕ
marked mark line = mark ++ line ++ 10 ∷ []

-- a hunk: the number of lines before it in both texts, the lines that are alike, those that are wanted and the run's
abbrev pub hunk : ℕ × ℕ → List (List ℕ) → List (List ℕ) → List (List ℕ) → List ℕ
hunk before context wanted ran =
    hunk_head (before.0, length context + length wanted) (before.1, length context + length ran)
    ++ flat_map (marked (codes " ")) context ++ flat_map (marked (codes "-")) wanted ++ flat_map (marked (codes "+")) ran

-- the hunk where lines first differ behind so many that are alike: three of these, and at most four of each text
abbrev pub hunk_at : ℕ × ℕ → List (List ℕ) → List (List ℕ) → ℕ → List ℕ
hunk_at above wanted ran alike =
    hunk (above.0 + (alike - 3), above.1 + (alike - 3)) (drop (alike - 3) (take alike wanted)) (take 4 (drop alike wanted)) (take 4 (drop alike ran))

-- the hunk where lines first differ, by how many are alike at the front
abbrev pub lines_hunk : ℕ × ℕ → List (List ℕ) → List (List ℕ) → List ℕ
lines_hunk above wanted ran = hunk_at above wanted ran (alike_lines wanted ran)

-- ---- two transcripts

-- the hunk of what was sent and typed: the lines below both headers, with those of the headers above them
abbrev pub output_hunk : Content → Content → List ℕ
output_hunk wanted ran =
    lines_hunk (length (option_lines wanted.options) + 1, length (option_lines ran.options) + 1)
    (lines_of_file (output_text wanted)) (lines_of_file (output_text ran))

-- the hunk of both ends
abbrev pub end_hunk : Content → Content → List ℕ
end_hunk wanted ran =
    hunk (length (option_lines wanted.options), length (option_lines ran.options)) [] (end_line wanted.end ∷ []) (end_line ran.end ∷ [])

-- the hunk of what was sent and typed if it differs, else the hunk of both ends
abbrev pub hunk_of : Content → Content → List ℕ
hunk_of wanted ran = if is_same_output wanted ran then end_hunk wanted ran else output_hunk wanted ran

-- the first turn that differs, how many bytes that were sent there are alike, and the hunk
abbrev pub at_turn : Content → Content → ℕ → ℕ × ℕ × List ℕ
at_turn wanted ran turn = (turn, alike_bytes (sent_at wanted turn) (sent_at ran turn), hunk_of wanted ran)

-- where a run first differs, if it does
abbrev pub difference : Content → Content → Option (ℕ × ℕ × List ℕ)
difference wanted ran = if is_same wanted ran then None else Some (at_turn wanted ran (same_turns wanted.turns ran.turns))

-- a difference that was found
abbrev pub found : Difference → ℕ × ℕ × List ℕ
found d = (d.turn, d.alike, d.text.items)
