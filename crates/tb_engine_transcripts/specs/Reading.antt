-- What the text of a transcript says.
use Rattle.std.specs.Prelude.{◌≡◌, ℕ, ◌+◌, ◌-◌, ◌&&◌, Bool, true, false, List, [], ◌∷◌, ◌++◌, map, length, take, Option, Some, None, unwrap_or, Result, Ok, Err, if◌then◌else◌}
use Rattle.std.specs.Str.{bytes_eq}
use Rattle.tb_basic_text.specs.Lines.{lines_of_file}
use Rattle.tb_engine_transcripts.specs.Contents.{Content, turn_of}
use Rattle.tb_engine_transcripts.specs.Header.{header, nothing, Start}
use Rattle.tb_engine_transcripts.specs.Marks.{behind}
use Rattle.tb_engine_transcripts.specs.declared.header.Header.{Header}
use Rattle.tb_engine_transcripts.specs.declared.marks.TheConstants.{ESCAPE, OPTION, TYPED}
use Rattle.tb_engine_transcripts.specs.declared.reading.Reading.{Reading}
use Rattle.tb_engine_transcripts.specs.declared.reasons.BadLine.{BadLine}
use Rattle.tb_engine_transcripts.specs.declared.reasons.Reason.TheVariants.{BelowOutput}
use Rattle.tb_engine_transcripts.specs.declared.reasons.Unread.{Unread}
use Rattle.tb_engine_transcripts.specs.declared.reasons.Unread.TheVariants.{Bad, NoMemory}
use Rattle.tb_engine_transcripts.specs.declared.transcript.RunEnd.TheVariants.{Returned}

-- turns, and what was sent since the last of them, each line with its end
abbrev pub State : Type 0
State = List (List ℕ × List ℕ) × List ℕ

-- the turns that were read, and what was sent since the last of them
abbrev pub state_of : Reading → State
state_of r = (map turn_of r.turns.items, r.sent.items)

-- before the first line
abbrev pub begun : State
begun = ([], [])

-- a line that was sent, without the `\` before it
abbrev pub unescaped : List ℕ → List ℕ
unescaped line = unwrap_or (behind ESCAPE.now line) line

-- without the last byte, if there is one
abbrev pub without_end : List ℕ → List ℕ
without_end sent = take (length sent - 1) sent

-- with a line that was typed: the line's end before it is not of what was sent
abbrev pub with_typed : State → List ℕ → State
with_typed s typed = (s.0 ++ (without_end s.1, typed) ∷ [], [])

-- with a line that was sent
abbrev pub with_sent : State → List ℕ → State
with_sent s line = (s.0, s.1 ++ unescaped line ++ 10 ∷ [])

-- with a line that was not typed
abbrev pub or_sent : ℕ → State → List ℕ → Option (List ℕ) → Result State BadLine
or_sent n s line (Some text) = Err (record { line = n; why = BelowOutput })
or_sent n s line None = Ok (with_sent s line)

-- with a line that was typed, or another one
abbrev pub or_other : ℕ → State → List ℕ → Option (List ℕ) → Result State BadLine
or_other n s line (Some typed) = Ok (with_typed s typed)
or_other n s line None = or_sent n s line (behind OPTION.now line)

-- with a line below the header, by its number
abbrev pub with_line : ℕ → State → List ℕ → Result State BadLine
with_line n s line = or_other n s line (behind TYPED.now line)

-- no line is left
abbrev pub are_none : List (List ℕ) → Bool
are_none [] = true
are_none (line ∷ lines) = false

-- the last line is a lone `\`: the output ends without a line's end
abbrev pub ends_open : List ℕ → List (List ℕ) → Bool
ends_open line lines = are_none lines && bytes_eq line ESCAPE.now

-- what follows a good line
abbrev pub or_bad : (State → Result State BadLine) → Result State BadLine → Result State BadLine
or_bad next (Ok s) = next s
or_bad next (Err bad) = Err bad

-- with lines below the header, from a number on
abbrev pub below : ℕ → State → List (List ℕ) → Result State BadLine
below n s [] = Ok s
below n s (line ∷ lines) =
    if ends_open line lines then Ok (s.0, without_end s.1) else or_bad (λ more. below (n + 1) more lines) (with_line n s line)

-- what a header says, and what stands below it
abbrev pub whole : Header → Result State BadLine → Result Content BadLine
whole h (Ok s) = Ok (record { options = h.options; end = unwrap_or h.end Returned; turns = s.0; last = s.1 })
whole h (Err bad) = Err bad

-- what stands below a header
abbrev pub from_header : Result Start BadLine → Result Content BadLine
from_header (Ok b) = whole b.0 (below b.1 begun b.2)
from_header (Err bad) = Err bad

-- what a text says, or its first line that is bad and why
abbrev pub read : List ℕ → Result Content BadLine
read text = from_header (header 1 nothing (lines_of_file text))

-- ---- what calls come to

-- what taking a line comes to
abbrev pub Takes : Result State BadLine → Result (Unit {0}) Unread → State → Type 0
Takes wanted (Ok done) new = wanted ≡ Ok new
Takes wanted (Err (Bad bad)) new = wanted ≡ Err bad
Takes wanted (Err NoMemory) new = Unit {0}

-- what reading comes to, by what was read
abbrev pub Reads : {A B : Type 0} → Result B BadLine → (A → B) → Result A Unread → Type 0
Reads wanted of (Ok a) = wanted ≡ Ok (of a)
Reads wanted of (Err (Bad bad)) = wanted ≡ Err bad
Reads wanted of (Err NoMemory) = Unit {0}
