-- What a transcript says. A turn is said by what was sent and what was typed.
use Rattle.std.specs.Prelude.{◌==◌, ◌&&◌, ◌||◌, ℕ, Bool, true, not, nat_le, List, Option, Some, None, map, IsTrue}
use Rattle.std.specs.List.{list_all}
use Rattle.tb_engine_transcripts.specs.declared.transcript.RunEnd.{RunEnd}
use Rattle.tb_engine_transcripts.specs.declared.transcript.RunEnd.TheVariants.{Fault, Returned, Runs, Waits}
use Rattle.tb_engine_transcripts.specs.declared.transcript.RunOptions.{RunOptions}
use Rattle.tb_engine_transcripts.specs.declared.transcript.Transcript.{Transcript}
use Rattle.tb_engine_transcripts.specs.declared.transcript.Turn.{Turn}

-- what a transcript says: what it asks for, the end, the turns, and what was sent after them
pub record Content : Type 0 where
  pub options : RunOptions
  pub end : RunEnd
  pub turns : List (List ℕ × List ℕ)
  pub last : List ℕ

-- what was sent and what was typed
abbrev pub turn_of : Turn → List ℕ × List ℕ
turn_of t = (t.sent.items, t.typed.items)

-- what a transcript of the code says
abbrev pub content_of : Transcript → Content
content_of t = record { options = t.options; end = t.end; turns = map turn_of t.turns.items; last = t.last.items }

-- ---- transcripts that are of runs

-- a number that is in range if it is there
abbrev pub is_in_range : ℕ → ℕ → Option ℕ → Bool
is_in_range least most None = true
is_in_range least most (Some n) = nat_le least n && nat_le n most

-- options that can be asked for
abbrev pub are_writable : RunOptions → Bool
are_writable o = is_in_range 0 65535 o.seed && is_in_range 1 1000000000 o.limit && is_in_range 0 65535 o.rude

-- an end that can be
abbrev pub is_writable_end : RunEnd → Bool
is_writable_end (Fault code line) = nat_le code 255 && nat_le line 65535
is_writable_end Returned = true
is_writable_end Waits = true
is_writable_end Runs = true

-- nothing sent has a byte 13
abbrev pub is_sent : List ℕ → Bool
is_sent bytes = list_all (λ b. not (b == 13)) bytes

-- nothing typed has a byte 10 or 13
abbrev pub is_typed : List ℕ → Bool
is_typed bytes = list_all (λ b. not ((b == 10) || (b == 13))) bytes

-- a turn that can be
abbrev pub is_writable_turn : List ℕ × List ℕ → Bool
is_writable_turn t = is_sent t.0 && is_typed t.1

-- a transcript that can come of a run
abbrev pub is_writable : Content → Bool
is_writable c = are_writable c.options && is_writable_end c.end && list_all is_writable_turn c.turns && is_sent c.last

-- a transcript can come of a run, as a fact
abbrev pub IsWritable : Content → Type 0
IsWritable c = IsTrue (is_writable c)
