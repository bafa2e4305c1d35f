-- When two transcripts are the same.
use Rattle.std.specs.Prelude.{◌≡◌, ℕ, suc, ◌==◌, ◌&&◌, Bool, true, false, List, [], ◌∷◌, length, if◌then◌else◌}
use Rattle.std.specs.Str.{bytes_eq}
use Rattle.tb_engine_transcripts.specs.Contents.{Content}
use Rattle.tb_engine_transcripts.specs.declared.transcript.RunEnd.{RunEnd}
use Rattle.tb_engine_transcripts.specs.declared.transcript.RunEnd.TheVariants.{Fault, Returned, Runs, Waits}

-- in two turns, what was sent and typed is equal
abbrev pub is_same_turn : List ℕ × List ℕ → List ℕ × List ℕ → Bool
is_same_turn t u = bytes_eq t.0 u.0 && bytes_eq t.1 u.1

-- how many turns at the front are the same
abbrev pub same_turns : List (List ℕ × List ℕ) → List (List ℕ × List ℕ) → ℕ
same_turns [] other = 0
same_turns (t ∷ one) [] = 0
same_turns (t ∷ one) (u ∷ other) = if is_same_turn t u then suc (same_turns one other) else 0

-- two ends are the same
abbrev pub is_same_end : RunEnd → RunEnd → Bool
is_same_end Returned Returned = true
is_same_end Waits Waits = true
is_same_end Runs Runs = true
is_same_end (Fault code line) (Fault other_code other_line) = code == other_code && line == other_line
is_same_end one other = false

-- in two transcripts, what was sent and typed is equal
abbrev pub is_same_output : Content → Content → Bool
is_same_output one other =
    length one.turns == length other.turns && same_turns one.turns other.turns == length one.turns && bytes_eq one.last other.last

-- that, and both ended alike
abbrev pub is_same : Content → Content → Bool
is_same one other = is_same_output one other && is_same_end one.end other.end

-- two transcripts are the same but for what they ask for
abbrev pub IsSame : Content → Content → Type 0
IsSame one other = (one.turns ≡ other.turns) × (one.last ≡ other.last) × (one.end ≡ other.end)
