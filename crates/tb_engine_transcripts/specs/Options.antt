-- What a line of the header asks for.
use Rattle.std.specs.Prelude.{ℕ, suc, ◌==◌, List, [], ◌∷◌, take, drop, Option, Some, None, Result, Ok, Err, if◌then◌else◌}
use Rattle.std.specs.Option.{option_and_then}
use Rattle.std.specs.Str.{bytes_eq}
use Rattle.tb_engine_transcripts.specs.Marks.{behind, number}
use Rattle.tb_engine_transcripts.specs.declared.options.Asked.{Asked}
use Rattle.tb_engine_transcripts.specs.declared.options.Asked.TheVariants.{End, Fit, Limit, Petscii, Rude, Seed}
use Rattle.tb_engine_transcripts.specs.declared.options.TheConstants as word
use Rattle.tb_engine_transcripts.specs.declared.options.TheConstants.{MOST_CODE, MOST_LIMIT, MOST_WORD}
use Rattle.tb_engine_transcripts.specs.declared.reasons.Reason.{Reason}
use Rattle.tb_engine_transcripts.specs.declared.reasons.Reason.TheVariants.{NoFault, NoLimit, NoRude, NoSeed, UnknownOption}
use Rattle.tb_engine_transcripts.specs.declared.transcript.RunEnd.TheVariants.{Fault, Returned, Runs, Waits}

-- what a text without a number asks for
abbrev pub plain : List ℕ → Option Asked
plain text =
    if bytes_eq text word.FIT.now then Some Fit
    else if bytes_eq text word.PETSCII.now then Some Petscii
    else if bytes_eq text word.ENDS.now then Some (End Returned)
    else if bytes_eq text word.WAITS.now then Some (End Waits)
    else if bytes_eq text word.RUNS.now then Some (End Runs)
    else None

-- a seed of RND
abbrev pub seed_by : Option ℕ → Result Asked Reason
seed_by None = Err NoSeed
seed_by (Some n) = Ok (Seed n)

-- a seed of RND by its digits
abbrev pub seed : List ℕ → Result Asked Reason
seed digits = seed_by (number MOST_WORD digits)

-- a limit that is not 0
abbrev pub limit_by : Option ℕ → Result Asked Reason
limit_by None = Err NoLimit
limit_by (Some n) = if n == 0 then Err NoLimit else Ok (Limit n)

-- a limit by its digits, which is not 0
abbrev pub limit : List ℕ → Result Asked Reason
limit digits = limit_by (number MOST_LIMIT digits)

-- a seed of the ROM
abbrev pub rude_by : Option ℕ → Result Asked Reason
rude_by None = Err NoRude
rude_by (Some n) = Ok (Rude n)

-- a seed of the ROM by its digits
abbrev pub rude : List ℕ → Result Asked Reason
rude digits = rude_by (number MOST_WORD digits)

-- how many bytes stand before the first space
abbrev pub space_at : List ℕ → ℕ
space_at [] = 0
space_at (b ∷ text) = if b == 32 then 0 else suc (space_at text)

-- the line of a fault, from the space before `at` on
abbrev pub line_of : List ℕ → Option ℕ
line_of text = option_and_then (number MOST_WORD) (behind word.AT.now text)

-- a fault by its code and its line, if both are there
abbrev pub fault_by : Option ℕ → Option ℕ → Result Asked Reason
fault_by (Some code) (Some line) = Ok (End (Fault code line))
fault_by (Some code) None = Err NoFault
fault_by None line = Err NoFault

-- a fault by what stands behind `fault `: a code, ` at ` and a line
abbrev pub fault : List ℕ → Result Asked Reason
fault text = fault_by (number MOST_CODE (take (space_at text) text)) (line_of (drop (space_at text) text))

-- what a text behind `fault ` asks for; else it is no option
abbrev pub fault_or : Option (List ℕ) → Result Asked Reason
fault_or None = Err UnknownOption
fault_or (Some text) = fault text

-- what a text behind `rude ` asks for, or else the whole text
abbrev pub rude_or : Option (List ℕ) → List ℕ → Result Asked Reason
rude_or None text = fault_or (behind word.FAULT.now text)
rude_or (Some digits) text = rude digits

-- what a text behind `limit ` asks for, or else the whole text
abbrev pub limit_or : Option (List ℕ) → List ℕ → Result Asked Reason
limit_or None text = rude_or (behind word.RUDE.now text) text
limit_or (Some digits) text = limit digits

-- what a text behind `seed ` asks for, or else the whole text
abbrev pub seed_or : Option (List ℕ) → List ℕ → Result Asked Reason
seed_or None text = limit_or (behind word.LIMIT.now text) text
seed_or (Some digits) text = seed digits

-- what a text without a number asks for, or else one with a number
abbrev pub plain_or : Option Asked → List ℕ → Result Asked Reason
plain_or None text = seed_or (behind word.SEED.now text) text
plain_or (Some asked) text = Ok asked

-- what the text of an option or an end asks for, or why it asks for nothing
abbrev pub asked_by : List ℕ → Result Asked Reason
asked_by text = plain_or (plain text) text
