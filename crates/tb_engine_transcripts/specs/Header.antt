-- The header of a transcript: the longest beginning of lines that begin with `# `.
use Rattle.std.specs.Prelude.{◌≡◌, ℕ, ◌+◌, true, false, List, [], ◌∷◌, Option, Some, None, Result, Ok, Err, if◌then◌else◌}
use Rattle.std.specs.Option.{is_some, ok_or}
use Rattle.tb_basic_text.specs.Lines.{lines_of_file}
use Rattle.tb_engine_transcripts.specs.Marks.{behind}
use Rattle.tb_engine_transcripts.specs.Options.{asked_by}
use Rattle.tb_engine_transcripts.specs.declared.header.Begun.{Begun}
use Rattle.tb_engine_transcripts.specs.declared.header.Header.{Header}
use Rattle.tb_engine_transcripts.specs.declared.marks.TheConstants.{OPTION}
use Rattle.tb_engine_transcripts.specs.declared.options.Asked.{Asked}
use Rattle.tb_engine_transcripts.specs.declared.options.Asked.TheVariants.{End, Fit, Limit, Petscii, Rude, Seed}
use Rattle.tb_engine_transcripts.specs.declared.reasons.BadLine.{BadLine}
use Rattle.tb_engine_transcripts.specs.declared.reasons.Reason.{Reason}
use Rattle.tb_engine_transcripts.specs.declared.reasons.Reason.TheVariants.{Twice}
use Rattle.tb_engine_transcripts.specs.declared.transcript.RunOptions.{RunOptions}

-- nothing is asked for
abbrev pub nothing : Header
nothing = record { options = record { seed = None; fits = false; signs = false; limit = None; rude = None }; end = None }

-- with other options
abbrev pub with_options : Header → RunOptions → Header
with_options h options = record (h) { options = options }

-- with what a line asks for, if it is not there
abbrev pub with_asked : Header → Asked → Option Header
with_asked h (Seed n) = if is_some h.options.seed then None else Some (with_options h (record (h.options) { seed = Some n }))
with_asked h Fit = if h.options.fits then None else Some (with_options h (record (h.options) { fits = true }))
with_asked h Petscii = if h.options.signs then None else Some (with_options h (record (h.options) { signs = true }))
with_asked h (Limit n) = if is_some h.options.limit then None else Some (with_options h (record (h.options) { limit = Some n }))
with_asked h (Rude n) = if is_some h.options.rude then None else Some (with_options h (record (h.options) { rude = Some n }))
with_asked h (End e) = if is_some h.end then None else Some (record (h) { end = Some e })

-- a header with the option or the end that was read, or why that is refused
abbrev pub with_read : Header → Result Asked Reason → Result Header Reason
with_read h (Ok asked) = ok_or (with_asked h asked) Twice
with_read h (Err why) = Err why

-- with what the text of an option or an end asks for
abbrev pub with_line : Header → List ℕ → Result Header Reason
with_line h text = with_read h (asked_by text)

-- a header, the number of the first line below it, and the lines from there on
abbrev pub Start : Type 0
Start = Header × ℕ × List (List ℕ)

-- what follows a good line; the number of a bad one, and why it is bad
abbrev pub or_bad : ℕ → (Header → Result Start BadLine) → Result Header Reason → Result Start BadLine
or_bad n next (Ok h) = next h
or_bad n next (Err why) = Err (record { line = n; why = why })

-- what follows a line of the header; the other lines
abbrev pub or_below : (List ℕ → Result Start BadLine) → Result Start BadLine → Option (List ℕ) → Result Start BadLine
or_below next others (Some text) = next text
or_below next others None = others

-- with what lines ask for, from a number on
abbrev pub header : ℕ → Header → List (List ℕ) → Result Start BadLine
header n h [] = Ok (h, n, [])
header n h (line ∷ lines) =
    or_below (λ text. or_bad n (λ more. header (n + 1) more lines) (with_line h text)) (Ok (h, n, line ∷ lines)) (behind OPTION.now line)

-- what reading a header comes to
abbrev pub Begins : Result Start BadLine → Result Begun BadLine → Type 0
Begins wanted (Ok b) = wanted ≡ Ok (b.header, b.number, lines_of_file b.rest.now)
Begins wanted (Err bad) = wanted ≡ Err bad
