-- The names of transcripts, by the names of their sources.
use Rattle.std.specs.Prelude.{◌≡◌, ◌≢◌, ◌⊎◌, ◌&&◌, ◌==◌, ℕ, Bool, true, false, not, eqb, List, ◌∷◌, ◌++◌, length, Option, Some, None, codes, if◌then◌else◌}
use Rattle.std.specs.Char.{is_ascii_digit}
use Rattle.std.specs.Fmt.{decimal}
use Rattle.std.specs.List.{list_all}
use Rattle.tb_basic_text.specs.declared.notation.Notation.{Notation}
use Rattle.tb_basic_text.specs.declared.notation.Notation.TheVariants.{Plain, Signs}
use Rattle.tb_engine_transcripts.specs.declared.transcript.RunOptions.{RunOptions}
use Rattle.tb_engines.specs.Numbers.{MOST_EVENTS}
use Rattle.tb_program_jobs.specs.declared.jobs.PlayJob.{PlayJob}
use Rattle.tb_program_jobs.specs.declared.jobs.SourceOptions.{SourceOptions}

-- the ending of a transcript
abbrev pub transcript_ending : List ℕ
transcript_ending = codes ".transcript"

-- the ending of a source that has transcripts
abbrev pub source_ending : List ℕ
source_ending = codes ".bas"

-- whether a path has this ending
abbrev pub EndsAs : (ending path : List ℕ) → Bool → Type 0
EndsAs ending path true = (stem : List ℕ) × (path ≡ stem ++ ending)
EndsAs ending path false = (stem : List ℕ) → path ≢ stem ++ ending

-- a path without this ending, if it has that
abbrev pub IsStem : (ending path stem : List ℕ) → Type 0
IsStem ending path stem = (path ≡ stem ++ ending) ⊎ (((other : List ℕ) → path ≢ other ++ ending) × (stem ≡ path))

-- a text is a number: digits alone, at least one
abbrev pub is_number : List ℕ → Bool
is_number text = not (length text == 0) && list_all is_ascii_digit text

-- a name without the number behind a dot at its end, if it has one
abbrev pub IsUnnumbered : (name front : List ℕ) → Type 0
IsUnnumbered name front =
    ((number : List ℕ) × (name ≡ front ++ 46 ∷ number) × (is_number number ≡ true))
    ⊎ (((other number : List ℕ) → name ≡ other ++ 46 ∷ number → is_number number ≡ false) × (front ≡ name))

-- the source of a transcript: `.bas` stands in place of `.transcript`, or of a number and `.transcript`
abbrev pub IsSourceOf : (transcript source : List ℕ) → Type 0
IsSourceOf transcript source =
    (stem : List ℕ) × IsStem transcript_ending transcript stem
    × ((front : List ℕ) × IsUnnumbered stem front × (source ≡ front ++ source_ending))

-- the ending of the transcript of a number: the one that has no number, or a further one
abbrev pub ending_of : ℕ → List ℕ
ending_of number = if number == 0 then transcript_ending else 46 ∷ decimal number ++ transcript_ending

-- a transcript of a source: it has that of its number in place of `.bas`
abbrev pub IsTranscriptOf : (source : List ℕ) → ℕ → (transcript : List ℕ) → Type 0
IsTranscriptOf source number transcript =
    (stem : List ℕ) × IsStem source_ending source stem × (transcript ≡ stem ++ ending_of number)

-- whether texts are read with signs
abbrev pub has_signs : Notation → Bool
has_signs Plain = false
has_signs Signs = true

-- what the transcript of a play asks for: the most events that there may be are no limit
abbrev pub run_options : PlayJob → RunOptions
run_options j = record {
  seed = j.options.seed;
  fits = j.options.fit;
  signs = has_signs j.options.notation;
  limit = if eqb j.limit.events MOST_EVENTS then None else Some j.limit.events;
  rude = None;
}

-- how a source is compiled by the options of a transcript
abbrev pub source_options : RunOptions → SourceOptions
source_options o = record { seed = o.seed; fit = o.fits; notation = if o.signs then Signs else Plain }
