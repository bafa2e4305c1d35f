-- What is read of the arguments that the parser found, by their names.
use Rattle.std.specs.Prelude.{◌≡◌, ℕ, ◌&&◌, Bool, true, false, nat_le, List, [], codes, string_bytes, Option, Some, None, Result, Ok, Err, option_map, option_and_then, unwrap_or, if◌then◌else◌}
use Rattle.std.specs.Option.{option_map_or}
use Rattle.std.specs.Str.{bytes_eq}
use Rattle.std.specs.Str.Parse.{ParsesUnsigned}
use Rattle.std.specs.declared.string.String.{String}
use Rattle.clap.specs.Words.{first_value, matched_of, one_text, raw_values}
use Rattle.clap.specs.declared.parser.matches.Found.{Found}
use Rattle.tb_assembly_dialects.specs.declared.dialect.Dialect.{Dialect}
use Rattle.tb_assembly_dialects.specs.declared.dialect.Dialect.TheVariants.{Tass64, Ca65, Acme, Xa}
use Rattle.tb_basic_text.specs.declared.notation.Notation.{Notation}
use Rattle.tb_basic_text.specs.declared.notation.Notation.TheVariants.{Plain, Signs}
use Rattle.tb_engines.specs.Numbers.{MOST_EVENTS, USUAL_EVENTS}
use Rattle.tb_program_jobs.specs.declared.jobs.BuildExtras.{BuildExtras}
use Rattle.tb_program_jobs.specs.declared.jobs.FormatTarget.{FormatTarget}
use Rattle.tb_program_jobs.specs.declared.jobs.JobError.{JobError}
use Rattle.tb_program_jobs.specs.declared.jobs.JobError.TheVariants.{Words, NoClock, NoMemory}
use Rattle.tb_program_jobs.specs.declared.jobs.FormatTarget.TheVariants.{Output, InPlace, Check}
use Rattle.tb_program_jobs.specs.declared.jobs.Limit.{Limit}
use Rattle.tb_program_jobs.specs.declared.jobs.Runnable.{Runnable}
use Rattle.tb_program_jobs.specs.declared.jobs.Runnable.TheVariants.{Source, Prg}
use Rattle.tb_program_jobs.specs.declared.jobs.Settings.{Settings}
use Rattle.tb_program_jobs.specs.declared.jobs.SourceOptions.{SourceOptions}
use Rattle.tb_engine_transcripts.specs.declared.forms.TestForm.{TestForm}
use Rattle.tb_engine_transcripts.specs.declared.forms.TestForm.TheVariants as form
use Rattle.tb_program_jobs.specs.declared.jobs.Typed.{Typed}
use Rattle.tb_program_jobs.specs.declared.jobs.Typed.TheVariants.{Digits, File, Text}

-- ── texts ──
-- the text of an argument, an empty one where it is missing
abbrev pub text_in : Found → List ℕ → List ℕ
text_in found name = unwrap_or (first_value found name) []

-- the texts of an argument that may have several, in order
abbrev pub texts_in : Found → List ℕ → List (List ℕ)
texts_in found name = option_map_or raw_values (matched_of found name) []

-- the text of the first of two arguments that is there
abbrev pub or_else : Option (List ℕ) → Option (List ℕ) → Option (List ℕ)
or_else (Some text) other = Some text
or_else None other = other

-- this text is that of an argument
abbrev pub IsText : {A : Type 0} → Found → List ℕ → String A → Type 0
IsText found name text = string_bytes text ≡ text_in found name

-- this text is that of an argument if the argument is there, and else there is none
abbrev pub IsOptional : {A : Type 0} → Found → List ℕ → Option (String A) → Type 0
IsOptional found name text = option_map string_bytes text ≡ first_value found name

-- ── numbers and flags ──
-- what is read of a text as a decimal number below 2 ^ k: none where it is no such number
abbrev pub Reads : ℕ → Option (List ℕ) → Option ℕ → Type 0
Reads k None read = read ≡ None
Reads k (Some text) (Some n) = ParsesUnsigned {E = Unit {0}} k 10 text (Ok n)
Reads k (Some text) None = ParsesUnsigned {E = Unit {0}} k 10 text (Err tt)

-- this number, 0 to 65535, is that of an argument if the argument is there
abbrev pub IsOptionalNumber : Found → List ℕ → Option ℕ → Type 0
IsOptionalNumber found name read = Reads 16 (one_text found name) read

-- it is that of an argument, and else the usual one
abbrev pub IsNumber : Found → List ℕ → ℕ → ℕ → Type 0
IsNumber found name usual n = (read : Option ℕ) × IsOptionalNumber found name read × (n ≡ unwrap_or read usual)

-- a number of events, if it is 1 to MOST_EVENTS, and else the usual one
abbrev pub events_by : ℕ → Option ℕ → ℕ
events_by usual None = usual
events_by usual (Some n) = if nat_le 1 n && nat_le n MOST_EVENTS then n else usual

-- this limit is that of an argument, and else the usual one
abbrev pub IsLimit : Found → List ℕ → ℕ → Limit → Type 0
IsLimit found name usual limit = (read : Option ℕ) × Reads 32 (one_text found name) read × (limit.events ≡ events_by usual read)

-- what the text of a flag says: `true` or `false`, and false where it is missing
abbrev pub Says : Option (List ℕ) → Bool → Type 0
Says None is = is ≡ false
Says (Some text) is = (text ≡ codes "true" → is ≡ true) × (text ≡ codes "false" → is ≡ false)

-- whether a flag is there
abbrev pub IsFlag : Found → List ℕ → Bool → Type 0
IsFlag found name is = Says (one_text found name) is

-- ── seeds ──
-- whether a text asks for the clock's seed
abbrev pub is_time : List ℕ → Bool
is_time text = bytes_eq text (codes "time")

-- whether the option asks for it
abbrev pub is_by_clock : Found → Bool
is_by_clock found = option_map_or is_time (first_value found (codes "seed")) false

-- why there is no seed where a text is none: the words are none, or memory is short
abbrev pub IsBadSeed : JobError → Type 0
IsBadSeed (Words text) = Unit {0}
IsBadSeed NoMemory = Unit {0}
IsBadSeed NoClock = ⊥

-- what is read of a text that asks for the clock's seed, or else is to spell a number below 65536
abbrev pub ReadsSeedBy : Bool → Option ℕ → List ℕ → Result ℕ JobError → Type 0
ReadsSeedBy true clock text (Ok seed) = clock ≡ Some seed
ReadsSeedBy true clock text (Err why) = (clock ≡ None) × (why ≡ NoClock)
ReadsSeedBy false clock text (Ok seed) = ParsesUnsigned {E = Unit {0}} 16 10 text (Ok seed)
ReadsSeedBy false clock text (Err why) = ParsesUnsigned {E = Unit {0}} 16 10 text (Err tt) × IsBadSeed why

-- what is read of the option's text, and no seed where it is missing
abbrev pub ReadsSeed : Option ℕ → Option (List ℕ) → Result (Option ℕ) JobError → Type 0
ReadsSeed clock None read = read ≡ Ok None
ReadsSeed clock (Some text) (Ok (Some seed)) = ReadsSeedBy (is_time text) clock text (Ok seed)
ReadsSeed clock (Some text) (Ok None) = ⊥
ReadsSeed clock (Some text) (Err why) = ReadsSeedBy (is_time text) clock text (Err why)

-- this seed is the one that the option asks for, or there is none
abbrev pub IsSeed : Option ℕ → Found → Option ℕ → Type 0
IsSeed clock found seed = ReadsSeed clock (first_value found (codes "seed")) (Ok seed)

-- ── notations and targets ──
-- the notation with signs in texts, or without
abbrev pub notation_by : Bool → Notation
notation_by true = Signs
notation_by false = Plain

-- this notation is the one that `--petscii` asks for, or the plain one
abbrev pub IsNotation : Found → Notation → Type 0
IsNotation found notation = (signs : Bool) × IsFlag found (codes "petscii") signs × (notation ≡ notation_by signs)

-- where a tidy text goes without `--in-place`: nowhere with `--check`, and else to standard output
abbrev pub checked : Bool → FormatTarget
checked true = Check
checked false = Output

-- where it goes: by `--in-place` first, and then by `--check`
abbrev pub IsTargetBy : Bool → Found → FormatTarget → Type 0
IsTargetBy true found target = target ≡ InPlace
IsTargetBy false found target = (only_check : Bool) × IsFlag found (codes "check") only_check × (target ≡ checked only_check)

-- this target is the one that the two flags ask for
abbrev pub IsTarget : Found → FormatTarget → Type 0
IsTarget found target = (in_place : Bool) × IsFlag found (codes "in-place") in_place × IsTargetBy in_place found target

-- the assembler of a name
abbrev pub dialect_named : List ℕ → Option Dialect
dialect_named name =
    if bytes_eq name (codes "64tass") then Some Tass64
    else if bytes_eq name (codes "ca65") then Some Ca65
    else if bytes_eq name (codes "acme") then Some Acme
    else if bytes_eq name (codes "xa") then Some Xa
    else None

-- the assembler that `--for` names
abbrev pub dialect_in : Found → Option Dialect
dialect_in found = option_and_then dialect_named (first_value found (codes "for"))

-- the form of a name: that of people, unless it is `tap`
abbrev pub form_named : Option (List ℕ) → TestForm
form_named None = form.Text
form_named (Some name) = if bytes_eq name (codes "tap") then form.Tap else form.Text

-- the form that `--format` names
abbrev pub form_in : Found → TestForm
form_in found = form_named (first_value found (codes "format"))

-- ── several arguments ──
-- what is run: the PRG file of `--prg` if it is there, and else SOURCE
abbrev pub IsRunnable : Found → Runnable → Type 0
IsRunnable found (Prg path) = first_value found (codes "prg") ≡ Some (string_bytes path)
IsRunnable found (Source path) = (first_value found (codes "prg") ≡ None) × IsText found (codes "SOURCE") path

-- what is typed: the text of `--type`, and else the file of `--keys-file`, and else the digits of `--keys`
abbrev pub IsTyped : Found → Typed → Type 0
IsTyped found (Text text) = first_value found (codes "type") ≡ Some (string_bytes text)
IsTyped found (File path) = (first_value found (codes "type") ≡ None) × (first_value found (codes "keys-file") ≡ Some (string_bytes path))
IsTyped found (Digits digits) =
    (first_value found (codes "type") ≡ None) × (first_value found (codes "keys-file") ≡ None) × IsText found (codes "keys") digits

-- how a source is compiled, each part by its option
pub record AreOptions (clock : Option ℕ) (found : Found) (options : SourceOptions) : Type 0 where
  pub seed : IsSeed clock found options.seed
  pub fit : IsFlag found (codes "fit") options.fit
  pub notation : IsNotation found options.notation

-- how a program is run, each part by its option
pub record AreSettings (clock : Option ℕ) (found : Found) (settings : Settings) : Type 0 where
  pub options : AreOptions clock found settings.options
  pub keys : IsTyped found settings.keys
  pub answers : IsText found (codes "answers") settings.answers
  pub limit : IsLimit found (codes "limit") USUAL_EVENTS settings.limit

-- the files that a build writes besides, each by its option
pub record AreExtras (found : Found) (beside : BuildExtras) : Type 0 where
  pub labels : IsOptional found (codes "labels") beside.labels
  pub listing : IsOptional found (codes "list") beside.listing
  pub dialect : beside.dialect ≡ dialect_in found
  pub map : IsOptional found (codes "map") beside.map
  pub watch : IsOptional found (codes "watch") beside.watch
