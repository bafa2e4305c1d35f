-- The files of a job: those that must be kept, and those that it writes.
use Rattle.std.specs.Prelude.{ℕ, ◌≡◌, ◌/◌, ◌%◌, Bool, false, List, [], ◌∷◌, ◌++◌, length, map, Option, Some, None, Ok, codes, string_bytes, if◌then◌else◌}
use Rattle.std.specs.List.{AllPass}
use Rattle.std.specs.Str.{bytes_eq}
use Rattle.hex.specs.Hex.{decode_of, is_hex_digit}
use Rattle.std.specs.declared.string.String.{String}
use Rattle.tb_engine_files.specs.Looks.{code_kind}
use Rattle.tb_engine_files.specs.declared.looks.Kind.{Kind}
use Rattle.tb_engine_files.specs.declared.looks.Kind.TheVariants.{Program, Code, Image, Labels, Listing, Map, Watch, Keys, Transcript}
use Rattle.tb_engine_files.specs.declared.looks.Kind.TheVariants as kind
use Rattle.tb_program_jobs.specs.declared.jobs.BuildExtras.{BuildExtras}
use Rattle.tb_program_jobs.specs.declared.jobs.Typed.{Typed}
use Rattle.tb_program_jobs.specs.declared.jobs.Typed.TheVariants.{Digits, File, Text}
use Rattle.tb_program_jobs.specs.declared.jobs.Runnable.{Runnable}
use Rattle.tb_program_jobs.specs.declared.jobs.Runnable.TheVariants.{Source, Prg}
use Rattle.tb_program_jobs.specs.declared.jobs.Job.{Job}
use Rattle.tb_program_jobs.specs.declared.jobs.Job.TheVariants.{Build, Run, Play, Test, Asm, Assemble, Dis, Step, Debug, Profile, Page, Disk, Check, Format, Renumber, Lsp, Dap, Show}

-- where standard input is found as a file
abbrev pub standard_input : List ℕ
standard_input = codes "/dev/stdin"

-- where standard output is found as a file
abbrev pub standard_output : List ℕ
standard_output = codes "/dev/stdout"

-- what the path of an input stands for: `-` is standard input
abbrev pub input_path : List ℕ → List ℕ
input_path path = if bytes_eq path (codes "-") then standard_input else path

-- what the path of an output stands for: `-` is standard output
abbrev pub output_path : List ℕ → List ℕ
output_path path = if bytes_eq path (codes "-") then standard_output else path

-- an output of a kind, if it is wanted
abbrev pub wanted : {A : Type 0} → Kind → Option (String A) → List (List ℕ × Kind)
wanted kind None = []
wanted kind (Some out) = (output_path (string_bytes out), kind) ∷ []

-- what a build writes beside its PRG file
abbrev pub wanted_beside : BuildExtras → List (List ℕ × Kind)
wanted_beside beside =
    wanted Labels beside.labels ++ wanted Listing beside.listing ++ wanted Map beside.map ++ wanted Watch beside.watch

-- the address that a text spells by four hexadecimal digits, high byte first, if it does
abbrev pub IsAddress : List ℕ → Option ℕ → Type 0
IsAddress text (Some at) = decode_of text ≡ Ok (at / 256 ∷ at % 256 ∷ [])
IsAddress text None = ¬ ((length text ≡ 4) × AllPass is_hex_digit text)

-- a key file, if there is one
abbrev pub keys_of : Typed → List (List ℕ)
keys_of (Digits digits) = []
keys_of (File file) = input_path (string_bytes file) ∷ []
keys_of (Text text) = []

-- what is run, played, profiled or made a page of
abbrev pub path_of : Runnable → List ℕ
path_of (Source program) = string_bytes program
path_of (Prg program) = string_bytes program

-- what a job that writes files reads, and the standard streams that it uses
abbrev pub kept_of : Job → List (List ℕ)
kept_of (Build j) = input_path (string_bytes j.source) ∷ []
kept_of (Play j) = input_path (path_of j.what) ∷ standard_input ∷ standard_output ∷ []
kept_of (Test j) = standard_output ∷ map (λ f. input_path (string_bytes f)) j.files.items
kept_of (Asm j) = input_path (string_bytes j.text) ∷ []
kept_of (Assemble j) = input_path (string_bytes j.text) ∷ []
kept_of (Profile j) = input_path (path_of j.what) ∷ standard_output ∷ keys_of j.settings.keys
kept_of (Page j) = input_path (path_of j.what) ∷ []
kept_of (Disk j) = map (λ f. input_path (string_bytes f)) j.files.items
kept_of (Run j) = []
kept_of (Dis j) = []
kept_of (Step j) = []
kept_of (Debug j) = []
kept_of (Check j) = []
kept_of (Format j) = []
kept_of (Renumber j) = []
kept_of (Lsp notation) = []
kept_of (Dap notation) = []
kept_of (Show text) = []

-- The files that a job writes, in the order in which it writes them. A source that is made tidy or renumbered is none of
-- these: its new text takes its own place.
abbrev pub Writes : Job → List (List ℕ × Kind) → Type 0
Writes (Build j) puts = puts ≡ (output_path (string_bytes j.out), Program) ∷ wanted_beside j.beside
Writes (Play j) puts = puts ≡ wanted Keys j.recording ++ wanted Transcript j.transcript
Writes (Test j) puts = puts ≡ wanted kind.Page j.page
Writes (Asm j) puts =
    (address : Option ℕ) × IsAddress (string_bytes j.at) address × (puts ≡ (output_path (string_bytes j.out), code_kind (string_bytes j.out) address) ∷ [])
Writes (Assemble j) puts =
    puts ≡ (output_path (string_bytes j.out), Code None) ∷ wanted Labels j.labels ++ wanted Listing j.listing
Writes (Profile j) puts = puts ≡ wanted kind.Page j.html
Writes (Page j) puts = puts ≡ (output_path (string_bytes j.out), kind.Page) ∷ []
Writes (Disk j) puts = puts ≡ (output_path (string_bytes j.out), Image) ∷ []
Writes (Run j) puts = puts ≡ []
Writes (Dis j) puts = puts ≡ []
Writes (Step j) puts = puts ≡ []
Writes (Debug j) puts = puts ≡ []
Writes (Check j) puts = puts ≡ []
Writes (Format j) puts = puts ≡ []
Writes (Renumber j) puts = puts ≡ []
Writes (Lsp notation) puts = puts ≡ []
Writes (Dap notation) puts = puts ≡ []
Writes (Show text) puts = puts ≡ []

-- whether a job replaces a file that looks like something else
abbrev pub is_forced : Job → Bool
is_forced (Build j) = j.force
is_forced (Play j) = j.force
is_forced (Test j) = j.force
is_forced (Asm j) = j.force
is_forced (Assemble j) = j.force
is_forced (Profile j) = j.force
is_forced (Page j) = j.force
is_forced (Disk j) = j.force
is_forced (Run j) = false
is_forced (Dis j) = false
is_forced (Step j) = false
is_forced (Debug j) = false
is_forced (Check j) = false
is_forced (Format j) = false
is_forced (Renumber j) = false
is_forced (Lsp notation) = false
is_forced (Dap notation) = false
is_forced (Show text) = false
