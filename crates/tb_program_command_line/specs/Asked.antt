-- The table of the jobs: from which arguments of a command each part of its job comes.
use Rattle.std.specs.Prelude.{◌≡◌, ◌⊎◌, ◌≢◌, ℕ, List, [], ◌∷◌, ◌++◌, map, codes, string_bytes, Option, Some, MatchBool, MatchOption, option_map, unwrap_or}
use Rattle.std.specs.Str.{bytes_eq}
use Rattle.std.specs.declared.alloc.Global.{Global}
use Rattle.std.specs.declared.string.String.{String}
use Rattle.clap.specs.Words.{first_value, rows_of, subcommand_name_of, subcommand_rows_of}
use Rattle.clap.specs.declared.parser.matches.ArgMatches.{ArgMatches}
use Rattle.clap.specs.declared.parser.matches.Found.{Found}
use Rattle.tb_engine_files.specs.Names.{IsUsualOut, standard}
use Rattle.tb_engines.specs.Numbers.{MOST_EVENTS}
use Rattle.tb_program_jobs.specs.Numbers.{USUAL_STEP}
use Rattle.tb_program_jobs.specs.declared.jobs.Job.{Job}
use Rattle.tb_program_jobs.specs.declared.jobs.Runnable.{Runnable}
use Rattle.tb_program_jobs.specs.declared.jobs.Runnable.TheVariants.{Source, Prg}
use Rattle.tb_program_jobs.specs.declared.jobs.Job.TheVariants as job
use Rattle.tb_program_command_line.specs.Table.{name_of}
use Rattle.tb_program_command_line.specs.Values.{AreExtras, AreOptions, AreSettings, IsFlag, IsLimit, IsNotation, IsNumber, IsOptional, IsOptionalNumber, IsRunnable, IsTarget, IsText, dialect_in, form_in, is_by_clock, or_else, text_in, texts_in}
use Rattle.tb_program_command_line.specs.declared.commands.CommandName.{CommandName}
use Rattle.tb_program_command_line.specs.declared.commands.CommandName.TheVariants.{Build, Run, Play, Test, Asm, Assemble, Dis, Step, Debug, Profile, Page, Disk, Check, Format, Renumber, Lsp, Dap, Version}
use Rattle.tb_program_command_line.specs.declared.parser.TheConstants.{VERSION}
use Rattle.tb_program_jobs.specs.declared.jobs.Asked.{Asked}

-- the file that is written: by `-o`, and else by its place
abbrev pub out_in : Found → Option (List ℕ)
out_in found = or_else (first_value found (codes "output")) (first_value found (codes "OUT"))

-- a path without this ending, if it has that
abbrev pub IsStem : (ending path stem : List ℕ) → Type 0
IsStem ending path stem = (path ≡ stem ++ ending) ⊎ (((other : List ℕ) → path ≢ other ++ ending) × (stem ≡ path))

-- the PRG file of a source: the one that is named, and else the usual one of the source's path
abbrev pub IsOut : Option (List ℕ) → List ℕ → List ℕ → Type 0
IsOut named path out = MatchOption named (IsUsualOut path out) (λ text. out ≡ text)

-- the PRG file of an assembler text: the one that is named, and else the usual one of its path without `.asm`
abbrev pub IsAssemblyOut : Option (List ℕ) → List ℕ → List ℕ → Type 0
IsAssemblyOut named path out =
    MatchOption named ((stem : List ℕ) × IsStem (codes ".asm") path stem × IsUsualOut stem out) (λ text. out ≡ text)

-- the page of a file that has this ending, if no other is named: `.html` in its place; from standard input to standard output
abbrev pub IsUsualPage : (ending path page : List ℕ) → Type 0
IsUsualPage ending path page =
    MatchBool (bytes_eq path standard) (page ≡ standard) ((stem : List ℕ) × IsStem ending path stem × (page ≡ stem ++ codes ".html"))

-- the page that is named, and else the usual one of the path
abbrev pub IsPage : Option (List ℕ) → (ending path page : List ℕ) → Type 0
IsPage named ending path page = MatchOption named (IsUsualPage ending path page) (λ text. page ≡ text)

-- the file that is written where a PRG file takes the place of SOURCE: by `-o`, and else by the first word
abbrev pub first_out_in : Found → Option (List ℕ)
first_out_in found = or_else (first_value found (codes "output")) (first_value found (codes "SOURCE"))

-- the page of what is played on it
abbrev pub IsPageOf : Found → Runnable → String Global → Type 0
IsPageOf found (Source path) out = IsPage (out_in found) (codes ".bas") (string_bytes path) (string_bytes out)
IsPageOf found (Prg path) out = IsPage (first_out_in found) (codes ".prg") (string_bytes path) (string_bytes out)

-- a disk image and its PRG files: OUT is the image, or the first of the files where `-o` names the image
abbrev pub AreOfDisk : Found → List ℕ → List (List ℕ) → Type 0
AreOfDisk found out files =
    MatchOption (first_value found (codes "output"))
    ((out ≡ text_in found (codes "OUT")) × (files ≡ texts_in found (codes "FILE")))
    (λ named. (out ≡ named) × (files ≡ text_in found (codes "OUT") ∷ texts_in found (codes "FILE")))

-- the job of a command, part by part, from what the parser found of its arguments and the seed of the clock; it is of no
-- other kind
abbrev pub IsJob : Option ℕ → CommandName → Found → Job → Type 0
IsJob clock Build found (job.Build j) =
    IsText found (codes "SOURCE") j.source
    × IsOut (out_in found) (string_bytes j.source) (string_bytes j.out)
    × AreOptions clock found j.options
    × AreExtras found j.beside
    × IsFlag found (codes "force") j.force
IsJob clock Run found (job.Run j) =
    IsRunnable found j.what
    × AreSettings clock found j.settings
    × IsOptionalNumber found (codes "rude") j.rude
    × IsOptional found (codes "labels") j.labels
    × IsFlag found (codes "strict") j.strict
IsJob clock Play found (job.Play j) =
    IsRunnable found j.what
    × AreOptions clock found j.options
    × IsLimit found (codes "limit") MOST_EVENTS j.limit
    × IsOptional found (codes "record") j.recording
    × IsOptional found (codes "transcript") j.transcript
    × IsFlag found (codes "screen") j.screen
    × IsFlag found (codes "force") j.force
    × IsFlag found (codes "strict") j.strict
IsJob clock Test found (job.Test j) =
    (map string_bytes j.files.items ≡ texts_in found (codes "FILE"))
    × IsFlag found (codes "update") j.updates
    × IsFlag found (codes "lines") j.counts_lines
    × IsOptional found (codes "html") j.page
    × (j.form ≡ form_in found)
    × IsFlag found (codes "force") j.force
IsJob clock Asm found (job.Asm j) =
    IsText found (codes "IN") j.text
    × (string_bytes j.out ≡ unwrap_or (out_in found) [])
    × IsText found (codes "at") j.at
    × IsFlag found (codes "force") j.force
IsJob clock Assemble found (job.Assemble j) =
    IsText found (codes "IN") j.text
    × IsAssemblyOut (out_in found) (string_bytes j.text) (string_bytes j.out)
    × IsOptional found (codes "at") j.at
    × IsFlag found (codes "long") j.long
    × IsOptional found (codes "labels") j.labels
    × IsOptional found (codes "list") j.listing
    × IsFlag found (codes "force") j.force
IsJob clock Dis found (job.Dis j) = IsText found (codes "FILE") j.prg × (j.dialect ≡ dialect_in found)
IsJob clock Step found (job.Step j) = IsRunnable found j.what × AreSettings clock found j.settings
IsJob clock Debug found (job.Debug j) =
    IsRunnable found j.what
    × AreSettings clock found j.settings
    × IsOptionalNumber found (codes "rude") j.rude
    × IsOptional found (codes "labels") j.labels
IsJob clock Profile found (job.Profile j) =
    IsRunnable found j.what
    × AreSettings clock found j.settings
    × IsOptionalNumber found (codes "rude") j.rude
    × IsOptional found (codes "html") j.html
    × IsFlag found (codes "force") j.force
IsJob clock Page found (job.Page j) =
    IsRunnable found j.what
    × IsPageOf found j.what j.out
    × AreOptions clock found j.options
    × IsOptional found (codes "title") j.title
    × IsFlag found (codes "force") j.force
IsJob clock Disk found (job.Disk j) =
    AreOfDisk found (string_bytes j.out) (map string_bytes j.files.items)
    × IsFlag found (codes "force") j.force
IsJob clock Check found (job.Check j) =
    (map string_bytes j.sources.items ≡ texts_in found (codes "SOURCE"))
    × IsFlag found (codes "fit") j.fit
    × IsNotation found j.notation
IsJob clock Format found (job.Format j) =
    IsText found (codes "SOURCE") j.source
    × IsNotation found j.notation
    × IsTarget found j.target
IsJob clock Renumber found (job.Renumber j) =
    IsText found (codes "SOURCE") j.source
    × IsNotation found j.notation
    × IsNumber found (codes "from") USUAL_STEP j.first
    × IsNumber found (codes "step") USUAL_STEP j.step
    × IsFlag found (codes "in-place") j.in_place
IsJob clock Lsp found (job.Lsp notation) = IsNotation found notation
IsJob clock Dap found (job.Dap notation) = IsNotation found notation
IsJob clock Version found (job.Show text) = string_bytes text ≡ codes "tbc " ++ (VERSION.now ++ 10 ∷ [])
IsJob clock _ found _ = ⊥

-- the job of the command that the words name, by the arguments that the parser found for it, and whether its seed is the
-- clock's
abbrev pub IsAsked : Option ℕ → ArgMatches → Asked → Type 0
IsAsked clock matches asked =
    (command : CommandName) × (found : Found)
    × (subcommand_name_of matches ≡ Some (name_of command))
    × (option_map (λ pair. pair.1) (subcommand_rows_of matches) ≡ Some (rows_of found))
    × IsJob clock command found asked.job
    × (asked.is_by_clock ≡ is_by_clock found)
