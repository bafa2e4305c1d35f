-- Which texts a command makes, by the bytes of its inputs.
use Rattle.std.specs.Prelude.{◌≡◌, ℕ, Bool, true, false, List, [], ◌∷◌, ◌++◌, map, length, Contains, Option, Some, None, Ok, Err, MatchBool}
use Rattle.std.specs.Str.{bytes_eq}
use Rattle.std.specs.declared.alloc.Global.{Global}
use Rattle.std.specs.declared.vec.Vec.{Vec}
use Rattle.tb_engine_streams.specs.declared.outcome.NoRefusal.{NoRefusal}
use Rattle.tb_engine_streams.specs.declared.outcome.Done.{Done as AllDone}
use Rattle.tb_engine_files.specs.Deeds.{Product}
use Rattle.tb_compiled_errors.specs.declared.refusals.CompileError.{CompileError}
use Rattle.tb_compiled.specs.Compiled.{prg_of}
use Rattle.tb_compiled.specs.declared.compiled.Compiled.{Compiled}
use Rattle.tb_compiled.specs.declared.settings.CompileSettings.{CompileSettings}
use Rattle.tb_compiled.specs.declared.settings.SizeLimit.TheVariants.{Memory}
use Rattle.tb_basic_text.specs.declared.notation.Notation.{Notation}
use Rattle.tb_engines.specs.Assembly.{Assembles}
use Rattle.tb_engines.specs.Outcomes as engine
use Rattle.tb_engines.specs.declared.outcome.End.{End}
use Rattle.tb_engines.specs.declared.outcome.End.TheVariants as end
use Rattle.tb_engines.specs.declared.outcome.Refusal.{Refusal}
use Rattle.tb_engines.specs.declared.outcome.Refusal.TheVariants as engine_refusal
use Rattle.tb_codegen.specs.Templates.{templates}
use Rattle.tb_compiled.specs.Answers.{Compiles}
use Rattle.tb_engine_listing.specs.Builds.{IsMade}
use Rattle.tb_engine_listing.specs.declared.build.Made.{Made}
use Rattle.tb_engine_monitor.specs.Files.{watch_text}
use Rattle.tb_assembly_dialects.specs.declared.dialect.Dialect.{Dialect}
use Rattle.tb_machine_disk.specs.declared.names.Name.{Name}
use Rattle.tb_machine_disk.specs.declared.image.File.{File}
use Rattle.tb_machine_disk.specs.Names.{IsName, field_of}
use Rattle.tb_machine_disk.specs.Images.{IsDiskOf}
use Rattle.tb_engine_disk.specs.Files.{Entry, entry_in}
use Rattle.tb_engine_disk.specs.Names.{NamesDisk, file_text}
use Rattle.tb_engine_disk.specs.Programs.{Judges}
use Rattle.tb_basic_format.specs.Texts.{IsTidyText}
use Rattle.tb_basic_renumber.specs.Answers.{Renumbers}
use Rattle.tb_program_files.specs.Listings.{Lists, Spells}
use Rattle.tb_program_files.specs.Names.{labels_of, listing_of, map_of, wants_texts, watch_of}
use Rattle.tb_program_files.specs.declared.building.BuildNames.{BuildNames}
use Rattle.tb_program_files.specs.declared.formatting.Tidiness.{Tidiness}
use Rattle.tb_program_files.specs.declared.formatting.Tidiness.TheVariants.{Done, Untidy}
use Rattle.tb_program_files.specs.declared.renumbering.RenumberRefusal.{RenumberRefusal}
use Rattle.tb_program_files.specs.declared.renumbering.RenumberRefusal.TheVariants as renumber_refusal

-- there is one text, of which this is so
abbrev pub OneText : (List ℕ → Type 0) → List (List ℕ) → Type 0
OneText is texts = (text : List ℕ) × is text × (texts ≡ text ∷ [])

-- what an engine makes of an input, as the only text; or why there is none
abbrev pub IsOnly : (engine.Product → Type 0) → Product End Refusal → Type 0
IsOnly makes (Ok made) = OneText (λ text. makes (Ok (text, made.0))) made.1
IsOnly makes (Err e) = makes (Err e)

-- assembling makes the image of the text at an address
abbrev pub MakesImage : ℕ → List ℕ → Product End Refusal → Type 0
MakesImage at text product = IsOnly (Assembles at text) product

-- listing makes the listing of a PRG file
abbrev pub MakesListing : Option Dialect → List ℕ → Product End Refusal → Type 0
MakesListing dialect file product = IsOnly (Lists dialect file) product

-- the compiler refuses a source by these settings
abbrev pub IsNotCompiled : CompileSettings → List ℕ → Refusal → Type 0
IsNotCompiled settings source e = (error : CompileError) × Compiles templates settings source (Err error) × (e ≡ engine_refusal.Source error)

-- mapping makes the map of a source's program by these settings
abbrev pub MakesMap : CompileSettings → List ℕ → Product End Refusal → Type 0
MakesMap settings source (Ok made) =
    (made.0 ≡ end.Done) × (program : Compiled) × Compiles templates settings source (Ok program)
    × (told : Made) × IsMade settings.notation source program told × (made.1 ≡ told.map.items ∷ [])
MakesMap settings source (Err e) = IsNotCompiled settings source e

-- a tidy text is written where it is always, or if the source is not tidy
abbrev pub tidy_texts : (is_always is_tidy : Bool) → List ℕ → List (List ℕ)
tidy_texts true is_tidy text = text ∷ []
tidy_texts false true text = []
tidy_texts false false text = text ∷ []

-- formatting makes the tidy text of a source, if it is to be written
abbrev pub MakesTidy : Notation → (is_always : Bool) → List ℕ → Product Tidiness NoRefusal → Type 0
MakesTidy notation is_always source (Ok made) =
    (made.0 ≡ Done) × (text : List ℕ) × IsTidyText notation false source text × (made.1 ≡ tidy_texts is_always (bytes_eq text source) text)
MakesTidy notation is_always source (Err never) = ⊥

-- the line that tells the name of a source
abbrev pub told : List ℕ → List ℕ
told name = name ++ 10 ∷ []

-- how telling ends whether a source is tidy, with the line that is written if it is not
abbrev pub tidiness : List ℕ → (is_tidy : Bool) → Tidiness × List (List ℕ)
tidiness name true = (Done, [])
tidiness name false = (Untidy, told name ∷ [])

-- checking tells the name of a source that is not its own tidy text
abbrev pub ChecksTidy : Notation → List ℕ → List ℕ → Product Tidiness NoRefusal → Type 0
ChecksTidy notation name source (Ok made) =
    (text : List ℕ) × IsTidyText notation false source text × (made ≡ tidiness name (bytes_eq text source))
ChecksTidy notation name source (Err never) = ⊥

-- how a source is compiled before it is renumbered: it may take the memory; a first state of RND changes nothing of that
abbrev pub settings_of : Notation → CompileSettings
settings_of notation = record { seed = 1; size = Memory; notation = notation }

-- renumbering makes the text of a source with other line numbers; or the compiler refuses the source, or it is not renumbered
abbrev pub MakesRenumbered : Notation → (first step : ℕ) → List ℕ → Product AllDone RenumberRefusal → Type 0
MakesRenumbered notation first step source (Ok made) =
    (answer : Vec ℕ Global) × Renumbers notation first step source (Ok answer) × (made.1 ≡ answer.items ∷ [])
MakesRenumbered notation first step source (Err (renumber_refusal.Source e)) = IsNotCompiled (settings_of notation) source e
MakesRenumbered notation first step source (Err (renumber_refusal.Renumber e)) = Renumbers notation first step source (Err e)

-- a file of a disk: its name is that of its path, and its bytes are a program that belongs on a disk
abbrev pub IsEntry : List ℕ → List ℕ → Entry → Type 0
IsEntry path bytes e = IsName (file_text path) × (e.0 ≡ field_of (file_text path)) × (e.1 ≡ bytes) × Judges bytes (Ok tt)

-- the names of files of a disk
abbrev pub names_of : List Entry → List (List ℕ)
names_of es = map (λ e. e.0) es

-- the files of a disk, one for each path, in the order of the paths, no two with one name
abbrev pub AreEntries : List (List ℕ) → List (List ℕ) → List Entry → Type 0
AreEntries [] [] [] = Unit {0}
AreEntries (path ∷ paths) (bytes ∷ all) (e ∷ es) = IsEntry path bytes e × (¬ Contains (names_of es) e.0) × AreEntries paths all es
AreEntries paths all es = ⊥

-- a disk that is named by a path has these files, and this is its image
abbrev pub IsDiskWith : List ℕ → List Entry → List ℕ → Type 0
IsDiskWith out es image = (title : Name) × (files : List File) × NamesDisk out title × (map entry_in files ≡ es) × IsDiskOf title files image

-- making a disk makes the image of a disk with all files
abbrev pub MakesDisk : List (List ℕ) → List ℕ → AllDone → List (List ℕ) → List (List ℕ) → Type 0
MakesDisk paths out end all texts = (es : List Entry) × AreEntries paths all es × OneText (IsDiskWith out es) texts

-- a text, if its file is wanted
abbrev pub wanted_text : Option (List ℕ) → List ℕ → List (List ℕ)
wanted_text None text = []
wanted_text (Some path) text = text ∷ []

-- a listing as it is written for an assembler: as it is for `tbc asm`, and else as the other one takes it
abbrev pub IsListing : Option Dialect → List ℕ → List ℕ → List ℕ → Type 0
IsListing None prg listing text = text ≡ listing
IsListing (Some dialect) prg listing text = Spells dialect prg listing text

-- the listing, if its file is wanted
abbrev pub WantedListing : Option (List ℕ) → Option Dialect → List ℕ → List ℕ → List (List ℕ) → Type 0
WantedListing None dialect prg listing texts = texts ≡ []
WantedListing (Some path) dialect prg listing texts = OneText (IsListing dialect prg listing) texts

-- a program's PRG file, and the texts that tell of it, as far as they are wanted, in the order of their files
abbrev pub AreWanted : BuildNames → List ℕ → Made → List (List ℕ) → Type 0
AreWanted names prg made texts =
    (listings : List (List ℕ)) × WantedListing (listing_of names) names.dialect prg made.listing.items listings
    × (texts ≡ prg ∷ wanted_text (labels_of names) made.labels.items ++ listings ++ wanted_text (map_of names) made.map.items
    ++ wanted_text (watch_of names) (watch_text (length prg)))

-- a program's PRG file and the wanted texts that tell of it, by the source and its program
abbrev pub TellsAll : BuildNames → Notation → List ℕ → Compiled → List (List ℕ) → Type 0
TellsAll names notation source program texts = (made : Made) × IsMade notation source program made × AreWanted names (prg_of program) made texts

-- the PRG file alone
abbrev pub IsFileAlone : Compiled → List (List ℕ) → Type 0
IsFileAlone program texts = texts ≡ prg_of program ∷ []

-- all that is wanted of a source and its program
abbrev pub Tells : BuildNames → Notation → List ℕ → Compiled → List (List ℕ) → Type 0
Tells names notation source program texts =
    MatchBool (wants_texts names) (TellsAll names notation source program texts) (IsFileAlone program texts)

-- building makes these texts of the program that the compiler answers for a source by these settings; or the compiler refuses
-- the source
abbrev pub MakesBuild : BuildNames → CompileSettings → List ℕ → Product End Refusal → Type 0
MakesBuild names settings source (Ok made) =
    (made.0 ≡ end.Done) × (program : Compiled) × Compiles templates settings source (Ok program) × Tells names settings.notation source program made.1
MakesBuild names settings source (Err e) = IsNotCompiled settings source e
