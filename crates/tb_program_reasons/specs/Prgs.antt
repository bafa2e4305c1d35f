-- Why a file is no PRG file, or isn't put on a disk.
use Rattle.std.specs.Prelude.{ℕ, ◌-◌, ◌==◌, ◌||◌, List, Option, Some, None, if◌then◌else◌}
use Rattle.std.specs.List.{slice_get}
use Rattle.std.specs.Str.{bytes_eq}
use Rattle.tb_prg.specs.declared.PrgError.{PrgError}
use Rattle.tb_prg.specs.declared.PrgError.TheVariants as prg
use Rattle.tb_engines.specs.declared.outcome.Refusal.{Refusal}
use Rattle.tb_engines.specs.declared.outcome.Refusal.TheVariants as refusal
use Rattle.tb_engine_disk.specs.declared.outcome.DiskRefusal.{DiskRefusal}
use Rattle.tb_engine_disk.specs.declared.outcome.DiskRefusal.TheVariants as disk
use Rattle.tb_engine_files.specs.Names.{ends_as, image_ending, standard}
use Rattle.tb_program_reasons.specs.declared.reasons.FileNote.{FileNote}
use Rattle.tb_program_reasons.specs.declared.reasons.FileReason.{FileReason}
use Rattle.tb_program_reasons.specs.declared.reasons.FileReason.TheVariants.{NoImageName, NoDiskName, DiskNameTwice, TooShort, RunsPast, Text, NotRam}

-- what is wrong with the bytes of a file
abbrev pub reason_of_prg : PrgError → FileReason
reason_of_prg prg.TooShort = TooShort
reason_of_prg prg.RunsPast = RunsPast

-- why a file that is to be run is refused; a source or a text is refused for other reasons
abbrev pub prg_reason : Refusal → Option FileReason
prg_reason (refusal.Prg e) = Some (reason_of_prg e)
prg_reason refusal.NotRam = Some NotRam
prg_reason (refusal.TextLine n) = None
prg_reason (refusal.Item e) = None
prg_reason (refusal.Source e) = None

-- what is said of a file: its path, and the reason
abbrev pub Said : Type 0
Said = List ℕ × FileReason

abbrev pub pair_of : FileNote → Said
pair_of n = (n.path.now, n.reason)

-- a reason that is said of a path, if there is one
abbrev pub said_if : Option (List ℕ) → FileReason → Option Said
said_if (Some path) reason = Some (path, reason)
said_if None reason = None

-- a reason that is said of one of some files, counted from 0
abbrev pub said_of : List (List ℕ) → ℕ → FileReason → Option Said
said_of paths n reason = said_if (slice_get paths n) reason

-- a bad name is the image's, or that of the file that would be opened next
abbrev pub bad_name_note : List ℕ → List (List ℕ) → ℕ → Option Said
bad_name_note out paths opened =
    if bytes_eq out standard || ends_as out image_ending then said_of paths opened NoDiskName else Some (out, NoImageName)

-- of which file it is said that a disk is refused: a name is looked at before its file is opened, and what it holds after
abbrev pub disk_note : List ℕ → List (List ℕ) → ℕ → DiskRefusal → Option Said
disk_note out paths opened disk.BadName = bad_name_note out paths opened
disk_note out paths opened disk.NameTwice = said_of paths opened DiskNameTwice
disk_note out paths opened (disk.Prg e) = said_of paths (opened - 1) (reason_of_prg e)
disk_note out paths opened disk.Text = said_of paths (opened - 1) Text
disk_note out paths opened disk.NotRam = said_of paths (opened - 1) NotRam
disk_note out paths opened disk.Full = None
