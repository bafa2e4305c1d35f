-- Why a file is not read or written.
use Rattle.std.specs.Prelude.{ℕ, nat_lt, false, Option, Some, None, if◌then◌else◌}
use Rattle.std.specs.declared.io.ErrorKind.{ErrorKind}
use Rattle.std.specs.declared.io.ErrorKind.TheVariants as error
use Rattle.tb_engine_streams.specs.Streams.{most_input}
use Rattle.tb_engine_streams.specs.Numbers.{MOST_KEY_FILE}
use Rattle.tb_program_reasons.specs.declared.files.Purpose.{Purpose}
use Rattle.tb_program_reasons.specs.declared.files.Purpose.TheVariants.{Input, Keys, Output}
use Rattle.tb_program_reasons.specs.declared.files.Told.{Told}
use Rattle.tb_program_reasons.specs.declared.reasons.FileReason.{FileReason}
use Rattle.tb_program_reasons.specs.declared.reasons.FileReason.TheVariants.{NoSuchFile, NoSuchFolder, IsFolder, NoPermission, DiskFull, TooLong, KeysTooLong}

-- what is told of a file that was not opened or written
abbrev pub failed : ErrorKind → Told
failed e = record { error = Some e; is_folder = false; length = 0 }

-- a file that isn't there can't be read; to be written it is made, if its folder is there
abbrev pub reason_if_missing : Purpose → FileReason
reason_if_missing Input = NoSuchFile
reason_if_missing Keys = NoSuchFile
reason_if_missing Output = NoSuchFolder

-- what an error of the system means; the other errors say nothing that helps
abbrev pub reason_by_error : Purpose → ErrorKind → Option FileReason
reason_by_error p error.NotFound = Some (reason_if_missing p)
reason_by_error p error.NotADirectory = Some (reason_if_missing p)
reason_by_error p error.IsADirectory = Some IsFolder
reason_by_error p error.PermissionDenied = Some NoPermission
reason_by_error p error.ReadOnlyFilesystem = Some NoPermission
reason_by_error p error.StorageFull = Some DiskFull
reason_by_error p error.QuotaExceeded = Some DiskFull
reason_by_error p _ = None

-- a file that is read may be too long
abbrev pub reason_by_length : Purpose → ℕ → Option FileReason
reason_by_length Input n = if nat_lt most_input n then Some TooLong else None
reason_by_length Keys n = if nat_lt MOST_KEY_FILE n then Some KeysTooLong else None
reason_by_length Output n = None

-- by the error, if there was one, or else by what the file is
abbrev pub reason_told : Purpose → Option ErrorKind → Told → Option FileReason
reason_told p (Some e) told = reason_by_error p e
reason_told p None told = if told.is_folder then Some IsFolder else reason_by_length p told.length

-- why a file is not read or written
abbrev pub reason_of : Purpose → Told → Option FileReason
reason_of p told = reason_told p told.error told
