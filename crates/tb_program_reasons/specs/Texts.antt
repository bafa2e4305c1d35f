-- The texts of reasons.
use Rattle.std.specs.Prelude.{ℕ, List, ◌++◌, codes}
use Rattle.tb_program_reasons.specs.declared.reasons.FileReason.{FileReason}
use Rattle.tb_program_reasons.specs.declared.reasons.FileReason.TheVariants as reason
use Rattle.tb_program_reasons.specs.declared.reasons.TheConstants.{DISK_FULL, DISK_NAME_TWICE, IS_FOLDER, KEPT, KEYS_TOO_LONG, NOT_RAM, NO_DISK_NAME, NO_IMAGE_NAME}
use Rattle.tb_program_reasons.specs.declared.reasons.TheConstants.{NO_PERMISSION, NO_SUCH_FILE, NO_SUCH_FOLDER, PROGRAM, RUNS_PAST, TEXT, TOO_LONG, TOO_SHORT}

-- what is said of a reason
abbrev pub reason_text : FileReason → List ℕ
reason_text reason.NoSuchFile = NO_SUCH_FILE.now
reason_text reason.NoSuchFolder = NO_SUCH_FOLDER.now
reason_text reason.IsFolder = IS_FOLDER.now
reason_text reason.NoPermission = NO_PERMISSION.now
reason_text reason.DiskFull = DISK_FULL.now
reason_text reason.Replaced = codes "replaced"
reason_text reason.Kept = KEPT.now
reason_text reason.TooLong = TOO_LONG.now
reason_text reason.KeysTooLong = KEYS_TOO_LONG.now
reason_text reason.NoImageName = NO_IMAGE_NAME.now
reason_text reason.NoDiskName = NO_DISK_NAME.now
reason_text reason.DiskNameTwice = DISK_NAME_TWICE.now
reason_text reason.TooShort = TOO_SHORT.now
reason_text reason.RunsPast = RUNS_PAST.now
reason_text reason.Text = TEXT.now
reason_text reason.NotRam = NOT_RAM.now
reason_text reason.Program = PROGRAM.now

-- what is said of a file
abbrev pub file_note_text : List ℕ → FileReason → List ℕ
file_note_text path r = path ++ (codes ": " ++ reason_text r)
