-- Worked rows: what is said of which file. Each is worked out by hand.
use Rattle.std.proofs.Common.{◌≡◌, ℕ, Bool, true, false, List, [], ◌∷◌, Option, Some, None, refl}
use Rattle.std.specs.Prelude.{codes}
use Rattle.std.specs.declared.alloc.Global.{Global}
use Rattle.std.specs.declared.string.String.{String}
use Rattle.std.specs.declared.io.ErrorKind.{ErrorKind}
use Rattle.std.specs.declared.io.ErrorKind.TheVariants.{NotFound, PermissionDenied, StorageFull, BrokenPipe}
use Rattle.tb_engine_files.specs.declared.places.Named.{Named}
use Rattle.tb_engine_files.specs.declared.places.Place.TheVariants.{File}
use Rattle.tb_engine_disk.specs.declared.outcome.DiskRefusal.TheVariants.{BadName, Text as IsText}
use Rattle.tb_program_reasons.specs.declared.files.Purpose.TheVariants.{Input, Keys, Output}
use Rattle.tb_program_reasons.specs.declared.files.Told.{Told}
use Rattle.tb_program_reasons.specs.declared.reasons.FileReason.TheVariants as reason
use Rattle.tb_program_reasons.specs.Files.{reason_of}
use Rattle.tb_program_reasons.specs.Prgs.{disk_note}
use Rattle.tb_program_reasons.specs.Clashes.{first_clash}

-- what is told of a file that could not be opened
abbrev pub failed : ErrorKind → Told
failed error = record { error = Some error; is_folder = false; length = 0 }

-- what is told of one that could
abbrev pub there : Bool → ℕ → Told
there is_folder length = record { error = None; is_folder = is_folder; length = length }

-- a source that isn't there
pub no_source : reason_of Input (failed NotFound) ≡ Some reason.NoSuchFile
no_source = refl

-- a folder for OUT that isn't there
pub no_folder : reason_of Output (failed NotFound) ≡ Some reason.NoSuchFolder
no_folder = refl

pub full : reason_of Output (failed StorageFull) ≡ Some reason.DiskFull
full = refl

-- nothing is said of an error that says nothing
pub unsaid : reason_of Output (failed BrokenPipe) ≡ None
unsaid = refl

-- a folder in place of a source
pub a_folder : reason_of Input (there true 4096) ≡ Some reason.IsFolder
a_folder = refl

-- a source of as many bytes as it may have, and of one more
pub longest : reason_of Input (there false 1048576) ≡ None
longest = refl

pub too_long : reason_of Input (there false 1048577) ≡ Some reason.TooLong
too_long = refl

-- a key file may have more
pub longest_keys : reason_of Keys (there false 2097154) ≡ None
longest_keys = refl

pub keys_too_long : reason_of Keys (there false 2097155) ≡ Some reason.KeysTooLong
keys_too_long = refl

-- an image that is named otherwise
pub no_image : disk_note (codes "a.img") (codes "b.prg" ∷ []) 0 BadName ≡ Some (codes "a.img", reason.NoImageName)
no_image = refl

-- the second file's name is looked at after one file was opened
pub second_name : disk_note (codes "a.d64") (codes "b.prg" ∷ codes "c#.prg" ∷ []) 1 BadName ≡ Some (codes "c#.prg", reason.NoDiskName)
second_name = refl

-- the second file is a text
pub second_text : disk_note (codes "a.d64") (codes "b.prg" ∷ codes "c.prg" ∷ []) 2 IsText ≡ Some (codes "c.prg", reason.Text)
second_text = refl

module _ (end : String Global) where
  -- a path that leads to a file
  abbrev pub file : List ℕ → ℕ → Named
  file path number =
      record { path = record { ref_ptr = (0, 0); now = path }; place = File (record { device = 1; number = number }) end }

  -- the map would be written over the source
  pub over_source : first_clash (file (codes "a.bas") 7 ∷ []) (file (codes "a.prg") 8 ∷ file (codes "./a.bas") 7 ∷ [])
      ≡ Some (codes "./a.bas", codes "a.bas")
  over_source = refl

  -- all files are others
  pub no_clash : first_clash (file (codes "a.bas") 7 ∷ []) (file (codes "a.prg") 8 ∷ []) ≡ None
  no_clash = refl
