-- What taking files in and making a disk of them come to.
use Rattle.std.specs.Prelude.{ℕ, ◌≡◌, List, [], ◌∷◌, ◌++◌, map, Contains, Result, Ok, Err, ⊤}
use Rattle.tb_engine_disk.specs.Programs.{Judges}
use Rattle.tb_machine_disk.specs.declared.names.Name.{Name}
use Rattle.tb_machine_disk.specs.declared.image.File.{File}
use Rattle.tb_machine_disk.specs.Names.{IsName, field_of}
use Rattle.tb_machine_disk.specs.Images.{Fits, IsDiskOf}
use Rattle.tb_engine_disk.specs.Names.{file_text, Unnamed, NamesDisk}
use Rattle.tb_engine_disk.specs.declared.files.Taken.{Taken}
use Rattle.tb_engine_disk.specs.declared.files.DiskFiles.{DiskFiles}
use Rattle.tb_engine_disk.specs.Outcomes.{DiskFailure}
use Rattle.tb_engine_streams.specs.declared.outcome.Outcome.TheVariants.{Ended, Refused, ReadFault, WriteFault, NoMemory}
use Rattle.tb_engine_disk.specs.declared.outcome.DiskRefusal.TheVariants.{NameTwice, Full}

-- a file on a disk: its name's field, and its bytes
abbrev pub Entry : Type 0
Entry = List ℕ × List ℕ

-- the entry of a file that was taken in
abbrev pub entry_of : Taken → Entry
entry_of t = (t.name.field, t.bytes.items)

-- the entry of a file as the maker of disks has it
abbrev pub entry_in : File → Entry
entry_in f = (f.name.field, f.bytes.now)

-- the files that were taken in
abbrev pub entries : DiskFiles → List Entry
entries d = map entry_of d.files.items

-- one of them has this field as its name
abbrev pub IsUsed : DiskFiles → List ℕ → Type 0
IsUsed d field = Contains (map (λ t. t.name.field) d.files.items) field

-- the name of a file that may come next, or why it may not; a bad name is found first
abbrev pub NamesNext : DiskFiles → List ℕ → Result Name DiskFailure → Type 0
NamesNext d path (Ok name) = IsName (file_text path) × (name.field ≡ field_of (file_text path)) × ¬ (IsUsed d name.field)
NamesNext d path (Err (Refused NameTwice)) = IsName (file_text path) × IsUsed d (field_of (file_text path))
NamesNext d path (Err e) = Unnamed path e

-- the files with one more at their end, or why it was not taken in: one of them has the name, or it is no program that
-- belongs on a disk
abbrev pub Adds : DiskFiles → Name → List ℕ → Result DiskFiles DiskFailure → Type 0
Adds old name bytes (Ok new) = (¬ IsUsed old name.field) × Judges bytes (Ok tt) × (entries new ≡ entries old ++ (name.field, bytes) ∷ [])
Adds old name bytes (Err (Refused NameTwice)) = IsUsed old name.field
Adds old name bytes (Err (Refused e)) = (¬ IsUsed old name.field) × Judges bytes (Err e)
Adds old name bytes (Err NoMemory) = ⊤
Adds old name bytes (Err (Ended never)) = ⊥
Adds old name bytes (Err ReadFault) = ⊥
Adds old name bytes (Err WriteFault) = ⊥

-- these are the files that were taken in
abbrev pub AreTaken : DiskFiles → List File → Type 0
AreTaken d files = map entry_in files ≡ entries d

-- the image of the disk with the files; the disk is named by a path
abbrev pub IsImageOf : DiskFiles → List ℕ → List ℕ → Type 0
IsImageOf d path image =
    (title : Name) × (files : List File) × NamesDisk path title × AreTaken d files × IsDiskOf title files image

-- the files are too many or too large for a disk
abbrev pub IsFull : DiskFiles → Type 0
IsFull d = (files : List File) × AreTaken d files × ¬ Fits files

-- why there is no image
abbrev pub HasNoImage : DiskFiles → DiskFailure → Type 0
HasNoImage d (Refused Full) = IsFull d
HasNoImage d (Refused e) = ⊥
HasNoImage d NoMemory = ⊤
HasNoImage d (Ended never) = ⊥
HasNoImage d ReadFault = ⊥
HasNoImage d WriteFault = ⊥
