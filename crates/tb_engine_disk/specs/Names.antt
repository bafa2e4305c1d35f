-- The names that files and disks get, from the names of files on the host.
use Rattle.std.specs.Prelude.{ℕ, ◌≡◌, ◌==◌, ◌-◌, ◌⊎◌, nat_eq, List, [], ◌∷◌, length, take, map, unwrap_or, ⊤, if◌then◌else◌}
use Rattle.std.specs.List.{ends_with}
use Rattle.std.specs.Char.{to_ascii_uppercase}
use Rattle.std.specs.Path.{path_file_name}
use Rattle.tb_machine_disk.specs.declared.names.Name.{Name}
use Rattle.tb_machine_disk.specs.Names.{IsName}
use Rattle.tb_machine_disk.specs.Images.{text_of}
use Rattle.tb_engine_disk.specs.Outcomes.{DiskFailure}
use Rattle.tb_engine_streams.specs.declared.outcome.Outcome.TheVariants.{Ended, Refused, ReadFault, WriteFault, NoMemory}
use Rattle.tb_engine_disk.specs.declared.outcome.DiskRefusal.TheVariants.{BadName}

-- a letter in upper case, `_` as `-`; every other byte as it is
abbrev pub sign_of : ℕ → ℕ
sign_of c = if c == 95 then 45 else to_ascii_uppercase c

-- the last part of a path, as characters of a name
abbrev pub signs_of : List ℕ → List ℕ
signs_of path = map sign_of (unwrap_or (path_file_name path) [])

-- characters without an ending, if they have it
abbrev pub without : List ℕ → List ℕ → List ℕ
without ending signs =
    if ends_with nat_eq signs ending then take (length signs - length ending) signs else signs

-- what a file is called: its path's last part without `.PRG`
abbrev pub file_text : List ℕ → List ℕ
file_text path = without (46 ∷ 80 ∷ 82 ∷ 71 ∷ []) (signs_of path)

-- what a disk is called: its path's last part without `.D64`, cut at 16 characters
abbrev pub disk_text : List ℕ → List ℕ
disk_text path = take 16 (without (46 ∷ 68 ∷ 54 ∷ 52 ∷ []) (signs_of path))

-- the name of a disk: what it is called, or `TBC` if that is no name
abbrev pub NamesDisk : List ℕ → Name → Type 0
NamesDisk path name =
    (IsName (disk_text path) × (text_of name ≡ disk_text path)) ⊎ ((¬ IsName (disk_text path)) × (text_of name ≡ 84 ∷ 66 ∷ 67 ∷ []))

-- why a file gets no name
abbrev pub Unnamed : List ℕ → DiskFailure → Type 0
Unnamed path (Refused BadName) = ¬ IsName (file_text path)
Unnamed path (Refused e) = ⊥
Unnamed path NoMemory = ⊤
Unnamed path (Ended never) = ⊥
Unnamed path ReadFault = ⊥
Unnamed path WriteFault = ⊥
