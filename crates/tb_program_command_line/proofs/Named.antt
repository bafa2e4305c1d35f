-- A command that is found by a name has that name.
use Rattle.std.proofs.Common.{◌≡◌, ℕ, Bool, true, false, ◌&&◌, List, [], ◌∷◌, Some, refl, sym, ap, ◌∙◌}
use Rattle.std.specs.Str.{bytes_eq}
use Rattle.std.proofs.lemmas.Slice.Eq.{bytes_eq-Decides}
use Rattle.tb_program_command_line.specs.Table.{AreNamed, command_of, name_of}
use Rattle.tb_program_command_line.specs.declared.commands.CommandName.{CommandName}
use Rattle.tb_program_command_line.specs.declared.commands.CommandRow.{CommandRow}

first_of : (a b : Bool) → (a && b) ≡ true → a ≡ true
first_of true b e = refl
first_of false b e = e

rest_of : (a b : Bool) → (a && b) ≡ true → b ≡ true
rest_of true b e = e
rest_of false b e = absurd (cc)

some_same : (a b : CommandName) → Some a ≡ Some b → a ≡ b
some_same a b e = cc

pub found_name : (rows : List CommandRow) (name : List ℕ) (command : CommandName) → AreNamed rows → command_of rows name ≡ Some command
    → name ≡ name_of command
found_name [] name command named found = absurd (cc)
found_name (row ∷ rows) name command named found =
    go (λ rest. found_name rows name command (rest_of _ _ named) rest) (bytes_eq row.name.now name) refl
  where
    go : (command_of rows name ≡ Some command → name ≡ name_of command) → (is : Bool) → bytes_eq row.name.now name ≡ is → name ≡ name_of command
    go later true e =
        let same : row.name.now ≡ name = (bytes_eq-Decides row.name.now name).0 e in
        let its : Some row.command ≡ Some command = rw e at found in
        let is_named : row.name.now ≡ name_of row.command = (bytes_eq-Decides row.name.now (name_of row.command)).0 (first_of _ _ named) in
        sym same ∙ is_named ∙ ap name_of (some_same row.command command its)
    go later false e = later (rw e at found)
