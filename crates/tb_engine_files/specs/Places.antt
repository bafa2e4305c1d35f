-- When two paths lead to one file.
use Rattle.std.specs.Prelude.{Bool, false, ◌&&◌, ◌||◌, ◌==◌, List, [], ◌∷◌, string_bytes}
use Rattle.std.specs.List.{list_any}
use Rattle.std.specs.Str.{bytes_eq}
use Rattle.tb_engine_files.specs.declared.places.Node.{Node}
use Rattle.tb_engine_files.specs.declared.places.Place.{Place}
use Rattle.tb_engine_files.specs.declared.places.Place.TheVariants.{File, Missing}
use Rattle.tb_engine_files.specs.declared.places.Named.{Named}

-- whether two nodes have one device, and one number on it
abbrev pub same_node : Node → Node → Bool
same_node a b = (a.device == b.device) && (a.number == b.number)

-- one file, or one name in one folder
abbrev pub same_place : Place → Place → Bool
same_place (File a path) (File b other) = same_node a b
same_place (Missing a name) (Missing b other) = same_node a b && bytes_eq (string_bytes name) (string_bytes other)
same_place a b = false

-- two paths are spelled alike, or lead to one file
abbrev pub is_same : Named → Named → Bool
is_same a b = bytes_eq a.path.now b.path.now || same_place a.place b.place

-- one of the files that are to be written must be kept, or is to be written twice
abbrev pub clashes : List Named → List Named → Bool
clashes kept [] = false
clashes kept (w ∷ ws) = list_any (is_same w) kept || (list_any (is_same w) ws || clashes kept ws)
