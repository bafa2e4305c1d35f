-- Files by their paths.
use Rattle.std.specs.Prelude.{ℕ, ◌+◌, Option, Some, None, option_map, List, [], ◌∷◌, if◌then◌else◌}
use Rattle.std.specs.List.{slice_get}
use Rattle.std.specs.Str.{bytes_eq}
use Rattle.tb_assembly_files.specs.declared.library.SourceFile.{SourceFile}

-- a file: its path, and its text, if it could be read
pub record Source : Type 0 where
  pub path : List ℕ
  pub text : Option (List ℕ)

-- a file of the code as contracts see it
abbrev pub source_of : SourceFile → Source
source_of f = record { path = f.path.items; text = option_map (λ t. t.items) f.text }

-- the number of the first file with a path, where the first of these has the number n
abbrev pub found_from : ℕ → List ℕ → List Source → Option ℕ
found_from n path [] = None
found_from n path (s ∷ ss) = if bytes_eq s.path path then Some n else found_from (n + 1) path ss

-- the file with a path
abbrev pub found : List ℕ → List Source → Option ℕ
found path lib = found_from 0 path lib

-- the path of what may be a file
abbrev pub path_in : Option Source → List ℕ
path_in None = []
path_in (Some s) = s.path

-- the path of a file by its number
abbrev pub path_at : List Source → ℕ → List ℕ
path_at lib i = path_in (slice_get lib i)

-- the text of what may be a file
abbrev pub text_in : Option Source → Option (List ℕ)
text_in None = None
text_in (Some s) = s.text

-- the text of a file by its number, if it could be read
abbrev pub text_at : List Source → ℕ → Option (List ℕ)
text_at lib i = text_in (slice_get lib i)
