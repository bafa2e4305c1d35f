-- Where included files are.
use Rattle.std.specs.Prelude.{ℕ, ◌+◌, Bool, false, ◌==◌, List, [], ◌∷◌, ◌++◌, take, if◌then◌else◌}

-- how many bytes of a path name its folder: those up to the last slash
abbrev pub folder_size : ℕ → ℕ → List ℕ → ℕ
folder_size found passed [] = found
folder_size found passed (b ∷ bs) = folder_size (if b == 47 then passed + 1 else found) (passed + 1) bs

-- the folder of a file by the file's path
abbrev pub folder : List ℕ → List ℕ
folder path = take (folder_size 0 0 path) path

-- whether a path begins with a slash
abbrev pub is_absolute : List ℕ → Bool
is_absolute [] = false
is_absolute (b ∷ bs) = b == 47

-- the path of a file that is named in another one
abbrev pub beside : List ℕ → List ℕ → List ℕ
beside path name = if is_absolute name then name else folder path ++ name
