-- Which files are read, and where the texts are from.
use Rattle.std.specs.Prelude.{◌≡◌, ◌⊎◌, ℕ, Bool, not, ◌&&◌, List, [], ◌∷◌, ◌++◌, map, filter, Option, Some, None, Err, MatchBool}
use Rattle.std.specs.Str.{bytes_eq, is_utf8}
use Rattle.tb_engine_files.specs.Deeds.{CantRead, Deed, Did, Holds, ReadsFile, read_with}
use Rattle.tb_engine_files.specs.Names.{standard}
use Rattle.tb_engine_streams.specs.declared.stream.InputError.TheVariants.{NoMemory}
use Rattle.tb_assembly_files.specs.Libraries.{Source}
use Rattle.tb_assembly_files.specs.Expansion.{expansion}

-- the path of the next file, by those that were read: the command's first, and then the one that a line includes
abbrev pub AsksFor : List ℕ → List Source → List ℕ → Type 0
AsksFor text [] path = path ≡ text
AsksFor text (s ∷ ss) path = expansion (s ∷ ss) ≡ Some (Err path)

-- a file is read, and this text is all that it holds; with no text it can't be read
abbrev pub GivesText : {F : Type 0} → (F → Deed → F → Type 0) → (F → List ℕ → Option (List ℕ) → Type 0) → F → List ℕ → Option (List ℕ) → F → Type 0
GivesText does holds f path None g = CantRead does holds f path g
GivesText does holds f path (Some text) g = Did does f (read_with 0 path) g × Holds holds f path text

-- the file at a path is read, and this is its text; a path that is no UTF-8 leads to no file
abbrev pub Takes : {F : Type 0} → (F → Deed → F → Type 0) → (F → List ℕ → Option (List ℕ) → Type 0) → F → List ℕ → Option (List ℕ) → F → Type 0
Takes does holds f path text g = MatchBool (is_utf8 path) (GivesText does holds f path text g) ((g ≡ f) × (text ≡ None))

-- memory ran out while the file at a path was read, or after that
abbrev pub LacksMemory : {F : Type 0} → (F → Deed → F → Type 0) → (F → List ℕ → Option (List ℕ) → Type 0) → F → List ℕ → F → Type 0
LacksMemory does holds f path g = ReadsFile does holds f path (Err NoMemory) g ⊎ ((text : Option (List ℕ)) × Takes does holds f path text g)

-- Behind files that were read, further ones are read: each at the path that is asked for. Nothing else is done.
abbrev pub Gathers : {F : Type 0} → (F → Deed → F → Type 0) → (F → List ℕ → Option (List ℕ) → Type 0) → List ℕ → F → List Source → List Source → F → Type 0
Gathers does holds text f before [] g = g ≡ f
Gathers does holds text f before (s ∷ ss) g =
    (h : _) × AsksFor text before s.path × Takes does holds f s.path s.text h × Gathers does holds text h (before ++ s ∷ []) ss g

-- whether a file that was read must be kept: all must, but for standard input
abbrev pub is_kept : List ℕ → Bool
is_kept path = is_utf8 path && not (bytes_eq path standard)

-- the paths of the files that must be kept
abbrev pub kept_of : List Source → List (List ℕ)
kept_of lib = filter is_kept (map (λ s. s.path) lib)
