-- Which files may be written. A file whose text is replaced by one that is made of it (`replace`) is no subject of this.
use Rattle.std.specs.Prelude.{◌≡◌, ℕ, Bool, true, false, ◌||◌, ◌&&◌, not, if◌then◌else◌, string_bytes, List, [], ◌∷◌, map, All, Option, Some, None, find, option_map, MatchBool, Result, Ok, Err, ⊤}
use Rattle.tb_engine_files.specs.Looks.{looks_like}
use Rattle.tb_engine_files.specs.Names.{is_assembler_name, is_source_name}
use Rattle.tb_engine_files.specs.Places.{clashes}
use Rattle.tb_engine_files.specs.declared.checks.Barred.{Barred}
use Rattle.tb_engine_files.specs.declared.checks.Barred.TheVariants.{SameFile, Source, Unlike, NoMemory}
use Rattle.tb_engine_files.specs.declared.checks.Output.{Output}
use Rattle.tb_engine_files.specs.declared.checks.Seen.{Seen}
use Rattle.tb_engine_files.specs.declared.looks.Kind.{Kind}
use Rattle.tb_engine_files.specs.declared.looks.Kind.TheVariants.{Program, Code, Image, Labels, Listing, Map, Watch, Page, Keys, Transcript}
use Rattle.tb_engine_files.specs.declared.looks.Look.{Look}
use Rattle.tb_engine_files.specs.declared.places.Place.{Place}
use Rattle.tb_engine_files.specs.declared.places.Place.TheVariants.{File, Missing, Elsewhere}
use Rattle.tb_engine_files.specs.declared.places.Named.{Named}

-- these paths, each with a place to which it leads
abbrev pub AreNamed : {F : Type 0} → (F → List ℕ → Place → Type 0) → F → List (List ℕ) → List Named → Type 0
AreNamed leads f paths named = (map (λ n. n.path.now) named ≡ paths) × All (λ n. leads f n.path.now n.place) named

-- an output: its path, and what is written there
abbrev pub put_of : Output → List ℕ × Kind
put_of o = (o.path.now, o.kind)

-- the path of an output
abbrev pub path_of : Output → List ℕ
path_of o = o.path.now

-- a listing may have the name of a text for assemblers, since it looks like none that people write
abbrev pub is_listing : Kind → Bool
is_listing Listing = true
is_listing Program = false
is_listing (Code at) = false
is_listing Image = false
is_listing Labels = false
is_listing Map = false
is_listing Watch = false
is_listing Page = false
is_listing Keys = false
is_listing Transcript = false

-- a path ends as that of a text that people write, where this kind is to be written
abbrev pub is_kept_name : Kind → List ℕ → Bool
is_kept_name kind path = is_source_name path || (not (is_listing kind) && is_assembler_name path)

-- a file is there, and its path or the one to which all links lead ends so
abbrev pub is_text_at : Kind → List ℕ → Place → Bool
is_text_at kind path (File node end) = is_kept_name kind path || is_kept_name kind (string_bytes end)
is_text_at kind path (Missing folder name) = false
is_text_at kind path Elsewhere = false

-- a path leads to a text of people that is there
abbrev pub is_text_there : Kind → Named → Bool
is_text_there kind n = is_text_at kind n.path.now n.place

-- the first of these outputs, with their places, where a text of people is
abbrev pub first_text : List Named → List Output → Option (List ℕ)
first_text (n ∷ ns) (o ∷ os) = if is_text_there o.kind n then Some n.path.now else first_text ns os
first_text (n ∷ ns) [] = None
first_text [] os = None

-- whether files may be written, whatever they look like, of which these are the places of what must be kept and of the outputs
abbrev pub Allows : List Named → List Named → List Output → Result Unit Barred → Type 0
Allows kept written outputs (Ok u) = (clashes kept written ≡ false) × (first_text written outputs ≡ None)
Allows kept written outputs (Err SameFile) = clashes kept written ≡ true
Allows kept written outputs (Err (Source path)) = (clashes kept written ≡ false) × (first_text written outputs ≡ Some path.now)
Allows kept written outputs (Err (Unlike o)) = ⊥
Allows kept written outputs (Err NoMemory) = ⊥

-- these outputs, each with what a look at its path showed
abbrev pub AreSeen : {F : Type 0} → (F → List ℕ → Option Look → Type 0) → F → List Output → List Seen → Type 0
AreSeen shows f outputs seen = (map (λ s. s.output) seen ≡ outputs) × All (λ s. shows f (path_of s.output) s.look) seen

-- a regular file is there that doesn't look like one of a kind
abbrev pub is_other : Kind → Option Look → Bool
is_other kind (Some look) = not (looks_like kind look)
is_other kind None = false

-- what is there doesn't look like what is to be written
abbrev pub is_unlike : Seen → Bool
is_unlike s = is_other s.output.kind s.look

-- by a look at each: no output has something else there, or the first that has
abbrev pub Looks : {F : Type 0} → (F → List ℕ → Option Look → Type 0) → F → List Output → Result Unit Barred → Type 0
Looks shows f outputs (Ok u) = (seen : List Seen) × AreSeen shows f outputs seen × (find is_unlike seen ≡ None)
Looks shows f outputs (Err (Unlike o)) = (seen : List Seen) × AreSeen shows f outputs seen × (option_map (λ s. s.output) (find is_unlike seen) ≡ Some o)
Looks shows f outputs (Err NoMemory) = ⊤
Looks shows f outputs (Err SameFile) = ⊥
Looks shows f outputs (Err (Source path)) = ⊥

-- these outputs have places by which they may be written, or not, whatever they look like
abbrev pub Placed : {F : Type 0} → (F → List ℕ → Place → Type 0) → F → List (List ℕ) → List Output → Result Unit Barred → Type 0
Placed leads f kept outputs result =
    (ks : List Named) × (ws : List Named) × AreNamed leads f kept ks × AreNamed leads f (map path_of outputs) ws × Allows ks ws outputs result

-- whether a command may write files: by their places, and by what they look like, unless it is forced
abbrev pub Judges : {F : Type 0} → (F → List ℕ → Place → Type 0) → (F → List ℕ → Option Look → Type 0)
    → F → List (List ℕ) → List Output → Bool → Result Unit Barred → Type 0
Judges leads shows f kept outputs is_forced (Ok u) = Placed leads f kept outputs (Ok u) × MatchBool is_forced ⊤ (Looks shows f outputs (Ok u))
Judges leads shows f kept outputs is_forced (Err SameFile) = Placed leads f kept outputs (Err SameFile)
Judges leads shows f kept outputs is_forced (Err (Source path)) = Placed leads f kept outputs (Err (Source path))
Judges leads shows f kept outputs is_forced (Err (Unlike o)) =
    (is_forced ≡ false) × Placed leads f kept outputs (Ok tt) × Looks shows f outputs (Err (Unlike o))
Judges leads shows f kept outputs is_forced (Err NoMemory) = ⊤
