-- The files that a build writes.
use Rattle.std.specs.Prelude.{ℕ, Bool, ◌||◌, is_some, List, [], ◌∷◌, ◌++◌, Option, Some, None, option_map}
use Rattle.tb_program_files.specs.declared.building.BuildNames.{BuildNames}

-- a file that is wanted
abbrev pub wanted : Option (List ℕ) → List (List ℕ)
wanted None = []
wanted (Some path) = path ∷ []

-- where a build writes its label file, its listing, its map and its watch file, if they are wanted
abbrev pub labels_of : BuildNames → Option (List ℕ)
labels_of names = option_map (λ p. p.now) names.labels

abbrev pub listing_of : BuildNames → Option (List ℕ)
listing_of names = option_map (λ p. p.now) names.listing

abbrev pub map_of : BuildNames → Option (List ℕ)
map_of names = option_map (λ p. p.now) names.map

abbrev pub watch_of : BuildNames → Option (List ℕ)
watch_of names = option_map (λ p. p.now) names.watch

-- the files of a build, in the order in which they are written
abbrev pub outputs_of : BuildNames → List (List ℕ)
outputs_of names =
    names.out.now ∷ wanted (labels_of names) ++ wanted (listing_of names) ++ wanted (map_of names) ++ wanted (watch_of names)

-- whether a text is wanted that tells of the program
abbrev pub wants_texts : BuildNames → Bool
wants_texts names = is_some names.labels || (is_some names.listing || (is_some names.map || is_some names.watch))
