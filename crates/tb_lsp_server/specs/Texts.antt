-- The texts that are open.
use Rattle.std.specs.Prelude.{ℕ, ◌+◌, ◌≡◌, Bool, List, [], ◌∷◌, ◌++◌, string_bytes, slice_get, Option, Some, None, option_and_then, option_map, if◌then◌else◌}
use Rattle.std.specs.List.{remove}
use Rattle.std.specs.Option.{is_some}
use Rattle.std.specs.Str.{bytes_eq}
use Rattle.tb_lsp_server.specs.declared.texts.OpenText.{OpenText}

-- where a text is among those that are open, of which the first has this place
abbrev pub place_from : ℕ → List ℕ → List OpenText → Option ℕ
place_from i uri [] = None
place_from i uri (t ∷ texts) = if bytes_eq (string_bytes t.uri) uri then Some i else place_from (i + 1) uri texts

-- whether it is there
abbrev pub has : List ℕ → List OpenText → Bool
has uri texts = is_some (place_from 0 uri texts)

-- what a text is that is open
abbrev pub text_of : List ℕ → List OpenText → Option (List ℕ)
text_of uri texts = option_and_then (λ i. option_map (λ t. string_bytes t.text) (slice_get texts i)) (place_from 0 uri texts)

-- all but the one at a place
abbrev pub all_but : Option ℕ → List OpenText → List OpenText
all_but None texts = texts
all_but (Some i) texts = remove texts i

-- those that are open without one
abbrev pub without : List ℕ → List OpenText → List OpenText
without uri texts = all_but (place_from 0 uri texts) texts

-- a text is open now, in place of what it was
abbrev pub Opens : (uri text : List ℕ) → List OpenText → List OpenText → Type 0
Opens uri text old new = (t : OpenText) × (string_bytes t.uri ≡ uri) × (string_bytes t.text ≡ text) × (new ≡ without uri old ++ t ∷ [])
