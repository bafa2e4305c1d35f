-- What is published of a text.
use Rattle.std.specs.Prelude.{ℕ, ℤ, ◌≡◌, ◌≤◌, ◌<◌, Bool, List, [], ◌∷◌, ◌++◌, codes, length, Option, Some, None, if◌then◌else◌}
use Rattle.serde_json.specs.Data.{Data, array, member, no_members, number, object, string}
use Rattle.serde_json.specs.Find.{of_integer}
use Rattle.serde_json.specs.View.{items_of}
use Rattle.tb_engine_streams.specs.Streams.{most_input}
use Rattle.tb_basic_text.specs.Lines.{lines_of_file}
use Rattle.tb_basic_text.specs.declared.notation.Notation.{Notation}
use Rattle.tb_basic_options.specs.Options.{notation_for, options_of}
use Rattle.tb_engine_findings.specs.Fitted.{AreFitted}
use Rattle.tb_engine_findings.specs.declared.examination.Findings.{Findings}
use Rattle.tb_editor_messages.specs.Messages.{Says}
use Rattle.tb_lsp_diagnostics.specs.Diagnostics.{fitted_of, on_bad_words, too_long}
use Rattle.tb_compiled.specs.Promise.{Own}

-- the params of what is published, with the version of the text if that is known
abbrev pub params_of : List ℕ → Option ℤ → List Data → Data
params_of uri None found = object (member (codes "diagnostics") (array (items_of found)) (member (codes "uri") (string uri) no_members))
params_of uri (Some version) found =
    object (member (codes "diagnostics") (array (items_of found)) (member (codes "uri") (string uri) (member (codes "version") (number (of_integer version)) no_members)))

-- the message that publishes diagnostics of a text
abbrev pub published_of : List ℕ → Option ℤ → List Data → Data
published_of uri version found =
    object (member (codes "jsonrpc") (string (codes "2.0")) (member (codes "method") (string (codes "textDocument/publishDiagnostics"))
    (member (codes "params") (params_of uri version found) no_members)))

-- what is told of the cost: nothing if the source asks for `--fit` itself
abbrev pub told_cost : Bool → Option ℕ → Option ℕ
told_cost fit cost = if fit then None else cost

-- diagnostics of a source: those of its findings, which are what `check` says of it in a notation, where it may take the
-- memory, and of its own words; or that it has too many bytes
abbrev pub Diagnoses : Own → Notation → List ℕ → List ℕ → List Data → Type 0
Diagnoses own notation uri source found =
    (length source ≤ most_input → (cost : Option ℕ) × (f : Findings) × AreFitted own (notation_for notation source) source cost f
    × (found ≡ fitted_of uri (lines_of_file source) (told_cost (options_of source).fit cost) f ++ on_bad_words (lines_of_file source) (options_of source).bad))
    × (most_input < length source → found ≡ too_long ∷ [])

-- a content that publishes diagnostics of a source
abbrev pub Publishes : Own → Notation → List ℕ → Option ℤ → List ℕ → List ℕ → Type 0
Publishes own notation uri version source content = (found : List Data) × Diagnoses own notation uri source found × Says content (published_of uri version found)
