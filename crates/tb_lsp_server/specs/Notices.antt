-- What notifications tell of texts.
use Rattle.std.specs.Prelude.{ℕ, ℤ, List, codes, Option, Some, None, option_and_then, option_map, if◌then◌else◌}
use Rattle.std.specs.Option.{is_some}
use Rattle.std.specs.Str.{bytes_eq}
use Rattle.serde_json.specs.Data.{Data, Items, item, no_items}
use Rattle.serde_json.specs.Find.{as_array, as_i64, as_null, as_number, as_str, get}
use Rattle.tb_lsp_server.specs.declared.notices.Notice.{Notice}
use Rattle.tb_lsp_server.specs.declared.notices.Notice.TheVariants as notice

-- what is told of a text: that it is open, changed as a whole, or open no more
pub data Told : Type 0 where
  open_text : (uri text : List ℕ) → Option ℤ → Told
  change_text : (uri text : List ℕ) → Option ℤ → Told
  close_text : (uri : List ℕ) → Told

-- what a notice tells
abbrev pub told : Notice → Told
told (notice.Open uri text version) = open_text uri.now text.now version
told (notice.Change uri text version) = change_text uri.now text.now version
told (notice.Close uri) = close_text uri.now

-- what is told, if something is
abbrev pub told_by : Option Notice → Option Told
told_by found = option_map told found

-- a text that is a member of a value
abbrev pub text_in : Data → List ℕ → Option (List ℕ)
text_in d name = option_and_then as_str (get name d)

-- an integer, or null; none where it is neither
abbrev pub version_by : Option Data → Option (Option ℤ)
version_by None = Some None
version_by (Some d) = if is_some (as_null d) then Some None else option_map (λ n. Some n) (option_and_then as_i64 (as_number d))

-- the version of a document, which may be left out; none where it is no integer
abbrev pub version_in : Data → Option (Option ℤ)
version_in d = version_by (get (codes "version") d)

-- the whole text of a change, by its range
abbrev pub text_without : Option Data → Option (List ℕ) → Option (List ℕ)
text_without None text = text
text_without (Some range) text = None

-- the whole text of a change
abbrev pub whole_text : Data → Option (List ℕ)
whole_text d = text_without (get (codes "range") d) (text_in d (codes "text"))

-- the text of the last of these changes after others, if all are changes of whole texts
abbrev pub last_text : Option (List ℕ) → Items → Option (List ℕ)
last_text found no_items = found
last_text found (item d ds) = option_and_then (λ text. last_text (Some text) ds) (whole_text d)

-- the name of the text that params name
abbrev pub uri_in : Data → Option (List ℕ)
uri_in d = option_and_then (λ document. text_in document (codes "uri")) (get (codes "textDocument") d)

-- a text is open now
abbrev pub opened : Data → Option Told
opened d = option_and_then (λ document. option_and_then (λ uri. option_and_then (λ text. option_map (λ version. open_text uri text version)
    (version_in document)) (text_in document (codes "text"))) (text_in document (codes "uri"))) (get (codes "textDocument") d)

-- the text of the last change
abbrev pub text_changed : Data → Option (List ℕ)
text_changed d = option_and_then (last_text None) (option_and_then as_array (get (codes "contentChanges") d))

-- a text was changed
abbrev pub changed : Data → Option Told
changed d = option_and_then (λ document. option_and_then (λ uri. option_and_then (λ text. option_map (λ version. change_text uri text version)
    (version_in document)) (text_changed d)) (text_in document (codes "uri"))) (get (codes "textDocument") d)

-- a text is open no more
abbrev pub closed : Data → Option Told
closed d = option_and_then (λ document. option_map (λ uri. close_text uri) (text_in document (codes "uri"))) (get (codes "textDocument") d)

-- what a method tells with params
abbrev pub of_text : List ℕ → Data → Option Told
of_text method d =
    if bytes_eq method (codes "textDocument/didOpen") then opened d
    else if bytes_eq method (codes "textDocument/didChange") then changed d
    else if bytes_eq method (codes "textDocument/didClose") then closed d
    else None

-- what a notification tells of a text
abbrev pub notice_of : List ℕ → Option Data → Option Told
notice_of method params = option_and_then (of_text method) params
