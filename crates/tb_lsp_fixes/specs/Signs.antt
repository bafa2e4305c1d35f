-- What mends a sign that stands for nothing: another name in place of its own.
use Rattle.std.specs.Prelude.{ℕ, ◌-◌, ◌==◌, List, [], ◌∷◌, ◌++◌, codes, length, slice_get, Option, Some, None, if◌then◌else◌}
use Rattle.std.specs.Option.{option_and_then}
use Rattle.std.specs.Str.{str_eq_ignore_ascii_case}
use Rattle.tb_basic_places.specs.Spans.{piece}
use Rattle.tb_basic_signs.specs.Near.{after_count, written_name}
use Rattle.tb_lsp_fixes.specs.Mends.{Mends}
use Rattle.tb_lsp_fixes.specs.Writing.{behind, writes}

-- a name with the brace that closes its sign
abbrev pub closed : List ℕ → List ℕ
closed name = name ++ codes "}"

-- what is written in place of a sign's name, by the byte behind it: `}`, where another name mends something, or `"`
abbrev pub mended_before : List ℕ → List ℕ → ℕ → Option (List ℕ)
mended_before written name b =
    if b == 125 then (if str_eq_ignore_ascii_case written name then None else Some name)
    else if b == 34 then Some (closed name)
    else None

-- what is written in place of a sign's name, by the byte behind it, or by none at the end of the line
abbrev pub mended : List ℕ → List ℕ → Option ℕ → Option (List ℕ)
mended written name None = Some (closed name)
mended written name (Some b) = mended_before written name b

-- a text in place of the name that what follows a sign's count begins with, if there is one
abbrev pub writes_name : ℕ → (text rest name : List ℕ) → Option (List ℕ) → Option Mends
writes_name line text rest name None = None
writes_name line text rest name (Some new) =
    writes (codes "Write {" ++ closed name) (piece line text (length text - length rest) (length (written_name rest))) new

-- a name in place of that of a sign, by what follows its count
abbrev pub writes_by : ℕ → (text rest name : List ℕ) → Option Mends
writes_by line text rest name =
    writes_name line text rest name (mended (written_name rest) name (slice_get rest (length (written_name rest))))

-- a name in place of that of the sign whose brace stands at a place of a line
abbrev pub writes_sign : ℕ → (text : List ℕ) → ℕ → (name : List ℕ) → Option Mends
writes_sign line text place name = writes_by line text (after_count (behind place text)) name
