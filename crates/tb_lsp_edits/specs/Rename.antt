-- What is answered when a variable is renamed.
use Rattle.std.specs.Prelude.{ℕ, ◌≡◌, ◌+◌, ◌-◌, Bool, true, false, ◌&&◌, ◌||◌, not, ◌==◌, List, [], ◌∷◌, codes, map, slice_get, Option, Some, None, Result, Ok, Err, if◌then◌else◌}
use Rattle.std.specs.Option.{is_none, option_and_then}
use Rattle.std.specs.Str.{is_utf8}
use Rattle.serde_json.specs.Data.{Data, member, no_members, null, object, string}
use Rattle.serde_json.specs.View.{view}
use Rattle.serde_json.specs.declared.value.Value.{Value}
use Rattle.tb_parser.specs.Files.{LinesIn, at_end}
use Rattle.tb_parser.specs.Readings.{LineIn}
use Rattle.tb_basic_text.specs.declared.notation.Notation.{Notation}
use Rattle.tb_parser.specs.declared.lexer.Token.{Token}
use Rattle.tb_basic_places.specs.Spans.{piece}
use Rattle.tb_editor_values.specs.Ranges.{range_of}
use Rattle.tb_editor_values.specs.Edits.{changes, edit_value}
use Rattle.tb_editor_messages.specs.declared.refusals.Refusal.{Refusal}
use Rattle.tb_editor_messages.specs.declared.refusals.Refusal.TheVariants.{NoVariable, NotALetter, BadLine, LetterInUse, ReadsOtherwise}
use Rattle.tb_basic_names.specs.Lines.{does}
use Rattle.tb_basic_names.specs.Names.{name_in}
use Rattle.tb_basic_names.specs.Places.{occurrences}
use Rattle.tb_basic_names.specs.Sources.{edits_of as all_edits, program_of}
use Rattle.tb_basic_names.specs.Touched.{name_at, touched_at}
use Rattle.tb_basic_names.specs.declared.lines.Line.{Line as SourceLine}
use Rattle.tb_basic_names.specs.declared.names.Name.{Name}
use Rattle.tb_basic_names.specs.declared.names.Name.TheVariants as name
use Rattle.tb_basic_names.specs.declared.places.Occurrence.{Occurrence}
use Rattle.tb_lsp_edits.specs.Renamed.{renamed_edit, renamed_letter, renamed_program, text_after}
use Rattle.tb_lsp_edits.specs.declared.letters.Letters.{Letters}
use Rattle.tb_lsp_edits.specs.declared.prepared.Named.{Named}

-- a letter as a text
abbrev pub spelled : List ℕ → List ℕ
spelled letter = if is_utf8 letter then letter else []

-- ── what can be renamed ──
-- the variable that is named by a token at a column
abbrev pub named_by : ℕ → SourceLine → Token → Name → Option Named
named_by file_line l t (name.Line n) = None
named_by file_line l t (name.Variable letter) = Some (record { letter = letter; span = piece file_line l.text.now (t.column - 1) 1 })

-- the variable that a token of a line is
abbrev pub variable_in : ℕ → SourceLine → ℕ → Option Named
variable_in file_line l index =
    option_and_then (λ t. option_and_then (named_by file_line l t) (name_in (does l.edit) l.tokens.items index)) (slice_get l.tokens.items index)

-- the variable at a place, both counted from 0
abbrev pub variable_at : ℕ → ℕ → List SourceLine → Option Named
variable_at line character lines =
    option_and_then (λ index. option_and_then (λ l. variable_in (line + 1) l index) (slice_get lines line)) (touched_at line character lines)

-- its place and its letter
abbrev pub placed : Option Named → Data
placed None = null
placed (Some v) = object (member (codes "placeholder") (string (spelled (v.letter ∷ []))) (member (codes "range") (range_of v.span) no_members))

-- the place and the letter of the variable at a place
abbrev pub prepared : ℕ → ℕ → List SourceLine → Data
prepared line character lines = placed (variable_at line character lines)

-- ── what is refused ──
-- whether a line is bad
abbrev pub has_bad_line : List SourceLine → Bool
has_bad_line [] = false
has_bad_line (l ∷ ls) = is_none l.edit || has_bad_line ls

-- whether there are places
abbrev pub some : List Occurrence → Bool
some [] = false
some (o ∷ found) = true

-- whether good lines have a variable
abbrev pub is_used : ℕ → List SourceLine → Bool
is_used letter lines = some (occurrences (name.Variable letter) false lines)

-- the letter of what is named, and its new one
abbrev pub letters_of : Option Name → Option ℕ → Result Letters Refusal
letters_of (Some (name.Variable old)) (Some new) = Ok (record { old = old; new = new })
letters_of (Some (name.Variable old)) None = Err NotALetter
letters_of (Some (name.Line n)) letter = Err NoVariable
letters_of None letter = Err NoVariable

-- why a text is not renamed
abbrev pub refusal_of : Letters → List SourceLine → Option Refusal
refusal_of letters lines =
    if has_bad_line lines then Some BadLine
    else if not (letters.old == letters.new) && is_used letters.new lines then Some LetterInUse
    else None

-- ── what is answered ──
-- a text in these places
abbrev pub edits_at : List ℕ → List Occurrence → List Data
edits_at text found = map (λ o. edit_value o.span text) found

-- the edits that rename a variable: none where the letter stays
abbrev pub edits_of : Letters → List SourceLine → List Data
edits_of letters lines =
    if letters.old == letters.new then [] else edits_at (spelled (letters.new ∷ [])) (occurrences (name.Variable letters.old) false lines)

-- what becomes of a line reads as what the line does, renamed, in a notation
abbrev pub IsRenamed : Notation → Letters → SourceLine → Type 0
IsRenamed notation letters l = LineIn notation (text_after letters l) (Ok (renamed_edit (renamed_letter letters) (does l.edit)))

-- what becomes of each line reads as what that line does, renamed, in a notation
abbrev pub AreRenamed : Notation → Letters → List SourceLine → Type 0
AreRenamed notation letters [] = Unit {0}
AreRenamed notation letters (l ∷ ls) = IsRenamed notation letters l × AreRenamed notation letters ls

-- The answer: the edits of all places; the new text reads, line by line, as the lines renamed, and what its lines make is
-- the program of the good lines, renamed.
pub record IsRenaming (notation : Notation) (uri : List ℕ) (letters : Letters) (lines : List SourceLine) (v : Data) : Type 0 where
  pub edits : v ≡ changes uri (edits_of letters lines)
  pub reads : AreRenamed notation letters lines
  pub makes : LinesIn notation 1 [] (map (text_after letters) lines) (at_end (renamed_program (renamed_letter letters) (program_of (all_edits lines))))

-- a renaming; or that the new text reads otherwise, which is told only where it does
abbrev pub Changes : Notation → List ℕ → Letters → List SourceLine → Result Value Refusal → Type 0
Changes notation uri letters lines (Ok v) = IsRenaming notation uri letters lines (view v)
Changes notation uri letters lines (Err refusal) = (refusal ≡ ReadsOtherwise) × ¬ (AreRenamed notation letters lines)

-- a renaming, or, if there is a reason against it, that reason
abbrev pub ChangesBy : Option Refusal → Notation → List ℕ → Letters → List SourceLine → Result Value Refusal → Type 0
ChangesBy None notation uri letters lines r = Changes notation uri letters lines r
ChangesBy (Some refusal) notation uri letters lines r = r ≡ Err refusal

-- the answer by the letters
abbrev pub RenamesLetters : Notation → List ℕ → Letters → List SourceLine → Result Value Refusal → Type 0
RenamesLetters notation uri letters lines r = ChangesBy (refusal_of letters lines) notation uri letters lines r

-- the answer by the letters, or why there are none
abbrev pub RenamesBy : Result Letters Refusal → Notation → List ℕ → List SourceLine → Result Value Refusal → Type 0
RenamesBy (Ok letters) notation uri lines r = RenamesLetters notation uri letters lines r
RenamesBy (Err refusal) notation uri lines r = r ≡ Err refusal

-- the answer for lines of a notation: why the variable at a place isn't renamed, in the order of the checks, or how it
-- is
abbrev pub Renames : Notation → List ℕ → ℕ → ℕ → Option ℕ → List SourceLine → Result Value Refusal → Type 0
Renames notation uri line character letter lines r = RenamesBy (letters_of (name_at line character lines) letter) notation uri lines r
