-- The note on the first fault of a bad line, by the bytes of the line.
use Rattle.std.specs.Prelude.{ℕ, ◌+◌, ◌-◌, nat_eq, nat_lt, nat_le, is_some, Bool, false, not, ◌&&◌, ◌||◌, ◌==◌, if◌then◌else◌, Option, Some, None, option_map}
use Rattle.std.specs.Prelude.{List, [], ◌∷◌, length, map, reverse, take, drop, codes}
use Rattle.std.specs.Option.{option_and_then, option_map_or, option_or}
use Rattle.std.specs.Char.{is_ascii_digit, is_ascii_hexdigit, is_ascii_uppercase, to_ascii_uppercase}
use Rattle.std.specs.List.{list_any, slice_get, starts_with, ends_with}
use lib.Pointwise.{pointwise}
use Rattle.tb_parser.specs.declared.errors.SourceError.{SourceError}
use Rattle.tb_parser.specs.declared.errors.SourceErrorKind.{SourceErrorKind}
use Rattle.tb_parser.specs.declared.errors.SourceErrorKind.TheVariants.{BadByte, NotCompiled, Syntax, Unnumbered}
use Rattle.tb_basic_text.specs.declared.notation.Notation.{Notation}
use Rattle.tb_basic_text.specs.declared.notation.Notation.TheVariants.{Plain, Signs}
use Rattle.tb_basic_signs.specs.Names.{byte_named}
use Rattle.tb_basic_signs.specs.Near.{after_count, after_digits, near_name, written_name}
use Rattle.tb_engine_findings.specs.declared.notes.Note.{Note}
use Rattle.tb_engine_findings.specs.declared.notes.Note.TheVariants.{ForeignWord, QuestionMark, Apostrophe, LongName, TextName, Hexadecimal, ThenNumber, OpenText, Tab}
use Rattle.tb_engine_findings.specs.declared.notes.Note.TheVariants.{ByteOrderMark, WideMark, NoNumber, MachineCode, NoInterpreter, CurlyQuote, Near, NearSign, SignInText, BraceInText}
use Rattle.tb_engine_findings.specs.declared.notes.Note.TheVariants.{UnknownSign, CountWithoutSpace, BadCount, Power, Array}
use Rattle.tb_engine_findings.specs.declared.notes.Word.{Word as RustWord}
use Rattle.tb_engine_findings.specs.ForeignWords.{foreign_word}
use Rattle.tb_engine_findings.specs.NearWords.{near_word}
use Rattle.tb_engine_findings.specs.Rules.{note_by_rules}
use Rattle.tb_engine_findings.specs.Surroundings.{code_around}

-- ── a byte that no line may have ──
-- a note, if a condition holds
abbrev pub note_if : Bool → Note → Option Note
note_if b note = if b then Some note else None

-- whether a fault is at the mark (EF BB BF) with which the file begins
abbrev pub is_at_mark : List ℕ → SourceError → Bool
is_at_mark line e = (e.line == 1) && ((e.column == 1) && starts_with nat_eq line (239 ∷ 187 ∷ 191 ∷ []))

-- whether a fault is at a mark of UTF-16 (FF FE or FE FF) with which the file begins
abbrev pub is_at_wide_mark : List ℕ → SourceError → Bool
is_at_wide_mark line e =
    (e.line == 1) && ((e.column == 1) && (starts_with nat_eq line (255 ∷ 254 ∷ []) || starts_with nat_eq line (254 ∷ 255 ∷ [])))

-- whether a text begins with a curly quote: E2 80 98 to E2 80 9F
abbrev pub is_curly_quote : List ℕ → Bool
is_curly_quote (a ∷ b ∷ c ∷ text) = (a == 226) && ((b == 128) && (nat_le 152 c && nat_le c 159))
is_curly_quote _ = false

-- outside a text, at a byte that other BASICs have: ^ [ _
abbrev pub note_on_foreign_byte : ℕ → Option Note
note_on_foreign_byte b =
    if b == 94 then Some Power
    else if b == 91 then Some Array
    else if b == 95 then Some LongName
    else None

-- outside a text, at a byte with which a text begins
abbrev pub note_outside : List ℕ → ℕ → Option Note
note_outside text b =
    if b == 9 then Some Tab
    else if is_curly_quote text then Some CurlyQuote
    else note_on_foreign_byte b

-- whether a text has no second quote: the number of quotes is odd
abbrev pub is_open : List ℕ → Bool
is_open [] = false
is_open (b ∷ bs) = if b == 34 then not (is_open bs) else is_open bs

-- at a brace of a text that begins no sign: the control character whose name was probably meant, or none
abbrev pub note_on_near_sign : Option ℕ → Note
note_on_near_sign near = option_map_or (λ byte. NearSign byte) near UnknownSign

-- whether a text begins with a digit
abbrev pub begins_with_digit : List ℕ → Bool
begins_with_digit [] = false
begins_with_digit (b ∷ text) = is_ascii_digit b

-- whether a text begins with the name of a sign and }
abbrev pub is_named : List ℕ → Bool
is_named text = is_some (byte_named (written_name text)) && option_map_or (λ b. b == 125) (slice_get text (length (written_name text))) false

-- at a brace before a count, of a sign that is right but for that
abbrev pub note_on_count : List ℕ → Option Note
note_on_count inside =
    if not (begins_with_digit inside) then None
    else if is_named (after_digits inside) then Some CountWithoutSpace
    else if is_named (after_count inside) then Some BadCount
    else None

-- at such a brace, by what follows it
abbrev pub note_on_sign : List ℕ → Note
note_on_sign inside = option_map_or (λ note. note) (note_on_count inside) (note_on_near_sign (option_and_then byte_named (near_name inside)))

-- at a brace of a text, by what follows it
abbrev pub note_on_brace : Notation → List ℕ → Note
note_on_brace Plain inside = BraceInText
note_on_brace Signs inside = note_on_sign inside

-- at a byte of a text, by what follows it
abbrev pub note_in_text : Notation → ℕ → List ℕ → Note
note_in_text notation b inside =
    if b == 9 then Tab
    else if b == 123 then note_on_brace notation inside
    else SignInText

-- at a byte that is at a place, if there is one
abbrev pub note_on_bad_place : Notation → List ℕ → ℕ → Option ℕ → Option Note
note_on_bad_place notation line place (Some b) =
    if is_open (take place line) then Some (note_in_text notation b (drop (place + 1) line))
    else note_outside (drop place line) b
note_on_bad_place notation line place None = None

-- at a byte that no line may have
abbrev pub note_on_byte : Notation → List ℕ → SourceError → Option Note
note_on_byte notation line e =
    if is_at_mark line e then Some ByteOrderMark
    else if is_at_wide_mark line e then Some WideMark
    else note_on_bad_place notation line (e.column - 1) (slice_get line (e.column - 1))

-- ── runs of bytes ──
-- how many letters a text in upper case begins with
abbrev pub letters_at_front : List ℕ → ℕ
letters_at_front [] = 0
letters_at_front (b ∷ bs) = if is_ascii_uppercase b then letters_at_front bs + 1 else 0

-- how many it ends with
abbrev pub letters_at_end : List ℕ → ℕ
letters_at_end text = letters_at_front (reverse text)

-- a text without the spaces at its front
abbrev pub after_spaces : List ℕ → List ℕ
after_spaces [] = []
after_spaces (b ∷ bs) = if b == 32 then after_spaces bs else b ∷ bs

-- a text without the spaces at its end
abbrev pub before_spaces : List ℕ → List ℕ
before_spaces text = reverse (after_spaces (reverse text))

-- ── words ──
-- a word of a line: its letters, the same with the `$` after them if there is one, how many of the letters are before
-- the place, and whether `=` follows
pub record Word : Type 0 where
  pub letters : List ℕ
  pub whole : List ℕ
  pub before : ℕ
  pub is_assigned : Bool

-- the code's word as this one
abbrev pub word_of : RustWord → Word
word_of w = record { letters = w.letters.now; whole = w.whole.now; before = w.before; is_assigned = w.is_assigned }

-- the word of n letters at the front of a text
abbrev pub word_with : List ℕ → ℕ → ℕ → Word
word_with text n before = record {
  letters = take n text;
  whole = take (if starts_with nat_eq (drop n text) (codes "$") then n + 1 else n) text;
  before = before;
  is_assigned = starts_with nat_eq (after_spaces (drop n text)) (codes "=");
}

-- the word that begins with the letters right before a place
abbrev pub word_from : List ℕ → ℕ → ℕ → Word
word_from line place before = word_with (drop (place - before) line) (letters_at_front (drop (place - before) line)) before

-- the word around a place
abbrev pub word_at : List ℕ → ℕ → Word
word_at line place = word_from line place (letters_at_end (take place line))

-- whether a word is at the place of a name: before `=`, or its first letter was read as a name
abbrev pub is_name : Word → Bool
is_name w = if length w.letters == 2 then w.is_assigned || (w.before == 1) else nat_lt 2 (length w.letters) && w.is_assigned

-- at a word that is neither a foreign one nor a name
abbrev pub note_on_slip : List ℕ → Option Note
note_on_slip letters = option_or (option_map (λ w. Near w) (near_word letters)) (note_if (length letters == 2) LongName)

-- at a word that is no foreign one; where its first letter alone was read as a name, it is not at the place of a statement
abbrev pub note_on_other : Word → Option Note
note_on_other w =
    if nat_lt (length w.letters) (length w.whole) then Some TextName
    else if is_name w then Some LongName
    else if (w.before == 1) || nat_lt (length w.letters) 2 then None
    else note_on_slip w.letters

-- at a word
abbrev pub note_on_word : Word → Option Note
note_on_word w = option_or (option_map (λ f. ForeignWord f) (foreign_word w.letters w.whole)) (note_on_other w)

-- ── a place at which no line of the language goes on like this ──
-- at a number, by what is before it
abbrev pub note_on_number : List ℕ → Option Note
note_on_number before = note_if (ends_with nat_eq (before_spaces before) (codes "THEN")) ThenNumber

-- whether a text, the first byte last, ends with a digit
abbrev pub digit_last : List ℕ → Bool
digit_last [] = false
digit_last (b ∷ bs) = is_ascii_digit b

-- whether a text, the first byte last, ends with the number 0
abbrev pub zero_last : List ℕ → Bool
zero_last [] = false
zero_last (b ∷ bs) = (b == 48) && not (digit_last bs)

-- whether a text ends with a digit
abbrev pub ends_with_digit : List ℕ → Bool
ends_with_digit text = digit_last (reverse text)

-- whether a text ends with the number 0
abbrev pub ends_with_zero : List ℕ → Bool
ends_with_zero text = zero_last (reverse text)

-- whether a number in hexadecimal is before and behind a place: $, after no letter, or 0 and X; then a digit
abbrev pub is_hexadecimal : (before behind : List ℕ) → Bool
is_hexadecimal before (b ∷ c ∷ text) =
    ((b == 36) && ((letters_at_end before == 0) && is_ascii_hexdigit c)) || ((b == 88) && (ends_with_zero before && is_ascii_hexdigit c))
is_hexadecimal before _ = false

-- at a byte
abbrev pub note_at : List ℕ → ℕ → ℕ → Option Note
note_at line place b =
    if b == 63 then Some QuestionMark
    else if b == 39 then Some Apostrophe
    else if is_ascii_digit b then note_on_number (take place line)
    else if is_hexadecimal (take place line) (drop place line) then Some Hexadecimal
    else if is_ascii_uppercase b || (b == 36) then note_on_word (word_at line place)
    else None

-- at a byte that is at a place, or at the end of the line
abbrev pub note_on_place : List ℕ → ℕ → Option ℕ → Option Note
note_on_place line place (Some b) = note_at line place b
note_on_place line place None = note_if (is_open line) OpenText

-- at a place of a line in upper case, from 0: by what is there, or else by the rules for what is around it
abbrev pub note_on_syntax : List ℕ → ℕ → Option Note
note_on_syntax line place = option_or (note_on_place line place (slice_get line place)) (note_by_rules (code_around line place))

-- ── a place at which a word that is left out begins ──
-- at a word that is left out, or that has such a word inside: it may be one of a statement that is misspelled
abbrev pub note_on_word_left_out : List ℕ → Option Note
note_on_word_left_out letters =
    if pointwise nat_eq letters (codes "USR") then Some MachineCode
    else if list_any (pointwise nat_eq letters) (codes "LIST" ∷ codes "RUN" ∷ codes "CLEAR" ∷ []) then Some NoInterpreter
    else option_map (λ w. Near w) (near_word letters)

-- at a place of a line in upper case, from 0, by the word around it
abbrev pub note_on_left_out : List ℕ → ℕ → Option Note
note_on_left_out line place = if nat_lt place (length line) then note_on_word_left_out (word_at line place).letters else None

-- ── all notes ──
-- by the kind of the fault
abbrev pub note_by : SourceErrorKind → Notation → List ℕ → SourceError → Option Note
note_by BadByte notation line e = note_on_byte notation line e
note_by Unnumbered notation line e = Some NoNumber
note_by NotCompiled notation line e = note_on_left_out (map to_ascii_uppercase line) (e.column - 1)
note_by Syntax notation line e = note_on_syntax (map to_ascii_uppercase line) (e.column - 1)
note_by _ notation line e = None

-- the note on the first fault of a line that was read in a notation, if there is one
abbrev pub note_on : Notation → List ℕ → SourceError → Option Note
note_on notation line e = note_by e.kind notation line e
