-- The texts of remarks.
use Rattle.std.specs.Prelude.{ℕ, ◌+◌, Bool, true, false, ◌==◌, List, [], ◌∷◌, take, Option, Some, None, if◌then◌else◌}
use Rattle.std.specs.Str.{is_utf8}
use Rattle.tb_basic_syntax.specs.Source.{Statement, Remark}
use Rattle.tb_parser.specs.Readings.{Edit}
use Rattle.tb_parser.specs.declared.lexer.Token.{Token}
use Rattle.tb_parser.specs.declared.lexer.TokenKind.{TokenKind}
use Rattle.tb_parser.specs.declared.lexer.TokenKind.TheVariants as kind
use Rattle.tb_basic_names.specs.Lines.{does, statement_in}
use Rattle.tb_basic_names.specs.declared.lines.Line.{Line as SourceLine}

-- whether a statement is REM
abbrev pub remarks : Option Statement → Bool
remarks (Some Remark) = true
remarks _ = false

-- whether a line's statement is REM
abbrev pub is_remark : Edit → Bool
is_remark e = remarks (statement_in e)

-- a text without the spaces before it
abbrev pub behind_spaces : List ℕ → List ℕ
behind_spaces [] = []
behind_spaces (b ∷ text) = if b == 32 then behind_spaces text else b ∷ text

-- how many bytes are before the last spaces of a text, by how many were looked at and how many of these that were
abbrev pub end_from : ℕ → ℕ → List ℕ → ℕ
end_from at found [] = found
end_from at found (b ∷ bytes) = end_from (at + 1) (if b == 32 then found else at + 1) bytes

-- a text without the spaces at its ends
abbrev pub trimmed : List ℕ → List ℕ
trimmed text = take (end_from 0 0 (behind_spaces text)) (behind_spaces text)

-- what follows REM
abbrev pub is_text : TokenKind → Bool
is_text kind.Remark = true
is_text _ = false

-- the text of the first remark among tokens, without spaces at its ends
abbrev pub remark_in : List Token → List ℕ
remark_in [] = []
remark_in (t ∷ ts) = if is_text t.kind then trimmed t.text.now else remark_in ts

-- the text of the remark of a line whose statement is REM, without spaces at its ends; else nothing
abbrev pub remark_of : SourceLine → List ℕ
remark_of l = if is_remark (does l.edit) then remark_in l.tokens.items else []

-- a text as it is shown
abbrev pub shown : List ℕ → List ℕ
shown text = if is_utf8 text then text else []
