-- The tokens of a line, as slices of it.
use Rattle.std.specs.Prelude.{◌≡◌, ℕ, ◌+◌, ◌-◌, ◌<◌, ◌≤◌, List, [], ◌∷◌, ◌++◌, length, map, slice_range}
use Rattle.tb_basic_grammar.specs.declared.keywords.Keyword.TheVariants as keyword
use Rattle.tb_parser.specs.declared.lexer.Awaits.{Awaits}
use Rattle.tb_parser.specs.declared.lexer.Awaits.TheVariants.{Operand, Word, Remark}
use Rattle.tb_parser.specs.declared.lexer.Token.{Token}
use Rattle.tb_parser.specs.declared.lexer.TokenKind.{TokenKind}
use Rattle.tb_parser.specs.declared.lexer.TokenKind.TheVariants as kind
use Rattle.tb_parser.specs.Kinds.{AreSpaces, IsWritten, TokenAt, awaited}

-- where a token begins in its line, from 0
abbrev pub start_of : Token → ℕ
start_of t = t.column - 1

-- the place right after a token in its line, from 0
abbrev pub end_of : Token → ℕ
end_of t = t.column - 1 + length t.text.now

-- a token's bytes are a slice of the line that isn't empty
pub record IsSlice (line : List ℕ) (t : Token) : Type 0 where
  pub counted : 1 ≤ t.column
  pub some : 0 < length t.text.now
  pub within : end_of t ≤ length line
  pub slice : t.text.now ≡ slice_range line (start_of t) (end_of t)

-- a token that begins at the first byte from a place on that is no space
pub record BeginsWritten (awaits : Awaits) (line : List ℕ) (from : ℕ) (t : Token) : Type 0 where
  pub written : IsWritten line from (start_of t)
  pub is : TokenAt awaits line (start_of t) t.kind (end_of t)

-- a remark: all that is left of the line, spaces too
pub record IsRemark (line : List ℕ) (from : ℕ) (t : Token) : Type 0 where
  pub is : t.kind ≡ kind.Remark
  pub starts : start_of t ≡ from
  pub ends : end_of t ≡ length line

-- where a token begins and ends, and of which kind it is, by what is awaited from a place on
abbrev pub Comes : Awaits → List ℕ → ℕ → Token → Type 0
Comes Operand line from t = BeginsWritten Operand line from t
Comes Word line from t = BeginsWritten Word line from t
Comes Remark line from t = IsRemark line from t

-- the next token from a place on
pub record IsNext (awaits : Awaits) (line : List ℕ) (from : ℕ) (t : Token) : Type 0 where
  pub bytes : IsSlice line t
  pub comes : Comes awaits line from t

-- no token comes from a place on: there are only spaces, or nothing where a remark is awaited
abbrev pub NoneComes : Awaits → List ℕ → ℕ → Type 0
NoneComes Operand line from = AreSpaces line from (length line)
NoneComes Word line from = AreSpaces line from (length line)
NoneComes Remark line from = length line ≤ from

-- from a place on these tokens come, one after the other, by what is awaited there
abbrev pub ComeTokens : Awaits → List ℕ → ℕ → List Token → Type 0
ComeTokens awaits line from [] = NoneComes awaits line from
ComeTokens awaits line from (t ∷ ts) = IsNext awaits line from t × ComeTokens (awaited t.kind) line (end_of t) ts

-- the tokens of a line
abbrev pub AreTokens : List ℕ → List Token → Type 0
AreTokens line ts = ComeTokens Word line 0 ts

-- a token as it is seen: its kind, its column and its bytes
abbrev pub seen : Token → TokenKind × ℕ × List ℕ
seen t = (t.kind, t.column, t.text.now)

-- no line has two lists of tokens
abbrev pub TokensAreUnique : Type 0
TokensAreUnique = (line : List ℕ) (ts us : List Token) → AreTokens line ts → AreTokens line us → map seen ts ≡ map seen us

-- these tokens are what is left of a line from a place on as one remark, or none if nothing is left
abbrev pub AreRemark : List ℕ → ℕ → List Token → Type 0
AreRemark line from [] = length line ≤ from
AreRemark line from (t ∷ []) = IsRemark line from t
AreRemark line from (t ∷ (u ∷ us)) = ⊥

-- behind REM all that is left of a line is its remark
abbrev pub RemarksAreWhole : Type 0
RemarksAreWhole =
    (line : List ℕ) (before behind : List Token) (rem : Token) → AreTokens line (before ++ (rem ∷ behind)) → rem.kind ≡ kind.Keyword keyword.Rem
    → AreRemark line (end_of rem) behind
