-- What follows REM.
use Rattle.std.proofs.Common.{◌≡◌, ℕ, List, [], ◌∷◌, ◌++◌, subst, arith}
use Rattle.tb_basic_grammar.specs.declared.keywords.Keyword.TheVariants as keyword
use Rattle.tb_parser.specs.declared.lexer.Awaits.{Awaits}
use Rattle.tb_parser.specs.declared.lexer.Awaits.TheVariants as awaits
use Rattle.tb_parser.specs.declared.lexer.Token.{Token}
use Rattle.tb_parser.specs.declared.lexer.TokenKind.{TokenKind}
use Rattle.tb_parser.specs.declared.lexer.TokenKind.TheVariants as kind
use Rattle.tb_parser.specs.Kinds.{awaited}
use Rattle.tb_parser.specs.Tokens.{end_of, ComeTokens, AreRemark, RemarksAreWhole}

-- where a remark is awaited, it is all that comes
alone : (line : List ℕ) (from : ℕ) (ts : List Token) → ComeTokens awaits.Remark line from ts → AreRemark line from ts
alone line from [] h = h
alone line from (t ∷ []) h = h.0.comes
alone line from (t ∷ (u ∷ us)) h =
    let more : ComeTokens awaits.Word line (end_of t) (u ∷ us) = subst (λ (k : TokenKind). ComeTokens (awaited k) line (end_of t) (u ∷ us)) h.0.comes.is h.1 in
    omega (arith, h.0.comes.ends, more.0.comes.written.in_order, more.0.comes.written.within)

-- behind tokens other tokens come
behind_rem : (a : Awaits) (line : List ℕ) (from : ℕ) (before behind : List Token) (rem : Token) → ComeTokens a line from (before ++ (rem ∷ behind)) → rem.kind ≡ kind.Keyword keyword.Rem
    → AreRemark line (end_of rem) behind
behind_rem a line from [] behind rem h is = alone line (end_of rem) behind (subst (λ (k : TokenKind). ComeTokens (awaited k) line (end_of rem) behind) is h.1)
behind_rem a line from (t ∷ before) behind rem h is = behind_rem (awaited t.kind) line (end_of t) before behind rem h.1 is

-- `RemarksAreWhole` holds: the law that `remarks_are_whole` hands on
pub whole : RemarksAreWhole
whole line before behind rem h is = behind_rem awaits.Word line 0 before behind rem h is
