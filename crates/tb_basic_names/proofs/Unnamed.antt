-- What follows REM names nothing.
use Rattle.std.proofs.Common.{◌≡◌, ℕ, ◌+◌, if◌then◌else◌, List, [], ◌∷◌, ◌++◌, Option, Some, None, refl, ap, ◌∙◌}
use Rattle.tb_basic_grammar.specs.declared.keywords.Keyword.TheVariants as keyword
use Rattle.tb_parser.specs.Tokens.{AreRemark, end_of}
use Rattle.tb_parser.specs.declared.lexer.Token.{Token}
use Rattle.tb_parser.specs.declared.lexer.TokenKind.{TokenKind}
use Rattle.tb_parser.specs.declared.lexer.TokenKind.TheVariants as kind
use Rattle.tb_parser.proofs.Remarks.{whole}
use Rattle.tb_basic_names.specs.Jumps.{is_jump_word, word_from}
use Rattle.tb_basic_names.specs.Laws.{RemarksNameNothing}
use Rattle.tb_basic_names.specs.Variables.{after, variable_at, variable_by, variables_from, with_one}
use Rattle.tb_basic_names.specs.declared.variables.Mode.{Mode}
use Rattle.tb_basic_names.specs.declared.variables.Mode.TheVariants.{Sets}
use Rattle.tb_basic_names.specs.declared.variables.Variable.{Variable}

-- REM and a remark are no variables
rem_unnamed : (m : Mode) (t : Token) → t.kind ≡ kind.Keyword keyword.Rem → variable_at m t ≡ None
rem_unnamed m t is = ap (λ (k : TokenKind). variable_by m k t.column t.text.now) is

remark_unnamed : (m : Mode) (t : Token) → t.kind ≡ kind.Remark → variable_at m t ≡ None
remark_unnamed m t is = ap (λ (k : TokenKind). variable_by m k t.column t.text.now) is

module _ (line : List ℕ) (rem : Token) (is : rem.kind ≡ kind.Keyword keyword.Rem) where
  none_behind : (m : Mode) (behind : List Token) → AreRemark line (end_of rem) behind → variables_from m behind ≡ []
  none_behind m [] h = refl
  none_behind m (t ∷ []) h = ap (λ (o : Option Variable). with_one o []) (remark_unnamed m t h.is)
  none_behind m (t ∷ (u ∷ us)) h = absurd h

  variables_before : (m : Mode) (before behind : List Token) → AreRemark line (end_of rem) behind → variables_from m (before ++ (rem ∷ behind)) ≡ variables_from m before
  variables_before m [] behind h =
      ap (λ (o : Option Variable). with_one o (variables_from (after m rem.kind) behind)) (rem_unnamed m rem is) ∙ none_behind (after m rem.kind) behind h
  variables_before m (t ∷ before) behind h = ap (λ (vs : List Variable). with_one (variable_at m t) vs) (variables_before (after m t.kind) before behind h)

  no_jump_behind : (i : ℕ) (behind : List Token) → AreRemark line (end_of rem) behind → word_from i behind ≡ None
  no_jump_behind i [] h = refl
  no_jump_behind i (t ∷ []) h = ap (λ (k : TokenKind). if is_jump_word k then Some i else None) h.is
  no_jump_behind i (t ∷ (u ∷ us)) h = absurd h

  jump_before : (i : ℕ) (before behind : List Token) → AreRemark line (end_of rem) behind → word_from i (before ++ (rem ∷ behind)) ≡ word_from i before
  jump_before i [] behind h =
      ap (λ (k : TokenKind). if is_jump_word k then Some i else word_from (i + 1) behind) is ∙ no_jump_behind (i + 1) behind h
  jump_before i (t ∷ before) behind h = ap (λ (o : Option ℕ). if is_jump_word t.kind then Some i else o) (jump_before (i + 1) before behind h)

-- `RemarksNameNothing` holds: the law that `remarks_name_nothing` hands on
pub unnamed : RemarksNameNothing
unnamed line before behind rem tokens is =
    let h = whole line before behind rem tokens is in
    (variables_before line rem is Sets before behind h, jump_before line rem is 0 before behind h)
