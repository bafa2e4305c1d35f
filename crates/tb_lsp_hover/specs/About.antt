-- What there is to show of a token.
use Rattle.std.specs.Prelude.{ℕ, ◌+◌, ◌-◌, ◌*◌, min, nat_lt, ◌==◌, List, [], ◌∷◌, slice_get, Option, Some, None, if◌then◌else◌}
use Rattle.std.specs.Option.{option_and_then, option_or}
use Rattle.std.specs.Char.{to_ascii_uppercase}
use Rattle.tb_basic_grammar.specs.Grammar.{is_digit}
use Rattle.tb_parser.specs.Readings.{Edit}
use Rattle.tb_parser.specs.declared.lexer.Token.{Token}
use Rattle.tb_parser.specs.declared.lexer.TokenKind.{TokenKind}
use Rattle.tb_parser.specs.declared.lexer.TokenKind.TheVariants as kind
use Rattle.tb_basic_names.specs.Jumps.{jump_in, jump_word}
use Rattle.tb_basic_names.specs.Lines.{number_in}
use Rattle.tb_lsp_hover.specs.declared.tokens.About.{About}
use Rattle.tb_lsp_hover.specs.declared.tokens.About.TheVariants as shows

-- a number with one more digit; other bytes, which are spaces, change nothing
abbrev pub longer : ℕ → ℕ → ℕ
longer n b = if is_digit b then min (n * 10 + (b - 48)) 65536 else n

-- a number with the digits of a text
abbrev pub value_from : ℕ → List ℕ → ℕ
value_from n [] = n
value_from n (b ∷ bytes) = value_from (longer n b) bytes

-- the variable of this spelling
abbrev pub spelled : List ℕ → Option About
spelled [] = None
spelled (b ∷ bytes) = Some (shows.Variable (to_ascii_uppercase b))

-- what a token of this kind and spelling is
abbrev pub by_spelling : TokenKind → List ℕ → Option About
by_spelling kind.Number text = Some (shows.Number (value_from 0 text))
by_spelling kind.Variable text = spelled text
by_spelling (kind.Keyword word) text = Some (shows.Word (kind.Keyword word))
by_spelling kind.Then text = Some (shows.Word kind.Then)
by_spelling kind.Random text = Some (shows.Word kind.Random)
by_spelling _ text = None

-- what a token is
abbrev pub by_kind : Token → Option About
by_kind t = by_spelling t.kind t.text.now

-- the constant target, behind GOTO or GOSUB
abbrev pub target : Edit → List Token → ℕ → Option About
target e ts index = option_and_then (λ jump. option_and_then (λ word. if nat_lt word index then Some (shows.Target jump.target) else None) (jump_word ts)) (jump_in e)

-- what there is to show of a token that does not begin its line
abbrev pub behind_number : Edit → List Token → ℕ → Option About
behind_number e ts index = option_and_then (λ t. option_or (target e ts index) (by_kind t)) (slice_get ts index)

-- what there is to show of a token of a good line
abbrev pub about : Edit → List Token → ℕ → Option About
about e ts index = option_and_then (λ n. if index == 0 then Some (shows.Own n) else behind_number e ts index) (number_in e)
