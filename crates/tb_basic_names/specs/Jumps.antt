-- Jumps with constant targets.
use Rattle.std.specs.Prelude.{ℕ, ◌+◌, Bool, true, false, List, [], ◌∷◌, Option, Some, None, option_map, if◌then◌else◌}
use Rattle.std.specs.Option.{option_and_then}
use Rattle.tb_basic_syntax.specs.Parts.{jump_of}
use Rattle.tb_basic_syntax.specs.Source.{Expression, Statement}
use Rattle.tb_basic_grammar.specs.declared.keywords.Keyword.TheVariants as keyword
use Rattle.tb_basic_meaning.specs.Values.{constant}
use Rattle.tb_parser.specs.Readings.{Edit}
use Rattle.tb_parser.specs.declared.lexer.Token.{Token}
use Rattle.tb_parser.specs.declared.lexer.TokenKind.{TokenKind}
use Rattle.tb_parser.specs.declared.lexer.TokenKind.TheVariants as kind
use Rattle.tb_basic_names.specs.Lines.{statement_in}
use Rattle.tb_basic_names.specs.declared.jumps.Jump.{Jump}

-- a jump to an expression, if that is constant
abbrev pub jump_to : Expression → Bool → Option Jump
jump_to e returns = option_map (λ target. record { target = target; returns = returns }) (constant e)

-- the jump of a statement
abbrev pub jump_by : Statement → Option Jump
jump_by c = option_and_then (λ jump. jump_to jump.0 jump.1) (jump_of c)

-- the jump of a line
abbrev pub jump_in : Edit → Option Jump
jump_in e = option_and_then jump_by (statement_in e)

-- GOTO or GOSUB
abbrev pub is_jump_word : TokenKind → Bool
is_jump_word (kind.Keyword keyword.Goto) = true
is_jump_word (kind.Keyword keyword.Gosub) = true
is_jump_word _ = false

-- which of these tokens, of which the first is token i, is the first GOTO or GOSUB
abbrev pub word_from : ℕ → List Token → Option ℕ
word_from i [] = None
word_from i (t ∷ ts) = if is_jump_word t.kind then Some i else word_from (i + 1) ts

-- which token is the first GOTO or GOSUB
abbrev pub jump_word : List Token → Option ℕ
jump_word ts = word_from 0 ts
