-- A line with other numbers.
use Rattle.std.specs.Prelude.{ℕ, ◌+◌, ◌-◌, List, [], ◌∷◌, ◌++◌, drop, length, slice_get, take, Option, Some, None, option_map}
use Rattle.std.specs.Borrow.{Bor}
use Rattle.std.specs.Fmt.{decimal}
use Rattle.std.specs.Option.{option_and_then}
use Rattle.tb_parser.specs.Tokens.{end_of, start_of}
use Rattle.tb_parser.specs.declared.lexer.Token.{Token}
use Rattle.tb_basic_names.specs.Jumps.{jump_word}

-- two tokens that were found
abbrev pub tokens_of : Option (Bor Token × Bor Token) → Option (Token × Token)
tokens_of found = option_map (λ p. (p.0.now, p.1.now)) found

-- the last of these tokens, with one before it
abbrev pub with_last : List Token → Token → Option (Token × Token)
with_last ts first = option_map (λ last. (first, last)) (slice_get ts (length ts - 1))

-- the first and the last token of the expression of a jump: all behind GOTO or GOSUB
abbrev pub expression : List Token → Option (Token × Token)
expression ts = option_and_then (λ word. option_and_then (with_last ts) (slice_get ts (word + 1))) (jump_word ts)

-- what stands behind the number of a line, with a number in place of an expression, if there is one
abbrev pub moved : List ℕ → Token → Option (Token × Token) → ℕ → List ℕ
moved line number None target = drop (end_of number) line
moved line number (Some e) target = drop (end_of number) (take (start_of e.0) line) ++ (decimal target ++ drop (end_of e.1) line)

-- what stands behind the number of a line, with its new target, if it has one, in place of its jump's expression
abbrev pub rest_of : List ℕ → List Token → Token → Option ℕ → List ℕ
rest_of line ts number None = drop (end_of number) line
rest_of line ts number (Some target) = moved line number (expression ts) target

-- a line with another number in place of its first token, and another target in place of its jump's expression
abbrev pub new_line : List ℕ → List Token → ℕ → Option ℕ → List ℕ
new_line line [] n target = []
new_line line (t ∷ ts) n target = take (start_of t) line ++ (decimal n ++ rest_of line (t ∷ ts) t target)
