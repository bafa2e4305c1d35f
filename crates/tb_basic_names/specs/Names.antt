-- What a place of a source names.
use Rattle.std.specs.Prelude.{ℕ, ◌+◌, ◌-◌, Bool, ◌&&◌, nat_le, ◌==◌, List, [], ◌∷◌, length, slice_get, Option, Some, None, if◌then◌else◌}
use Rattle.std.specs.Option.{option_and_then, option_or}
use Rattle.std.specs.Char.{to_ascii_uppercase}
use Rattle.tb_parser.specs.Readings.{Edit}
use Rattle.tb_parser.specs.declared.lexer.Token.{Token}
use Rattle.tb_parser.specs.declared.lexer.TokenKind.{TokenKind}
use Rattle.tb_parser.specs.declared.lexer.TokenKind.TheVariants as kind
use Rattle.tb_basic_names.specs.Jumps.{jump_in, jump_word}
use Rattle.tb_basic_names.specs.Lines.{number_in}
use Rattle.tb_basic_names.specs.declared.names.Name.{Name}
use Rattle.tb_basic_names.specs.declared.names.Name.TheVariants.{Line, Variable}

-- a place lies in a token, at its beginning or at its end
abbrev pub touches : Token → ℕ → Bool
touches t place = nat_le (t.column - 1) place && nat_le (place - (t.column - 1)) (length t.text.now)

-- the last of these tokens that a place touches, of which the first is token i
abbrev pub touched_from : ℕ → Option ℕ → List Token → ℕ → Option ℕ
touched_from i found [] place = found
touched_from i found (t ∷ ts) place = touched_from (i + 1) (if touches t place then Some i else found) ts place

-- which token a place touches
abbrev pub touched : List Token → ℕ → Option ℕ
touched ts place = touched_from 0 None ts place

-- a variable of this spelling
abbrev pub spelled : List ℕ → Option Name
spelled [] = None
spelled (b ∷ bytes) = Some (Variable (to_ascii_uppercase b))

-- the variable that a token is
abbrev pub variable_by : TokenKind → List ℕ → Option Name
variable_by kind.Variable text = spelled text
variable_by _ text = None

-- the variable that a token is, by its kind and its text
abbrev pub variable_name : Token → Option Name
variable_name t = variable_by t.kind t.text.now

-- the number that begins a good line
abbrev pub own_number : Edit → ℕ → Option Name
own_number e index = option_and_then (λ n. if index == 0 then Some (Line n) else None) (number_in e)

-- the constant target, from GOTO or GOSUB on
abbrev pub target : Edit → List Token → ℕ → Option Name
target e ts index = option_and_then (λ jump. option_and_then (λ word. if nat_le word index then Some (Line jump.target) else None) (jump_word ts)) (jump_in e)

-- what a token of a good line names
abbrev pub name_in : Edit → List Token → ℕ → Option Name
name_in e ts index =
    option_and_then (λ n. option_and_then (λ t. option_or (option_or (own_number e index) (target e ts index)) (variable_name t)) (slice_get ts index)) (number_in e)
