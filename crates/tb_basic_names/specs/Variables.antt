-- Where variables stand in a line, and what is done with them.
use Rattle.std.specs.Prelude.{ℕ, ◌-◌, Bool, true, false, List, [], ◌∷◌, Option, Some, None}
use Rattle.std.specs.Char.{to_ascii_uppercase}
use Rattle.tb_basic_grammar.specs.declared.keywords.Keyword.TheVariants as keyword
use Rattle.tb_parser.specs.declared.lexer.Token.{Token}
use Rattle.tb_parser.specs.declared.lexer.TokenKind.{TokenKind}
use Rattle.tb_parser.specs.declared.lexer.TokenKind.TheVariants as kind
use Rattle.tb_basic_names.specs.declared.variables.Mode.{Mode}
use Rattle.tb_basic_names.specs.declared.variables.Mode.TheVariants.{Sets, Reads, Inputs}
use Rattle.tb_basic_names.specs.declared.variables.Variable.{Variable}

-- what is done with the next variable behind a token that is not INPUT's: an operand is read, else LET may leave out its word
abbrev pub beyond : TokenKind → Mode
beyond kind.Operator = Reads
beyond kind.Relation = Reads
beyond kind.Open = Reads
beyond kind.Comma = Reads
beyond kind.Semicolon = Reads
beyond (kind.Keyword keyword.Input) = Inputs
beyond (kind.Keyword keyword.Print) = Reads
beyond (kind.Keyword keyword.Pr) = Reads
beyond (kind.Keyword keyword.If) = Reads
beyond (kind.Keyword keyword.Goto) = Reads
beyond (kind.Keyword keyword.Gosub) = Reads
beyond _ = Sets

-- behind INPUT all get a value
abbrev pub after : Mode → TokenKind → Mode
after Inputs k = Inputs
after Sets k = beyond k
after Reads k = beyond k

-- whether a variable gets a value
abbrev pub gets : Mode → Bool
gets Sets = true
gets Reads = false
gets Inputs = true

-- a variable of this spelling
abbrev pub spelled : Mode → ℕ → List ℕ → Option Variable
spelled m column [] = None
spelled m column (b ∷ bytes) = Some (record { name = to_ascii_uppercase b; place = column - 1; gets = gets m })

-- the variable that a token is
abbrev pub variable_by : Mode → TokenKind → ℕ → List ℕ → Option Variable
variable_by m kind.Variable column text = spelled m column text
variable_by m _ column text = None

-- the variable that a token is, by its kind, its column and its text
abbrev pub variable_at : Mode → Token → Option Variable
variable_at m t = variable_by m t.kind t.column t.text.now

-- a list with one more at the front, if there is one
abbrev pub with_one : Option Variable → List Variable → List Variable
with_one None vs = vs
with_one (Some v) vs = v ∷ vs

-- the variables of tokens
abbrev pub variables_from : Mode → List Token → List Variable
variables_from m [] = []
variables_from m (t ∷ ts) = with_one (variable_at m t) (variables_from (after m t.kind) ts)

-- the variables of a line, behind whose number LET may leave out its word
abbrev pub variables_of : List Token → List Variable
variables_of ts = variables_from Sets ts
