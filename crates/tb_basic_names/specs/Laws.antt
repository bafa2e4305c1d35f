-- What no line of a source changes, and what none names.
use Rattle.std.specs.Prelude.{ℕ, ◌≡◌, List, ◌∷◌, ◌++◌, Some}
use Rattle.tb_basic_grammar.specs.declared.keywords.Keyword.TheVariants as keyword
use Rattle.tb_parser.specs.Readings.{Edit}
use Rattle.tb_parser.specs.Tokens.{AreTokens}
use Rattle.tb_parser.specs.declared.lexer.Token.{Token}
use Rattle.tb_parser.specs.declared.lexer.TokenKind.TheVariants as kind
use Rattle.tb_basic_names.specs.Jumps.{jump_word}
use Rattle.tb_basic_names.specs.Lines.{number_in}
use Rattle.tb_basic_names.specs.Sources.{program_of}
use Rattle.tb_basic_names.specs.Variables.{variables_of}

-- a line whose number a later one has, with a statement or bare, does nothing to the program
abbrev pub SupersededLinesDoNothing : Type 0
SupersededLinesDoNothing =
    (n : ℕ) (before between behind : List Edit) (e later : Edit) → number_in e ≡ Some n → number_in later ≡ Some n
    → program_of (before ++ (e ∷ (between ++ (later ∷ behind)))) ≡ program_of (before ++ (between ++ (later ∷ behind)))

-- a remark names nothing: the variables of a line, and its GOTO or GOSUB, are those of its tokens before REM
abbrev pub RemarksNameNothing : Type 0
RemarksNameNothing =
    (line : List ℕ) (before behind : List Token) (rem : Token) → AreTokens line (before ++ (rem ∷ behind)) → rem.kind ≡ kind.Keyword keyword.Rem
    → (variables_of (before ++ (rem ∷ behind)) ≡ variables_of before) × (jump_word (before ++ (rem ∷ behind)) ≡ jump_word before)
