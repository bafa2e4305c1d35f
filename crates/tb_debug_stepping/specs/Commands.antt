-- The stepper's commands, and the lines that spell them.
use Rattle.std.specs.Prelude.{ℕ, ◌==◌, nat_le, Bool, true, false, List, [], ◌∷◌, Option, Some, None, if◌then◌else◌}
use Rattle.std.specs.Option.{option_and_then}
use Rattle.tb_words.specs.Letters.{letter_index}
use Rattle.tb_debug_commands.specs.Parts.{number_of, variable_in}
use Rattle.tb_debug_stepping.specs.declared.command.Command.{Command}
use Rattle.tb_debug_stepping.specs.declared.command.Command.TheVariants as command

-- what a line asks for: a variable is said by its index in the alphabet, a value by the text of its expression
pub data Asked : Type 0 where
  Step : Asked
  Back : Asked
  Go : (line : ℕ) → Asked
  Variable : (index : ℕ) → Asked
  Value : (text : List ℕ) → Asked
  Depth : Asked
  Quit : Asked
  Unknown : Asked

-- a command that was read, as what its line asks for
abbrev pub asked_of : Command → Asked
asked_of command.Step = Step
asked_of command.Back = Back
asked_of (command.Go line) = Go line
asked_of (command.Variable letter) = Variable (letter_index letter)
asked_of (command.Value text) = Value text.now
asked_of command.Depth = Depth
asked_of command.Quit = Quit
asked_of command.Unknown = Unknown

-- whether only a source tells what is asked for: its lines, its variables, and where its returns are noted
abbrev pub needs_source : Asked → Bool
needs_source Step = false
needs_source Back = false
needs_source (Go line) = true
needs_source (Variable index) = true
needs_source (Value text) = true
needs_source Depth = true
needs_source Quit = false
needs_source Unknown = false

-- the number that one to five digits spell, up to 65,535
abbrev pub line_in : List ℕ → Option ℕ
line_in ds = option_and_then (λ n. if nat_le n 65535 then Some n else None) (number_of 5 ds)

-- what `g` asks for: a walk to a line; None, a text that is no line number, is no command
abbrev pub going : Option ℕ → Asked
going (Some line) = Go line
going None = Unknown

-- what `v` asks for: a variable; None, a text that names none, is no command
abbrev pub naming : Option ℕ → Asked
naming (Some index) = Variable index
naming None = Unknown

-- a letter alone: s, b, d or q
abbrev pub alone : ℕ → Asked
alone c = if c == 115 then Step else if c == 98 then Back else if c == 100 then Depth else if c == 113 then Quit else Unknown

-- a letter before a text: g, v or e
abbrev pub with_text : ℕ → List ℕ → Asked
with_text c text = if c == 103 then going (line_in text) else if c == 118 then naming (variable_in text) else if c == 101 then Value text else Unknown

-- a line; there is one space between the letter and the text
abbrev pub asked_in : List ℕ → Asked
asked_in [] = Unknown
asked_in (c ∷ []) = alone c
asked_in (c ∷ space ∷ text) = if space == 32 then with_text c text else Unknown
