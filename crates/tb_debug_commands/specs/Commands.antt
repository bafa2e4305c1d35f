-- The debugger's commands, and the lines that spell them.
use Rattle.std.specs.Prelude.{ℕ, ◌+◌, ◌-◌, ◌*◌, ◌==◌, ◌&&◌, nat_le, List, [], ◌∷◌, length, codes, Option, Some, None, option_map, unwrap_or, if◌then◌else◌}
use Rattle.std.specs.Option.{option_and_then, option_or}
use Rattle.tb_words.specs.Letters.{letter_index}
use Rattle.tb_debug_commands.specs.Parts.{number_of, variable_in}
use Rattle.tb_debug_commands.specs.declared.command.Command.{Command}
use Rattle.tb_debug_commands.specs.declared.command.Command.TheVariants as command
use Rattle.tb_basic_grammar.specs.Grammar.{word_of}

-- what a line asks for: a variable is said by its index in the alphabet, a text by its bytes
pub data Asked : Type 0 where
  Next : (lines : ℕ) → Asked
  Previous : (lines : ℕ) → Asked
  Breakpoints : Asked
  Breakpoint : (line : ℕ) → Asked
  Continue : Asked
  ReverseContinue : Asked
  Over : Asked
  Finish : Asked
  Watch : (index : ℕ) → Asked
  Faults : Asked
  ToLine : (line : ℕ) → Asked
  ToTime : (time : ℕ) → Asked
  ListHere : Asked
  ListAt : (line : ℕ) → Asked
  Variables : Asked
  Variable : (index : ℕ) → Asked
  Value : (text : List ℕ) → Asked
  Returns : Asked
  Output : Asked
  Types : (text : List ℕ) → Asked
  Step : (events : ℕ) → Asked
  Registers : Asked
  Memory : (address count : ℕ) → Asked
  Code : Asked
  Help : Asked
  Quit : Asked
  Unknown : Asked

-- a command that was read, as what its line asks for
abbrev pub asked_of : Command → Asked
asked_of (command.Next lines) = Next lines
asked_of (command.Previous lines) = Previous lines
asked_of command.Breakpoints = Breakpoints
asked_of (command.Breakpoint line) = Breakpoint line
asked_of command.Continue = Continue
asked_of command.ReverseContinue = ReverseContinue
asked_of command.Over = Over
asked_of command.Finish = Finish
asked_of (command.Watch letter) = Watch (letter_index letter)
asked_of command.Faults = Faults
asked_of (command.ToLine line) = ToLine line
asked_of (command.ToTime time) = ToTime time
asked_of command.ListHere = ListHere
asked_of (command.List line) = ListAt line
asked_of command.Variables = Variables
asked_of (command.Variable letter) = Variable (letter_index letter)
asked_of (command.Value text) = Value text.now
asked_of command.Returns = Returns
asked_of command.Output = Output
asked_of (command.Type text) = Types text.now
asked_of (command.Step events) = Step events
asked_of command.Registers = Registers
asked_of (command.Memory at count) = Memory at count
asked_of command.Code = Code
asked_of command.Help = Help
asked_of command.Quit = Quit
asked_of command.Unknown = Unknown

-- ---- numbers and names

-- the most digits of a number
abbrev pub most_digits : ℕ
most_digits = 18

-- the value of a hexadecimal digit, in either case
abbrev pub digit_of : ℕ → Option ℕ
digit_of b =
    if nat_le 48 b && nat_le b 57 then Some (b - 48)
    else if nat_le 65 b && nat_le b 70 then Some (b - 65 + 10)
    else if nat_le 97 b && nat_le b 102 then Some (b - 97 + 10)
    else None

-- the address that four hexadecimal digits spell
abbrev pub address_of : ℕ → ℕ → ℕ → ℕ → Option ℕ
address_of a b c d =
    option_and_then (λ p. option_and_then (λ q. option_and_then (λ r. option_and_then (λ s. Some (4096 * p + 256 * q + 16 * r + s)) (digit_of d)) (digit_of c)) (digit_of b)) (digit_of a)

-- ---- commands

-- a letter alone; `k` alone types the return
abbrev pub alone : ℕ → Asked
alone c =
    if c == 110 then Next 1
    else if c == 112 then Previous 1
    else if c == 98 then Breakpoints
    else if c == 99 then Continue
    else if c == 106 then Over
    else if c == 117 then Finish
    else if c == 102 then Faults
    else if c == 108 then ListHere
    else if c == 118 then Variables
    else if c == 114 then Returns
    else if c == 111 then Output
    else if c == 107 then Types []
    else if c == 115 then Step 1
    else if c == 120 then Registers
    else if c == 105 then Code
    else if c == 104 then Help
    else if c == 113 then Quit
    else Unknown

-- a letter before a number: n, p, t, s, b, g or l
abbrev pub counting : ℕ → ℕ → Asked
counting c n =
    if c == 110 then Next n
    else if c == 112 then Previous n
    else if c == 116 then ToTime n
    else if c == 115 then Step n
    else if c == 98 then Breakpoint (word_of n)
    else if c == 103 then ToLine (word_of n)
    else if c == 108 then ListAt (word_of n)
    else Unknown

-- a letter before a text that may spell a number: n, p, t, s, b, g or l; unknown if it spells none
abbrev pub with_number : ℕ → Option ℕ → Asked
with_number c (Some n) = counting c n
with_number c None = Unknown

-- v or w before what may name a variable
abbrev pub named : (ℕ → Asked) → Option ℕ → Asked
named asks (Some index) = asks index
named asks None = Unknown

-- 1 to 256 bytes from an address on
abbrev pub memory_at : Option ℕ → Option ℕ → Asked
memory_at (Some at) (Some count) = if nat_le 1 count && nat_le count 256 then Memory at count else Unknown
memory_at (Some at) None = Unknown
memory_at None count = Unknown

-- m before an address, and after a space a number; 16 if there is none
abbrev pub memory_in : List ℕ → Asked
memory_in (a ∷ b ∷ c ∷ d ∷ []) = memory_at (address_of a b c d) (Some 16)
memory_in (a ∷ b ∷ c ∷ d ∷ space ∷ count) = if space == 32 then memory_at (address_of a b c d) (number_of most_digits count) else Unknown
memory_in _ = Unknown

-- a letter before a text
abbrev pub with_text : ℕ → List ℕ → Asked
with_text c text =
    if c == 101 then Value text
    else if c == 107 then Types text
    else if c == 109 then memory_in text
    else if c == 118 then named Variable (variable_in text)
    else if c == 119 then named Watch (variable_in text)
    else with_number c (number_of most_digits text)

-- a letter and a text with a space between them, or rc
abbrev pub words : ℕ → ℕ → List ℕ → Asked
words c next text = if next == 32 then with_text c text else if c == 114 && next == 99 && length text == 0 then ReverseContinue else Unknown

-- a letter, and the rest of its line
abbrev pub spelled : ℕ → List ℕ → Asked
spelled c [] = alone c
spelled c (next ∷ text) = words c next text

-- what follows a word at the beginning of a line
abbrev pub behind : List ℕ → List ℕ → Option (List ℕ)
behind [] line = Some line
behind (b ∷ word) [] = None
behind (b ∷ word) (c ∷ line) = if b == c then behind word line else None

-- the letter for which a line may have a word, and what follows the word
abbrev pub letter_for : List ℕ → Option (ℕ × List ℕ)
letter_for line =
    option_or (option_map (λ rest. (110, rest)) (behind (codes "next") line))
    (option_or (option_map (λ rest. (112, rest)) (behind (codes "back") line))
    (option_or (option_map (λ rest. (104, rest)) (behind (codes "help") line))
    (option_or (option_map (λ rest. (113, rest)) (behind (codes "quit") line))
    (option_or (option_map (λ rest. (106, rest)) (behind (codes "over") line))
    (option_or (option_map (λ rest. (117, rest)) (behind (codes "finish") line))
    (option_map (λ rest. (99, rest)) (behind (codes "continue") line)))))))

-- a line that begins with no such word
abbrev pub asked_by_letter : List ℕ → Asked
asked_by_letter [] = Unknown
asked_by_letter (c ∷ rest) = spelled c rest

-- a line
abbrev pub asked_as : Option (ℕ × List ℕ) → List ℕ → Asked
asked_as (Some (c, rest)) line = spelled c rest
asked_as None line = asked_by_letter line

-- what a line asks for
abbrev pub asked_in : List ℕ → Asked
asked_in line = asked_as (letter_for line) line

-- ---- the last move

-- what moves the run, if a line asks for it: n, p, c, rc, j, u, g, t or s
abbrev pub as_move : Asked → Option Asked
as_move (Next lines) = Some (Next lines)
as_move (Previous lines) = Some (Previous lines)
as_move Continue = Some Continue
as_move ReverseContinue = Some ReverseContinue
as_move Over = Some Over
as_move Finish = Some Finish
as_move (ToLine line) = Some (ToLine line)
as_move (ToTime time) = Some (ToTime time)
as_move (Step events) = Some (Step events)
as_move _ = None

-- the last move after a line that asks for this
abbrev pub last_move : Option Asked → Asked → Option Asked
last_move last asked = option_or (as_move asked) last

-- what a line asks for after the last move: an empty one for that once more
abbrev pub asked_after : Option Asked → List ℕ → Asked
asked_after last [] = unwrap_or last Unknown
asked_after last (c ∷ line) = asked_in (c ∷ line)

-- ---- without a source

-- a breakpoint at an address, or a way to it
abbrev pub place_at : ℕ → ℕ → Option Asked
place_at c address = if c == 98 then Some (Breakpoint address) else if c == 103 then Some (ToLine address) else None

-- the command that a line is at an address: `b $ADDR`, `g $ADDR`
abbrev pub at_address : List ℕ → Option Asked
at_address (c ∷ space ∷ dollar ∷ p ∷ q ∷ r ∷ s ∷ []) =
    if space == 32 && dollar == 36 then option_and_then (place_at c) (address_of p q r s) else None
at_address line = None

-- what a line asks for without a source, after the last move: a place may be an address
abbrev pub asked_without_source : Option Asked → List ℕ → Asked
asked_without_source last line = unwrap_or (at_address line) (asked_after last line)
