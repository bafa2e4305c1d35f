-- Groups: consecutive slot instructions that have one template.
use Rattle.std.specs.Prelude.{ℕ, ◌+◌, List, [], ◌∷◌, ◌++◌, Option, Some, None}
use Rattle.tb_words.specs.declared.Rel.{Rel}
use Rattle.tb_words.specs.declared.Rel.TheVariants as rel
use Rattle.tb_basic_syntax.specs.declared.expressions.Operator.{Operator}
use Rattle.tb_basic_syntax.specs.declared.expressions.Operator.TheVariants.{Divide, Multiply, Subtract}
use Rattle.tb_lower.specs.Slots.{Instr, Put, Load, Store, Negate, Compute, Random, SendNumber, Hold, LeaveUnless, Jump, Call, JumpTo}

-- where a word comes from: a constant, a variable, or the slot that it is in already
pub data Operand : Type 0 where
  Constant : (w : ℕ) → Operand
  Variable : (letter : ℕ) → Operand
  InSlot : Operand

-- where slot 0 goes: into a variable or into the held word
pub data Home : Type 0 where
  IntoVariable : (letter : ℕ) → Home
  IntoHeld : Home

-- where a result goes: it stays in its slot, or goes from slot 0 to a home
pub data Destination : Type 0 where
  IntoSlot : (k : ℕ) → Destination
  IntoHome : (home : Home) → Destination

-- the left word of a test: the one held before, or one that is held now
pub data Tested : Type 0 where
  HeldBefore : Tested
  HeldNow : (a : Operand) → Tested

-- what is made of one word
pub data Conversion : Type 0 where
  Negated Drawn : Conversion

-- what one word is used as: a number that is sent, a line that is gone to, a line that is called
pub data Usage : Type 0 where
  AsNumber AsLine AsSubroutine : Usage

-- whether a test asks for a multiple of a divisor, or for any other word
pub data Divisibility : Type 0 where
  Divisible Indivisible : Divisibility

-- the side of a test that a multiple of its divisor is on
pub data Side : Type 0 where
  OnLeft OnRight : Side

-- consecutive slot instructions with one template: a calculation with two words, one that goes on by a constant and into a
-- variable, a calculation with one word, a move, a use, a test, a test that goes straight to a line if it holds, a test
-- of a variable by a divisor that does so or not, the remainder of a variable by a divisor, or a single instruction
pub data Group : Type 0 where
  Calculate : (op : Operator) (a b : Operand) (d : Destination) → Group
  Stepped : (op : Operator) (a b : Operand) (by : Operator) (w : ℕ) (x : ℕ) → Group
  Convert : (what : Conversion) (a : Operand) (d : Destination) → Group
  Move : (a : Operand) (home : Home) → Group
  Use : (how : Usage) (a : Operand) → Group
  Test : (rel : Rel) (a : Tested) (b : Operand) → Group
  TestGo : (rel : Rel) (a : Tested) (b : Operand) (to : ℕ) → Group
  Divides : (how : Divisibility) (x : ℕ) (d : Operand) (side : Side) (to : Option ℕ) → Group
  Remains : (x : ℕ) (d : Operand) (to : Destination) → Group
  Single : (i : Instr) → Group

-- an operand into slot k
abbrev pub fetch : ℕ → Operand → List Instr
fetch k (Constant w) = Put k w ∷ []
fetch k (Variable x) = Load k x ∷ []
fetch k InSlot = []

-- slot 0 into its home
abbrev pub keep : Home → Instr
keep (IntoVariable x) = Store x
keep IntoHeld = Hold

-- the slot in which a result is computed
abbrev pub slot_of : Destination → ℕ
slot_of (IntoSlot k) = k
slot_of (IntoHome home) = 0

-- the result, moved to where it goes
abbrev pub kept : Destination → List Instr
kept (IntoSlot k) = []
kept (IntoHome home) = keep home ∷ []

-- the left word of a test is held
abbrev pub held : Tested → List Instr
held HeldBefore = []
held (HeldNow a) = fetch 0 a ++ Hold ∷ []

-- the instruction that converts the word in slot k
abbrev pub convert : Conversion → ℕ → Instr
convert Negated k = Negate k
convert Drawn k = Random k

-- the instruction that uses slot 0
abbrev pub use_of : Usage → Instr
use_of AsNumber = SendNumber
use_of AsLine = Jump
use_of AsSubroutine = Call

-- the relation that holds if this one does not
abbrev pub denied : Rel → Rel
denied rel.Eq = rel.Ne
denied rel.Ne = rel.Eq
denied rel.Lt = rel.Ge
denied rel.Ge = rel.Lt
denied rel.Gt = rel.Le
denied rel.Le = rel.Gt

-- the relation of a quotient times its divisor to the word that was divided
abbrev pub compared : Divisibility → Rel
compared Divisible = rel.Eq
compared Indivisible = rel.Ne

-- the other one
abbrev pub contrary : Divisibility → Divisibility
contrary Divisible = Indivisible
contrary Indivisible = Divisible

-- a variable's quotient times the divisor in slot k, before some more
abbrev pub multiple : ℕ → ℕ → Operand → List Instr → List Instr
multiple k x d is = Load k x ∷ (fetch (k + 1) d ++ Compute Divide k ∷ (fetch (k + 1) d ++ Compute Multiply k ∷ is))

-- on to a line, if the test leads to one
abbrev pub onward : Option ℕ → List Instr
onward None = []
onward (Some to) = JumpTo to ∷ []

-- a test by a divisor: a multiple, and the variable, in the order in which they are compared
abbrev pub dividing : Divisibility → ℕ → Operand → Side → List Instr → List Instr
dividing how x d OnLeft is = multiple 0 x d (Hold ∷ Load 0 x ∷ LeaveUnless (compared how) ∷ is)
dividing how x d OnRight is = Load 0 x ∷ Hold ∷ multiple 0 x d (LeaveUnless (compared how) ∷ is)

-- the slot instructions of a group
abbrev pub expand : Group → List Instr
expand (Calculate op a b d) = fetch (slot_of d) a ++ (fetch (slot_of d + 1) b ++ Compute op (slot_of d) ∷ kept d)
expand (Stepped op a b by w x) = fetch 0 a ++ (fetch 1 b ++ Compute op 0 ∷ Put 1 w ∷ Compute by 0 ∷ Store x ∷ [])
expand (Convert what a d) = fetch (slot_of d) a ++ convert what (slot_of d) ∷ kept d
expand (Move a home) = fetch 0 a ++ keep home ∷ []
expand (Use how a) = fetch 0 a ++ use_of how ∷ []
expand (Test rel a b) = held a ++ (fetch 0 b ++ LeaveUnless rel ∷ [])
expand (TestGo rel a b to) = held a ++ (fetch 0 b ++ LeaveUnless rel ∷ JumpTo to ∷ [])
expand (Divides how x d side to) = dividing how x d side (onward to)
expand (Remains x d to) = Load (slot_of to) x ∷ multiple (slot_of to + 1) x d (Compute Subtract (slot_of to) ∷ kept to)
expand (Single i) = i ∷ []

-- the slot instructions of groups, one group after another
abbrev pub expand_all : List Group → List Instr
expand_all [] = []
expand_all (g ∷ gs) = expand g ++ expand_all gs
