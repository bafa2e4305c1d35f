-- Programs as plain data: no pointers, texts as lists of bytes, letters by their places, from 0 for A.
use Rattle.std.specs.Prelude.{ℕ, ◌+◌, ◌<◌, ◌≤◌, Bool, List, [], ◌∷◌, map}
use Rattle.tb_words.specs.declared.Rel.{Rel}
use Rattle.tb_basic_syntax.specs.declared.expressions.Operator.{Operator}

-- an expression: a literal, a variable, a negation, an operator with two operands, or RND with its bound
pub data Expression : Type 0 where
  Number : (n : ℕ) → Expression
  Variable : (letter : ℕ) → Expression
  Negate : (e : Expression) → Expression
  Binary : (op : Operator) (left right : Expression) → Expression
  Random : (bound : Expression) → Expression
  deriving Discrete as Expression_discrete

-- an item of PRINT: a text, a zone for a comma, or a value; a semicolon leaves nothing
pub data Item : Type 0 where
  Text : (bytes : List ℕ) → Item
  Value : (e : Expression) → Item
  Zone : Item
  deriving Discrete as Item_discrete

-- a statement; PRINT says whether the line ends after its items, the targets of GOTO and GOSUB are expressions
pub data Statement : Type 0 where
  Let : (letter : ℕ) (e : Expression) → Statement
  Print : (items : List Item) (ends_line : Bool) → Statement
  Input : (letters : List ℕ) → Statement
  If : (left : Expression) (rel : Rel) (right : Expression) (c : Statement) → Statement
  Goto : (e : Expression) → Statement
  Gosub : (e : Expression) → Statement
  Return : Statement
  End : Statement
  Remark : Statement
  deriving Discrete as Statement_discrete

-- something at a line number
pub record Numbered (A : Type 0) : Type 0 where
  pub number : ℕ
  pub content : A

-- a program's lines, in rising order
abbrev pub Program : Type 0
Program = List (Numbered Statement)

-- the line numbers of lines, in their order
abbrev pub numbers : {A : Type 0} → List (Numbered A) → List ℕ
numbers lines = map (λ line. line.number) lines

-- numbers that rise, each at least `low` and below `bound`
abbrev pub Rises : ℕ → ℕ → List ℕ → Type 0
Rises low bound [] = Unit {0}
Rises low bound (n ∷ ns) = (low ≤ n) × (n < bound) × Rises (n + 1) bound ns
