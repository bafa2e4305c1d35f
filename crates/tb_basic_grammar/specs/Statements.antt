-- The grammar of statements over squeezed text.
use Rattle.std.specs.Prelude.{◌≡◌, ◌≢◌, ℕ, ◌-◌, Bool, true, false, List, [], ◌∷◌, ◌++◌, Option, None, All, codes}
use Rattle.std.specs.Option.{option_or}
use Rattle.tb_words.specs.declared.Rel.{Rel}
use Rattle.tb_words.specs.declared.Rel.TheVariants.{Eq, Lt, Gt, Le, Ge, Ne}
use Rattle.tb_basic_syntax.specs.Source.{Expression, Item, Text, Value, Zone, Statement, Let, Print, Input, If, Goto, Gosub, Return, End, Remark}
use Rattle.tb_basic_grammar.specs.Grammar.{IsLetter, Whole, Reads}

-- a relation at the front of a text, and what is left after it
pub data Relates : List ℕ → Rel → List ℕ → Type 0 where
  equal : (rest : List ℕ) → Relates (codes "=" ++ rest) Eq rest
  less : (rest : List ℕ) → Relates (codes "<" ++ rest) Lt rest
  greater : (rest : List ℕ) → Relates (codes ">" ++ rest) Gt rest
  at_most : (rest : List ℕ) → Relates (codes "<=" ++ rest) Le rest
  at_least : (rest : List ℕ) → Relates (codes ">=" ++ rest) Ge rest
  less_or_greater : (rest : List ℕ) → Relates (codes "<>" ++ rest) Ne rest
  greater_or_less : (rest : List ℕ) → Relates (codes "><" ++ rest) Ne rest

-- a text with or without THEN at its front, and what is left after it
pub data MayThen : List ℕ → List ℕ → Type 0 where
  bare : (text : List ℕ) → MayThen text text
  then : (text : List ℕ) → MayThen (codes "THEN" ++ text) text

-- one item of PRINT at the front: a value, or a text between two quotes (34)
pub data ReadsItem : List ℕ → Item → Option ℕ → List ℕ → Type 0 where
  value : (text : List ℕ) (e : Expression) (large : Option ℕ) (rest : List ℕ) → Reads Whole text e large rest → ReadsItem text (Value e) large rest
  quotation : (bytes rest : List ℕ) → All (λ b. b ≢ 34) bytes → ReadsItem (34 ∷ bytes ++ 34 ∷ rest) (Text bytes) None rest

-- a comma between items is a zone, a semicolon is nothing
pub data Separates : ℕ → List Item → Type 0 where
  comma : Separates 44 (Zone ∷ [])
  semicolon : Separates 59 []

-- The text is the items of PRINT from here on, and says whether the line ends after them.
-- The first argument is that answer for an empty text: true for a bare PRINT, false after a separator.
pub data Prints : Bool → List ℕ → List Item → Bool → Option ℕ → Type 0 where
  nothing : (ends : Bool) → Prints ends [] [] ends None
  last : (ends : Bool) (text : List ℕ) (item : Item) (large : Option ℕ) → ReadsItem text item large [] → Prints ends text (item ∷ []) true large
  next : (ends : Bool) (text : List ℕ) (item : Item) (la : Option ℕ) (sign : ℕ) (between : List Item) (rest : List ℕ) (items : List Item) (ends_line : Bool) (lb : Option ℕ)
      → ReadsItem text item la (sign ∷ rest) → Separates sign between → Prints false rest items ends_line lb
      → Prints ends text (item ∷ between ++ items) ends_line (option_or la lb)

-- the text is variables with commas between them
pub data Variables : List ℕ → List ℕ → Type 0 where
  one : (v : ℕ) → IsLetter v → Variables (v ∷ []) ((v - 65) ∷ [])
  more : (v : ℕ) (text letters : List ℕ) → IsLetter v → Variables text letters → Variables (v ∷ 44 ∷ text) ((v - 65) ∷ letters)

-- the whole text is a statement; `large` is the place of the first literal above 65,535
pub data States : List ℕ → Statement → Option ℕ → Type 0 where
  let_assign : (v : ℕ) (text : List ℕ) (e : Expression) (large : Option ℕ) → IsLetter v → Reads Whole text e large [] → States (codes "LET" ++ v ∷ 61 ∷ text) (Let (v - 65) e) large
  assign : (v : ℕ) (text : List ℕ) (e : Expression) (large : Option ℕ) → IsLetter v → Reads Whole text e large [] → States (v ∷ 61 ∷ text) (Let (v - 65) e) large
  print : (text : List ℕ) (items : List Item) (ends_line : Bool) (large : Option ℕ) → Prints true text items ends_line large → States (codes "PRINT" ++ text) (Print items ends_line) large
  short_print : (text : List ℕ) (items : List Item) (ends_line : Bool) (large : Option ℕ) → Prints true text items ends_line large → States (codes "PR" ++ text) (Print items ends_line) large
  input : (text letters : List ℕ) → Variables text letters → States (codes "INPUT" ++ text) (Input letters) None
  conditional : (text : List ℕ) (a : Expression) (la : Option ℕ) (rest : List ℕ) (rel : Rel) (middle : List ℕ) (b : Expression) (lb : Option ℕ)
      (after body : List ℕ) (s : Statement) (ls : Option ℕ)
      → Reads Whole text a la rest → Relates rest rel middle → Reads Whole middle b lb after → MayThen after body → States body s ls
      → States (codes "IF" ++ text) (If a rel b s) (option_or la (option_or lb ls))
  goto : (text : List ℕ) (e : Expression) (large : Option ℕ) → Reads Whole text e large [] → States (codes "GOTO" ++ text) (Goto e) large
  gosub : (text : List ℕ) (e : Expression) (large : Option ℕ) → Reads Whole text e large [] → States (codes "GOSUB" ++ text) (Gosub e) large
  return : States (codes "RETURN") Return None
  end : States (codes "END") End None
  remark : (any : List ℕ) → States (codes "REM" ++ any) Remark None

-- no text is two statements
abbrev pub StatementsAreUnique : Type 0
StatementsAreUnique = (text : List ℕ) (s t : Statement) (ls lt : Option ℕ) → States text s ls → States text t lt → (s ≡ t) × (ls ≡ lt)
