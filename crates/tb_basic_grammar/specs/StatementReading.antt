-- Reading statements from left to right, as functions of lists. The program does this; Statements alone says what a text means.
use Rattle.std.specs.Prelude.{ℕ, zero, suc, ◌+◌, List, [], ◌∷◌, ◌++◌, length, Bool, true, false, Option, Some, None, ◌==◌, if◌then◌else◌, codes}
use Rattle.std.specs.Option.{option_or}
use Rattle.tb_words.specs.declared.Rel.{Rel}
use Rattle.tb_words.specs.declared.Rel.TheVariants.{Eq, Lt, Gt, Le, Ge, Ne}
use Rattle.tb_basic_syntax.specs.Source.{Expression, Item, Text, Value, Zone, Statement, Let, Print, Input, If, Goto, Gosub, Return, End, Remark}
use Rattle.tb_basic_grammar.specs.declared.keywords.Keyword.{Keyword}
use Rattle.tb_basic_grammar.specs.declared.keywords.Keyword.TheVariants as keyword
use Rattle.tb_basic_grammar.specs.Reading.{◌>>=◌, when, Found, behind, behind_word, letter_at, front_of, expression_in}

-- a statement that was read, and where its first literal above 65,535 begins
pub record Told : Type 0 where
  pub statement : Statement
  pub large : Option ℕ

-- a variable with the = after it
unfoldable pub target_at : List ℕ → Option (ℕ × List ℕ)
target_at text = letter_at text >>= λ v. behind 61 v.1 >>= λ rest. Some (v.0, rest)

-- the longest relation at the front, and what is left after it
unfoldable pub relation_at : List ℕ → Option (Rel × List ℕ)
relation_at text =
    when (behind 61 text)
    (when (behind 60 text)
    (behind 62 text >>= λ rest. Some (when (behind 61 rest) (when (behind 60 rest) (Gt, rest) (λ t. (Ne, t))) (λ t. (Ge, t))))
    (λ rest. Some (when (behind 61 rest) (when (behind 62 rest) (Lt, rest) (λ t. (Ne, t))) (λ t. (Le, t)))))
    (λ rest. Some (Eq, rest))

-- an expression up to the end, and the statement that it belongs to
unfoldable pub made : (Expression → Statement) → List ℕ → Option Told
made statement text = expression_in text >>= λ f. Some (record { statement = statement f.tree; large = f.large })

-- a statement that nothing may follow
abbrev pub alone : Statement → List ℕ → Option Told
alone statement [] = Some (record { statement = statement; large = None })
alone statement (b ∷ text) = None

-- the bytes of a text up to its second quote, and what is left after it
abbrev pub quotation_at : List ℕ → Option (List ℕ × List ℕ)
quotation_at [] = None
quotation_at (b ∷ text) = if b == 34 then Some ([], text) else (quotation_at text >>= λ q. Some (b ∷ q.0, q.1))

-- an item of PRINT, its place of a large literal, and what is left
pub record FoundItem : Type 0 where
  pub item : Item
  pub large : Option ℕ
  pub rest : List ℕ

-- the bytes of a text, taken as an item of PRINT, with what is left after its second quote
abbrev pub as_text : List ℕ × List ℕ → FoundItem
as_text q = record { item = Text q.0; large = None; rest = q.1 }

-- an expression that was read, taken as an item of PRINT
abbrev pub as_value : Found → FoundItem
as_value f = record { item = Value f.tree; large = f.large; rest = f.rest }

-- a text of PRINT from after its first quote on; None without a second one
abbrev pub text_item_at : List ℕ → Option FoundItem
text_item_at inside = quotation_at inside >>= λ q. Some (as_text q)

-- an item of PRINT at the front: a text between quotes, else the value of an expression
unfoldable pub item_at : List ℕ → Option FoundItem
item_at text = when (behind 34 text) (front_of text >>= λ f. Some (as_value f)) text_item_at

-- what a separator leaves between two items
abbrev pub between : ℕ → Option (List Item)
between b = if b == 44 then Some (Zone ∷ []) else if b == 59 then Some [] else None

-- items that were read, whether the line ends after them, and the place of a large literal
pub record Printed : Type 0 where
  pub items : List Item
  pub ends_line : Bool
  pub large : Option ℕ

-- items before others
abbrev pub with_items : List Item → Option ℕ → Printed → Printed
with_items items large p = record { items = items ++ p.items; ends_line = p.ends_line; large = option_or large p.large }

-- what follows an item: nothing, or a separator and the items that `others` reads
abbrev pub others_by : (List ℕ → Option Printed) → List ℕ → Option Printed
others_by others [] = Some (record { items = []; ends_line = true; large = None })
others_by others (b ∷ text) = between b >>= λ zone. others text >>= λ p. Some (with_items zone None p)

-- at most the given number of items; if nothing is left, the given truth value says whether the line ends
abbrev pub items_at : ℕ → Bool → List ℕ → Option Printed
items_at k ends [] = Some (record { items = []; ends_line = ends; large = None })
items_at zero ends (b ∷ text) = None
items_at (suc k) ends (b ∷ text) = item_at (b ∷ text) >>= λ i. others_by (items_at k false) i.rest >>= λ p. Some (with_items (i.item ∷ []) i.large p)

-- PRINT from after its word on: items up to the end of the text
unfoldable pub print_at : List ℕ → Option Told
print_at text = items_at (length text) true text >>= λ p. Some (record { statement = Print p.items p.ends_line; large = p.large })

-- what follows a variable: nothing, or a comma and the variables that `others` reads
abbrev pub letters_after : (List ℕ → Option (List ℕ)) → ℕ → List ℕ → Option (List ℕ)
letters_after others v [] = Some (v ∷ [])
letters_after others v (b ∷ text) = if b == 44 then (others text >>= λ letters. Some (v ∷ letters)) else None

-- variables with commas between them, at most the given number
abbrev pub letters_at : ℕ → List ℕ → Option (List ℕ)
letters_at zero text = None
letters_at (suc k) text = letter_at text >>= λ v. letters_after (letters_at k) v.0 v.1

-- INPUT from after its word on: one or more variables up to the end of the text
unfoldable pub input_at : List ℕ → Option Told
input_at text = letters_at (length text) text >>= λ letters. Some (record { statement = Input letters; large = None })

-- what is left after THEN, if it is at the front
abbrev pub behind_then : List ℕ → List ℕ
behind_then text = when (behind_word (codes "THEN") text) text (λ rest. rest)

-- IF from after its word on; `statement` reads the statement that it guards
unfoldable pub conditional_by : (List ℕ → Option Told) → List ℕ → Option Told
conditional_by statement text = do
  a ← front_of text
  rel ← relation_at a.rest
  b ← front_of rel.1
  s ← statement (behind_then b.rest)
  Some (record { statement = If a.tree rel.0 b.tree s.statement; large = option_or a.large (option_or b.large s.large) })

-- how a first word is spelled
abbrev pub spelled : Keyword → List ℕ
spelled keyword.Let = codes "LET"
spelled keyword.Print = codes "PRINT"
spelled keyword.Pr = codes "PR"
spelled keyword.Input = codes "INPUT"
spelled keyword.If = codes "IF"
spelled keyword.Goto = codes "GOTO"
spelled keyword.Gosub = codes "GOSUB"
spelled keyword.Return = codes "RETURN"
spelled keyword.End = codes "END"
spelled keyword.Rem = codes "REM"

-- the first of these words that is at the front, and what is left after it
abbrev pub first_word : List Keyword → List ℕ → Option (Keyword × List ℕ)
first_word [] text = None
first_word (k ∷ others) text = when (behind_word (spelled k) text) (first_word others text) (λ rest. Some (k, rest))

-- the first words; PRINT comes before PR, its prefix
abbrev pub keywords : List Keyword
keywords = keyword.Let ∷ keyword.Print ∷ keyword.Pr ∷ keyword.Input ∷ keyword.If ∷ keyword.Goto ∷ keyword.Gosub ∷ keyword.Return ∷ keyword.End ∷ keyword.Rem ∷ []

-- the first word of a statement, and what is left after it
unfoldable pub keyword_at : List ℕ → Option (Keyword × List ℕ)
keyword_at text = first_word keywords text

-- an assignment
unfoldable pub assigned_at : List ℕ → Option Told
assigned_at text = target_at text >>= λ t. made (Let t.0) t.1

-- a statement after its first word
unfoldable pub behind_keyword : (List ℕ → Option Told) → Keyword → List ℕ → Option Told
behind_keyword statement keyword.Let text = assigned_at text
behind_keyword statement keyword.Print text = print_at text
behind_keyword statement keyword.Pr text = print_at text
behind_keyword statement keyword.Input text = input_at text
behind_keyword statement keyword.If text = conditional_by statement text
behind_keyword statement keyword.Goto text = made Goto text
behind_keyword statement keyword.Gosub text = made Gosub text
behind_keyword statement keyword.Return text = alone Return text
behind_keyword statement keyword.End text = alone End text
behind_keyword statement keyword.Rem text = Some (record { statement = Remark; large = None })

-- a statement in which IF is nested less than n deep
unfoldable pub statement_at : ℕ → List ℕ → Option Told
statement_at zero text = None
statement_at (suc n) text = when (target_at text) (keyword_at text >>= λ k. behind_keyword (statement_at n) k.0 k.1) (λ t. made (Let t.0) t.1)

-- the text as one statement: each IF takes a byte, so the length bounds the nesting
unfoldable pub statement_in : List ℕ → Option Told
statement_in text = statement_at (length text + 1) text
