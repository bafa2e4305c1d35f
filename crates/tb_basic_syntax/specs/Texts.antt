-- The texts that a program's PRINTs send.
use Rattle.std.specs.Prelude.{ℕ, ◌<◌, List, [], ◌∷◌, length}
use Rattle.tb_basic_syntax.specs.Source.{Item, Text, Statement, Print, If, Program}

-- the texts among items, in order
abbrev pub item_texts : List Item → List (List ℕ)
item_texts [] = []
item_texts (Text t ∷ is) = t ∷ item_texts is
item_texts (_ ∷ is) = item_texts is

-- the texts of a statement's PRINT, in order
abbrev pub statement_texts : Statement → List (List ℕ)
statement_texts (Print items ends) = item_texts items
statement_texts (If l rel r c) = statement_texts c
statement_texts _ = []

-- each text is shorter than the limit
abbrev pub AreShort : ℕ → List (List ℕ) → Type 0
AreShort limit [] = Unit {0}
AreShort limit (t ∷ ts) = (length t < limit) × AreShort limit ts

-- each text of a program is shorter than the limit
abbrev pub HasShortTexts : ℕ → Program → Type 0
HasShortTexts limit [] = Unit {0}
HasShortTexts limit (line ∷ lines) = AreShort limit (statement_texts line.content) × HasShortTexts limit lines
