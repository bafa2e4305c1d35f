-- Words one slip away from those of statements.
use Rattle.std.specs.Prelude.{ℕ, nat_eq, Bool, false, ◌&&◌, ◌||◌, ◌==◌, if◌then◌else◌, List, [], ◌∷◌, length, Option, codes}
use lib.Pointwise.{pointwise}
use Rattle.std.specs.List.{find}
use Rattle.tb_basic_grammar.specs.StatementReading.{spelled}
use Rattle.tb_basic_grammar.specs.declared.keywords.Keyword.TheVariants.{Let, Print, Input, If, Goto, Gosub, Return, End, Rem}
use Rattle.tb_engine_findings.specs.declared.near_words.StatementWord.{StatementWord}
use Rattle.tb_engine_findings.specs.declared.near_words.StatementWord.TheVariants.{Begins, Then}

-- how a word is written
abbrev pub spelling_of : StatementWord → List ℕ
spelling_of (Begins keyword) = spelled keyword
spelling_of Then = codes "THEN"

-- all of them, without PR
abbrev pub statement_words : List StatementWord
statement_words =
    Begins Let ∷ Begins Print ∷ Begins Input ∷ Begins If ∷ Then ∷ Begins Goto ∷ Begins Gosub ∷ Begins Return ∷ Begins End ∷ Begins Rem ∷ []

-- whether two words are the same once the first two letters of one are swapped
abbrev pub is_swapped : List ℕ → List ℕ → Bool
is_swapped (a ∷ b ∷ word) (c ∷ d ∷ other) = (a == d) && ((b == c) && pointwise nat_eq word other)
is_swapped _ _ = false

-- whether a word becomes another one by a letter that is changed, left out or added, or by two that are swapped
abbrev pub is_near : List ℕ → List ℕ → Bool
is_near [] [] = false
is_near [] (b ∷ other) = length other == 0
is_near (a ∷ word) [] = length word == 0
is_near (a ∷ word) (b ∷ other) =
    if a == b then is_near word other
    else pointwise nat_eq word other
    || (pointwise nat_eq word (b ∷ other) || (pointwise nat_eq (a ∷ word) other || is_swapped (a ∷ word) (b ∷ other)))

-- the first word that is near
abbrev pub near_word : List ℕ → Option StatementWord
near_word letters = find (λ w. is_near letters (spelling_of w)) statement_words
