-- A tidy statement, from one without spaces.
use Rattle.std.specs.Prelude.{ℕ, zero, suc, ◌+◌, List, [], ◌∷◌, ◌++◌, length, take, drop, is_some, if◌then◌else◌, codes}
use Rattle.tb_basic_grammar.specs.declared.keywords.Keyword.{Keyword}
use Rattle.tb_basic_grammar.specs.declared.keywords.Keyword.TheVariants as keyword
use Rattle.tb_basic_grammar.specs.Reading.{behind_word, when}
use Rattle.tb_basic_grammar.specs.StatementReading.{keyword_at, spelled, target_at}
use Rattle.tb_basic_format.specs.declared.conditions.Place.TheVariants.{Operand}
use Rattle.tb_basic_format.specs.Conditions.{condition_length}

-- a word, with a space before what follows it
abbrev pub spaced : List ℕ → List ℕ → List ℕ
spaced word [] = word
spaced word (b ∷ text) = word ++ 32 ∷ b ∷ text

-- the statement that an IF guards, with or without THEN before it; `tidy` makes a statement tidy
abbrev pub tidy_guarded : (List ℕ → List ℕ) → List ℕ → List ℕ
tidy_guarded tidy text = when (behind_word (codes "THEN") text) (tidy text) (λ rest. codes "THEN " ++ tidy rest)

-- a condition of the given length, and the statement that it guards
abbrev pub tidy_conditional : (List ℕ → List ℕ) → ℕ → List ℕ → List ℕ
tidy_conditional tidy size text = codes "IF " ++ (take size text ++ 32 ∷ tidy_guarded tidy (drop size text))

-- a statement by its first word and what follows that
abbrev pub tidy_word : (List ℕ → List ℕ) → Keyword → List ℕ → List ℕ
tidy_word tidy keyword.Let text = spaced (spelled keyword.Let) text
tidy_word tidy keyword.Print text = spaced (spelled keyword.Print) text
tidy_word tidy keyword.Pr text = spaced (spelled keyword.Pr) text
tidy_word tidy keyword.Input text = spaced (spelled keyword.Input) text
tidy_word tidy keyword.If text = tidy_conditional tidy (condition_length Operand text) text
tidy_word tidy keyword.Goto text = spaced (spelled keyword.Goto) text
tidy_word tidy keyword.Gosub text = spaced (spelled keyword.Gosub) text
tidy_word tidy keyword.Return text = spelled keyword.Return ++ text
tidy_word tidy keyword.End text = spelled keyword.End ++ text
tidy_word tidy keyword.Rem text = spelled keyword.Rem ++ text

-- a statement with an IF nested less than n deep; an assignment without LET has no spaces
unfoldable pub tidy_at : ℕ → List ℕ → List ℕ
tidy_at zero text = text
tidy_at (suc n) text = if is_some (target_at text) then text else when (keyword_at text) text (λ k. tidy_word (tidy_at n) k.0 k.1)

-- a whole statement: each IF takes a byte, so the length bounds the nesting
abbrev pub tidy_statement : List ℕ → List ℕ
tidy_statement text = tidy_at (length text + 1) text
