-- Words of other BASICs.
use Rattle.std.specs.Prelude.{ℕ, ◌+◌, nat_eq, Bool, true, false, ◌&&◌, ◌||◌, ◌==◌, List, [], ◌∷◌, length, Option, codes}
use lib.Pointwise.{pointwise}
use Rattle.std.specs.List.{find, starts_with}
use Rattle.tb_engine_findings.specs.declared.foreign_words.ForeignWord.{ForeignWord}
use Rattle.tb_engine_findings.specs.declared.foreign_words.ForeignWord.TheVariants.{For, Next, Step, Poke, Peek, Dim, Get, On, Read, Data}
use Rattle.tb_engine_findings.specs.declared.foreign_words.ForeignWord.TheVariants.{Def, Else, And, Or, Not, Stop, Cls, Abs, Tab, Chr, Mod, Int, Sgn, While, Sys, New}

-- how a word is written
abbrev pub name_of : ForeignWord → List ℕ
name_of For = codes "FOR"
name_of Next = codes "NEXT"
name_of Step = codes "STEP"
name_of Poke = codes "POKE"
name_of Peek = codes "PEEK"
name_of Dim = codes "DIM"
name_of Get = codes "GET"
name_of On = codes "ON"
name_of Read = codes "READ"
name_of Data = codes "DATA"
name_of Def = codes "DEF"
name_of Else = codes "ELSE"
name_of And = codes "AND"
name_of Or = codes "OR"
name_of Not = codes "NOT"
name_of Stop = codes "STOP"
name_of Cls = codes "CLS"
name_of Abs = codes "ABS"
name_of Tab = codes "TAB"
name_of Chr = codes "CHR$"
name_of Mod = codes "MOD"
name_of Int = codes "INT"
name_of Sgn = codes "SGN"
name_of While = codes "WHILE"
name_of Sys = codes "SYS"
name_of New = codes "NEW"

-- all of them
abbrev pub foreign_words : List ForeignWord
foreign_words =
    For ∷ Next ∷ Step ∷ Poke ∷ Peek ∷ Dim ∷ Get ∷ On ∷ Read ∷ Data ∷ Def ∷ Else ∷ And ∷ Or ∷ Not ∷ Stop ∷ Cls ∷ Abs ∷ Tab ∷ Chr
    ∷ Mod ∷ Int ∷ Sgn ∷ While ∷ Sys ∷ New ∷ []

-- whether a name follows a word, which may come right after its letters
abbrev pub takes_name : ForeignWord → Bool
takes_name For = true
takes_name Next = true
takes_name Dim = true
takes_name Get = true
takes_name Read = true
takes_name _ = false

-- whether letters, with the `$` after them, are a word, or without it a word and the letter of a name
abbrev pub is_written : ForeignWord → (letters whole : List ℕ) → Bool
is_written f letters whole =
    (takes_name f && ((length letters == length (name_of f) + 1) && starts_with nat_eq letters (name_of f)))
    || pointwise nat_eq whole (name_of f)

-- the word that is written
abbrev pub foreign_word : (letters whole : List ℕ) → Option ForeignWord
foreign_word letters whole = find (λ f. is_written f letters whole) foreign_words
