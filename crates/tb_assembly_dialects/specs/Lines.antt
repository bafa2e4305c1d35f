-- A text of the assembler, line by line, as another one spells it.
use Rattle.std.specs.Prelude.{ℕ, ◌&&◌, ◌||◌, Result, Ok, Err, List, [], ◌∷◌, ◌++◌, codes, flat_map, eqb, if◌then◌else◌}
use Rattle.tb_asm.specs.Layout.{Entry}
use Rattle.tb_asm.specs.Text.{items_of_text}
use Rattle.tb_assembly_dialects.specs.declared.dialect.Dialect.{Dialect}
use Rattle.tb_assembly_dialects.specs.declared.dialect.Dialect.TheVariants.{Tass64, Ca65, Acme, Xa}
use Rattle.tb_assembly_dialects.specs.Items.{item}

-- the items of a text that was read
abbrev pub items_or_none : Result (List Entry) ℕ → List Entry
items_or_none (Ok es) = es
items_or_none (Err line) = []

-- the lines of a text without their ends, by what was read of the first one; each ends by 10
abbrev pub lines_from : List ℕ → List ℕ → List (List ℕ)
lines_from line [] = []
lines_from line (b ∷ bs) = if eqb b 10 then line ∷ lines_from [] bs else lines_from (line ++ b ∷ []) bs

-- the comment of a line: from the first semicolon on
abbrev pub comment_in : List ℕ → List ℕ
comment_in [] = []
comment_in (b ∷ bs) = if eqb b 59 then b ∷ bs else comment_in bs

-- a byte of a comment after another one, for xa: in comments too it reads a backslash at the end of a line, a colon between
-- statements, and `/*`
abbrev pub guarded : ℕ → ℕ → List ℕ
guarded previous b = if eqb b 92 || eqb b 58 then codes "?" else if eqb previous 47 && eqb b 42 then codes " *" else b ∷ []

-- the bytes of a comment after a byte
abbrev pub guarded_all : ℕ → List ℕ → List ℕ
guarded_all previous [] = []
guarded_all previous (b ∷ bs) = guarded previous b ++ guarded_all b bs

-- a comment as the assembler takes it
abbrev pub comment : Dialect → List ℕ → List ℕ
comment Tass64 bs = bs
comment Ca65 bs = bs
comment Acme bs = bs
comment Xa bs = guarded_all 0 bs

-- items one after another
abbrev pub items_spelled : Dialect → List Entry → List ℕ
items_spelled d es = flat_map (item d) es

-- a line: its items, its comment and its end
abbrev pub line_spelled : Dialect → List ℕ → List ℕ
line_spelled d line = items_spelled d (items_or_none (items_of_text line)) ++ comment d (comment_in line) ++ 10 ∷ []

-- lines one after another
abbrev pub lines_spelled : Dialect → List (List ℕ) → List ℕ
lines_spelled d lines = flat_map (line_spelled d) lines
