-- A letter in place of another one, in trees and in lines.
use Rattle.std.specs.Prelude.{ℕ, ◌≡◌, ◌-◌, Bool, ◌&&◌, ◌||◌, ◌==◌, nat_le, nat_lt, List, [], ◌∷◌, length, map, slice_set, Option, Some, None, if◌then◌else◌}
use Rattle.std.specs.Char.{to_ascii_uppercase}
use Rattle.tb_basic_syntax.specs.Source.{Expression, Number, Variable, Negate, Binary, Random, Item, Text, Value, Zone, Statement, Let, Print, Input, If, Goto, Gosub, Return, End, Remark, Numbered, Program}
use Rattle.tb_parser.specs.Readings.{Edit, Nothing, Sets, Deletes}
use Rattle.tb_basic_names.specs.Sources.{program_of}
use Rattle.tb_basic_names.specs.Variables.{variables_of}
use Rattle.tb_basic_names.specs.declared.lines.Line.{Line as SourceLine}
use Rattle.tb_basic_names.specs.declared.variables.Variable.{Variable as Place}
use Rattle.tb_lsp_edits.specs.declared.letters.Letters.{Letters}

-- ── letters ──
-- what becomes of a letter, by its place in the alphabet
abbrev pub renamed_letter : Letters → ℕ → ℕ
renamed_letter letters x = if x == (letters.old - 65) then letters.new - 65 else x

-- a letter of either case
abbrev pub is_letter : ℕ → Bool
is_letter b = (nat_le 65 b && nat_le b 90) || (nat_le 97 b && nat_le b 122)

-- the capital of the letter that a text is
abbrev pub letter_of : List ℕ → Option ℕ
letter_of (b ∷ []) = if is_letter b then Some (to_ascii_uppercase b) else None
letter_of _ = None

-- ── trees ──
-- an expression with its letters put through a map
abbrev pub renamed_expression : (ℕ → ℕ) → Expression → Expression
renamed_expression f (Number n) = Number n
renamed_expression f (Variable x) = Variable (f x)
renamed_expression f (Negate e) = Negate (renamed_expression f e)
renamed_expression f (Binary op l r) = Binary op (renamed_expression f l) (renamed_expression f r)
renamed_expression f (Random e) = Random (renamed_expression f e)

-- an item of PRINT
abbrev pub renamed_item : (ℕ → ℕ) → Item → Item
renamed_item f (Text t) = Text t
renamed_item f (Value e) = Value (renamed_expression f e)
renamed_item f Zone = Zone

-- a statement
abbrev pub renamed : (ℕ → ℕ) → Statement → Statement
renamed f (Let x e) = Let (f x) (renamed_expression f e)
renamed f (Print items ends) = Print (map (renamed_item f) items) ends
renamed f (Input xs) = Input (map f xs)
renamed f (If l rel r c) = If (renamed_expression f l) rel (renamed_expression f r) (renamed f c)
renamed f (Goto e) = Goto (renamed_expression f e)
renamed f (Gosub e) = Gosub (renamed_expression f e)
renamed f Return = Return
renamed f End = End
renamed f Remark = Remark

-- what a line does
abbrev pub renamed_edit : (ℕ → ℕ) → Edit → Edit
renamed_edit f Nothing = Nothing
renamed_edit f (Sets n c) = Sets n (renamed f c)
renamed_edit f (Deletes n) = Deletes n

-- a line of a program
abbrev pub renamed_line : (ℕ → ℕ) → Numbered Statement → Numbered Statement
renamed_line f line = record { number = line.number; content = renamed f line.content }

-- a program
abbrev pub renamed_program : (ℕ → ℕ) → Program → Program
renamed_program f program = map (renamed_line f) program

-- lines that do what others do, renamed, make the program of those, renamed
abbrev pub RenamedLinesMakeTheRenamedProgram : Type 0
RenamedLinesMakeTheRenamedProgram = (f : ℕ → ℕ) (edits : List Edit) → program_of (map (renamed_edit f) edits) ≡ renamed_program f (program_of edits)

-- ── texts ──
-- a text with the new letter at a place, if the variable there is the one that is renamed
abbrev pub lettered : Letters → List ℕ → Place → List ℕ
lettered letters text v = if (v.name == letters.old) && nat_lt v.place (length text) then slice_set text v.place letters.new else text

-- a text with the new letter at these places, where the variable there is the one that is renamed
abbrev pub lettered_at : Letters → List ℕ → List Place → List ℕ
lettered_at letters text [] = text
lettered_at letters text (v ∷ vs) = lettered_at letters (lettered letters text v) vs

-- what becomes of the text of a line: nothing where the letter stays
abbrev pub text_after : Letters → SourceLine → List ℕ
text_after letters l = if letters.old == letters.new then l.text.now else lettered_at letters l.text.now (variables_of l.tokens.items)
