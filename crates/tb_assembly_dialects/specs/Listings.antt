-- The listing of a whole program for an assembler.
use Rattle.std.specs.Prelude.{◌≡◌, ℕ, ◌+◌, List, [], ◌∷◌, ◌++◌, codes, length, eqb, if◌then◌else◌}
use Rattle.tb_words.specs.Hexadecimal.{four_digits}
use Rattle.tb_asm.specs.Text.{items_of_text}
use Rattle.tb_disasm.specs.Back.{GivesBack}
use Rattle.tb_assembly_dialects.specs.declared.dialect.Dialect.{Dialect}
use Rattle.tb_assembly_dialects.specs.BasicLine.{basic_line, basic_size, behind_basic}
use Rattle.tb_assembly_dialects.specs.Dialects.{command, load_word, origin}
use Rattle.tb_assembly_dialects.specs.Items.{bytes_text}
use Rattle.tb_assembly_dialects.specs.Kernal.{services_text}
use Rattle.tb_assembly_dialects.specs.Lines.{items_or_none, lines_from, lines_spelled}
use Rattle.tb_assembly_dialects.specs.Named.{IsNamed}

-- the load address, where a file begins with it only if the listing says so
abbrev pub load_line : Dialect → ℕ → List ℕ
load_line d at = if eqb (length (load_word d)) 0 then [] else load_word d ++ four_digits at (codes " ; the load address\n")

-- the command that assembles a listing of this many bytes, and the services that the text jumps to
abbrev pub top : Dialect → ℕ → List ℕ → List ℕ
top d size text = command d size ++ services_text (items_or_none (items_of_text text))

-- where the bytes lie
abbrev pub place : Dialect → ℕ → List ℕ
place d at = load_line d at ++ origin d ++ four_digits at (10 ∷ [])

-- what stands before this many bytes
abbrev pub head : Dialect → ℕ → ℕ → List ℕ → List ℕ
head d at size text = top d size text ++ place d at

-- the bytes of a BASIC line
abbrev pub basic_bytes : Dialect → ℕ → List ℕ → List ℕ
basic_bytes d at basic = codes "  " ++ bytes_text d basic ++ codes "; " ++ four_digits at (codes " the BASIC line\n")

-- these, if there is such a line
abbrev pub basic_row : Dialect → ℕ → List ℕ → List ℕ
basic_row d at basic = if eqb (length basic) 0 then [] else basic_bytes d at basic

-- a text of the assembler for the bytes of a program after its BASIC line, as another one takes it, with that line before it
abbrev pub spelled : Dialect → ℕ → List ℕ → List ℕ → List ℕ
spelled d at bs text = head d at (length bs) text ++ basic_row d at (basic_line at bs) ++ lines_spelled d (lines_from [] text)

-- The listing of a program: what follows its BASIC line is a text that assembles to it, with labels where that is so, and the
-- listing is this text with the BASIC line before it, as the assembler takes it.
pub record Lists (d : Dialect) (at : ℕ) (bs shown : List ℕ) : Type 0 where
  pub text : List ℕ
  pub named : IsNamed (at + basic_size at bs) (behind_basic at bs) text
  pub back : GivesBack (at + basic_size at bs) text (behind_basic at bs)
  pub spells : shown ≡ spelled d at bs text
