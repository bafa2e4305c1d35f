-- The labels of a program's code: numbers in hexadecimal digits, and letters.
use Rattle.std.specs.Prelude.{ℕ, List, [], ◌∷◌, codes}
use Rattle.tb_words.specs.Hexadecimal.{four_digits}
use Rattle.tb_asm.specs.declared.names.Name.{Name}
use Rattle.tb_compiler_templates.specs.declared.labels.Inner.{Inner}
use Rattle.tb_compiler_templates.specs.declared.labels.Inner.TheVariants.{Text, Behind, Skip}
use Rattle.tb_compiler_templates.specs.declared.labels.Target.{Target}
use Rattle.tb_compiler_templates.specs.declared.labels.Target.TheVariants.{Line, Inside, Polled, Past, Find, Table}

-- the name that these characters make
abbrev pub named : List ℕ → Name
named letters = record { letters = record { items = letters } }

-- the letter of an address inside a line's code
abbrev pub letter_of : Inner → ℕ
letter_of Text = 84
letter_of Behind = 85
letter_of Skip = 83

-- A line is L and its number; an address in the code of its group i has the index, from 1 on, and a letter after it.
-- Where the branch of a line's poll goes is B and the line's number. Fault 7, the search in the line table and the table
-- itself are words. In a program's code the labels rise in the order of letters, those with B among themselves and all
-- others among themselves: so the search is called SEEK here, and the table TROW.
abbrev pub label_of : Target → Name
label_of (Line n) = named (76 ∷ four_digits n [])
label_of (Inside inner n i) = named (76 ∷ four_digits n (four_digits i (letter_of inner ∷ [])))
label_of (Polled n) = named (66 ∷ four_digits n [])
label_of Past = named (codes "PAST")
label_of Find = named (codes "SEEK")
label_of Table = named (codes "TROW")
