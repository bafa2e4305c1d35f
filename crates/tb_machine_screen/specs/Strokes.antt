-- How strokes are spelled: the control sequences of ECMA-48, and characters in UTF-8.
use Rattle.std.specs.Prelude.{ℕ, ◌+◌, List, [], ◌∷◌, ◌++◌, codes, if◌then◌else◌}
use Rattle.std.specs.Char.{encode_utf8}
use Rattle.std.specs.Fmt.{decimal}
use Rattle.tb_machine_screen.specs.Numbers.{BACKGROUND}
use Rattle.tb_machine_screen.specs.declared.strokes.Stroke.{Stroke}
use Rattle.tb_machine_screen.specs.declared.strokes.Stroke.TheVariants.{Plain, Clear, MoveTo, Paint, Put}

-- the byte that control sequences begin with
abbrev pub escape : ℕ
escape = 27

-- the text of a stroke; rows and columns are spelled from 1 on
unfoldable pub spelled : Stroke → List ℕ
spelled Plain = escape ∷ codes "[0m"
spelled Clear = escape ∷ codes "[2J"
spelled (MoveTo row column) =
    escape ∷ codes "[" ++ (decimal (row + 1) ++ (codes ";" ++ (decimal (column + 1) ++ codes "H")))
spelled (Paint pen) =
    escape ∷ codes "[0;38;5;" ++ (decimal pen.fore ++ (codes ";48;5;" ++ (decimal BACKGROUND ++
    (if pen.reverse then codes ";7m" else codes "m"))))
spelled (Put character) = encode_utf8 character

-- the text of strokes, the first one first
unfoldable pub spelled_all : List Stroke → List ℕ
spelled_all [] = []
spelled_all (stroke ∷ strokes) = spelled stroke ++ spelled_all strokes
