-- How a line is read, with or without signs.
use Rattle.std.specs.Prelude.{ℕ, List, map, slice_index, Option}
use Rattle.tb_basic_text.specs.declared.notation.Notation.{Notation}
use Rattle.tb_basic_text.specs.declared.notation.Notation.TheVariants.{Plain, Signs}
use Rattle.tb_parser.specs.declared.squeeze.Mode.TheVariants.{Code}
use Rattle.tb_parser.specs.declared.squeeze.Placed.{Placed}
use Rattle.tb_parser.specs.Scans.{first_bad}
use Rattle.tb_parser.specs.Signed as signed
use Rattle.tb_parser.specs.Squeezed.{squeezed}

-- the column of the first bad byte
abbrev pub first_bad_in : Notation → List ℕ → Option ℕ
first_bad_in Plain line = first_bad Code 1 line
first_bad_in Signs line = signed.first_bad 0 Code 1 line

-- the bytes that a line stands for, without its spaces and in upper case, outside texts and remarks
abbrev pub squeezed_in : Notation → List ℕ → List Placed
squeezed_in Plain line = squeezed line
squeezed_in Signs line = signed.squeezed_from 0 Code 1 line

-- the column of a byte that a line stands for, counted from 0
abbrev pub column_of : ℕ → List Placed → ℕ
column_of i placed = slice_index (map (λ p. p.column) placed) i
