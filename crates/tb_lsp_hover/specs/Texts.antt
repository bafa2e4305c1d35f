-- The texts that are shown.
use Rattle.std.specs.Prelude.{ℕ, ◌+◌, ◌-◌, ◌*◌, ◌%◌, min, nat_lt, List, [], ◌∷◌, ◌++◌, codes, take, Option, Some, None, if◌then◌else◌}
use Rattle.std.specs.Char.{encode_utf8}
use Rattle.std.specs.Fmt.{decimal, signed_decimal}
use Rattle.tb_engines.specs.Texts.{address_text}
use Rattle.tb_words.specs.Words.{signed}
use Rattle.tb_compiled_kept.specs.Addresses.{VARS}
use Rattle.tb_lsp_hover.specs.declared.numbers.LineNumbers.{LineNumbers}

-- at the number that begins a line, with its numbers
abbrev pub own_text : ℕ → Option LineNumbers → List ℕ
own_text n None = codes "line " ++ decimal n
own_text n (Some found) =
    codes "line " ++ (decimal n ++ (codes ": $" ++ (address_text found.at ++ (codes ", " ++ (decimal found.bytes ++ (codes " bytes, cost " ++ decimal found.cost))))))

-- at the target of a jump, where no line stands
abbrev pub missing_text : ℕ → List ℕ
missing_text target = codes "no line " ++ signed_decimal (signed target)

-- at a number
abbrev pub number_text : ℕ → List ℕ
number_text n =
    if nat_lt 65535 n then decimal n
    else if nat_lt 32767 n then codes "$" ++ (address_text n ++ (codes ", " ++ signed_decimal (signed n)))
    else codes "$" ++ address_text n

-- numbers of lines behind others
abbrev pub more_text : List ℕ → List ℕ
more_text [] = []
more_text (n ∷ ns) = codes ", " ++ (decimal n ++ more_text ns)

-- numbers of lines, the first ten
abbrev pub numbers_text : List ℕ → List ℕ → List ℕ
numbers_text heading [] = []
numbers_text heading (n ∷ ns) = heading ++ (decimal n ++ more_text (take 9 ns))

-- the address of the variable of a capital letter
abbrev pub address_of : ℕ → ℕ
address_of name = VARS + 2 * (name - 65)

-- at a variable: its address, and the lines that set and read it
abbrev pub variable_text : ℕ → List ℕ → List ℕ → List ℕ
variable_text name set read =
    ((encode_utf8 name ++ (codes ": $" ++ address_text (address_of name))) ++ numbers_text (10 ∷ codes "set in ") set) ++ numbers_text (10 ∷ codes "read in ") read
