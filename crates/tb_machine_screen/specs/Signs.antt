-- What each byte is to the screen, after the machine's manual (CHR$ codes), and the screen code by which it is shown.
use Rattle.std.specs.Prelude.{ℕ, ◌+◌, ◌-◌, eqb, nat_lt, if◌then◌else◌}
use Rattle.tb_machine_screen.specs.declared.signs.Sign.{Sign}
use Rattle.tb_machine_screen.specs.declared.signs.Sign.TheVariants.{Quote, Character, CarriageReturn, Delete, Insert, Home, Clear, Down, Up, Left, Right, ReverseOn, ReverseOff, Paint, Switch, Nothing}
use Rattle.tb_machine_screen.specs.declared.colours.Colour.TheVariants.{Black, White, Red, Cyan, Purple, Green, Blue, Yellow, Orange, Brown, LightRed, DarkGrey, Grey, LightGreen, LightBlue, LightGrey}
use Rattle.tb_machine_screen.specs.declared.colours.CharacterSet.TheVariants.{Graphics, Letters}

-- what a byte below 32 is
abbrev pub low_sign : ℕ → Sign
low_sign b =
    if eqb b 5 then Paint White else
    if eqb b 13 then CarriageReturn else
    if eqb b 14 then Switch Letters else
    if eqb b 17 then Down else
    if eqb b 18 then ReverseOn else
    if eqb b 19 then Home else
    if eqb b 20 then Delete else
    if eqb b 28 then Paint Red else
    if eqb b 29 then Right else
    if eqb b 30 then Paint Green else
    if eqb b 31 then Paint Blue else Nothing

-- what a byte of 128 to 159 is
abbrev pub high_sign : ℕ → Sign
high_sign b =
    if eqb b 129 then Paint Orange else
    if eqb b 141 then CarriageReturn else
    if eqb b 142 then Switch Graphics else
    if eqb b 144 then Paint Black else
    if eqb b 145 then Up else
    if eqb b 146 then ReverseOff else
    if eqb b 147 then Clear else
    if eqb b 148 then Insert else
    if eqb b 149 then Paint Brown else
    if eqb b 150 then Paint LightRed else
    if eqb b 151 then Paint DarkGrey else
    if eqb b 152 then Paint Grey else
    if eqb b 153 then Paint LightGreen else
    if eqb b 154 then Paint LightBlue else
    if eqb b 155 then Paint LightGrey else
    if eqb b 156 then Paint Purple else
    if eqb b 157 then Left else
    if eqb b 158 then Paint Yellow else
    if eqb b 159 then Paint Cyan else Nothing

-- what a byte is: a control byte, the quotation mark, or another character
unfoldable pub sign_of : ℕ → Sign
sign_of b =
    if nat_lt b 32 then low_sign b else
    if eqb b 34 then Quote else
    if nat_lt b 128 then Character else
    if nat_lt b 160 then high_sign b else Character

-- the screen code of a byte: control bytes are reversed characters, and pi has two bytes
unfoldable pub code_of : ℕ → ℕ
code_of b =
    if nat_lt b 32 then b + 128 else
    if nat_lt b 64 then b else
    if nat_lt b 96 then b - 64 else
    if nat_lt b 128 then b - 32 else
    if nat_lt b 160 then b + 64 else
    if nat_lt b 192 then b - 64 else
    if nat_lt b 255 then b - 128 else 94
