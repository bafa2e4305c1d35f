-- One variable's turn of INPUT.
use Rattle.std.specs.Prelude.{ℕ, ◌+◌, ◌-◌, ◌*◌, Bool, true, false, ◌&&◌, ◌||◌, List, [], ◌∷◌, if◌then◌else◌, nat_le, nat_eq, slice_set}
use Rattle.tb_words.specs.Words.{with_sign}
use Rattle.tb_basic_meaning.specs.Steps.{Waits, Step, Goes, Stops, after_sending}
use Rattle.tb_basic_meaning.specs.Control.{State, fault, send, column_after}

-- what has been read of a number: nothing, a sign, or digits too
pub data Reading : Type 0 where
  Nothing : Reading
  Sign : (negative : Bool) → Reading
  Digits : (negative : Bool) (n : ℕ) → Reading

-- how a turn ends: a number with what is left, a bad byte, or the end of the text
pub data Turn : Type 0 where
  Got : (n : ℕ) (stays_open : Bool) (rest : List ℕ) → Turn
  Bad : Turn
  Dry : Turn

-- a reading with one more digit
abbrev pub with_digit : Reading → ℕ → Reading
with_digit Nothing d = Digits false d
with_digit (Sign negative) d = Digits negative d
with_digit (Digits negative n) d = Digits negative (n * 10 + d)

-- the turn at the end of a number, which is a comma or a carriage return
abbrev pub number_end : Reading → Bool → List ℕ → Turn
number_end Nothing stays rest = Bad
number_end (Sign negative) stays rest = Bad
number_end (Digits negative n) stays rest = Got (with_sign negative n) stays rest

-- the turn after a sign, which is good only in front of the digits
abbrev pub signed_turn : Reading → Turn → Turn
signed_turn Nothing t = t
signed_turn (Sign negative) t = Bad
signed_turn (Digits negative n) t = Bad

-- a turn byte by byte: spaces are skipped, any other byte than these is bad
abbrev pub turn : Reading → List ℕ → Turn
turn r [] = Dry
turn r (b ∷ text) =
    if nat_eq b 32 then turn r text
    else (if nat_le 48 b && nat_le b 57 then turn (with_digit r (b - 48)) text
    else (if nat_eq b 43 || nat_eq b 45 then signed_turn r (turn (Sign (nat_eq b 45)) text)
    else (if nat_eq b 44 then number_end r true text
    else (if nat_eq b 13 then number_end r false text else Bad))))

-- the turn's effect on the variable, from line n
abbrev pub take_turn : ℕ → ℕ → Turn → State → Step State
take_turn n x (Got v true rest) s =
    Goes (record s { vars = slice_set s.vars x v; open_line = true; text = rest }) []
take_turn n x (Got v false rest) s =
    send (13 ∷ []) (record s { vars = slice_set s.vars x v; open_line = false; text = rest })
take_turn n x Bad s = fault 6 n
take_turn n x Dry s = Stops Waits []

-- INPUT of one variable, with `? ` if no line is open
abbrev pub input : ℕ → ℕ → State → Step State
input n x s =
    if s.open_line then take_turn n x (turn Nothing s.text) s
    else after_sending (63 ∷ 32 ∷ []) (take_turn n x (turn Nothing s.text) (record s { column = column_after s.column (63 ∷ 32 ∷ []) }))
