-- What a turn of INPUT leaves of the keyboard's text.
use Rattle.std.proofs.Common.{◌-◌, ℕ, suc, ◌≤◌, Bool, true, false, ◌&&◌, ◌||◌, if◌then◌else◌, List, [], ◌∷◌, length, arith}
use Rattle.std.specs.Prelude.{nat_eq, nat_le}
use Rattle.tb_basic_meaning.specs.Input.{Bad, Digits, Dry, Got, Nothing, Reading, Sign, Turn, number_end, signed_turn, turn, with_digit}
use Rattle.tb_opcodes.specs.Bytes.{AreBytes}

-- a turn leaves bytes, at most this many
abbrev pub Leaves : ℕ → Turn → Type 0
Leaves k (Got v stays left) = (length left ≤ k) × AreBytes left
Leaves k Bad = Unit {0}
Leaves k Dry = Unit {0}

pub record Short (k : ℕ) (t : Turn) : Type 0 where
  pub few : Leaves k t

short_more : (k : ℕ) (t : Turn) → Short k t → Short (suc k) t
short_more k (Got v stays left) h = record { few = (omega (arith, h.few.0), h.few.1) }
short_more k Bad h = record { few = tt }
short_more k Dry h = record { few = tt }

short_if : (k : ℕ) (b : Bool) (t u : Turn) → Short k t → Short k u → Short k (if b then t else u)
short_if k true t u h i = h
short_if k false t u h i = i

short_end : (r : Reading) (stays : Bool) (left : List ℕ) → AreBytes left → Short (suc (length left)) (number_end r stays left)
short_end Nothing stays left h = record { few = tt }
short_end (Sign negative) stays left h = record { few = tt }
short_end (Digits negative n) stays left h = record { few = (omega arith, h) }

short_signed : (k : ℕ) (r : Reading) (t : Turn) → Short k t → Short k (signed_turn r t)
short_signed k Nothing t h = h
short_signed k (Sign negative) t h = record { few = tt }
short_signed k (Digits negative n) t h = record { few = tt }

-- a turn leaves no more bytes than there were
pub turn_short : (text : List ℕ) (r : Reading) → AreBytes text → Short (length text) (turn r text)
turn_short [] r h = record { few = tt }
turn_short (b ∷ text) r h =
    let k = suc (length text) in
    let more : (r : Reading) → Short k (turn r text) = λ r. short_more (length text) (turn r text) (turn_short text r h.1) in
    short_if k (nat_eq b 32) _ _ (more r)
    (short_if k (nat_le 48 b && nat_le b 57) _ _ (more (with_digit r (b - 48)))
    (short_if k (nat_eq b 43 || nat_eq b 45) _ _ (short_signed k r _ (more (Sign (nat_eq b 45))))
    (short_if k (nat_eq b 44) _ _ (short_end r true text h.1)
    (short_if k (nat_eq b 13) _ Bad (short_end r false text h.1) (record { few = tt })))))
