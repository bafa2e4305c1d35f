-- Wrong slot code.
use Rattle.std.specs.Prelude.{[], ◌∷◌, map}
use Rattle.tb_basic_syntax.specs.Source.{Program}
use Rattle.tb_lower.specs.Slots.{SlotCode, Put, Load, Store, SendNumber, Poll}

-- an empty list for each line
abbrev pub emptied : Program → SlotCode
emptied lines = map (λ line. record { number = line.number; content = [] }) lines

-- 10 LET A=1 without its store, which line 20 PRINT A; makes up for before it sends
abbrev pub stored_late : SlotCode
stored_late =
    record { number = 10; content = Poll ∷ Put 0 1 ∷ [] } ∷
    record { number = 20; content = Poll ∷ Store 0 ∷ Load 0 0 ∷ SendNumber ∷ [] } ∷ []
