-- The numbers that are promised, and that the code has the same ones.
use Rattle.std.specs.Prelude.{ℕ, ◌≡◌}
use Rattle.tb_engines.specs.declared.limits.TheConstants as code

-- the most events that a run may be given
abbrev pub MOST_EVENTS : ℕ
MOST_EVENTS = 1000000000

-- how many it is given if nothing else is asked for
abbrev pub USUAL_EVENTS : ℕ
USUAL_EVENTS = 10000000

-- the constants of the code are these numbers
abbrev pub ConstantsAreNumbers : Type 0
ConstantsAreNumbers = (code.MOST_EVENTS ≡ MOST_EVENTS) × (code.USUAL_EVENTS ≡ USUAL_EVENTS)
