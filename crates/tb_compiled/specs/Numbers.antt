-- The numbers that are promised, and that the code has the same ones.
use Rattle.std.specs.Prelude.{ℕ, ◌≡◌}
use Rattle.tb_compiled.specs.declared.settings.TheConstants as code

-- the most that a program may cost, in bytes
abbrev pub MOST_COST : ℕ
MOST_COST = 37888

-- the first state of RND if nothing else is asked for
abbrev pub USUAL_SEED : ℕ
USUAL_SEED = 1

-- the constants of the code are these numbers
abbrev pub ConstantsAreNumbers : Type 0
ConstantsAreNumbers = (code.MOST_COST ≡ MOST_COST) × (code.USUAL_SEED ≡ USUAL_SEED)
