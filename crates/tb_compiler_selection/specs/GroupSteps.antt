-- What a group does: the steps of its slot instructions, while they stay in the line, and after the last one the fall
-- into the next line.
use Rattle.std.specs.Prelude.{ℕ, zero, suc, ◌+◌, List, [], ◌∷◌, Option, Some, None}
use Rattle.tb_basic_meaning.specs.Steps.{Step, Goes, and_then, Run, GoesOn, Over, advance}
use Rattle.tb_basic_meaning.specs.Control.{Place, At, Past, content_at}
use Rattle.tb_lower.specs.Slots.{Instr, SlotCode, Rest, Whole, Left, SlotState, slot_step, begins_in}
use Rattle.tb_compiler_selection.specs.Groups.{Group, expand}
use Rattle.tb_compiler_selection.specs.Select.{select}

-- on with what is next if the line was not left
abbrev pub inside : (SlotState → Step SlotState) → Rest → SlotState → Step SlotState
inside f Whole c = Goes c []
inside f (Left n is) c = f c

-- as many steps as there are instructions, while they stay in the line
abbrev pub steps : SlotCode → List Instr → SlotState → Step SlotState
steps code [] c = Goes c []
steps code (i ∷ is) c = and_then (slot_step code c) (λ c'. inside (steps code is) c'.rest c')

-- the list, or an empty one
abbrev pub or_empty : Option (List Instr) → List Instr
or_empty (Some is) = is
or_empty None = []

-- the instructions still to be done of the line that a run is at
abbrev pub ahead : SlotCode → Rest → Place → List Instr
ahead code (Left n is) place = is
ahead code Whole (At n) = or_empty (content_at code n)
ahead code Whole Past = []

-- the first of these groups, or one step if there is none: on to the next line, or past the last one
abbrev pub first : SlotCode → List Group → SlotState → Step SlotState
first code [] c = slot_step code c
first code (g ∷ gs) c = steps code (expand g) c

-- the first group of what is ahead
abbrev pub first_group : SlotCode → SlotState → Step SlotState
first_group code c = first code (select (ahead code c.rest c.state.place)) c

-- if nothing is left of a line, on to the next one, or past the last one
abbrev pub fallen : SlotCode → Rest → SlotState → Step SlotState
fallen code (Left n []) c = slot_step code c
fallen code (Left n (i ∷ is)) c = Goes c []
fallen code Whole c = Goes c []

-- one group: the first one ahead, and then the fall into the next line
abbrev pub group_step : SlotCode → SlotState → Step SlotState
group_step code c = and_then (first_group code c) (λ c'. fallen code c'.rest c')

-- how many beginnings of lists the next j groups of a run pass
abbrev pub groups_begin : SlotCode → ℕ → Run SlotState → ℕ
groups_begin code zero r = 0
groups_begin code (suc j) r = begins_in r + groups_begin code j (advance (group_step code) r)

-- some of a line is done and some is left
abbrev pub InsideRest : Rest → Type 0
InsideRest Whole = ⊥
InsideRest (Left n is) = Unit {0}

-- a run that is inside a line
abbrev pub IsInside : Run SlotState → Type 0
IsInside (GoesOn c out) = InsideRest c.rest
IsInside (Over e out) = ⊥
