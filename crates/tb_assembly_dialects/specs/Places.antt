-- Which lines of a listing have labels: those that others jump to.
use Rattle.std.specs.Prelude.{ℕ, Bool, true, false, ◌&&◌, Option, Some, None, List, [], ◌∷◌, length, replicate, set, get_or, nat_lt, if◌then◌else◌}
use Rattle.tb_opcodes.specs.declared.Mode.TheVariants.{Relative, Absolute}
use Rattle.tb_asm.specs.declared.items.Operand.TheVariants.{Word}
use Rattle.tb_asm.specs.Layout.{Entry, instr}
use Rattle.tb_assembly_dialects.specs.Kernal.{is_jump}
use Rattle.tb_assembly_dialects.specs.declared.places.Places.{Places}

-- the address that an instruction jumps or branches to, if it does
abbrev pub target_of : Entry → Option ℕ
target_of (instr n Relative (Word w)) = Some w
target_of (instr n Absolute (Word w)) = if is_jump n then Some w else None
target_of e = None

-- a table of addresses with one more, if there is one and the table has it
abbrev pub marked : Option ℕ → List Bool → List Bool
marked None table = table
marked (Some a) table = if nat_lt a (length table) then set table a true else table

-- the addresses where lines begin, after those of a table
abbrev pub with_starts : List Bool → List (ℕ × Entry) → List Bool
with_starts table [] = table
with_starts table (l ∷ lines) = with_starts (marked (Some l.0) table) lines

-- the addresses that lines jump to, after those of a table
abbrev pub with_targets : List Bool → List (ℕ × Entry) → List Bool
with_targets table [] = table
with_targets table (l ∷ lines) = with_targets (marked (target_of l.1) table) lines

-- of the addresses below `end`, those where lines begin, and those that lines jump to
abbrev pub starts_of : ℕ → List (ℕ × Entry) → List Bool
starts_of end lines = with_starts (replicate end false) lines

abbrev pub targets_of : ℕ → List (ℕ × Entry) → List Bool
targets_of end lines = with_targets (replicate end false) lines

-- whether a table has an address
abbrev pub is_marked : List Bool → ℕ → Bool
is_marked table a = nat_lt a (length table) && get_or table a false

-- where lines begin, and where they jump to
pub record View : Type 0 where
  pub starts : List Bool
  pub targets : List Bool

-- the places of the code as a view
abbrev pub view_of : Places → View
view_of p = record { starts = p.starts.items; targets = p.targets.items }

-- where lines begin and where they jump to, among the addresses below `end`
abbrev pub view_below : ℕ → List (ℕ × Entry) → View
view_below end lines = record { starts = starts_of end lines; targets = targets_of end lines }

-- whether the line at an address has a label: a line begins there, and one jumps there
abbrev pub has_label : View → ℕ → Bool
has_label v a = is_marked v.starts a && is_marked v.targets a
