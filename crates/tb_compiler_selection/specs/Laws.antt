-- What is promised of groups, in addition to being the list.
use Rattle.std.specs.Prelude.{◌≡◌, ℕ, ◌≤◌, true, List, [], ◌∷◌, Option, Some, None, take}
use Rattle.tb_basic_syntax.specs.Source.{Program}
use Rattle.tb_basic_meaning.specs.Steps.{Run, advance_by}
use Rattle.tb_basic_meaning.specs.Control.{content_at}
use Rattle.tb_lower.specs.Slots.{Instr, SlotCode, SlotState, slot_step, beginnings}
use Rattle.tb_lower.specs.Lowered.{program_code}
use Rattle.tb_compiler_selection.specs.Groups.{Group, expand_all}
use Rattle.tb_compiler_selection.specs.GroupSteps.{group_step, groups_begin, IsInside}
use Rattle.tb_compiler_selection.specs.declared.liveness.Live.{Live}
use Rattle.tb_compiler_selection.specs.declared.selecting.Placed.{Placed}
use Rattle.tb_compiler_selection.specs.Liveness.{live, nothing_live}
use Rattle.tb_compiler_selection.specs.PlainData.{group_of, groups_in, in_order, placed_of}
use Rattle.tb_compiler_selection.specs.Select.{fused, may_stand, omits_only_dead, select}

-- what each of these groups omits is dead after it, the groups after it are the groups of their list, and it may be
-- before them
abbrev pub AreChosen : List Group → Type 0
AreChosen [] = Unit {0}
AreChosen (g ∷ gs) = (omits_only_dead g (live (expand_all gs)) ≡ true) × (select (expand_all gs) ≡ gs) × (may_stand g gs ≡ true) × AreChosen gs

-- each of these groups has with it what is live after it
abbrev pub AreLive : List (Group × Live) → Type 0
AreLive [] = Unit {0}
AreLive (p ∷ ps) = (p.1 ≡ live (expand_all (groups_in ps))) × AreLive ps

-- one group took the place of others, and liveness is still right
pub record Shortens (first : Group) (groups rest : List Placed) (whole : Placed) : Type 0 where
  pub fuses : fused first (groups_in (in_order groups)) ≡ group_of whole.group ∷ groups_in (in_order rest)
  pub live : AreLive (placed_of whole ∷ in_order rest)

-- a group and the last of these are one, with the number of those before them; or they are not one
abbrev pub IsJoined : Group → List Placed → Option (Placed × ℕ) → Type 0
IsJoined first groups (Some found) = Shortens first groups (take found.1 groups) found.0
IsJoined first groups None = fused first (groups_in (in_order groups)) ≡ first ∷ groups_in (in_order groups)

-- the groups of every list are chosen
abbrev pub ChoiceLaw : Type 0
ChoiceLaw = (is : List Instr) → AreChosen (select is)

-- nothing is live before any list of slot code
abbrev pub AreClosed : SlotCode → Type 0
AreClosed code = (n : ℕ) (is : List Instr) → content_at code n ≡ Some is → live is ≡ nothing_live

-- nothing is live before a list of any program's slot code
abbrev pub ClosedLaw : Type 0
ClosedLaw = (program : Program) → AreClosed (program_code program)

-- after j groups a run is where it is after some k instructions, k at least j, having passed as many beginnings of lists
pub record Reached (code : SlotCode) (j : ℕ) (r : Run SlotState) : Type 0 where
  pub count : ℕ
  pub enough : j ≤ count
  pub same : advance_by (group_step code) j r ≡ advance_by (slot_step code) count r
  pub begun : groups_begin code j r ≡ beginnings code count r

-- where a run is after k instructions, it is after some j groups, j at most k, having passed as many beginnings of lists
pub record Found (code : SlotCode) (k : ℕ) (r : Run SlotState) : Type 0 where
  pub count : ℕ
  pub few : count ≤ k
  pub same : advance_by (group_step code) count r ≡ advance_by (slot_step code) k r
  pub begun : groups_begin code count r ≡ beginnings code k r

-- each run by groups is a run by instructions, which it follows whenever that one is not inside a line
abbrev pub RunLaw : Type 0
RunLaw = (code : SlotCode) (r : Run SlotState) → ((j : ℕ) → Reached code j r) × ((k : ℕ) → (IsInside (advance_by (slot_step code) k r) → ⊥) → Found code k r)
