-- A list in range reads 16 slots at most.
use Rattle.std.proofs.Common.{◌≡◌, ℕ, ◌+◌, ◌≤◌, Bool, true, false, if◌then◌else◌, List, [], ◌∷◌, ◌++◌, refl, arith}
use Rattle.std.specs.Prelude.{nat_eq}
use Rattle.std.proofs.lemmas.Bool.{eqb-true}
use Rattle.tb_lower.specs.Ranges.{AreInRange, IsInRange}
use Rattle.tb_lower.specs.Slots.{Instr, Put, Load, Store, Negate, Compute, Random, SendText, SendNumber, SendZone, SendNewline, Input, Poll, Hold, LeaveUnless, Jump, Call, JumpTo, CallTo, Return, End}
use Rattle.tb_machine_reaching.specs.View.{Part}
use Rattle.tb_proof_simulation.specs.Layout.{Layout}
use Rattle.tb_compiler_selection.specs.declared.liveness.Live.{Live}
use Rattle.tb_compiler_selection.specs.Groups.{Group, expand_all}
use Rattle.tb_compiler_selection.specs.Liveness.{live, live_before, written}
use Rattle.tb_proof_correctness.proofs.CodeBytes.GroupCode.{GroupsLie}

written_few : (k : ℕ) (u : Live) → u.slots ≤ 16 → (written k u).slots ≤ 16
written_few k u h = by (nat_eq u.slots (k + 1)) refl
  where
    by : (t : Bool) → nat_eq u.slots (k + 1) ≡ t → (if t then k else u.slots) ≤ 16
    by false e = h
    by true e = omega (arith, h, eqb-true u.slots (k + 1) e)

before_few : (i : Instr) (u : Live) → IsInRange 256 i → u.slots ≤ 16 → (live_before i u).slots ≤ 16
before_few (Put k w) u r h = written_few k u h
before_few (Load k x) u r h = written_few k u h
before_few (Store x) u r h = omega (arith, h)
before_few (Negate k) u r h = omega (arith, h, r)
before_few (Compute op k) u r h = omega (arith, h, r)
before_few (Random k) u r h = omega (arith, h, r)
before_few (SendText t) u r h = h
before_few SendNumber u r h = omega (arith, h)
before_few SendZone u r h = h
before_few SendNewline u r h = h
before_few (Input x) u r h = h
before_few Poll u r h = h
before_few Hold u r h = omega (arith, h)
before_few (LeaveUnless rel) u r h = omega (arith, h)
before_few Jump u r h = omega (arith, h)
before_few Call u r h = omega (arith, h)
before_few (JumpTo target) u r h = h
before_few (CallTo target) u r h = h
before_few Return u r h = h
before_few End u r h = h

-- a list in range reads at most 16 slots
pub range_few : (is : List Instr) → AreInRange 256 is → (live is).slots ≤ 16
range_few [] r = omega arith
range_few (i ∷ is) r = before_few i (live is) r.0 (range_few is r.1)

-- the instructions of a list in range
pub range_split : (is js : List Instr) → AreInRange 256 (is ++ js) → AreInRange 256 is × AreInRange 256 js
range_split [] js h = (tt, h)
range_split (i ∷ is) js h = let r = range_split is js h.1 in ((h.0, r.0), r.1)

-- the groups of a laid line read at most 16 slots
pub groups_few : (ly : Layout) (code : Part) (n at : ℕ) (gs : List Group) → GroupsLie ly code n at gs → (live (expand_all gs)).slots ≤ 16
groups_few ly code n at [] h = omega arith
groups_few ly code n at (g ∷ gs) h = range_few (expand_all (g ∷ gs)) h.2
