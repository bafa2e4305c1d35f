-- Which instructions are groups of their own: those that are a single group when alone.
use Rattle.std.proofs.Common.{◌≡◌, ◌<◌, ◌≤◌, Bool, true, false, List, [], ◌∷◌, ◌++◌, length, length-append, refl, ap, subst, arith, Option, Some, None}
use Rattle.std.specs.Prelude.{◌&&◌}
use Rattle.tb_lower.specs.Slots.{Instr, Store, Negate, Compute, Random, SendNumber, Hold, LeaveUnless, Jump, Call}
use Rattle.tb_compiler_selection.specs.Groups.{Group, Single, expand, expand_all}
use Rattle.tb_compiler_selection.specs.Laws.{AreChosen}
use Rattle.tb_compiler_selection.specs.Liveness.{live}
use Rattle.tb_compiler_selection.specs.Select.{alone, provided, merged, omits_only_dead, may_stand, three_as_one, four_as_one, allowed, instead, fused, tried, attach, select}
use Rattle.tb_compiler_selection.proofs.SeveralAsOne.{IsFour, IsThree, four_is, three_is}
use Rattle.tb_compiler_selection.proofs.Bracketed.{IsThis, merged_is}
use Rattle.tb_compiler_selection.proofs.GroupRuns.{expand_some}
use Rattle.tb_compiler_selection.proofs.Chosen.{chosen}

-- a single instruction is single also when alone
abbrev pub IsAlone : Group → Type 0
IsAlone (Single i) = alone i ≡ Single i
IsAlone _ = Unit {0}

-- a group, if there is one, or the first group of a list: if it is a single instruction, it is single also when alone
abbrev IfAny : Option Group → Type 0
IfAny None = Unit {0}
IfAny (Some g) = IsAlone g

abbrev pub FirstIsAlone : List Group → Type 0
FirstIsAlone [] = Unit {0}
FirstIsAlone (g ∷ gs) = IsAlone g

alone_so : (i : Instr) → IsAlone (alone i)
alone_so (Store x) = tt
alone_so (Negate k) = tt
alone_so (Compute op k) = tt
alone_so (Random k) = tt
alone_so SendNumber = tt
alone_so Hold = tt
alone_so (LeaveUnless rel) = tt
alone_so Jump = tt
alone_so Call = tt
alone_so _ = refl

-- a group of several instructions is not a single one, and neither is one in place of several groups
several_so : (g : Group) → 1 < length (expand g) → IsAlone g
several_so (Single i) more = absurd (omega (arith, more))
several_so _ more = tt

some_in : (g : Group) → 1 ≤ length (expand g)
some_in g = let h = expand_some g in omega (arith, ap length h.2)

merged_so : (i : Instr) (g : Group) → IfAny (merged i g)
merged_so i g = by (merged i g) (merged_is i g)
  where
    by : (o : Option Group) → IsThis (i ∷ expand g) o → IfAny o
    by None e = tt
    by (Some m) e = several_so m (omega (arith, ap length e, some_in g))

both_so : (g a b : Group) (is : List Instr) → expand g ++ [] ≡ expand a ++ (expand b ++ is) → IsAlone g
both_so g a b is e = several_so g (let lengths = ap length e in omega (
  arith,
  lengths,
  length-append (expand g) [],
  length-append (expand a) (expand b ++ is),
  length-append (expand b) is,
  some_in a,
  some_in b,
))

three_so : (a b c : Group) → IfAny (three_as_one a b c)
three_so a b c = by (three_as_one a b c) (three_is a b c)
  where
    by : (o : Option Group) → IsThree a b c o → IfAny o
    by None e = tt
    by (Some g) e = both_so g a b _ (e [])

four_so : (a b c e : Group) → IfAny (four_as_one a b c e)
four_so a b c e = by (four_as_one a b c e) (four_is a b c e)
  where
    by : (o : Option Group) → IsFour a b c e o → IfAny o
    by None h = tt
    by (Some g) h = both_so g a b _ (h [])

instead_so : (o : Option Group) (gs others : List Group) → IfAny o → FirstIsAlone others → FirstIsAlone (instead (allowed o gs) gs others)
instead_so None gs others h k = k
instead_so (Some m) gs others h k = by (omits_only_dead m (live (expand_all gs)) && may_stand m gs)
  where
    by : (t : Bool) → FirstIsAlone (instead (provided t m) gs others)
    by true = h
    by false = k

fused_so : (a : Group) (gs : List Group) → IsAlone a → FirstIsAlone (fused a gs)
fused_so a [] h = h
fused_so a (b ∷ []) h = h
fused_so a (b ∷ c ∷ []) h = instead_so (three_as_one a b c) [] (a ∷ b ∷ c ∷ []) (three_so a b c) h
fused_so a (b ∷ c ∷ e ∷ gs) h =
    instead_so (three_as_one a b c) (e ∷ gs) _ (three_so a b c) (instead_so (four_as_one a b c e) gs (a ∷ b ∷ c ∷ e ∷ gs) (four_so a b c e) h)

tried_so : (o : Option Group) (i : Instr) (g : Group) (gs : List Group) → IfAny o → FirstIsAlone (tried (allowed o gs) i g gs)
tried_so None i g gs h = fused_so (alone i) (g ∷ gs) (alone_so i)
tried_so (Some m) i g gs h = by (omits_only_dead m (live (expand_all gs)) && may_stand m gs)
  where
    by : (t : Bool) → FirstIsAlone (tried (provided t m) i g gs)
    by true = fused_so m gs h
    by false = fused_so (alone i) (g ∷ gs) (alone_so i)

attach_so : (i : Instr) (gs : List Group) → FirstIsAlone (attach i gs)
attach_so i [] = alone_so i
attach_so i (g ∷ gs) = tried_so (merged i g) i g gs (merged_so i g)

-- if the first group that is selected is a single instruction, it is single also when alone
pub first_so : (is : List Instr) → FirstIsAlone (select is)
first_so [] = tt
first_so (i ∷ is) = attach_so i (select is)

-- the single instructions among all groups of a list are single also when alone
abbrev pub AreAlone : List Group → Type 0
AreAlone [] = Unit {0}
AreAlone (g ∷ gs) = IsAlone g × AreAlone gs

chosen_alone : (gs : List Group) → AreChosen gs → FirstIsAlone gs → AreAlone gs
chosen_alone [] c f = tt
chosen_alone (g ∷ gs) c f = (f, chosen_alone gs c.3 (subst FirstIsAlone c.1 (first_so (expand_all gs))))

-- each single group of a list is one alone
pub all_alone : (is : List Instr) → AreAlone (select is)
all_alone is = chosen_alone (select is) (chosen is) (first_so is)
