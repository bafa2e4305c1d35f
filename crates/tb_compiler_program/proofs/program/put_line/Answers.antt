-- The goals of `put_line` in src/program.rt.
use Rattle.std.proofs.Common.{◌≡◌, ◌-◌, ◌<◌, ◌≤◌, ℕ, zero, suc, List, [], ◌∷◌, map, length, take, drop, ap, sym, subst, ◌∙◌, arith}
use Rattle.std.proofs.lemmas.List.{length-map}
use Rattle.tb_lower.specs.declared.slot_code.SlotInstr.{SlotInstr}
use Rattle.tb_lower.specs.PlainData.{instr_of}
use Rattle.tb_lower.specs.Ranges.{AreInRange}
use Rattle.tb_compiler_selection.specs.Groups.{expand_all}
use Rattle.tb_compiler_selection.specs.PlainData.{group_of}
use Rattle.tb_compiler_program.proofs.Ranged.{selected_in_range}
use Rattle.tb_compiler_program.proofs.program.put_line.Goals as goal

range_take : (k : ℕ) (is : List SlotInstr) → AreInRange 256 (map instr_of is) → AreInRange 256 (map instr_of (take k is))
range_take zero is h = tt
range_take (suc k) [] h = tt
range_take (suc k) (i ∷ is) h = (h.0, range_take k is h.1)

short_take : (k : ℕ) (is : List SlotInstr) → length (map instr_of (take k is)) ≤ length is
short_take zero is = omega arith
short_take (suc k) [] = omega arith
short_take (suc k) (i ∷ is) = let l = short_take k is in omega (arith, l)

-- what follows the first instruction of a list is in range, and no longer
range_behind : (k : ℕ) (is : List SlotInstr) → AreInRange 256 (map instr_of is) → AreInRange 256 (map instr_of (take k (drop 1 is)))
range_behind k [] h = range_take k [] h
range_behind k (i ∷ is) h = range_take k is h.1

short_behind : (k : ℕ) (is : List SlotInstr) → length is < 65536 → length (map instr_of (take k (drop 1 is))) < 65536
short_behind k [] h = let l = short_take k [] in omega (arith, l)
short_behind k (i ∷ is) h = let l = short_take k is in omega (arith, l, h)

-- what is so of a line's list is so of its slice
as_slice : (s l : List SlotInstr) → s ≡ l → AreInRange 256 (map instr_of l) × (length l < 65536) → AreInRange 256 (map instr_of s) × (length s < 65536)
as_slice s l e h = subst (λ l. AreInRange 256 (map instr_of l) × (length l < 65536)) (sym e) h

pub put_groups-requires-clause-groups : goal.put_groups-requires-clause-groups
put_groups-requires-clause-groups c =
    let e = c.deref-in-Poll.ensures.value in
    let list = c.as_slice.result.now in
    let (range, short) = as_slice list _ c.as_slice.ensures.value c.requires.lists in
    selected_in_range group_of c.deref-in-Poll.result.now _ (ap (map group_of) e ∙ c.in_ok-select_in-in-Poll.ensures.selected)
    (ap (λ gs. expand_all (map group_of gs)) e ∙ c.in_ok-select_in-in-Poll.ensures.bracketed)
    (range_behind (length list - 1) list range) (short_behind (length list - 1) list short)

pub put_groups-requires-in_default-clause-groups : goal.put_groups-requires-in_default-clause-groups
put_groups-requires-in_default-clause-groups c =
    let e = c.deref-in_default.ensures.value in
    let list = c.as_slice.result.now in
    let (range, short) = as_slice list _ c.as_slice.ensures.value c.requires.lists in
    let long = length-map list instr_of in
    selected_in_range group_of c.deref-in_default.result.now _ (ap (map group_of) e ∙ c.in_ok-select_in-in_default.ensures.selected)
    (ap (λ gs. expand_all (map group_of gs)) e ∙ c.in_ok-select_in-in_default.ensures.bracketed) range (omega (arith, long, short))
