-- What holds at each turn of the loops of `select_in` in src/selecting.rt.
use Rattle.std.proofs.Common.{◌≡◌, ◌++◌, map, length}
use Rattle.tb_lower.specs.PlainData.{instr_of}
use Rattle.tb_compiler_selection.specs.Groups.{expand_all}
use Rattle.tb_compiler_selection.specs.Laws.{AreLive}
use Rattle.tb_compiler_selection.specs.Liveness.{live}
use Rattle.tb_compiler_selection.specs.Select.{select}
use Rattle.tb_compiler_selection.specs.PlainData.{group_of, groups_in, in_order}
use Rattle.tb_compiler_selection.proofs.Stacked.{onto}
use Rattle.tb_compiler_selection.proofs.selecting.select_in.Given as goal

abbrev pub invariant-loop-instr : goal.invariant-loop-instr
invariant-loop-instr l =
    (l.before ≡ live (expand_all (groups_in (in_order l.placed.items))))
    × (onto (map instr_of l.rest) (groups_in (in_order l.placed.items)) ≡ select (map instr_of l.fn.code))
    × AreLive (in_order l.placed.items)

abbrev pub decreases-loop-instr : goal.decreases-loop-instr
decreases-loop-instr l = length l.rest

abbrev pub invariant-loop-first : goal.invariant-loop-first
invariant-loop-first l = map group_of l.groups.items ++ groups_in (in_order l.placed.items) ≡ select (map instr_of l.fn.code)

abbrev pub decreases-loop-first : goal.decreases-loop-first
decreases-loop-first l = length l.placed.items
