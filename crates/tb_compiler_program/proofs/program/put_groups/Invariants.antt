-- What holds at each turn of the loop of `put_groups` in src/program.rt.
use Rattle.std.proofs.Common.{◌≡◌, ◌+◌, ◌<◌, ◌++◌, map, drop, length}
use Rattle.tb_asm.specs.Layout.{entry_of}
use Rattle.tb_compiler_selection.specs.PlainData.{group_of}
use Rattle.tb_compiler_program.specs.Program.{rest_code}
use Rattle.tb_compiler_program.proofs.Ranged.{AreGroupsInRange}
use Rattle.tb_compiler_program.proofs.program.put_groups.Given as goal

abbrev pub invariant-loop-group : goal.invariant-loop-group
invariant-loop-group l =
    AreGroupsInRange (map group_of (drop l.group-index l.groups))
    × (length l.groups < 65536)
    × (l.index ≡ l.group-index)
    × (map entry_of l.items.items ++ rest_code l.numbers l.seed l.line (l.index + 1) (map group_of (drop l.group-index l.groups))
    ≡ map entry_of l.initial.items.items ++ rest_code l.numbers l.seed l.line 1 (map group_of l.groups))
