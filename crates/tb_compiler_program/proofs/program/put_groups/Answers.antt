-- The goals of `put_groups` in src/program.rt.
use Rattle.std.proofs.Common.{map, refl}
use Rattle.tb_compiler_selection.specs.Groups.{expand_all}
use Rattle.tb_compiler_selection.specs.PlainData.{group_of}
use Rattle.tb_compiler_program.proofs.Ranged.{groups_in_range}
use Rattle.tb_compiler_program.proofs.program.put_groups.Goals as goal

pub loop-group-init : goal.loop-group-init
loop-group-init c =
    let groups = map group_of c.args.groups.now in
    (groups_in_range groups (expand_all groups) refl c.requires.groups.0, c.requires.groups.1, refl, refl)
