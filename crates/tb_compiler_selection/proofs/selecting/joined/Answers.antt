-- The goals of `joined` in src/selecting.rt.
use Rattle.std.proofs.Common.{refl}
use Rattle.tb_compiler_selection.specs.PlainData.{group_of}
use Rattle.tb_compiler_selection.proofs.Stacked.{three_joined}
use Rattle.tb_compiler_selection.proofs.selecting.joined.Goals as goal

pub returns-in-Some-allowed : goal.returns-in-Some-allowed
returns-in-Some-allowed c =
    three_joined (group_of c.args.first) c.args.groups.now _ _ c.in-Some.ensures.cases.0 _ _ c.in-Some-split_last.ensures.cases.0 _ _ c.requires
    c.three_as_one-whole.ensures c.in-Some-allowed.ensures refl
