-- The goals of `put_lost` in src/groups.rt.
use Rattle.std.proofs.Common.{◌++◌, map, ap, ◌∙◌}
use Rattle.tb_asm.specs.Layout.{entry_of}
use Rattle.tb_compiler_templates.specs.GroupTemplates.{tested}
use Rattle.tb_compiler_templates.specs.Templates.{faulted}
use Rattle.tb_compiler_templates.proofs.Appends.{two}
use Rattle.tb_compiler_templates.proofs.groups.put_lost.Goals as goal

pub returns : goal.returns
returns c =
    two _ _ _ _ _ c.in_ok-put_tested.ensures c.in_ok-put_faulted.ensures
    ∙ ap (λ skip. map entry_of c.args.items.now.items ++ (tested c.args.rel c.args.words.left c.args.words.right skip c.args.spot.next ++ faulted c.args.spot.line 1)) c.skip.ensures
