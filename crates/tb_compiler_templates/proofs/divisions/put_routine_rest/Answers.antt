-- The goals of `put_routine_rest` in src/divisions.rt.
use Rattle.std.proofs.Common.{◌++◌, map, ap, ◌∙◌}
use Rattle.tb_asm.specs.Layout.{entry_of}
use Rattle.tb_compiler_templates.specs.GroupTemplates.{asked_rest, signed_rest}
use Rattle.tb_compiler_templates.proofs.Appends.{two}
use Rattle.tb_compiler_templates.proofs.divisions.put_routine_rest.Goals as goal

pub returns : goal.returns
returns c =
    two _ _ _ _ _ c.in_ok-put_asked_rest.ensures c.in_ok-put_signed_rest.ensures
    ∙ ap (λ skip. map entry_of c.args.items.now.items ++ (asked_rest c.args.spot.line c.args.words.left c.args.words.right ++ signed_rest skip c.args.words.left c.args.to)) c.skip.ensures
