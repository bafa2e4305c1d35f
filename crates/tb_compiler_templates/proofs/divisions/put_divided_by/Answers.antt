-- The goals of `put_divided_by` in src/divisions.rt.
use Rattle.std.proofs.Common.{◌++◌, [], ◌∷◌, map, ap, ◌∙◌}
use Rattle.tb_asm.specs.Layout.{entry_of}
use Rattle.tb_compiler_templates.specs.GroupTemplates.{left_over}
use Rattle.tb_compiler_templates.specs.Masks.{mask}
use Rattle.tb_compiler_templates.specs.Templates.{branch}
use Rattle.tb_compiler_templates.proofs.Appends.{two}
use Rattle.tb_compiler_templates.proofs.divisions.put_divided_by.Goals as goal

pub returns : goal.returns
returns c =
    two _ _ _ _ _ c.in_ok-put_left_over.ensures c.in_ok-put_branch.ensures
    ∙ ap (λ m. map entry_of c.args.items.now.items ++ (left_over c.args.line (mask c.args.words.right) c.args.words.left c.args.words.right ++ (branch m c.args.next ∷ []))) c.unless.ensures
