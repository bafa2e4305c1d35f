-- The goals of `put_polled` in src/breaks.rt.
use Rattle.std.proofs.Common.{◌∷◌, ◌++◌, map, ap, ◌∙◌}
use Rattle.tb_opcodes.specs.declared.Mnemonic.TheVariants.{Cmp, Jsr}
use Rattle.tb_asm.specs.Layout.{entry_of}
use Rattle.tb_kernal.specs.Numbers.{GETIN}
use Rattle.tb_compiler_templates.specs.declared.labels.Target.TheVariants.{Polled}
use Rattle.tb_compiler_templates.specs.Templates.{at, const, branch}
use Rattle.tb_compiler_templates.specs.Breaks.{in_line}
use Rattle.tb_compiler_templates.proofs.Appends.{four}
use Rattle.tb_compiler_templates.proofs.breaks.put_polled.Goals as goal

pub returns : goal.returns
returns c =
    four _ _ _ _ _ _ _ _ _ c.in_ok-put_at.ensures c.in_ok-put_const.ensures c.in_ok-put_branch.ensures c.in_ok-put_in_line.ensures
    ∙ ap (λ m. map entry_of c.args.items.now.items ++ (at Jsr GETIN ∷ const Cmp 3 ∷ branch m (Polled c.args.line) ∷ in_line c.args.away c.args.line)) c.asking.ensures
