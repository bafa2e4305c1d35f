-- The goal of `renumbered` in src/renumbering.rt.
use Rattle.std.proofs.Common.{Ok, subst, ◌∙◌}
use Rattle.tb_basic_renumber.specs.Answers.{Renumbers}
use Rattle.tb_program_files.proofs.renumbering.renumbered.Goals as goal

pub returns-in-Ok-renumber : goal.returns-in-Ok-renumber
returns-in-Ok-renumber c =
    let text = c.in-Ok-renumber.text in (
      text,
      subst (λ t. Renumbers c.args.notation c.args.numbering.first c.args.numbering.step t (Ok text)) (c.as_slice.ensures.value ∙ c.in-Ok.ensures.0)
          c.in-Ok-renumber.ensures,
      c.in_ok-only-in-Ok-renumber.ensures,
    )
