-- The goals of `read_labelled` in src/forms.rt.
use Rattle.std.proofs.Common.{sym, subst, ◌∷◌}
use Rattle.std.specs.Prelude.{option_map, option_and_then}
use Rattle.tb_asm.specs.Layout.{label}
use Rattle.tb_asm.specs.Text.{behind_label}
use Rattle.tb_asm.specs.Reads.{Pushes}
use Rattle.tb_asm.proofs.ReadLines.{pushes_label}
use Rattle.tb_asm.proofs.forms.read_labelled.Goals as goal

pub returns : goal.returns
returns c =
    subst (λ o. Pushes (option_and_then (λ n. option_map (λ es. label n ∷ es) (behind_label c.args.parts.now)) o) c.args.items.now.items
    c.read_behind_label.result c.read_behind_label.new.items.items)
    (sym c.in_ok-name.ensures)
    (pushes_label _ _ _ c.in_ok-name.name (behind_label c.args.parts.now) _ c.in_ok-push.ensures c.read_behind_label.ensures)
