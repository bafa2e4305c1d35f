-- The goals of `read_first` in src/forms.rt.
use Rattle.std.proofs.Common.{◌≡◌, true, drop, sym, subst, ◌∙◌, if◌then◌else◌}
use Rattle.tb_asm.specs.Text.{is_colon_first, labelled, one_item}
use Rattle.tb_asm.specs.Reads.{Pushes}
use Rattle.tb_asm.proofs.forms.read_first.Goals as goal

pub returns-then-is_colon_first : goal.returns-then-is_colon_first
returns-then-is_colon_first c =
    let w = c.args.letters.now.items in
    let ps = c.args.parts.now in
    let colon : is_colon_first ps ≡ true = sym c.is_colon_first.ensures.first ∙ c.if-is_colon_first.true in
    subst (λ b. Pushes (if b then labelled w (drop 1 ps) else one_item w ps) c.args.items.now.items c.read_labelled.result c.read_labelled.new.items.items) (sym colon)
    (subst (λ t. Pushes (labelled w t) c.args.items.now.items c.read_labelled.result c.read_labelled.new.items.items) c.split_at.ensures.back c.read_labelled.ensures)
