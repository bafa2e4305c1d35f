-- The goal of `offered_items` in src/items.rt.
use Rattle.std.proofs.Common.{subst, ◌∙◌}
use Rattle.tb_lsp_edits.specs.Items.{items_in}
use Rattle.tb_lsp_edits.specs.Offered.{Offers}
use Rattle.tb_lsp_edits.proofs.items.offered_items.Goals as goal

pub returns : goal.returns
returns c = (
  c.in_ok-typed.typed,
  c.in_ok-typed.ensures,
  (
    c.in_ok-found.found.items,
    subst (λ cs. Offers c.args.source.now.notation c.in_ok-typed.typed cs c.in_ok-found.found.items) (c.deref.ensures.value ∙ c.in_ok-candidates.ensures) c.in_ok-found.ensures,
    c.in_ok-items.ensures ∙ (λ i. items_in (c.span_of.ensures i) (c.deref-2.ensures.value i)),
  ),
)
