-- The goal of `push_edit` in src/edits.rt.
use Rattle.std.proofs.Common.{[], ◌∷◌, ◌++◌, ap, map, ◌∙◌}
use Rattle.std.proofs.lemmas.List.{map-append}
use Rattle.serde_json.specs.View.{view}
use Rattle.tb_lsp_edits.proofs.edits.push_edit.Goals as goal

pub returns : goal.returns
returns c =
    ap (λ values. map view values) c.in_ok-push.ensures.items
    ∙ (map-append view c.args.edits.now.items (c.in_ok-value_of.field-0 ∷ []) ∙ ap (λ v. map view c.args.edits.now.items ++ v ∷ []) c.in_ok-value_of.ensures)
