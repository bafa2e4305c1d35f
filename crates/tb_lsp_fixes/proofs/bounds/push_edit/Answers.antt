-- The goal of `push_edit` in src/bounds.rt.
use Rattle.std.proofs.Common.{ap, ◌∙◌, ◌∷◌, ◌++◌, [], map}
use Rattle.std.proofs.lemmas.List.{map-append}
use Rattle.serde_json.specs.View.{view}
use Rattle.tb_editor_values.specs.Edits.{edit_value}
use Rattle.tb_lsp_fixes.proofs.bounds.push_edit.Goals as goal

pub returns : goal.returns
returns c =
    let old = c.args.edits.now.items in
    ap (map view) c.in_ok-push.ensures.items ∙ map-append view old (c.in_ok-edit_value.field-0 ∷ [])
    ∙ ap (λ v. map view old ++ v ∷ []) (c.in_ok-edit_value.ensures ∙ ap (λ s. edit_value s c.args.mending.now.better.now) c.between-span.ensures)
