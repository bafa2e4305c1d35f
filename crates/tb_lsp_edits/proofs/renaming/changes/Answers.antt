-- The goal of `changes` in src/renaming.rt.
use Rattle.std.proofs.Common.{ap, ◌∙◌}
use Rattle.tb_editor_values.specs.Edits.{changes}
use Rattle.tb_lsp_edits.specs.Rename.{AreRenamed}
use Rattle.tb_lsp_edits.proofs.Made.{text_makes}
use Rattle.tb_lsp_edits.proofs.renaming.changes.Goals as goal

pub returns : goal.returns
returns c =
    let reads : AreRenamed c.args.source.now.notation c.args.letters c.args.source.now.lines.items = c.in_ok-are_renamed.ensures.0 c.if-not-branch.false in record {
      edits = c.in_ok-changes_value.ensures ∙ ap (λ edits. changes c.args.uri.now edits) c.in_ok-edits.ensures;
      reads = reads;
      makes = text_makes c.args.source.now.notation c.args.letters c.args.source.now.lines.items reads;
    }
