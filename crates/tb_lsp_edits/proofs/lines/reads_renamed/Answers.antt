-- The goals of `reads_renamed` in src/lines.rt.
use Rattle.tb_lsp_edits.proofs.Otherwise.{reads_if}
use Rattle.tb_lsp_edits.proofs.lines.reads_renamed.Goals as goal

pub returns-in-Ok : goal.returns-in-Ok
returns-in-Ok c =
    reads_if c.args.notation c.args.text.now c.args.letters c.args.line.now.edit _ c.in-Ok.new c.is_renamed_edit.result c.in-Some.is c.in-Ok.ensures
    c.is_renamed_edit.ensures
