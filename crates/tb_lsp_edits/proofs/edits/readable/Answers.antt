-- The goals of `readable` in src/edits.rt.
use Rattle.tb_lsp_edits.proofs.ReadableText.{invalid, valid}
use Rattle.tb_lsp_edits.proofs.edits.readable.Goals as goal

pub returns-in-Ok : goal.returns-in-Ok
returns-in-Ok c = valid _ _ c.in-Ok.ensures.cases.0 c.in-Ok.ensures.cases.1

pub returns-in-Err : goal.returns-in-Err
returns-in-Err c = invalid _ c.in-Err.ensures.cases.0
