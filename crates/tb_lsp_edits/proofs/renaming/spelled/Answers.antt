-- The goals of `spelled` in src/renaming.rt.
use Rattle.tb_lsp_edits.proofs.Utf8.{invalid, valid}
use Rattle.tb_lsp_edits.proofs.renaming.spelled.Goals as goal

pub returns-in-Ok : goal.returns-in-Ok
returns-in-Ok c = valid _ _ c.in-Ok.ensures.cases.0 c.in-Ok.ensures.cases.1

pub returns-in-Err : goal.returns-in-Err
returns-in-Err c = invalid _ c.in-Err.ensures.cases.0
