-- The goals of `shown` in src/remarks.rt.
use Rattle.tb_editor_navigation.proofs.Utf8.{invalid, valid}
use Rattle.tb_editor_navigation.proofs.remarks.shown.Goals as goal

pub returns-in-Ok : goal.returns-in-Ok
returns-in-Ok c = valid _ _ c.in-Ok.ensures.cases.0 c.in-Ok.ensures.cases.1

pub returns-in-Err : goal.returns-in-Err
returns-in-Err c = invalid _ c.in-Err.ensures.cases.0
