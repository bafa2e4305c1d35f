-- The goals of `put_value` in src/lowering.rt.
use Rattle.std.proofs.Common.{sym, ◌∙◌}
use Rattle.tb_basic_syntax.specs.PlainData.{expression_of}
use Rattle.tb_lower.proofs.Folded.{constant_code}
use Rattle.tb_lower.proofs.lowering.+put_value.Goals as goal

pub returns-in-Some : goal.returns-in-Some
returns-in-Some t c =
    rw (constant_code (expression_of c.args.e.now) c.args.slot c.in-Some.value (sym c.constant.ensures ∙ c.in-Some.is)) c.put.ensures
