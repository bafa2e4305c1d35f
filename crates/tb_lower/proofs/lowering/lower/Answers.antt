-- The goals of `lower` in src/lowering.rt.
use Rattle.std.proofs.Common.{◌≡◌, ap, ◌∙◌}
use Rattle.tb_basic_syntax.specs.PlainData.{lines_of}
use Rattle.tb_lower.specs.Lowered.{program_code}
use Rattle.tb_lower.specs.PlainData.{code_of}
use Rattle.tb_lower.proofs.Lists.{lowered}
use Rattle.tb_lower.proofs.lowering.lower.Goals as goal

pub returns-clause-follows : goal.returns-clause-follows
returns-clause-follows c =
    let same : code_of c.new.result ≡ program_code (lines_of c.args.program.now) = ap code_of c.new.ensures ∙ c.in_ok-lines.ensures.lowered in
    lowered _ _ c.in_ok-lines.ensures.accepted same
