-- The goal of `remarks_are_whole` in src/laws.rt.
use Rattle.tb_parser.proofs.Remarks.{whole}
use Rattle.tb_parser.proofs.laws.remarks_are_whole.Goals as goal

pub returns : goal.returns
returns c = whole
