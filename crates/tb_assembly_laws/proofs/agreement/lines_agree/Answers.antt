-- The goal of `lines_agree` in src/agreement.rt.
use Rattle.tb_assembly_laws.proofs.Texts as texts
use Rattle.tb_assembly_laws.proofs.agreement.lines_agree.Goals as goal

pub returns : goal.returns
returns c = texts.lines_agree
