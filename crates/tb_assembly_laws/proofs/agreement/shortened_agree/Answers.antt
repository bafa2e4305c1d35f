-- The goal of `shortened_agree` in src/agreement.rt.
use Rattle.tb_assembly_laws.proofs.Texts as texts
use Rattle.tb_assembly_laws.proofs.agreement.shortened_agree.Goals as goal

pub returns : goal.returns
returns c = texts.shortened_agree
