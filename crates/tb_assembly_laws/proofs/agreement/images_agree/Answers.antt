-- The goal of `images_agree` in src/agreement.rt.
use Rattle.tb_assembly_laws.proofs.Texts as texts
use Rattle.tb_assembly_laws.proofs.agreement.images_agree.Goals as goal

pub returns : goal.returns
returns c = texts.images_agree
