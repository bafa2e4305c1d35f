-- The goal of `refusals_are_answers` in src/reading.rt.
use Rattle.tb_engine_sources.proofs.Refused.{is_refused, is_answered}
use Rattle.tb_engine_sources.proofs.reading.refusals_are_answers.Goals as goal

pub returns : goal.returns
returns g c settings source e = (is_refused g.K.Compile.own settings source e, is_answered g.K.Compile.own settings source e)
