-- The goals of `play_compiled` in src/playing.rt.
use Rattle.tb_engine_sources.proofs.Output.{all_bytes}
use Rattle.tb_engine_sources.proofs.PlayedSources.{shows_source}
use Rattle.tb_engine_sources.proofs.playing.play_compiled.Goals as goal

pub returns-clause-output : goal.returns-clause-output
returns-clause-output g c =
    shows_source c.args.file.now (all_bytes c.args.file.now (λ k. (c.type_inv.file k).fits)) _ _ _ c.play_to_end.ensures.whole
