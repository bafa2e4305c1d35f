-- The goals of `play_to_end` in src/files.rt.
use Rattle.std.proofs.Common.{refl, inl, inr}
use Rattle.tb_engine_play.proofs.OneRun.{one_run}
use Rattle.tb_engine_play.proofs.files.play_to_end.Goals as goal

pub returns-in-Ok-clause-whole : goal.returns-in-Ok-clause-whole
returns-in-Ok-clause-whole g c =
    one_run _ _ _ _ _ _ _ c.in-Ok.ensures c.play-played.ensures.dialogue

pub returns-in-Ok-clause-written_first : goal.returns-in-Ok-clause-written_first
returns-in-Ok-clause-written_first g c =
    inr (_, c.in-Ok.ensures, c.play-played.ensures.written_first)

pub returns-in-Err-clause-written_first : goal.returns-in-Err-clause-written_first
returns-in-Err-clause-written_first g c = inl refl
