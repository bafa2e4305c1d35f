-- How an adapter ends.
use Rattle.tb_engine_streams.specs.declared.outcome.Done.{Done}
use Rattle.tb_engine_streams.specs.declared.outcome.Outcome.{Outcome}
use Rattle.tb_editor_frames.specs.declared.outcome.BadFrame.{BadFrame}

-- how an adapter ended
abbrev pub AdapterOutcome : Type 0
AdapterOutcome = Outcome Done BadFrame
