-- How calls end that can't read or write a frame.
use Rattle.tb_engine_streams.specs.declared.outcome.Outcome.{Outcome}
use Rattle.tb_engine_streams.specs.declared.outcome.Outcome.TheVariants.{Refused, ReadFault, WriteFault, NoMemory}
use Rattle.tb_editor_frames.specs.declared.outcome.BadFrame.{BadFrame}
use Rattle.tb_editor_frames.specs.declared.reading.FrameError.{FrameError}
use Rattle.tb_editor_frames.specs.declared.reading.FrameError.TheVariants as frame_error
use Rattle.tb_editor_frames.specs.declared.writing.WriteError.{WriteError}
use Rattle.tb_editor_frames.specs.declared.writing.WriteError.TheVariants as write_error

-- the end if a frame can't be read
abbrev pub unread : {E : Type 0} → FrameError → Outcome E BadFrame
unread frame_error.Fault = ReadFault
unread frame_error.Bad = Refused (record {})
unread frame_error.NoMemory = NoMemory

-- the end if a frame can't be written
abbrev pub unwritten : {E : Type 0} → WriteError → Outcome E BadFrame
unwritten write_error.Fault = WriteFault
unwritten write_error.NoMemory = NoMemory
