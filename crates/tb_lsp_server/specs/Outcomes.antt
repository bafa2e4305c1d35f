-- How a server ends.
use Rattle.std.specs.Prelude.{ℕ}
use Rattle.tb_engine_streams.specs.Numbers.{DONE, REFUSED}
use Rattle.tb_engine_streams.specs.declared.outcome.Outcome.{Outcome}
use Rattle.tb_editor_frames.specs.declared.outcome.BadFrame.{BadFrame}
use Rattle.tb_lsp_server.specs.declared.life.Stage.{Stage}
use Rattle.tb_lsp_server.specs.declared.life.Stage.TheVariants.{New, Ready, Shut}
use Rattle.tb_lsp_server.specs.declared.outcome.Served.{Served}
use Rattle.tb_lsp_server.specs.declared.outcome.Served.TheVariants as served

-- how a server ended
abbrev pub ServerOutcome : Type 0
ServerOutcome = Outcome Served BadFrame

-- the exit status of one that was asked to end, or whose input has ended
abbrev pub status_of : Served → ℕ
status_of served.Ended = DONE
status_of served.NotShutDown = REFUSED

-- how a server ends that is asked to, or whose input ends, by its stage
abbrev pub end_of : Stage → Served
end_of New = served.NotShutDown
end_of Ready = served.NotShutDown
end_of Shut = served.Ended
