-- Why a run stopped, as it is told.
use Rattle.std.specs.Prelude.{ℕ, ℤ, pos, ◌+◌, ◌==◌, Bool, true, false, List, codes, ◌++◌, Option, Some, None, slice_index_or, if◌then◌else◌}
use Rattle.std.specs.Char.{encode_utf8}
use Rattle.std.specs.Fmt.{decimal, signed_decimal}
use Rattle.serde_json.specs.Data.{Data}
use Rattle.tb_dap_values.specs.Bodies.{stopped_at_body, stopped_body}
use Rattle.tb_dap_values.specs.declared.requests.Movement.{Movement}
use Rattle.tb_dap_values.specs.declared.requests.Movement.TheVariants as movement
use Rattle.tb_cpu.specs.declared.wrong.Wrong.{Wrong as WrongKind}
use Rattle.tb_debug.specs.Telling.{variables_here}
use Rattle.tb_debug.specs.declared.causes.Cause.{Cause}
use Rattle.tb_debug.specs.declared.causes.Cause.TheVariants as cause
use Rattle.tb_debug.specs.declared.debugger.Debugger.{Debugger}
use Rattle.tb_debug.specs.declared.moment.Reached.{Reached}
use Rattle.tb_debug.specs.declared.moment.Reached.TheVariants as reached
use Rattle.tb_engines.specs.Texts.{end_text}
use Rattle.tb_engines.specs.declared.outcome.End.TheVariants.{WentWrong}
use Rattle.tb_kernal.specs.declared.status.Status.{Status}
use Rattle.tb_kernal.specs.declared.status.Status.TheVariants as status
use Rattle.tb_words.specs.Letters.{letter_index}
use Rattle.tb_words.specs.declared.Letter.{Letter}
use Rattle.tb_dap_requests.specs.Said.{Saying, event}
use Rattle.tb_dap_requests.specs.declared.stops.Stop.{Stop}
use Rattle.tb_dap_requests.specs.declared.stops.Stop.TheVariants as stop
use Rattle.tb_dap_requests.specs.declared.stops.TheConstants.{DATA_BREAKPOINT, DATA_BREAKPOINT_HINT, WAITS_FOR_LINE}

-- a movement leads back
abbrev pub leads_back : Movement → Bool
leads_back movement.StepBack = true
leads_back movement.ReverseContinue = true
leads_back _ = false

-- why a machine stopped that doesn't run
abbrev pub ended : Status → ℕ → Stop
ended status.Running pc = stop.Step
ended status.Waits pc = stop.Input
ended status.Returned pc = stop.End
ended (status.Wrong wrong) pc = stop.Wrong wrong pc

-- why a way on stopped at the beginning of a line: a breakpoint before a watch before a step
abbrev pub by_cause : Option Cause → Stop
by_cause (Some (cause.Breakpoint line)) = stop.Breakpoint line
by_cause (Some (cause.Watch letter)) = stop.Watch letter
by_cause None = stop.Step

-- why a way on stopped, by where it led
abbrev pub stop_ahead : Reached → Option Cause → ℕ → ℕ → Stop
stop_ahead reached.Line c limit pc = by_cause c
stop_ahead reached.Within c limit pc = stop.Step
stop_ahead (reached.Ended s) c limit pc = ended s pc
stop_ahead reached.Limit c limit pc = stop.Pause limit

-- why `reverseContinue` stopped at a line that has no breakpoint
abbrev pub back_by : ℕ → Stop
back_by begun = if begun == 0 then stop.Entry else stop.Change

-- why a step back stopped at a line that has no breakpoint
abbrev pub stepped_back : Bool → Stop
stepped_back moved = if moved then stop.Step else stop.Entry

-- why a step back or `reverseContinue` stopped at a line that has no breakpoint
abbrev pub unbroken : ℕ → (is_step moved : Bool) → Stop
unbroken begun is_step moved = if is_step then stepped_back moved else back_by begun

-- why a way back stopped
abbrev pub stop_behind : Option Cause → ℕ → (is_step moved : Bool) → Stop
stop_behind (Some (cause.Breakpoint line)) begun is_step moved = stop.Breakpoint line
stop_behind (Some (cause.Watch letter)) begun is_step moved = unbroken begun is_step moved
stop_behind None begun is_step moved = unbroken begun is_step moved

-- ---- what is told

-- a stop with a reason and a description
abbrev pub stopped : List ℕ → List ℕ → Data
stopped reason description = stopped_body reason description

abbrev pub breakpoint_value : ℕ → Data
breakpoint_value line = stopped_at_body (codes "line " ++ decimal line) line

-- the byte of a letter
abbrev pub letter_byte : Letter → ℕ
letter_byte letter = 65 + letter_index letter

abbrev pub watch_value : Letter → ℤ → Data
watch_value letter value = stopped DATA_BREAKPOINT.now (encode_utf8 (letter_byte letter) ++ (codes " is " ++ signed_decimal value))

abbrev pub pause_value : ℕ → Data
pause_value limit = stopped (codes "pause") (codes "paused after " ++ (decimal limit ++ codes " events"))

-- as `run` says it
abbrev pub wrong_value : WrongKind → ℕ → Data
wrong_value wrong pc = stopped (codes "end") (end_text (WentWrong wrong pc))

-- what is told of a stop of a run
abbrev pub stop_value : Stop → Debugger → Data
stop_value stop.Entry d = stopped (codes "entry") (codes "entry")
stop_value (stop.Breakpoint line) d = breakpoint_value line
stop_value (stop.Watch letter) d = watch_value letter (slice_index_or (variables_here d) (letter_index letter) (pos 0))
stop_value stop.Change d = stopped DATA_BREAKPOINT.now DATA_BREAKPOINT_HINT.now
stop_value stop.Step d = stopped (codes "step") (codes "step")
stop_value (stop.Pause limit) d = pause_value limit
stop_value stop.Input d = stopped (codes "input") WAITS_FOR_LINE.now
stop_value stop.End d = stopped (codes "end") (codes "returned")
stop_value (stop.Wrong wrong pc) d = wrong_value wrong pc

-- that a run stopped
abbrev pub stop_of : Stop → Debugger → Saying
stop_of stop d = event (codes "stopped") (Some (stop_value stop d))
