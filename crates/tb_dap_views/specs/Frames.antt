-- The frames of a run.
use Rattle.std.specs.Prelude.{ℕ, ◌+◌, ◌==◌, min, List, [], ◌∷◌, ◌++◌, drop, length, take, Option, Some, None, if◌then◌else◌}
use Rattle.serde_json.specs.Data.{Data}
use Rattle.serde_json.specs.View.{items_of}
use Rattle.tb_dap_values.specs.Bodies.{frame_value, stack_body, start_value}
use Rattle.tb_compiled.specs.Compiled.{start_in, starts_of}
use Rattle.tb_debug.specs.Telling.{line_here, returns_here}
use Rattle.tb_debug.specs.declared.debugger.Debugger.{Debugger}
use Rattle.tb_dap_views.specs.Sources.{before, line_of, source_of, text_of}
use Rattle.tb_dap_views.specs.Texts.{reference}
use Rattle.tb_dap_views.specs.declared.frames.Frame.{Frame}
use Rattle.tb_dap_views.specs.declared.sources.SourceFile.{SourceFile}

-- where code begins, if there is some
abbrev pub start_of : Option ℕ → ℕ
start_of (Some a) = a
start_of None = 0

-- a line, and where its code is
abbrev pub frame : ℕ → ℕ → Frame
frame n a = record { line = n; at = a }

-- the frame of a line, if it is one
abbrev pub caller_at : List (ℕ × ℕ) → Option ℕ → List Frame
caller_at starts (Some n) = frame n (start_of (start_in starts n)) ∷ []
caller_at starts None = []

-- the frame of the line before the one to which a subroutine returns: that of the GOSUB itself
abbrev pub caller : List (ℕ × ℕ) → Option ℕ → List Frame
caller starts r = caller_at starts (before starts r)

-- the frames of the GOSUBs themselves, by the lines to which one returns, the newest first
abbrev pub callers : List (ℕ × ℕ) → List (Option ℕ) → List Frame
callers starts [] = []
callers starts (r ∷ returns) = caller starts r ++ callers starts returns

-- the frames where a run is at a line, with its program counter; none before the first line
abbrev pub frames_by : List (ℕ × ℕ) → Option ℕ → ℕ → List (Option ℕ) → List Frame
frames_by starts None pc returns = []
frames_by starts (Some n) pc returns = (frame n pc ∷ []) ++ callers starts returns

-- the frames of a run
abbrev pub frames_here : SourceFile → Debugger → List Frame
frames_here f d = frames_by (starts_of f.program.now) (line_here d) d.present.machine.regs.pc (returns_here d)

-- the first frames, but all for 0
abbrev pub first_frames : ℕ → List Frame → List Frame
first_frames levels frames = if levels == 0 then frames else take (min levels (length frames)) frames

-- the frames from one on, and so many at most
abbrev pub chosen : ℕ → ℕ → List Frame → List Frame
chosen start levels frames = first_frames levels (drop (min start (length frames)) frames)

-- a frame, as it is answered by its number
abbrev pub frame_of : SourceFile → ℕ → Frame → Data
frame_of f id x = frame_value id (line_of f x.line) (text_of f x.line) (reference x.at) (source_of f)

-- frames, of which the first has this number
abbrev pub frame_values : SourceFile → ℕ → List Frame → List Data
frame_values f id [] = []
frame_values f id (x ∷ frames) = frame_of f id x ∷ frame_values f (id + 1) frames

-- what comes before the first line
abbrev pub start_values : ℕ → ℕ → List Data
start_values start pc = if start == 0 then start_value (reference pc) ∷ [] else []

-- the stack of these frames
abbrev pub stack_by : SourceFile → (pc start levels : ℕ) → List Frame → Data
stack_by f pc start levels [] = stack_body (items_of (start_values start pc)) 1
stack_by f pc start levels (x ∷ frames) =
    stack_body (items_of (frame_values f (min start (length (x ∷ frames)) + 1) (chosen start levels (x ∷ frames)))) (length (x ∷ frames))

-- the stack of a run, from a frame on and so many frames at most
abbrev pub stack_of : SourceFile → Debugger → ℕ → ℕ → Data
stack_of f d start levels = stack_by f d.present.machine.regs.pc start levels (frames_here f d)
