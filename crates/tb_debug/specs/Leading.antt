-- Where commands lead that move a run.
use Rattle.std.specs.Prelude.{◌≡◌, ℕ, ◌+◌, ◌-◌, Bool, true, false, Some}
use Rattle.tb_debug_commands.specs.declared.command.Command.{Command}
use Rattle.tb_debug_commands.specs.declared.command.Command.TheVariants as command
use Rattle.tb_debug.specs.declared.debugger.Debugger.{Debugger}
use Rattle.tb_debug.specs.declared.moment.Moment.{Moment}
use Rattle.tb_debug.specs.declared.moment.Reached.{Reached}
use Rattle.tb_debug.specs.declared.moment.Reached.TheVariants.{Line}
use Rattle.tb_debug.specs.declared.searching.Destination.{Destination}
use Rattle.tb_debug.specs.declared.searching.Destination.TheVariants.{Stop, Above, Address}
use Rattle.tb_debug.specs.Begins.{GoesBy, GoesTo, StepsBy}
use Rattle.tb_kernal.specs.Machine.{state_of}
use Rattle.tb_debug.specs.Debuggees.{depth_from, start_from}
use Rattle.tb_debug.specs.Debuggers.{IsAtTime, RewindsBy, RewindsTo, GoesToTime, OnRun, StandsAt}
use Rattle.tb_debug.specs.Runs.{IsOfRun, Point}
use Rattle.tb_debug.specs.Stopping.{IsNewest, comes_where, is_sought, stops_here}

-- a way on to the next line that is looked for, by at most `limit` events
abbrev pub RunsUntil : Destination → ℕ → Debugger → Reached → Moment → Type 0
RunsUntil to limit d reached m =
    (start : Point) → OnRun start d → GoesTo (comes_where (is_sought to d) d.starts start) limit reached d.present m

-- such a way, on the same run
pub record GoesAlong (to : Destination) (limit : ℕ) (d : Debugger) (way : Reached) (last : Moment) : Type 0 where
  pub runs : RunsUntil to limit d way last
  pub of_run : (start : Point) → OnRun start d → IsOfRun d.starts start last

-- a way on ends there, or it goes back from there to the beginning of the line that was begun last
abbrev pub StopsBack : Bool → Debugger → Reached → Moment → Reached → Moment → Type 0
StopsBack false d way last reached m = (reached ≡ way) × (m ≡ last)
StopsBack true d way last reached m =
    IsAtTime (last.begun - 1) d.starts reached m × ((start : Point) → start.begun ≡ 0 → OnRun start d → reached ≡ Line)

-- a way on to the next line that is looked for, or, if faults stop it and the program ends by one, to the beginning of the
-- line that faults
abbrev pub GoesOn : Destination → ℕ → Debugger → Reached → Moment → Type 0
GoesOn to limit d reached m =
    (way : Reached) × (last : Moment) × GoesAlong to limit d way last × StopsBack (stops_here d way last) d way last reached m

-- a way on to the next stop, or, if faults stop it and the program ends by one, to the start of the line that faults
abbrev pub Continues : ℕ → Debugger → Reached → Moment → Type 0
Continues limit d reached m = GoesOn Stop limit d reached m

-- how many lines there are to return to
abbrev pub depth_here : Debugger → ℕ
depth_here d = depth_from d.debuggee (state_of d.present.machine).mem

-- a way on to the next stop, or the next line at which no more lines are to be returned to than here: over a GOSUB
abbrev pub GoesOver : ℕ → Debugger → Reached → Moment → Type 0
GoesOver limit d reached m = GoesOn (Above (depth_here d + 1)) limit d reached m

-- a way on to the next stop, or the next line at which fewer lines are to be returned to than here: out of a subroutine
abbrev pub GoesOut : ℕ → Debugger → Reached → Moment → Type 0
GoesOut limit d reached m = GoesOn (Above (depth_here d)) limit d reached m

-- a way back to the newest of the times to which the points before lead back
abbrev pub ReverseContinues : Debugger → Reached → Moment → Type 0
ReverseContinues d reached m =
    (start : Point) → start.begun ≡ 0 → OnRun start d → (time : ℕ) × IsNewest d start time × RewindsTo time d reached m

-- `n` leads on by K lines, `p` back by K lines, `c` to the next stop, `j` over a GOSUB, `u` out of a subroutine, `rc` to the
-- newest stop before, `t` to a time, `g` to a line, `s` on by K events; going on takes at most `limit` events
abbrev pub Leads : ℕ → Command → Debugger → Reached → Moment → Type 0
Leads limit (command.Next lines) d reached m = (start : Point) → OnRun start d → GoesBy lines d.starts start limit reached d.present m
Leads limit (command.Previous lines) d reached m = RewindsBy lines d reached m
Leads limit command.Continue d reached m = Continues limit d reached m
Leads limit command.Over d reached m = GoesOver limit d reached m
Leads limit command.Finish d reached m = GoesOut limit d reached m
Leads limit command.ReverseContinue d reached m = ReverseContinues d reached m
Leads limit (command.ToTime time) d reached m = GoesToTime time limit d reached m
Leads limit (command.ToLine line) d reached m =
    (address : ℕ) → start_from d.debuggee line ≡ Some address
    → StandsAt address reached m × RunsUntil (Address address) limit d reached m
Leads limit (command.Step events) d reached m = StepsBy events d.present m
Leads limit _ d reached m = Unit {0}
