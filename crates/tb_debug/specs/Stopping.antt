-- Where going on and going back stop.
use Rattle.std.specs.Prelude.{◌≡◌, ◌⊎◌, ℕ, ◌-◌, ◌≤◌, ◌&&◌, ◌||◌, ◌==◌, Bool, true, false, if◌then◌else◌, nat_lt, List, Option, Some, None}
use Rattle.std.specs.Option.{is_some}
use Rattle.tb_memmap.specs.Bytes.{at}
use Rattle.tb_kernal.specs.declared.status.Status.TheVariants.{Returned}
use Rattle.tb_debug_inspection.specs.Faults.{fault_in}
use Rattle.tb_words.specs.declared.Letter.{Letter}
use Rattle.tb_debug.specs.Breakpoints.{breakpoints_of, watches_of, breaks, broken, differ, first_changed, stops_at_faults}
use Rattle.tb_debug.specs.declared.breakpoints.StopPoints.{StopPoints}
use Rattle.tb_debug.specs.Begins.{comes_to}
use Rattle.tb_debug.specs.Debuggees.{depth_from, line_from}
use Rattle.tb_debug_inspection.specs.Readings.{values_in}
use Rattle.tb_debug.specs.Runs.{Point, is_marked, point_at, shown}
use Rattle.tb_debug.specs.declared.causes.Cause.{Cause}
use Rattle.tb_debug.specs.declared.causes.Cause.TheVariants as cause
use Rattle.tb_debug.specs.declared.debuggee.Debuggee.{Debuggee}
use Rattle.tb_debug.specs.declared.debugger.Debugger.{Debugger}
use Rattle.tb_debug.specs.declared.moment.Moment.{Moment}
use Rattle.tb_debug.specs.declared.moment.Reached.{Reached}
use Rattle.tb_debug.specs.declared.moment.Reached.TheVariants.{Line, Ended}
use Rattle.tb_debug.specs.declared.searching.Destination.{Destination}
use Rattle.tb_debug.specs.declared.searching.Destination.TheVariants.{Stop, Above, Address}

-- the line that begins at a point has a breakpoint
abbrev pub breaks_at : Debuggee → StopPoints → Point → Bool
breaks_at debuggee stops p = breaks (breakpoints_of stops) (line_from debuggee p.state.regs.pc)

-- the line that was begun last gave a watched variable another value
abbrev pub changes : StopPoints → Point → Bool
changes stops p = differ (watches_of stops) p.opened (values_in p.state.mem)

-- ---- going on

-- `c` stops at a point where a line begins that has a breakpoint, or after one that changed a watched variable
abbrev pub is_stop : Debugger → Point → Bool
is_stop d p = breaks_at d.debuggee d.stops p || changes d.stops p

-- fewer lines to return to are noted at a point than these
abbrev pub is_above : Debuggee → ℕ → Point → Bool
is_above debuggee depth p = nat_lt (depth_from debuggee p.state.mem) depth

-- a point is one that is looked for
abbrev pub is_sought : Destination → Debugger → Point → Bool
is_sought Stop d p = is_stop d p
is_sought (Above depth) d p = is_above d.debuggee depth p || is_stop d p
is_sought (Address address) d p = p.state.regs.pc == address

-- a line begins after k events, at a point that is looked for
abbrev pub comes_where : (Point → Bool) → List Bool → Point → ℕ → Bool
comes_where is_there marks start k = comes_to marks start k && is_there (point_at marks start k)

-- if the answer is that a line begins, the debugger is at a point that is looked for
abbrev pub IsThere : Destination → Reached → Debugger → Type 0
IsThere to Line d = is_sought to d (shown d.present) ≡ true
IsThere to _ d = Unit {0}

-- the breakpoint of a line, or else the watched variable that was changed
abbrev pub cause_by : Option ℕ → Option Letter → Option Cause
cause_by (Some line) changed = Some (cause.Breakpoint line)
cause_by None (Some letter) = Some (cause.Watch letter)
cause_by None None = None

-- why a way stops at a point: a breakpoint, or else the first watched variable that the line before changed
abbrev pub cause_at : Debuggee → StopPoints → Point → Option Cause
cause_at debuggee stops p =
    cause_by (broken (breakpoints_of stops) (line_from debuggee p.state.regs.pc)) (first_changed (watches_of stops) p.opened (values_in p.state.mem))

-- ---- faults

-- a way ended where the program returned by a fault
abbrev pub has_faulted : Reached → Moment → Bool
has_faulted (Ended Returned) m = is_some (fault_in m.machine.sent (at m.machine.memory))
has_faulted _ m = false

-- the line that was begun last at a moment was begun after as many others, and after one that begins where they were counted
abbrev pub begins_after : ℕ → Bool → Moment → Bool
begins_after begun begins m = nat_lt begun (if begins then m.begun - 1 else m.begun)

-- a way ended by a fault that stops `c`: in a line that was begun on the way
abbrev pub stops_by_fault : StopPoints → ℕ → Bool → Reached → Moment → Bool
stops_by_fault stops begun begins way m = stops_at_faults stops && (has_faulted way m && begins_after begun begins m)

-- a way from where a debugger is ended by a fault that stops it: in a line that was begun on the way
abbrev pub stops_here : Debugger → Reached → Moment → Bool
stops_here d way m = stops_by_fault d.stops d.present.begun (is_marked d.starts d.present.machine.regs.pc) way m

-- ---- going back

-- the time to which a point leads back: its own if a line with a breakpoint begins there, before as many lines were begun
-- as now; else that of the line before it, if that line changed a watched variable; else the start
abbrev pub leads_back : Debuggee → StopPoints → ℕ → Point → ℕ
leads_back debuggee stops now p =
    if nat_lt p.begun now && breaks_at debuggee stops p then p.begun
    else if changes stops p then p.begun - 1
    else 0

-- the time to which the point after k events leads back
abbrev pub leads_from : Debugger → Point → ℕ → ℕ
leads_from d start k = leads_back d.debuggee d.stops d.present.begun (point_at d.starts start k)

-- a time to which a line's beginning up to the present point leads back, or the present point; or the start
abbrev pub LeadsTo : Debugger → Point → ℕ → Type 0
LeadsTo d start time =
    (time ≡ 0) ⊎ (leads_from d start d.present.events ≡ time)
    ⊎ ((k : ℕ) × (k ≤ d.present.events) × (comes_to d.starts start k ≡ true) × (leads_from d start k ≡ time))

-- the newest of these times: none of these points leads to a later one
pub record IsNewest (d : Debugger) (start : Point) (time : ℕ) : Type 0 where
  pub leads : LeadsTo d start time
  pub here : leads_from d start d.present.events ≤ time
  pub before : (k : ℕ) → k ≤ d.present.events → comes_to d.starts start k ≡ true → leads_from d start k ≤ time
