-- A debugger on the run of what it debugs.
use Rattle.std.specs.Prelude.{◌≡◌, ◌⊎◌, ℕ, ◌+◌, ◌-◌, ◌<◌, ◌≤◌, Bool, true, false, List, [], ◌∷◌, length}
use Rattle.tb_engine_play.specs.Lines.{keys_of_text}
use Rattle.tb_debug_commands.specs.declared.command.Command.{Command}
use Rattle.tb_debug_commands.specs.declared.command.Command.TheVariants as command
use Rattle.tb_debug.specs.Debuggees.{begins_in}
use Rattle.tb_debug.specs.declared.debuggee.Debuggee.{Debuggee}
use Rattle.tb_debug.specs.declared.debugger.Debugger.{Debugger}
use Rattle.tb_debug.specs.declared.history.History.{History}
use Rattle.tb_debug.specs.declared.moment.Moment.{Moment}
use Rattle.tb_debug.specs.declared.moment.Reached.{Reached}
use Rattle.tb_debug.specs.declared.moment.Reached.TheVariants.{Line, Within, Ended, Limit}
use Rattle.tb_debug.specs.Breakpoints.{breakpoints_of, watches_of, stops_at_faults}
use Rattle.tb_debug.specs.Begins.{EndsAt, IsLimited, IsNear, standing_of}
use Rattle.tb_debug.specs.Runs.{Point, IsOfRun, IsFirst, AreCheckpoints, AreSpaced}
use Rattle.tb_debug.specs.Runs.{begins_at, is_marked, most_checkpoints, newest, newest_events, spacing, typed}

-- the marks are where the lines of what is debugged begin, and the present moment and the checkpoints, of which there are no more
-- than may be, are of the run from a start; the checkpoints keep their distance, and the newest of them is never far: what
-- lies between is less than the spacing, and the line that was begun last
pub record StandsOn (debuggee : Debuggee) (start : Point) (marks : List Bool) (history : History) (present : Moment) : Type 0 where
  pub marked : (a : ℕ) → is_marked marks a ≡ begins_in debuggee a
  pub of_run : IsOfRun marks start present
  pub of_first : IsFirst marks start history.first
  pub of_past : AreCheckpoints marks start present.events history.later.items
  pub few : length history.later.items < most_checkpoints
  pub spaced : AreSpaced (history.first ∷ history.later.items)
  pub near : IsNear marks start (newest_events history.first history.later.items) present.events

-- a debugger is on the run from a start
abbrev pub OnRun : Point → Debugger → Type 0
OnRun start d = StandsOn d.debuggee start d.starts d.history d.present

-- a debugger of the same debuggee that is on each run on which another one is
abbrev pub KeepsRun : Debugger → Debugger → Type 0
KeepsRun d e = (e.debuggee ≡ d.debuggee) × (e.starts ≡ d.starts) × ((start : Point) → OnRun start d → OnRun start e)

-- a debugger of the same debuggee that is on each run of another one, but with more at the end of the keyboard's text
abbrev pub KeepsRunTyped : List ℕ → Debugger → Debugger → Type 0
KeepsRunTyped more d e = (e.debuggee ≡ d.debuggee) × (e.starts ≡ d.starts) × ((start : Point) → OnRun start d → OnRun (typed more start) e)

-- how many lines a debugger has begun; at the beginning of a line that is the time
abbrev pub begun_by : Debugger → ℕ
begun_by d = d.present.begun

-- if the answer is that a line begins, it is the line at a time; a way to a time doesn't end within a line
abbrev pub IsAtTime : ℕ → List Bool → Reached → Moment → Type 0
IsAtTime time marks Line m = (m.begun ≡ time) × (is_marked marks m.machine.regs.pc ≡ true)
IsAtTime time marks Within m = ⊥
IsAtTime time marks (Ended why) m = Unit {0}
IsAtTime time marks Limit m = Unit {0}

-- if the answer is that a line begins, it is the one at an address
abbrev pub StandsAt : ℕ → Reached → Moment → Type 0
StandsAt address Line m = m.machine.regs.pc ≡ address
StandsAt address _ m = Unit {0}

-- how many events come before the first line at most
abbrev pub most_opening : ℕ
most_opening = 1000000

-- a debugger with nothing shown, set or watched
pub record IsBare (d : Debugger) : Type 0 where
  pub shown : d.shown ≡ 0
  pub unset : breakpoints_of d.stops ≡ []
  pub unwatched : watches_of d.stops ≡ []
  pub through : stops_at_faults d.stops ≡ false

-- a debugger of a run that starts: it has taken no event, and nothing is shown, set or watched
pub record IsAtStart (d : Debugger) : Type 0 where
  pub none : d.present.events ≡ 0
  pub bare : IsBare d

-- a debugger of a run that starts: it went on to the first line, and nothing is shown, set or watched
pub record IsOpening (start : Point) (d : Debugger) : Type 0 where
  pub first : Moment
  pub none : first.events ≡ 0
  pub reached : Reached
  pub opens : EndsAt d.starts start most_opening first reached d.present
  pub bare : IsBare d

-- a debugger that stays where it is, and says how it stands
abbrev pub Stays : Debugger → Reached → Moment → Type 0
Stays d reached m = (m ≡ d.present) × (reached ≡ standing_of d.starts d.present)

-- a way to a time, on or back: on by at most `limit` events; back to the line at that time
pub record GoesToTime (time limit : ℕ) (d : Debugger) (reached : Reached) (m : Moment) : Type 0 where
  pub there : IsAtTime time d.starts reached m
  pub on : begun_by d ≤ time → (m.begun ≤ time) × IsLimited limit reached d.present m
  pub back : (start : Point) → start.begun ≡ 0 → OnRun start d → time < begun_by d → reached ≡ Line

-- a way back to a time that doesn't come before the newest checkpoint ends fewer than `spacing` events after it: so it takes
-- no more to run again from there
abbrev pub IsShort : ℕ → Debugger → Moment → Type 0
IsShort time d m =
    (start : Point) → start.begun ≡ 0 → OnRun start d → time < begun_by d
    → (newest d.history.first d.history.later.items).moment.begun ≤ time
    → m.events < newest_events d.history.first d.history.later.items + spacing

-- a way back to the line at a time; if no line was begun, there is none to go back to
abbrev pub RewindsTo : ℕ → Debugger → Reached → Moment → Type 0
RewindsTo time d reached m =
    ((reached ≡ Line) × IsAtTime time d.starts reached m) ⊎ ((begun_by d ≡ 0) × (time ≡ 0) × Stays d reached m)

-- a way back by this many lines
pub record RewindsBy (lines : ℕ) (d : Debugger) (reached : Reached) (m : Moment) : Type 0 where
  pub none : lines ≡ 0 → Stays d reached m
  pub there : 0 < lines → 0 < begun_by d → IsAtTime (begun_by d - lines) d.starts reached m
  pub back : 0 < lines → (start : Point) → start.begun ≡ 0 → OnRun start d → RewindsTo (begun_by d - lines) d reached m

-- each command keeps the run, but for the one that types
abbrev pub Responds : Command → Debugger → Debugger → Type 0
Responds (command.Type text) d e = KeepsRunTyped (keys_of_text text.now) d e
Responds _ d e = KeepsRun d e
