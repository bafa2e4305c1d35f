-- What commands leave as it was.
use Rattle.std.specs.Prelude.{◌≡◌, ℕ, Bool, true, false, not, List, Option, Some, None}
use Rattle.tb_words.specs.declared.Letter.{Letter}
use Rattle.tb_words.specs.Letters.{letter_index}
use Rattle.tb_debug.specs.Breakpoints.{AreRising, AreSet, Turned, WatchTurned, breakpoints_of, watches_of, stops_at_faults}
use Rattle.tb_debug_commands.specs.declared.command.Command.{Command}
use Rattle.tb_debug_commands.specs.declared.command.Command.TheVariants as command
use Rattle.tb_debug.specs.Debuggees.{start_from}
use Rattle.tb_debug.specs.Kinds.{lacks_source}
use Rattle.tb_debug.specs.declared.debugger.Debugger.{Debugger}

-- a command that moves the run leaves breakpoints and watches
abbrev pub LeavesStops : Debugger → Debugger → Type 0
LeavesStops d e = e.stops ≡ d.stops

-- the breakpoint of a line of the program is turned, and nothing else changes: their order stays; a line that is none changes
-- nothing
abbrev pub TurnsBreakpoint : Option ℕ → ℕ → Debugger → Debugger → Type 0
TurnsBreakpoint (Some address) line d e =
    Turned line (breakpoints_of d.stops) (breakpoints_of e.stops) × (watches_of e.stops ≡ watches_of d.stops)
    × (stops_at_faults e.stops ≡ stops_at_faults d.stops)
    × (e ≡ record d { stops = e.stops }) × (AreRising (breakpoints_of d.stops) → AreRising (breakpoints_of e.stops))
TurnsBreakpoint None line d e = e ≡ d

-- the watch of a variable is turned, and nothing else changes
abbrev pub TurnsWatch : Letter → Debugger → Debugger → Type 0
TurnsWatch letter d e =
    WatchTurned (letter_index letter) (watches_of d.stops) (watches_of e.stops) × (breakpoints_of e.stops ≡ breakpoints_of d.stops)
    × (stops_at_faults e.stops ≡ stops_at_faults d.stops) × (e ≡ record d { stops = e.stops })

-- these lines have a breakpoint then, in rising order, and nothing else changes
abbrev pub SetsBreakpoints : List ℕ → Debugger → Debugger → Type 0
SetsBreakpoints lines d e =
    AreSet lines (breakpoints_of e.stops) × AreRising (breakpoints_of e.stops) × (watches_of e.stops ≡ watches_of d.stops)
    × (stops_at_faults e.stops ≡ stops_at_faults d.stops) × (e ≡ record d { stops = e.stops })

-- these variables are watched then, in this order, and nothing else changes
abbrev pub SetsWatches : List Letter → Debugger → Debugger → Type 0
SetsWatches letters d e =
    (watches_of e.stops ≡ letters) × (breakpoints_of e.stops ≡ breakpoints_of d.stops)
    × (stops_at_faults e.stops ≡ stops_at_faults d.stops) × (e ≡ record d { stops = e.stops })

-- faults stop `c` then, or no longer, and nothing else changes
abbrev pub TurnsFaults : Debugger → Debugger → Type 0
TurnsFaults d e =
    (stops_at_faults e.stops ≡ not (stops_at_faults d.stops)) × (breakpoints_of e.stops ≡ breakpoints_of d.stops)
    × (watches_of e.stops ≡ watches_of d.stops) × (e ≡ record d { stops = e.stops })

-- what is typed changes the keyboard's text alone: the run stays after as many events as before
pub record LeavesPoint (d e : Debugger) : Type 0 where
  pub events : e.present.events ≡ d.present.events
  pub stops : e.stops ≡ d.stops
  pub shown : e.shown ≡ d.shown

-- the way to a line leaves breakpoints and watches; a line that is none leaves all
abbrev pub LeavesToLine : Option ℕ → Debugger → Debugger → Type 0
LeavesToLine (Some address) d e = LeavesStops d e
LeavesToLine None d e = e ≡ d

-- what each command leaves that is answered: those that only tell leave all
abbrev pub LeavesAnswered : Command → Debugger → Debugger → Type 0
LeavesAnswered (command.Next lines) d e = LeavesStops d e
LeavesAnswered (command.Previous lines) d e = LeavesStops d e
LeavesAnswered command.Continue d e = LeavesStops d e
LeavesAnswered command.Over d e = LeavesStops d e
LeavesAnswered command.Finish d e = LeavesStops d e
LeavesAnswered command.ReverseContinue d e = LeavesStops d e
LeavesAnswered (command.ToTime time) d e = LeavesStops d e
LeavesAnswered (command.Step events) d e = LeavesStops d e
LeavesAnswered (command.ToLine line) d e = LeavesToLine (start_from d.debuggee line) d e
LeavesAnswered (command.Breakpoint line) d e = TurnsBreakpoint (start_from d.debuggee line) line d e
LeavesAnswered (command.Watch letter) d e = TurnsWatch letter d e
LeavesAnswered command.Faults d e = TurnsFaults d e
LeavesAnswered (command.Type text) d e = LeavesPoint d e
LeavesAnswered _ d e = e ≡ d

-- what each command leaves: what only a source answers leaves all if there is none
abbrev pub LeavesBy : Bool → Command → Debugger → Debugger → Type 0
LeavesBy true c d e = e ≡ d
LeavesBy false c d e = LeavesAnswered c d e

abbrev pub Leaves : Command → Debugger → Debugger → Type 0
Leaves c d e = LeavesBy (lacks_source c d) c d e
