-- Which commands move a run, and which only tell of it.
use Rattle.std.specs.Prelude.{◌≡◌, ℕ, Bool, true, false, ◌&&◌, Option, Some, None}
use Rattle.tb_debug_commands.specs.declared.command.Command.{Command}
use Rattle.tb_debug_commands.specs.declared.command.Command.TheVariants as command
use Rattle.tb_debug.specs.Begins.{StandsBy}
use Rattle.tb_debug.specs.Debuggees.{has_no_source, start_from}
use Rattle.tb_debug.specs.Leading.{Leads}
use Rattle.tb_debug.specs.declared.debugger.Debugger.{Debugger}
use Rattle.tb_debug.specs.declared.moment.Reached.{Reached}

-- a command that only a source answers
abbrev pub needs_source : Command → Bool
needs_source (command.Watch letter) = true
needs_source command.Faults = true
needs_source command.ListHere = true
needs_source (command.List line) = true
needs_source command.Variables = true
needs_source (command.Variable letter) = true
needs_source (command.Value text) = true
needs_source command.Returns = true
needs_source _ = false

-- a command that only a source answers, and there is none
abbrev pub lacks_source : Command → Debugger → Bool
lacks_source c d = needs_source c && has_no_source d.debuggee

-- a command that types nothing and isn't the end
abbrev pub IsAct : Command → Type 0
IsAct (command.Type text) = ⊥
IsAct command.Quit = ⊥
IsAct _ = Unit {0}

-- no line of the program has this number
abbrev pub IsMissing : ℕ → Debugger → Type 0
IsMissing line d = start_from d.debuggee line ≡ None

-- one has, and its code begins somewhere
abbrev pub IsFound : ℕ → Debugger → Type 0
IsFound line d = (address : ℕ) × (start_from d.debuggee line ≡ Some address)

-- a command that moves the run
abbrev pub IsWalk : Command → Debugger → Type 0
IsWalk (command.Next lines) d = Unit {0}
IsWalk (command.Previous lines) d = Unit {0}
IsWalk command.Continue d = Unit {0}
IsWalk command.Over d = Unit {0}
IsWalk command.Finish d = Unit {0}
IsWalk command.ReverseContinue d = Unit {0}
IsWalk (command.ToTime time) d = Unit {0}
IsWalk (command.Step events) d = Unit {0}
IsWalk (command.ToLine line) d = IsFound line d
IsWalk _ d = ⊥

-- a command that types nothing, isn't the end and doesn't move the run
abbrev pub IsTold : Command → Debugger → Type 0
IsTold (command.Next lines) d = ⊥
IsTold (command.Previous lines) d = ⊥
IsTold command.Continue d = ⊥
IsTold command.Over d = ⊥
IsTold command.Finish d = ⊥
IsTold command.ReverseContinue d = ⊥
IsTold (command.ToTime time) d = ⊥
IsTold (command.Step events) d = ⊥
IsTold (command.ToLine line) d = IsMissing line d
IsTold c d = IsAct c

-- such a command that needs no memory
abbrev pub IsShown : Command → Debugger → Type 0
IsShown command.Variables d = Unit {0}
IsShown (command.Variable letter) d = Unit {0}
IsShown command.ListHere d = Unit {0}
IsShown (command.List line) d = Unit {0}
IsShown command.Registers d = Unit {0}
IsShown command.Help d = Unit {0}
IsShown command.Unknown d = Unit {0}
IsShown (command.ToLine line) d = IsMissing line d
IsShown _ d = ⊥

-- a command led somewhere, nothing more was shown, and breakpoints and watches are the same; or it moves nothing
abbrev pub Walks : ℕ → Command → Debugger → Option Reached → Debugger → Type 0
Walks limit c d (Some reached) e =
    IsWalk c d × Leads limit c d reached e.present × StandsBy d.starts reached e.present × (e.shown ≡ d.shown) × (e.stops ≡ d.stops)
Walks limit c d None e = (IsAct c → IsTold c d) × (e ≡ d)
