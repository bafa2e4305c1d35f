-- What requests ask for.
use Rattle.std.specs.Prelude.{ℕ, ◌||◌, List, codes, Option, Some, None, option_map, if◌then◌else◌}
use Rattle.std.specs.Str.{bytes_eq}
use Rattle.tb_dap_values.specs.declared.requests.Command.{Command}
use Rattle.tb_dap_values.specs.declared.requests.Command.TheVariants as command
use Rattle.tb_dap_values.specs.declared.requests.Movement.{Movement}
use Rattle.tb_dap_values.specs.declared.requests.Movement.TheVariants as movement

-- a movement by its name
abbrev pub movement_of : List ℕ → Option Movement
movement_of name =
    if bytes_eq name (codes "continue") then Some movement.Continue
    else if bytes_eq name (codes "stepIn") then Some movement.StepIn
    else if bytes_eq name (codes "next") then Some movement.Next
    else if bytes_eq name (codes "stepOut") then Some movement.StepOut
    else if bytes_eq name (codes "stepBack") then Some movement.StepBack
    else if bytes_eq name (codes "reverseContinue") then Some movement.ReverseContinue
    else None

-- what a request asks for, by its name
abbrev pub command_of : List ℕ → Option Command
command_of name =
    if bytes_eq name (codes "initialize") then Some command.Initialize
    else if bytes_eq name (codes "launch") then Some command.Launch
    else if bytes_eq name (codes "configurationDone") then Some command.ConfigurationDone
    else if bytes_eq name (codes "disconnect") then Some command.Disconnect
    else if bytes_eq name (codes "terminate") then Some command.Terminate
    else if bytes_eq name (codes "pause") then Some command.Pause
    else if bytes_eq name (codes "setBreakpoints") then Some command.SetBreakpoints
    else if bytes_eq name (codes "dataBreakpointInfo") then Some command.DataBreakpointInfo
    else if bytes_eq name (codes "setDataBreakpoints") then Some command.SetDataBreakpoints
    else if bytes_eq name (codes "setExceptionBreakpoints") then Some command.SetExceptionBreakpoints
    else if bytes_eq name (codes "threads") then Some command.Threads
    else if bytes_eq name (codes "stackTrace") then Some command.StackTrace
    else if bytes_eq name (codes "scopes") then Some command.Scopes
    else if bytes_eq name (codes "variables") then Some command.Variables
    else if bytes_eq name (codes "evaluate") then Some command.Evaluate
    else if bytes_eq name (codes "readMemory") then Some command.ReadMemory
    else if bytes_eq name (codes "disassemble") then Some command.Disassemble
    else if bytes_eq name (codes "setVariable") || (bytes_eq name (codes "setExpression") || bytes_eq name (codes "writeMemory")) then Some command.Change
    else option_map (λ m. command.Move m) (movement_of name)
