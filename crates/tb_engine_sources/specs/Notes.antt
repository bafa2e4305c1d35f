-- What a machine tells at the end of a run.
use Rattle.std.specs.Prelude.{ℕ, ◌≡◌, List, ◌++◌, codes, Option, Some, None, option_map}
use Rattle.std.specs.Fmt.{decimal}
use Rattle.tb_memmap.specs.Bytes.{at}
use Rattle.tb_kernal.specs.Machine.{Content, state_of}
use Rattle.tb_kernal.specs.declared.status.Status.{Status}
use Rattle.tb_kernal.specs.declared.status.Status.TheVariants as machine
use Rattle.tb_compiled.specs.Compiled.{starts_of, table_of, warnings_of}
use Rattle.tb_compiled.specs.declared.compiled.Compiled.{Compiled}
use Rattle.tb_engine_sources.specs.Places.{line_of}
use Rattle.tb_engine_sources.specs.Faults.{fault_of, fault_note_text}
use Rattle.tb_engine_sources.specs.declared.notes.EndNote.{EndNote}
use Rattle.tb_engine_sources.specs.declared.notes.EndNote.TheVariants.{Running, Waits, Fault}
use Rattle.tb_engine_sources.specs.declared.notes.TheConstants.{MORE_EVENTS, PLAY}

-- what a machine tells, by how it stands: the line that it does, or the fault by which the program ended
abbrev pub end_note : Compiled → Status → Content → Option EndNote
end_note program machine.Running m = Some (Running (line_of (starts_of program) (table_of program) (state_of m)))
end_note program machine.Waits m = Some (Waits (line_of (starts_of program) (table_of program) (state_of m)))
end_note program machine.Returned m = option_map Fault (fault_of (warnings_of program) m.sent (at m.memory))
end_note program (machine.Wrong w) m = None

-- what is said of a note
abbrev pub note_text : EndNote → List ℕ
note_text (Running (Some line)) = codes "line " ++ (decimal line ++ codes " was begun last; --limit N allows more events")
note_text (Running None) = MORE_EVENTS.now
note_text (Waits (Some line)) = codes "line " ++ (decimal line ++ codes " waits; tbc play takes keys from the keyboard")
note_text (Waits None) = PLAY.now
note_text (Fault f) = fault_note_text f
