-- What a debugger shows at a line's beginning is what the source's interpreter has.
use Rattle.std.specs.Prelude.{◌≡◌, ◌<◌, ℕ, map, IfSome, Option, Some, None, slice_index}
use Rattle.std.specs.Int.{cast_signed, w16}
use Rattle.tb_memmap.specs.Regions.{BASIC_START}
use Rattle.tb_basic_meaning.specs.Control.{At, Past, Place}
use Rattle.tb_kernal.specs.Machine.{State, state_of}
use Rattle.tb_compiled_kept.specs.Keeps.{Starts}
use Rattle.tb_compiled_kept.specs.LineStarts.{BeginsLine, MarksLines}
use Rattle.tb_basic_syntax.specs.Source.{Program}
use Rattle.tb_compiled.specs.Compiled.{IsBuiltFrom, loaded_of, start_of}
use Rattle.tb_debug_inspection.specs.Readings.{value_in}
use Rattle.tb_debug.specs.Debuggees.{program_of, returns_from}
use Rattle.tb_compiled.specs.declared.compiled.Compiled.{Compiled}
use Rattle.tb_debug.specs.declared.rom.Rom.{Rom}
use Rattle.tb_debug.specs.declared.debugger.Debugger.{Debugger}
use Rattle.tb_debug.specs.Runs.{first_point}
use Rattle.tb_debug.specs.Debuggers.{OnRun}

-- a compiled program as a compiler makes it of a source program, with the option's first RND state
pub record IsMadeOf (source : Program) (seed : ℕ) (c : Compiled) : Type 0 where
  pub compiled : IsBuiltFrom source c
  pub marks : MarksLines BASIC_START (loaded_of c) source seed (start_of c)

-- a debugger on the run of a source program's code from a start, with a ROM
pub record Debugs (source : Program) (seed : ℕ) (start : State) (rom : Rom) (c : Compiled) (d : Debugger) : Type 0 where
  pub of : program_of d.debuggee ≡ Some c
  pub made : IsMadeOf source seed c
  pub starts : Starts BASIC_START (loaded_of c) start
  pub on : OnRun (first_point start rom) d

-- the line of a place of the source; none past the last one
abbrev pub line_of : Place → Option ℕ
line_of (At n) = Some n
line_of Past = None

-- The source goes on at this line after as many lines as the debugger has begun, just its output was sent, and what the
-- debugger shows is the source's: the variables, and the lines to return to.
pub record ShowsLine (source : Program) (seed : ℕ) (start : State) (c : Compiled) (d : Debugger) (line : ℕ) : Type 0 where
  pub begins : BeginsLine source seed (start_of c) start d.present.begun line (state_of d.present.machine)
  pub variables : (x : ℕ) → x < 26 → value_in (state_of d.present.machine).mem x ≡ cast_signed w16 (slice_index begins.state.vars x)
  pub returns : returns_from d.debuggee (state_of d.present.machine).mem ≡ map line_of begins.state.returns

-- if a compiler made the program, and the run is one from its start, the line that begins here shows its source
abbrev pub ShowsSource : Debugger → Option ℕ → Type 0
ShowsSource d here =
    (source : Program) (seed : ℕ) (start : State) (rom : Rom) (c : Compiled) → Debugs source seed start rom c d
    → IfSome here (λ line. ShowsLine source seed start c d line)
