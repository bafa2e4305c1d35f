-- What the debugger is told, and what it writes.
use Rattle.std.specs.Prelude.{ℕ, ◌≡◌, ◌⊎◌, Bool, true, false, List, [], ◌∷◌, ◌++◌, codes, length, Option, Some, None, option_map, Result, Ok, Err}
use Rattle.std.specs.declared.alloc.Global.{Global}
use Rattle.std.specs.declared.vec.Vec.{Vec}
use Rattle.tb_kernal.specs.Machine.{State, state_of}
use Rattle.tb_kernal.specs.declared.machine.Keyboard.{Keyboard}
use Rattle.tb_engine_streams.specs.Lines.{without_return}
use Rattle.tb_prg.specs.Prg.{content_of}
use Rattle.tb_engines.specs.Programs.{StartsPrg, start}
use Rattle.tb_engines.specs.declared.delivery.NoText.TheVariants.{Refused as CantLoad}
use Rattle.tb_engines.specs.declared.outcome.End.TheVariants.{Done}
use Rattle.tb_engines.specs.Outcomes.{Outcome}
use Rattle.tb_engines.specs.declared.outcome.Refusal.{Refusal}
use Rattle.tb_engine_streams.specs.declared.outcome.Outcome.TheVariants.{Ended, Refused, ReadFault, WriteFault, NoMemory}
use Rattle.tb_engine_play.specs.Lines.{TakesLines}
use Rattle.tb_compiled.specs.Compiled.{prg_of}
use Rattle.tb_compiled.specs.declared.compiled.Compiled.{Compiled}
use Rattle.tb_debug_commands.specs.Commands.{Asked, asked_after, asked_of, asked_without_source, last_move}
use Rattle.tb_debug_commands.specs.declared.command.Command.{Command}
use Rattle.tb_debug.specs.Debuggees.{has_no_source, program_of}
use Rattle.tb_debug.specs.Debuggers.{IsAtStart, IsOpening, KeepsRun, OnRun, Responds}
use Rattle.tb_debug.specs.Sources as sources
use Rattle.tb_debug.specs.Sources.{IsMadeOf}
use Rattle.tb_basic_syntax.specs.Source.{Program}
use Rattle.tb_debug.specs.Runs.{first_point}
use Rattle.tb_debug.specs.Telling.{Tells, TellsStop}
use Rattle.tb_debug.specs.declared.answer.Answer.{Answer}
use Rattle.tb_debug.specs.declared.rom.Rom.{Rom}
use Rattle.tb_debug.specs.declared.debugger.Debugger.{Debugger}
use Rattle.tb_debug.specs.Kinds.{IsWalk}
use Rattle.tb_debug.specs.Leaving.{Leaves}
use Rattle.tb_debug_engine.specs.declared.dialogue.Dialogue.{Dialogue}
use Rattle.tb_debug_engine.specs.declared.dialogue.Setting.{Setting}
use Rattle.tb_debug_engine.specs.Labels.{translated}
use Rattle.tb_debug_engine.specs.Sources.{AreWritten, IsUnwritten, labels_of, shown_of}
use Rattle.tb_debug_engine.specs.Streams.{Stream, Streams, Takes, TakesNone, TakesSome, FailsToTake, Writes, WritesNone, FailsToWrite}
use Rattle.tb_assembly_labels.specs.declared.labels.Label.{Label}
use Rattle.tb_engine_sources.specs.declared.reading.CompiledSource.{CompiledSource}
use Rattle.tb_debug_engine.specs.declared.sources.Written.{Written}

-- ---- one line

-- the move that an empty line repeats
abbrev pub repeated : Dialogue → Option Asked
repeated d = option_map asked_of d.last

-- what a line asks for after a move; without a source a place may be an address
abbrev pub spelled_by : Bool → Option Asked → List ℕ → Asked
spelled_by true last line = asked_without_source last line
spelled_by false last line = asked_after last line

-- a line is answered: what it asks for after the last move, with addresses in place of labels' names, is done, by at most
-- `limit` events if it goes on, and this is told,
-- or nothing if it ends the dialogue; what is sent since a stop is told with the next one, and what it doesn't ask for stays;
-- if it moves the run, it is the last move then
pub record Answers (w : Written) (limit : ℕ) (d : Dialogue) (line : List ℕ) (told : Option Answer) (e : Dialogue) : Type 0 where
  pub command : Command
  pub spelled : asked_of command ≡ spelled_by (has_no_source d.debugger.debuggee) (repeated d) (translated (labels_of w) (without_return line))
  pub run : Responds command d.debugger e.debugger
  pub tells : Tells limit command d.debugger e.debugger told
  pub shown : ¬ (IsWalk command d.debugger) → e.debugger.shown ≡ d.debugger.shown
  pub leaves : Leaves command d.debugger e.debugger
  pub moved : repeated e ≡ last_move (repeated d) (asked_of command)

-- what is shown before a line that is typed at a terminal
abbrev pub prompt : Bool → List ℕ
prompt true = codes "> "
prompt false = []

-- what a line of commands comes to after the prompt, before it is answered
abbrev pub Asks : Bool → Result (Option (Vec ℕ Global)) Outcome → Streams → Streams → Type 0
Asks prompts (Ok (Some line)) old new = Takes line.items old.commands new.commands × Writes (prompt prompts) old.answers new.answers
Asks prompts (Ok None) old new = TakesNone old.commands new.commands × Writes (prompt prompts) old.answers new.answers
Asks prompts (Err ReadFault) old new = FailsToTake old.commands new.commands × Writes (prompt prompts) old.answers new.answers
Asks prompts (Err WriteFault) old new = (new.commands ≡ old.commands) × FailsToWrite (prompt prompts) old.answers new.answers
Asks prompts (Err NoMemory) old new = TakesSome old.commands new.commands × Writes (prompt prompts) old.answers new.answers
Asks prompts (Err (Ended end)) old new = ⊥
Asks prompts (Err (Refused why)) old new = ⊥

-- the text of an answer, after the prompt
abbrev pub answer_text : Written → Setting → Answer → List ℕ
answer_text w setting told = prompt setting.prompts ++ shown_of setting.prompts w told

-- a line is taken, and answered
abbrev pub Exchanged : Written → Setting → Dialogue → Answer → Dialogue → Stream → Stream → Type 0
Exchanged w setting d told e old new = (line : List ℕ) × Takes line old new × Answers w setting.limit d line (Some told) e

-- no line is left, or one is taken that ends the dialogue
abbrev pub Closes : Written → Setting → Dialogue → Stream → Stream → Type 0
Closes w setting d old new = TakesNone old new ⊎ ((line : List ℕ) × (e : Dialogue) × Takes line old new × Answers w setting.limit d line None e)

-- what the next line comes to: whether the dialogue goes on; the answer is written after the prompt
abbrev pub Exchanges : Written → Setting → Dialogue → Result Bool Outcome → Dialogue → Streams → Streams → Type 0
Exchanges w setting d (Ok true) e old new =
    (told : Answer) × Exchanged w setting d told e old.commands new.commands × Writes (answer_text w setting told) old.answers new.answers
Exchanges w setting d (Ok false) e old new =
    Closes w setting d old.commands new.commands × Writes (prompt setting.prompts) old.answers new.answers
Exchanges w setting d (Err ReadFault) e old new =
    FailsToTake old.commands new.commands × Writes (prompt setting.prompts) old.answers new.answers
Exchanges w setting d (Err WriteFault) e old new =
    ((new.commands ≡ old.commands) × FailsToWrite (prompt setting.prompts) old.answers new.answers)
    ⊎ ((told : Answer) × Exchanged w setting d told e old.commands new.commands
    × FailsToWrite (answer_text w setting told) old.answers new.answers)
Exchanges w setting d (Err NoMemory) e old new =
    TakesSome old.commands new.commands × Writes (prompt setting.prompts) old.answers new.answers
Exchanges w setting d (Err (Ended end)) e old new = ⊥
Exchanges w setting d (Err (Refused why)) e old new = ⊥

-- ---- the dialogue

-- lines are answered one after the other, with this text
abbrev pub Talked : Written → Setting → Dialogue → List (List ℕ) → List ℕ → Dialogue → Type 0
Talked w setting d [] text e = (text ≡ []) × (e ≡ d)
Talked w setting d (line ∷ lines) text e =
    (told : Answer) × (b : Dialogue) × (more : List ℕ) × Answers w setting.limit d line (Some told) b × Talked w setting b lines more e
    × (text ≡ answer_text w setting told ++ more)

-- lines were answered, each before the next one was taken: the text of their answers is written, and what was
-- not taken is left
pub record HasAnswered (w : Written) (setting : Setting) (d : Dialogue) (lines : List (List ℕ)) (e : Dialogue) (old new : Streams)
    : Type 0 where
  pub text : List ℕ
  pub talked : Talked w setting d lines text e
  pub taken : TakesLines old.commands.bytes lines new.commands.bytes
  pub sound : new.commands.failures ≡ old.commands.failures
  pub written : Writes text old.answers new.answers

-- how many lines are taken at most
abbrev pub most_lines : ℕ
most_lines = 18446744073709551615

-- how a dialogue ends after `count` lines
abbrev pub Ends : Written → Setting → ℕ → Dialogue → Outcome → Streams → Streams → Type 0
Ends w setting count d (Ended end) old new =
    (end ≡ Done) × (((e : Dialogue) × Exchanges w setting d (Ok false) e old new) ⊎ ((count ≡ most_lines) × (new ≡ old)))
Ends w setting count d ReadFault old new = (e : Dialogue) × Exchanges w setting d (Err ReadFault) e old new
Ends w setting count d WriteFault old new = (e : Dialogue) × Exchanges w setting d (Err WriteFault) e old new
Ends w setting count d NoMemory old new = (e : Dialogue) × Exchanges w setting d (Err NoMemory) e old new
Ends w setting count d (Refused why) old new = ⊥

-- a dialogue that goes on and ends so
pub record Talks (w : Written) (setting : Setting) (d : Dialogue) (outcome : Outcome) (old new : Streams) : Type 0 where
  pub lines : List (List ℕ)
  pub last : Dialogue
  pub mid : Streams
  pub answered : HasAnswered w setting d lines last old mid
  pub ends : Ends w setting (length lines) last outcome mid new

-- ---- its beginning

-- the machine that `run` starts for bytes at an address, with a keyboard
abbrev pub started : ℕ → List ℕ → Keyboard → State
started at bytes keyboard = state_of (start at bytes keyboard.text.items keyboard.answers.items)

-- a debugger of a program at the first line of its run from the machine that `run` starts, with this keyboard, with a ROM.
-- At each line's beginning to which its commands lead, a program that a compiler made shows its source: `line_here` says what.
pub record IsBegun (program : Compiled) (keyboard : Keyboard) (rom : Rom) (d : Debugger) : Type 0 where
  pub of : program_of d.debuggee ≡ Some program
  pub at : ℕ
  pub bytes : List ℕ
  pub content : content_of (prg_of program) ≡ Ok (at, bytes)
  pub on : OnRun (first_point (started at bytes keyboard) rom) d
  pub opens : IsOpening (first_point (started at bytes keyboard) rom) d
  pub shows : (source : Program) (seed : ℕ) → IsMadeOf source seed program → sources.Debugs source seed (started at bytes keyboard) rom program d

-- why a program is not debugged: its machine can't be started, as that of any program that a compiler made can
pub record IsBarred (program : Compiled) (keyboard : Keyboard) (why : Refusal) : Type 0 where
  pub unloadable : StartsPrg keyboard.text.items keyboard.answers.items (prg_of program) (Err (CantLoad why))
  pub unmade : (source : Program) (seed : ℕ) → ¬ (IsMadeOf source seed program)

-- the debugger of a source at its beginning, or why there is none
abbrev pub Begins : Compiled → Keyboard → Rom → Result Debugger Outcome → Type 0
Begins program keyboard rom (Ok d) = IsBegun program keyboard rom d
Begins program keyboard rom (Err (Refused why)) = IsBarred program keyboard why
Begins program keyboard rom (Err NoMemory) = Unit {0}
Begins program keyboard rom (Err ReadFault) = ⊥
Begins program keyboard rom (Err WriteFault) = ⊥
Begins program keyboard rom (Err (Ended end)) = ⊥

-- the first stop, at which a debugger is
pub record IsFirst (d : Debugger) (told : Answer) (e : Debugger) : Type 0 where
  pub run : KeepsRun d e
  pub stays : e.present ≡ d.present
  pub stop : TellsStop d.shown false e told

-- what telling the first stop answers
abbrev pub Opens : Written → Setting → Debugger → Result (Unit {0}) Outcome → Debugger → Stream → Stream → Type 0
Opens w setting d (Ok done) e old new = (told : Answer) × IsFirst d told e × Writes (shown_of setting.prompts w told) old new
Opens w setting d (Err WriteFault) e old new =
    (told : Answer) × IsFirst d told e × FailsToWrite (shown_of setting.prompts w told) old new
Opens w setting d (Err NoMemory) e old new = WritesNone old new
Opens w setting d (Err ReadFault) e old new = ⊥
Opens w setting d (Err (Ended end)) e old new = ⊥
Opens w setting d (Err (Refused why)) e old new = ⊥

-- ---- the whole

-- the lines of a source, and its debugger at the beginning
pub record AreReady (s : CompiledSource) (keyboard : Keyboard) (rom : Rom) (w : Written) (d : Debugger) : Type 0 where
  pub written : AreWritten s w
  pub begun : IsBegun s.program keyboard rom d

-- nothing is done if there is no debugger
abbrev pub DoesNothing : Compiled → Keyboard → Outcome → Streams → Streams → Type 0
DoesNothing program keyboard outcome old new =
    ((outcome ≡ NoMemory) ⊎ ((why : Refusal) × (outcome ≡ Refused why) × IsBarred program keyboard why)) × (new ≡ old)

-- the first stop can't be told
abbrev pub FailsToOpen : Written → Setting → Debugger → Outcome → Streams → Streams → Type 0
FailsToOpen w setting d outcome old new =
    (e : Debugger) × Opens w setting d (Err outcome) e old.answers new.answers × (new.commands ≡ old.commands)

-- a dialogue before its first line, with a debugger
abbrev pub unbegun : Debugger → Dialogue
unbegun d = record { debugger = d; last = None }

-- the first stop is told, and then lines are answered
abbrev pub OpensAndTalks : Written → Setting → Debugger → Outcome → Streams → Streams → Type 0
OpensAndTalks w setting d outcome old new =
    (e : Debugger) × (told : Answer) × (mid : Stream) × IsFirst d told e × Writes (shown_of setting.prompts w told) old.answers mid
    × Talks w setting (unbegun e) outcome (record old { answers = mid }) new

-- a debugger is there: its first stop is told or not, and then lines are answered
abbrev pub Converses : Written → Setting → Debugger → Outcome → Streams → Streams → Type 0
Converses w setting d outcome old new = FailsToOpen w setting d outcome old new ⊎ OpensAndTalks w setting d outcome old new

-- what debugging a source comes to
abbrev pub Debugs : CompiledSource → Keyboard → Setting → Outcome → Streams → Streams → Type 0
Debugs s keyboard setting outcome old new =
    DoesNothing s.program keyboard outcome old new
    ⊎ ((w : Written) × (d : Debugger) × AreReady s keyboard setting.rom w d × Converses w setting d outcome old new)

-- ---- without a source

-- a debugger of a PRG file at the first instruction of its run from the machine that `run` starts, with this keyboard, with a
-- ROM
pub record IsBegunPrg (file : List ℕ) (keyboard : Keyboard) (rom : Rom) (d : Debugger) : Type 0 where
  pub of : has_no_source d.debuggee ≡ true
  pub at : ℕ
  pub bytes : List ℕ
  pub content : content_of file ≡ Ok (at, bytes)
  pub on : OnRun (first_point (started at bytes keyboard) rom) d
  pub start : IsAtStart d

-- a PRG file whose machine can't be started
abbrev pub IsUnloadable : List ℕ → Keyboard → Refusal → Type 0
IsUnloadable file keyboard why = StartsPrg keyboard.text.items keyboard.answers.items file (Err (CantLoad why))

-- the debugger of a PRG file at its beginning, or why there is none
abbrev pub BeginsPrg : List ℕ → Keyboard → Rom → Result Debugger Outcome → Type 0
BeginsPrg file keyboard rom (Ok d) = IsBegunPrg file keyboard rom d
BeginsPrg file keyboard rom (Err (Refused why)) = IsUnloadable file keyboard why
BeginsPrg file keyboard rom (Err NoMemory) = Unit {0}
BeginsPrg file keyboard rom (Err ReadFault) = ⊥
BeginsPrg file keyboard rom (Err WriteFault) = ⊥
BeginsPrg file keyboard rom (Err (Ended end)) = ⊥

-- nothing is done if there is no debugger
abbrev pub LeavesPrg : List ℕ → Keyboard → Outcome → Streams → Streams → Type 0
LeavesPrg file keyboard outcome old new =
    ((outcome ≡ NoMemory) ⊎ ((why : Refusal) × (outcome ≡ Refused why) × IsUnloadable file keyboard why)) × (new ≡ old)

-- what debugging a PRG file comes to: its answers tell of no source, and its addresses have the names of labels
abbrev pub DebugsPrg : List ℕ → List Label → Keyboard → Setting → Outcome → Streams → Streams → Type 0
DebugsPrg file labels keyboard setting outcome old new =
    LeavesPrg file keyboard outcome old new
    ⊎ ((w : Written) × (d : Debugger) × IsUnwritten labels w × IsBegunPrg file keyboard setting.rom d × Converses w setting d outcome old new)

-- what writing a text answers
abbrev pub Says : List ℕ → Result (Unit {0}) Outcome → Stream → Stream → Type 0
Says text (Ok done) old new = Writes text old new
Says text (Err WriteFault) old new = FailsToWrite text old new
Says text (Err NoMemory) old new = WritesNone old new
Says text (Err ReadFault) old new = ⊥
Says text (Err (Ended end)) old new = ⊥
Says text (Err (Refused why)) old new = ⊥
