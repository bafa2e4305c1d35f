-- The beginning of a dialogue.
use Rattle.std.proofs.Common.{◌≡◌, ◌+◌, ◌≤◌, Bool, true, false, List, [], length, ℕ, refl, sym, ap, subst, ◌∙◌}
use Rattle.std.specs.Prelude.{Result, Ok, Err, Some}
use Rattle.tb_memmap.specs.Regions.{BASIC_START}
use Rattle.tb_kernal.specs.Machine.{Content, state_of, status}
use Rattle.tb_kernal.specs.declared.machine.Keyboard.{Keyboard}
use Rattle.tb_kernal.specs.declared.status.Status.{Status}
use Rattle.tb_kernal.specs.declared.status.Status.TheVariants.{Returned, Running, Waits, Wrong}
use Rattle.tb_prg.specs.Prg.{content_of}
use Rattle.tb_opcodes.specs.Bytes.{AreBytes}
use Rattle.tb_basic_syntax.specs.Source.{Program}
use Rattle.tb_compiled_kept.specs.Keeps.{Starts}
use Rattle.tb_prg.specs.declared.PrgError.{PrgError}
use Rattle.tb_engines.specs.Programs.{StartsContent, StartsPrg, start}
use Rattle.tb_engines.specs.Delivery.{outcome_without}
use Rattle.tb_engines.specs.declared.delivery.NoText.{NoText}
use Rattle.tb_engines.specs.declared.delivery.NoText.TheVariants.{NoMemory as NoMachine, Refused as CantLoad}
use Rattle.tb_engine_sources.proofs.Loadable.{machine_at_start, starts_loadable}
use Rattle.tb_engine_sources.proofs.Output.{bytes_behind, compiled_loads, in_ram, starts}
use Rattle.tb_engines.specs.Outcomes.{Outcome}
use Rattle.tb_engine_streams.specs.declared.outcome.Outcome.TheVariants.{Ended, Refused, ReadFault, WriteFault, NoMemory}
use Rattle.tb_compiled.specs.Compiled.{loaded_of, prg_of}
use Rattle.tb_compiled.specs.declared.compiled.Compiled.{Compiled}
use Rattle.tb_debug.specs.Begins.{standing_by, standing_of}
use Rattle.tb_debug.specs.Debuggees.{has_no_source, program_of}
use Rattle.tb_debug.specs.Debuggers.{IsAtStart, IsOpening, KeepsRun, OnRun}
use Rattle.tb_debug.specs.Sources as sources
use Rattle.tb_debug.specs.Sources.{IsMadeOf}
use Rattle.tb_debug.specs.Runs.{first_point, is_marked}
use Rattle.tb_debug.specs.Telling.{TellsStop, is_limit}
use Rattle.tb_debug.specs.declared.moment.Reached.{Reached}
use Rattle.tb_debug.specs.declared.answer.Answer.{Answer}
use Rattle.tb_debug.specs.declared.rom.Rom.{Rom}
use Rattle.tb_debug.specs.declared.debugger.Debugger.{Debugger}
use Rattle.tb_debug_engine.specs.Dialogue.{Begins, BeginsPrg, IsBegun, IsBegunPrg, IsFirst, IsUnloadable, Opens, Says}
use Rattle.tb_debug_engine.specs.Sources.{shown_of}
use Rattle.tb_debug_engine.specs.declared.dialogue.Setting.{Setting}
use Rattle.tb_debug_engine.specs.Streams.{Stream}
use Rattle.tb_debug_engine.specs.declared.sources.Written.{Written}

-- a program that a compiler made is loaded at $0801, below $A000
loads : (source : Program) (seed : ℕ) (c : Compiled) → IsMadeOf source seed c
    → (content_of (prg_of c) ≡ Ok (BASIC_START, loaded_of c)) × (BASIC_START + length (loaded_of c) ≤ 0xa000)
loads source seed c made = compiled_loads c source made.compiled

-- the machine that `run` starts for it is one from which its line starts are known
shows_so : (c : Compiled) (text answers : List ℕ) (rom : Rom) (at : ℕ) (bytes : List ℕ) (d : Debugger) → content_of (prg_of c) ≡ Ok (at, bytes)
    → program_of d.debuggee ≡ Some c → OnRun (first_point (state_of (start at bytes text answers)) rom) d → AreBytes (prg_of c) → AreBytes text → AreBytes answers
    → (source : Program) (seed : ℕ) → IsMadeOf source seed c → sources.Debugs source seed (state_of (start at bytes text answers)) rom c d
shows_so c text answers rom at bytes d content of on file keys polls source seed made =
    let whole = loads source seed c made in
    let same : start at bytes text answers ≡ start BASIC_START (loaded_of c) text answers =
    machine_at_start text answers c at bytes (start at bytes text answers) (whole.0, in_ram (length (loaded_of c)) whole.1) content refl in
    let begun = starts (loaded_of c) text answers whole.1 (bytes_behind (prg_of c) file) keys polls in
    record {
      of = of;
      made = made;
      starts = subst (λ m. Starts BASIC_START (loaded_of c) (state_of m)) (sym same) begun;
      on = on;
    }

module _ (program : Compiled) (keyboard : Keyboard) (rom : Rom) where
  -- a debugger on the run of a program's file
  pub begun : (content : Result (ℕ × List ℕ) PrgError) (m : Content) (d : Debugger) → content_of (prg_of program) ≡ content
      → StartsContent keyboard.text.items keyboard.answers.items content (Ok m) → program_of d.debuggee ≡ Some program → OnRun (first_point (state_of m) rom) d
      → IsOpening (first_point (state_of m) rom) d → AreBytes (prg_of program) → AreBytes keyboard.text.items
      → AreBytes keyboard.answers.items → IsBegun program keyboard rom d
  begun (Err e) m d content none of on opens small keys polls = absurd none
  begun (Ok (at, bytes)) m d content (in_ram, machine) of on opens small keys polls =
      let here = subst (λ x. OnRun (first_point (state_of x) rom) d) machine on in
      record {
        of = of;
        at = at;
        bytes = bytes;
        content = content;
        on = here;
        opens = subst (λ x. IsOpening (first_point (state_of x) rom) d) machine opens;
        shows = shows_so program keyboard.text.items keyboard.answers.items rom at bytes d content of here small keys polls;
      }

  -- a program that can't be loaded is none that `compile` made
  pub not_begun : (stop : NoText) (outcome : Outcome) → outcome ≡ outcome_without stop → StartsPrg keyboard.text.items keyboard.answers.items (prg_of program) (Err stop)
      → Begins program keyboard rom (Err outcome)
  not_begun stop outcome is unloadable = subst (λ o. Begins program keyboard rom (Err o)) (sym is) (by stop unloadable)
    where
      by : (stop : NoText) → StartsPrg keyboard.text.items keyboard.answers.items (prg_of program) (Err stop) → Begins program keyboard rom (Err (outcome_without stop))
      by (CantLoad why) unloadable = record {
        unloadable = unloadable;
        unmade = λ source seed made.
            let whole = loads source seed program made in
            starts_loadable keyboard.text.items keyboard.answers.items program (Err (CantLoad why)) unloadable (whole.0, in_ram (length (loaded_of program)) whole.1);
      }
      by NoMachine unloadable = tt

-- a debugger on the run of a PRG file
pub begun_prg : (file : List ℕ) (keyboard : Keyboard) (rom : Rom) (content : Result (ℕ × List ℕ) PrgError) (m : Content) (d : Debugger) → content_of file ≡ content
    → StartsContent keyboard.text.items keyboard.answers.items content (Ok m) → has_no_source d.debuggee ≡ true → OnRun (first_point (state_of m) rom) d
    → IsAtStart d → IsBegunPrg file keyboard rom d
begun_prg file keyboard rom (Err e) m d content none of on start = absurd none
begun_prg file keyboard rom (Ok (at, bytes)) m d content (in_ram, machine) of on start =
    record { of = of; at = at; bytes = bytes; content = content; on = subst (λ x. OnRun (first_point (state_of x) rom) d) machine on; start = start }

-- a PRG file that can't be loaded
pub not_begun_prg : (file : List ℕ) (keyboard : Keyboard) (rom : Rom) (stop : NoText) (outcome : Outcome) → outcome ≡ outcome_without stop
    → StartsPrg keyboard.text.items keyboard.answers.items file (Err stop) → BeginsPrg file keyboard rom (Err outcome)
not_begun_prg file keyboard rom stop outcome is unloadable = subst (λ o. BeginsPrg file keyboard rom (Err o)) (sym is) (by stop unloadable)
  where
    by : (stop : NoText) → StartsPrg keyboard.text.items keyboard.answers.items file (Err stop) → BeginsPrg file keyboard rom (Err (outcome_without stop))
    by (CantLoad why) unloadable = unloadable
    by NoMachine unloadable = tt

-- a debugger that only looks how it stands stops at no limit
unlimited : (why : Status) (begins : Bool) → is_limit (standing_by why begins) ≡ false
unlimited Running true = refl
unlimited Running false = refl
unlimited Waits begins = refl
unlimited Returned begins = refl
unlimited (Wrong w) begins = refl

-- the first stop is told: nothing moves, and no limit ended it
pub first_told : (d e : Debugger) (told : Answer) (reached : Reached) → reached ≡ standing_of d.starts d.present → KeepsRun d e
    → e ≡ record d { shown = length d.present.machine.sent } → TellsStop d.shown (is_limit reached) e told → IsFirst d told e
first_told d e told reached stands run stays stop =
    let none : is_limit reached ≡ false = ap is_limit stands ∙ unlimited (status (state_of d.present.machine)) (is_marked d.starts d.present.machine.regs.pc) in
    record { run = run; stays = ap (λ x. x.present) stays; stop = subst (λ b. TellsStop d.shown b e told) none stop }

-- telling the first stop
pub opened : (w : Written) (setting : Setting) (d e : Debugger) (told : Answer) (result : Result (Unit {0}) Outcome) (old new : Stream) → IsFirst d told e
    → Says (shown_of setting.prompts w told) result old new → Opens w setting d result e old new
opened w setting d e told (Ok done) old new first said = (told, first, said)
opened w setting d e told (Err WriteFault) old new first said = (told, first, said)
opened w setting d e told (Err NoMemory) old new first said = said
opened w setting d e told (Err ReadFault) old new first h = absurd h
opened w setting d e told (Err (Ended end)) old new first h = absurd h
opened w setting d e told (Err (Refused why)) old new first h = absurd h
