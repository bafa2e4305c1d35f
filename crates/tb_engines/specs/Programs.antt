-- The run of a PRG file.
use Rattle.std.specs.Prelude.{ℕ, ◌≡◌, false, List, [], ◌∷◌, length, replicate, nat_eq, None, Result, Ok, Err, MatchResult, if◌then◌else◌}
use Rattle.tb_memmap.specs.Regions.{BASIC_START, CODE_START}
use Rattle.tb_cpu.specs.declared.registers.Regs.{Regs}
use Rattle.tb_memmap.specs.Bytes.{loaded, IsOpenRange}
use Rattle.tb_kernal.specs.declared.events.Event.{Event}
use Rattle.tb_kernal.specs.declared.machine.Keyboard.{Keyboard}
use Rattle.tb_kernal.specs.declared.status.Status.{Status}
use Rattle.tb_kernal.specs.declared.status.Status.TheVariants.{Running, Waits, Returned, Wrong}
use Rattle.tb_kernal.specs.Machine.{Content}
use Rattle.tb_kernal.specs.Runs.{RanOver}
use Rattle.tb_prg.specs.declared.PrgError.{PrgError}
use Rattle.tb_prg.specs.Prg.{content_of}
use Rattle.tb_basic_text.specs.declared.notation.Notation.{Notation}
use Rattle.tb_basic_text.specs.declared.notation.Notation.TheVariants.{Plain}
use Rattle.tb_engine_streams.specs.HostForm.{shown_as}
use Rattle.tb_engines.specs.Outcomes.{Product}
use Rattle.tb_engines.specs.declared.outcome.End.{End}
use Rattle.tb_engines.specs.declared.outcome.End.TheVariants.{Done, StepLimit, WaitsForKey, WentWrong}
use Rattle.tb_engines.specs.declared.delivery.NoText.{NoText}
use Rattle.tb_engines.specs.declared.delivery.NoText.TheVariants.{Refused, NoMemory}
use Rattle.tb_engines.specs.declared.outcome.Refusal.TheVariants.{Prg, NotRam}

-- a program at $0801 begins after its BASIC line, any other at its first byte
abbrev pub first_pc : ℕ → ℕ
first_pc at = if nat_eq at BASIC_START then CODE_START else at

-- the registers with which a program at an address starts: PC at its first instruction, S $F0, the rest 0 or clear
abbrev pub start_regs : ℕ → Regs
start_regs at =
    record {
      a = 0;
      x = 0;
      y = 0;
      s = 0xf0;
      pc = first_pc at;
      flags = record { n = false; v = false; d = false; i = false; z = false; c = false };
    }

-- zero bytes, the program, and above S the return address, so that the program returns to $A100
abbrev pub start_memory : ℕ → List ℕ → List ℕ
start_memory at bytes = loaded (loaded (replicate 65536 0) at bytes) 0x01f1 (0xff ∷ 0xa0 ∷ [])

-- the start machine of a program at an address, with a keyboard text and answers; the program returns to $A100
abbrev pub start : ℕ → List ℕ → List ℕ → List ℕ → Content
start at bytes text answers =
    record {
      regs = start_regs at;
      memory = start_memory at bytes;
      all_text = text;
      text_taken = 0;
      all_answers = answers;
      answers_taken = 0;
      sent = [];
      room = 0;
      wrong = None;
      home = 0xa100;
      home_s = 0xf2;
    }

-- how a run ends, by the machine's status and its program counter
abbrev pub end_of : Status → ℕ → End
end_of Returned pc = Done
end_of Waits pc = WaitsForKey
end_of Running pc = StepLimit
end_of (Wrong w) pc = WentWrong w pc

-- what the machine sent on a run of at most `limit` events that an outside gave it, as a notation shows it
abbrev pub Runs : {O : Type 0} → (O → Content → Event → O → Type 0) → O → Content → ℕ → Notation
    → List ℕ × End → Type 0
Runs gives o m limit notation shown =
    (t : Status) × (p : _) × (n : Content)
    × RanOver gives o m limit (Ok t) p n
    × (shown ≡ (shown_as notation n.sent, end_of t n.regs.pc))

-- what a run is given: an outside, and what it gives; a keyboard's text and answers; the most events that it may take; how
-- what it sends is shown
pub record Settings (O : Type 0) : Type 1 where
  pub gives : O → Content → Event → O → Type 0
  pub outside : O
  pub text : List ℕ
  pub answers : List ℕ
  pub limit : ℕ
  pub notation : Notation

-- the settings that an engine is called with
abbrev pub settings_of : {O : Type 0} → (O → Content → Event → O → Type 0) → O → Keyboard → ℕ → Notation → Settings O
settings_of gives outside keyboard limit notation =
    record { gives = gives; outside = outside; text = keyboard.text.items; answers = keyboard.answers.items; limit = limit; notation = notation }

-- the settings that an engine which shows the host form is called with
abbrev pub plain_settings_of : {O : Type 0} → (O → Content → Event → O → Type 0) → O → Keyboard → ℕ → Settings O
plain_settings_of gives outside keyboard limit = settings_of gives outside keyboard limit Plain

-- what comes of a program at an address: a run, if all of it lies in RAM
abbrev pub RunsAt : {O : Type 0} → Settings O → ℕ → List ℕ → Product → Type 0
RunsAt s at bytes (Ok shown) =
    IsOpenRange at (length bytes) × Runs s.gives s.outside (start at bytes s.text s.answers) s.limit s.notation shown
RunsAt s at bytes (Err e) = (e ≡ NotRam) × ¬ (IsOpenRange at (length bytes))

-- what comes of the load address and the bytes of a PRG file, or of a file that is no PRG file
abbrev pub RunsContent : {O : Type 0} → Settings O → Result (ℕ × List ℕ) PrgError → Product → Type 0
RunsContent s (Ok p) product = RunsAt s p.0 p.1 product
RunsContent s (Err e) product = product ≡ Err (Prg e)

-- what comes of a PRG file: its run from the start machine, or why there is none
abbrev pub RunsPrg : {O : Type 0} → Settings O → List ℕ → Product → Type 0
RunsPrg s file product = RunsContent s (content_of file) product

-- why a program is not loaded: it does not lie in RAM, or memory ran out
abbrev pub IsUnloadable : ℕ → List ℕ → NoText → Type 0
IsUnloadable at bytes (Refused e) = (e ≡ NotRam) × ¬ (IsOpenRange at (length bytes))
IsUnloadable at bytes NoMemory = Unit {0}

-- what starting the content of a PRG file answers: its start machine, where all of it lies in RAM, or why there is none
abbrev pub StartsContent : List ℕ → List ℕ → Result (ℕ × List ℕ) PrgError → Result Content NoText → Type 0
StartsContent text answers (Ok p) result =
    MatchResult result (λ m. IsOpenRange p.0 (length p.1) × (m ≡ start p.0 p.1 text answers)) (IsUnloadable p.0 p.1)
StartsContent text answers (Err e) result = MatchResult result (λ m. ⊥) (λ stop. stop ≡ Refused (Prg e))

-- what starting a PRG file answers, with a keyboard text and answers
abbrev pub StartsPrg : List ℕ → List ℕ → List ℕ → Result Content NoText → Type 0
StartsPrg text answers file result = StartsContent text answers (content_of file) result

-- what comes of a machine that was started: a run
abbrev pub RunsOn : {O : Type 0} → (O → Content → Event → O → Type 0) → O → Content → ℕ → Notation → Product → Type 0
RunsOn gives o m limit notation (Ok shown) = Runs gives o m limit notation shown
RunsOn gives o m limit notation (Err e) = ⊥
