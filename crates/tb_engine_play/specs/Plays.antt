-- Playing a PRG file.
use Rattle.std.specs.Prelude.{ℕ, ◌≡◌, ◌⊎◌, List, [], length, Option, None, Some, Result, Ok, Err}
use Rattle.std.specs.Io.KnownBytes.{Appends, Keeps}
use Rattle.tb_memmap.specs.Bytes.{IsOpenRange}
use Rattle.tb_kernal.specs.Machine.{Content}
use Rattle.tb_prg.specs.Prg.{content_of}
use Rattle.tb_kernal.specs.declared.outside.Quiet.{Quiet}
use Rattle.tb_engine_streams.specs.Streams.{AppendsPrefix}
use Rattle.std.specs.declared.alloc.Global.{Global}
use Rattle.std.specs.declared.vec.Vec.{Vec}
use Rattle.tb_engine_streams.specs.KeyFiles.{key_file_of, keys_of_file}
use Rattle.tb_engine_streams.specs.Uses.{Use, Fails, NeverFails}
use Rattle.tb_basic_text.specs.declared.notation.Notation.TheVariants.{Plain}
use Rattle.tb_engines.specs.Outcomes.{Outcome, Product}
use Rattle.tb_engines.specs.Programs.{start, Settings, RunsPrg}
use Rattle.tb_engines.specs.declared.delivery.NoText.{NoText}
use Rattle.tb_engines.specs.declared.delivery.NoText.TheVariants.{Refused as NoTextRefused, NoMemory as NoTextNoMemory}
use Rattle.tb_engines.specs.declared.outcome.End.{End}
use Rattle.tb_engines.specs.declared.outcome.End.TheVariants.{WaitsForKey}
use Rattle.tb_engine_streams.specs.declared.outcome.Outcome.TheVariants.{Ended, Refused, ReadFault, WriteFault, NoMemory}
use Rattle.tb_engine_play.specs.Talks.{gives_quiet, LeavesRest, Plays, WritesBeforeReading}
use Rattle.tb_opcodes.specs.Bytes.{AreBytes}

-- the settings of a run with a quiet ROM, whose host form is shown
abbrev pub quietly : List ℕ → List ℕ → ℕ → Settings Quiet
quietly text answers limit =
    record { gives = gives_quiet; outside = record {}; text = text; answers = answers; limit = limit; notation = Plain }

-- ---- the dialogue

-- the start machine of a PRG file with nothing typed
pub record IsStart (file : List ℕ) (m : Content) : Type 0 where
  pub address : ℕ
  pub bytes : List ℕ
  pub content : content_of file ≡ Ok (address, bytes)
  pub in_ram : IsOpenRange address (length bytes)
  pub machine : m ≡ start address bytes [] []

-- the start machine, or why there is none: a run of the file is refused for the same reason
abbrev pub IsStarted : List ℕ → Result Content NoText → Type 0
IsStarted file (Ok m) = IsStart file m
IsStarted file (Err (NoTextRefused e)) = RunsPrg (quietly [] [] 0) file (Err e)
IsStarted file (Err NoTextNoMemory) = Unit {0}

-- what playing a PRG file comes to: its start machine was played, or nothing was done
abbrev pub PlaysFile : ℕ → List ℕ → Outcome → List ℕ → Use → Use → Type 0
PlaysFile limit file (Refused e) typed keys writer =
    RunsPrg (quietly [] [] 0) file (Err e) × (keys.new ≡ keys.old) × Keeps writer.old writer.new
PlaysFile limit file NoMemory typed keys writer =
    ((keys.new ≡ keys.old) × Keeps writer.old writer.new)
    ⊎ ((m : Content) × IsStart file m × Plays limit m NoMemory typed keys writer)
PlaysFile limit file (Ended end) typed keys writer =
    (m : Content) × IsStart file m × Plays limit m (Ended end) typed keys writer
PlaysFile limit file ReadFault typed keys writer =
    (m : Content) × IsStart file m × Plays limit m ReadFault typed keys writer
PlaysFile limit file WriteFault typed keys writer =
    (m : Content) × IsStart file m × Plays limit m WriteFault typed keys writer

-- what is written before the next line is read: all that the start machine had sent by then; a file that isn't played
-- takes no line
abbrev pub WritesFileBeforeReading : ℕ → List ℕ → Use → Use → Type 0
WritesFileBeforeReading limit file keys writer =
    (keys.new ≡ keys.old) ⊎ ((m : Content) × IsStart file m × WritesBeforeReading limit m keys writer)

-- the machine that is left where playing a PRG file ended: that to which its start machine came, but for the beginning of
-- what it sent, which it may have forgotten
abbrev pub LeavesOfFile : ℕ → List ℕ → Outcome → List ℕ → Option Content → Type 0
LeavesOfFile limit file (Ended end) typed (Some n) = (m : Content) × IsStart file m × LeavesRest limit m (Ended end) typed n
LeavesOfFile limit file (Ended end) typed None = ⊥
LeavesOfFile limit file (Refused e) typed left = Unit {0}
LeavesOfFile limit file ReadFault typed left = Unit {0}
LeavesOfFile limit file WriteFault typed left = Unit {0}
LeavesOfFile limit file NoMemory typed left = Unit {0}

-- ---- one run on all that was typed

-- what comes of running a PRG file from its start, at some limit, on a keyboard text of bytes that is all there at the
-- start
abbrev pub RunsTyped : List ℕ → List ℕ → Product → Type 0
RunsTyped file text product = AreBytes text × ((limit : ℕ) × RunsPrg (quietly text [] limit) file product)

-- What was written, by how playing ended; `runs` says what comes of a keyboard text. All of the text of the run on what
-- was typed; after a fault, and if memory ran out, all of that on a text typed so far; after a write fault a prefix of
-- it.
abbrev pub Shows : (List ℕ → Product → Type 0) → Outcome → List ℕ → Use → Type 0
Shows runs (Ended end) typed writer = (text : List ℕ) × runs typed (Ok (text, end)) × Appends writer.old writer.new text
Shows runs (Refused e) typed writer = runs [] (Err e) × Keeps writer.old writer.new
Shows runs ReadFault typed writer =
    (so_far : List ℕ) × (text : List ℕ) × runs so_far (Ok (text, WaitsForKey)) × Appends writer.old writer.new text
Shows runs WriteFault typed writer =
    (so_far : List ℕ) × (text : List ℕ) × (end : End) × runs so_far (Ok (text, end)) × AppendsPrefix writer.old writer.new text
Shows runs NoMemory typed writer =
    Keeps writer.old writer.new
    ⊎ ((so_far : List ℕ) × (text : List ℕ) × (end : End) × runs so_far (Ok (text, end)) × Appends writer.old writer.new text)

-- ---- faults

-- a fault comes only if a stream failed, or if more was read than may be handed over; otherwise no stream failed
abbrev pub PlayFaults : Outcome → Use → Use → Type 0
PlayFaults ReadFault keys writer = NeverFails writer
PlayFaults WriteFault keys writer = NeverFails keys × Fails writer
PlayFaults (Ended end) keys writer = NeverFails keys × NeverFails writer
PlayFaults (Refused e) keys writer = NeverFails keys × NeverFails writer
PlayFaults NoMemory keys writer = NeverFails keys × NeverFails writer

-- ---- records

-- what is recorded of what was typed: a key file that spells it if playing ended, and else nothing
abbrev pub Records : Outcome → List ℕ → Option (Vec ℕ Global) → Type 0
Records (Ended end) typed (Some text) = (text.items ≡ key_file_of typed) × (keys_of_file text.items ≡ Ok typed)
Records (Ended end) typed None = ⊥
Records (Refused e) typed text = text ≡ None
Records ReadFault typed text = text ≡ None
Records WriteFault typed text = text ≡ None
Records NoMemory typed text = text ≡ None
