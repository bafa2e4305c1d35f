-- Playing a PRG file on the screen.
use Rattle.std.specs.Prelude.{ℕ, ◌≡◌, ◌⊎◌, List, [], Ok, Err}
use Rattle.tb_kernal.specs.Machine.{Content}
use Rattle.tb_engine_streams.specs.Uses.{Use}
use Rattle.tb_engines.specs.Programs.{StartsPrg}
use Rattle.tb_engines.specs.declared.delivery.NoText.TheVariants.{Refused as NoTextRefused}
use Rattle.tb_engines.specs.Outcomes.{Outcome}
use Rattle.tb_engine_streams.specs.declared.outcome.Outcome.TheVariants.{Ended, Refused, ReadFault, WriteFault, NoMemory}
use Rattle.tb_engine_screen.specs.Talks.{PlaysAndLeaves, WritesBeforeReading}

-- the start machine of a PRG file, with nothing typed, was played
abbrev pub PlaysStart : ℕ → List ℕ → Outcome → List ℕ → Use → Use → Type 0
PlaysStart limit file outcome typed keys writer =
    (m : Content) × StartsPrg [] [] file (Ok m) × PlaysAndLeaves limit m outcome typed keys writer

-- why a PRG file is not played: a run of it is refused for the same reason, or memory is short
abbrev pub IsUnplayed : List ℕ → Outcome → Type 0
IsUnplayed file (Refused e) = StartsPrg [] [] file (Err (NoTextRefused e))
IsUnplayed file NoMemory = Unit {0}
IsUnplayed file (Ended end) = ⊥
IsUnplayed file ReadFault = ⊥
IsUnplayed file WriteFault = ⊥

-- what playing a PRG file comes to: its start machine was played, or nothing was done
abbrev pub PlaysFile : ℕ → List ℕ → Outcome → List ℕ → Use → Use → Type 0
PlaysFile limit file outcome typed keys writer =
    PlaysStart limit file outcome typed keys writer
    ⊎ (IsUnplayed file outcome × (typed ≡ []) × (keys.new ≡ keys.old) × (writer.new ≡ writer.old))

-- what is written before the next line is read: the frames up to the wait for it; a file that isn't played takes no line
abbrev pub WritesFileBeforeReading : ℕ → List ℕ → Use → Use → Type 0
WritesFileBeforeReading limit file keys writer =
    (keys.new ≡ keys.old) ⊎ ((m : Content) × StartsPrg [] [] file (Ok m) × WritesBeforeReading limit m keys writer)
