-- The machine that a compiled program starts with.
use Rattle.std.specs.Prelude.{ℕ, ◌≡◌, List, length, Result, Ok, Err}
use Rattle.tb_memmap.specs.Regions.{BASIC_START}
use Rattle.tb_memmap.specs.Bytes.{IsOpenRange}
use Rattle.tb_kernal.specs.Machine.{Content}
use Rattle.tb_prg.specs.Prg.{content_of}
use Rattle.tb_compiled.specs.Compiled.{prg_of, loaded_of}
use Rattle.tb_compiled.specs.declared.compiled.Compiled.{Compiled}
use Rattle.tb_engines.specs.Programs.{start}
use Rattle.tb_engines.specs.declared.delivery.NoText.{NoText}
use Rattle.tb_engines.specs.declared.delivery.NoText.TheVariants.{Refused, NoMemory}

-- a program's PRG file is loaded at $0801, and all of it lies in RAM
abbrev pub IsLoadable : Compiled → Type 0
IsLoadable program =
    (content_of (prg_of program) ≡ Ok (BASIC_START, loaded_of program)) × IsOpenRange BASIC_START (length (loaded_of program))

-- what starting such a program answers: its start machine, unless memory is wanting
abbrev pub StartsLoadable : List ℕ → List ℕ → Compiled → Result Content NoText → Type 0
StartsLoadable text answers program (Ok m) = m ≡ start BASIC_START (loaded_of program) text answers
StartsLoadable text answers program (Err (Refused e)) = ⊥
StartsLoadable text answers program (Err NoMemory) = Unit {0}
