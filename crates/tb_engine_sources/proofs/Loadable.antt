-- A compiled program's file is loaded at $0801, all of it lies in RAM, and the machine that it starts is known.
use Rattle.std.proofs.Common.{◌≡◌, ℕ, List, [], length, Result, Ok, Err, sym, ap, subst, ◌∙◌}
use Rattle.tb_memmap.specs.Regions.{BASIC_START}
use Rattle.tb_kernal.specs.Machine.{Content}
use Rattle.tb_prg.specs.declared.PrgError.{PrgError}
use Rattle.tb_prg.specs.Prg.{content_of}
use Rattle.tb_compiled.specs.Answers.{HasOutcome}
use Rattle.tb_compiled.specs.Compiled.{prg_of, loaded_of}
use Rattle.tb_compiled.specs.declared.compiled.Compiled.{Compiled}
use Rattle.tb_compiled.specs.declared.settings.CompileSettings.{CompileSettings}
use Rattle.tb_engines.specs.Programs.{start, StartsContent, StartsPrg}
use Rattle.tb_engines.specs.declared.delivery.NoText.{NoText}
use Rattle.tb_engines.specs.declared.delivery.NoText.TheVariants.{Refused, NoMemory}
use Rattle.tb_engine_sources.specs.Starting.{IsLoadable, StartsLoadable}
use Rattle.tb_engine_sources.proofs.Output.{file_loads, in_ram}
use Rattle.tb_compiled.specs.Promise.{Own}

-- what the compiler answers is loadable
pub answer_loads : (own : Own) (settings : CompileSettings) (source : List ℕ) (c : Compiled) → HasOutcome own settings source (Ok c) → IsLoadable c
answer_loads own settings source c found =
    let loads = file_loads own settings source c found.outcome found.answer in
    (loads.0, in_ram (length (loaded_of c)) loads.1)

-- a program that is loadable is started, unless memory is wanting
pub starts_loadable : (text answers : List ℕ) (c : Compiled) (result : Result Content NoText) → StartsPrg text answers (prg_of c) result → IsLoadable c
    → StartsLoadable text answers c result
starts_loadable text answers c result started loadable = by result (subst (λ x. StartsContent text answers x result) loadable.0 started)
  where
    by : (result : Result Content NoText) → StartsContent text answers (Ok (BASIC_START, loaded_of c)) result → StartsLoadable text answers c result
    by (Ok m) (in_ram, is) = is
    by (Err (Refused e)) (not_ram, closed) = absurd (closed loadable.1)
    by (Err NoMemory) unloadable = tt

-- the address of a file that was read, 0 if it is no PRG file
abbrev pub address_in : Result (ℕ × List ℕ) PrgError → ℕ
address_in (Ok p) = p.0
address_in (Err e) = 0

-- the bytes of a file that was read, none if it is no PRG file
abbrev pub bytes_in : Result (ℕ × List ℕ) PrgError → List ℕ
bytes_in (Ok p) = p.1
bytes_in (Err e) = []

-- the machine of what was read of a loadable program's file
pub machine_at_start : (text answers : List ℕ) (c : Compiled) (at : ℕ) (bytes : List ℕ) (m : Content) → IsLoadable c → content_of (prg_of c) ≡ Ok (at, bytes)
    → m ≡ start at bytes text answers → m ≡ start BASIC_START (loaded_of c) text answers
machine_at_start text answers c at bytes m loadable content machine =
    let first : at ≡ BASIC_START = ap address_in (sym content ∙ loadable.0) in
    let rest : bytes ≡ loaded_of c = ap bytes_in (sym content ∙ loadable.0) in
    machine ∙ (λ i. start (first i) (rest i) text answers)
