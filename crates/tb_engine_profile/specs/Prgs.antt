-- What comes of profiling a PRG file.
use Rattle.std.specs.Prelude.{ℕ, ◌≡◌, List, length, Result, Ok, Err}
use Rattle.tb_memmap.specs.Bytes.{at, IsOpenRange}
use Rattle.tb_kernal.specs.declared.events.Event.{Event}
use Rattle.tb_kernal.specs.Machine.{Content}
use Rattle.tb_prg.specs.declared.PrgError.{PrgError}
use Rattle.tb_prg.specs.Prg.{content_of}
use Rattle.tb_engines.specs.Outcomes.{Product}
use Rattle.tb_engines.specs.Programs.{Settings, start, end_of}
use Rattle.tb_engines.specs.declared.outcome.End.{End}
use Rattle.tb_engines.specs.declared.outcome.Refusal.TheVariants.{Prg, NotRam}
use Rattle.tb_engine_profile_table.specs.declared.rows.Table.{Table}
use Rattle.tb_engine_profile_table.specs.Rows.{AddsUp, Tabled}
use Rattle.tb_engine_profile_table.specs.Addresses.{addresses_table, each_address}

-- A run of at most `limit` events that an outside gave a machine, how it ended, and what each of its addresses took, as a
-- table that adds up, whose instructions are those in memory at the end.
pub record ProfilesFrom {O : Type 0} (gives : O → Content → Event → O → Type 0) (o : O) (m : Content) (limit : ℕ) (shown : List ℕ × End) : Type 0 where
  pub outside : O
  pub machine : Content
  pub table : Table
  pub tabled : Tabled gives o m each_address limit table outside machine
  pub adds_up : AddsUp table
  pub text : shown.0 ≡ addresses_table (at machine.memory) table
  pub end : shown.1 ≡ end_of table.status machine.regs.pc

-- what comes of a machine that was started: a table
abbrev pub ProfilesOn : {O : Type 0} → (O → Content → Event → O → Type 0) → O → Content → ℕ → Product → Type 0
ProfilesOn gives o m limit (Ok shown) = ProfilesFrom gives o m limit shown
ProfilesOn gives o m limit (Err e) = ⊥

-- what comes of a program at an address: a table, if all of it lies in RAM
abbrev pub ProfilesAt : {O : Type 0} → Settings O → ℕ → List ℕ → Product → Type 0
ProfilesAt s at bytes (Ok shown) =
    IsOpenRange at (length bytes) × ProfilesFrom s.gives s.outside (start at bytes s.text s.answers) s.limit shown
ProfilesAt s at bytes (Err e) = (e ≡ NotRam) × ¬ (IsOpenRange at (length bytes))

-- what comes of the load address and the bytes of a PRG file, or of a file that is no PRG file
abbrev pub ProfilesContent : {O : Type 0} → Settings O → Result (ℕ × List ℕ) PrgError → Product → Type 0
ProfilesContent s (Ok p) product = ProfilesAt s p.0 p.1 product
ProfilesContent s (Err e) product = product ≡ Err (Prg e)

-- what comes of a PRG file
abbrev pub ProfilesPrg : {O : Type 0} → Settings O → List ℕ → Product → Type 0
ProfilesPrg s file product = ProfilesContent s (content_of file) product
