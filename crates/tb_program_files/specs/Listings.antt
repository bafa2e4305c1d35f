-- Listings of PRG files.
use Rattle.std.specs.Prelude.{◌≡◌, ℕ, List, Option, Some, None, Result, Ok, Err}
use Rattle.tb_prg.specs.declared.PrgError.{PrgError}
use Rattle.tb_prg.specs.Prg.{content_of}
use Rattle.tb_engines.specs.Assembly.{ListsPrg}
use Rattle.tb_engines.specs.Outcomes.{Product}
use Rattle.tb_engines.specs.declared.outcome.End.TheVariants.{Done}
use Rattle.tb_engines.specs.declared.outcome.Refusal.TheVariants.{Prg}
use Rattle.tb_assembly_dialects.specs.declared.dialect.Dialect.{Dialect}
use Rattle.tb_assembly_dialects.specs.Listings as dialects

-- the listing of a load address and the bytes there, or the refusal of a file that is no PRG file
abbrev pub ListsContent : Dialect → Result (ℕ × List ℕ) PrgError → Product → Type 0
ListsContent d (Ok p) (Ok made) = dialects.Lists d p.0 p.1 made.0 × (made.1 ≡ Done)
ListsContent d (Ok p) (Err e) = ⊥
ListsContent d (Err e) product = product ≡ Err (Prg e)

-- what comes of listing a PRG file: for `tbc asm`, or for another assembler
abbrev pub Lists : Option Dialect → List ℕ → Product → Type 0
Lists None file product = ListsPrg file product
Lists (Some d) file product = ListsContent d (content_of file) product

-- a listing of a PRG file's program as an assembler takes it
abbrev pub Spells : Dialect → List ℕ → List ℕ → List ℕ → Type 0
Spells d file listing text = (p : ℕ × List ℕ) × (content_of file ≡ Ok p) × (text ≡ dialects.spelled d p.0 p.1 listing)

-- bytes are those of a PRG file
abbrev pub IsPrg : List ℕ → Type 0
IsPrg file = (p : ℕ × List ℕ) × (content_of file ≡ Ok p)
