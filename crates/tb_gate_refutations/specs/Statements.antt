-- What is said of an image.
use Rattle.std.specs.Prelude.{ℕ, List}
use Rattle.tb_memmap.specs.Regions.{BASIC_START}
use Rattle.tb_basic_syntax.specs.Source.{Program}
use Rattle.tb_compiled_kept.specs.Keeps.{Keeps}

-- it keeps the program, with the seed 1
abbrev pub IsKept : List ℕ → Program → Type 0
IsKept bytes program = Keeps BASIC_START bytes program 1

-- it does not keep the program, with the seed 1
abbrev pub IsRefuted : List ℕ → Program → Type 0
IsRefuted bytes program = IsKept bytes program → ⊥

-- it keeps the program with no seed
abbrev pub IsNeverKept : List ℕ → Program → Type 0
IsNeverKept bytes program = (seed : ℕ) → Keeps BASIC_START bytes program seed → ⊥
