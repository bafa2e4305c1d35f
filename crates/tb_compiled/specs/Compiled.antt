-- Compiled programs: what they show, and where the code of lines begins and ends.
use Rattle.std.specs.Prelude.{◌≡◌, ℕ, ◌+◌, ◌≤◌, List, [], ◌∷◌, ◌++◌, length, drop, map, Bool, ◌&&◌, nat_le, nat_lt}
use Rattle.std.specs.Prelude.{nat_eq, if◌then◌else◌, Option, Some, None, unwrap_or}
use Rattle.tb_words.specs.Words.{word_of}
use Rattle.tb_memmap.specs.Regions.{CODE_START}
use Rattle.tb_basic_syntax.specs.Source.{Program, numbers}
use Rattle.tb_prg.specs.Prg.{header}
use Rattle.tb_basic_meaning.specs.Missing.{missing_targets}
use Rattle.tb_basic_meaning.specs.Need.{too_deep}
use Rattle.tb_basic_meaning.specs.declared.missing.Warning.{Warning}
use Rattle.tb_compiled_kept.specs.Addresses.{LINES_AT}
use Rattle.tb_compiled.specs.Numbers.{MOST_COST}
use Rattle.tb_compiled.specs.Promise.{Own}
use Rattle.tb_compiled.specs.Texts.{LinesHoldTexts}
use Rattle.tb_compiled.specs.declared.compiled.LineStart.{LineStart}
use Rattle.tb_compiled.specs.declared.compiled.Compiled.{Compiled}

-- ── what a compiled program shows ──
-- the bytes of the PRG file
abbrev pub prg_of : Compiled → List ℕ
prg_of c = c.prg.items

-- the bytes that the file loads, after its load address
abbrev pub loaded_of : Compiled → List ℕ
loaded_of c = drop 2 (prg_of c)

-- a line with the address where its code begins
abbrev pub pair_of : LineStart → ℕ × ℕ
pair_of s = (s.number, s.at)

-- the lines of a compiled program: each line number with the address where its code begins
abbrev pub starts_of : Compiled → List (ℕ × ℕ)
starts_of c = map pair_of c.starts.items

-- where the line table begins
abbrev pub table_of : Compiled → ℕ
table_of c = c.table

-- the warnings of a compiled program: lines with a GOTO or GOSUB to a constant target that is missing
abbrev pub warnings_of : Compiled → List Warning
warnings_of c = c.warnings.items

-- where the code of a line begins
abbrev pub start_in : List (ℕ × ℕ) → ℕ → Option ℕ
start_in [] n = None
start_in (s ∷ starts) n = if nat_eq s.0 n then Some s.1 else start_in starts n

-- where the code of a line of the program begins, as start_of answers it; 0 if it isn't a line of the program
abbrev pub start_of : Compiled → ℕ → ℕ
start_of c n = unwrap_or (start_in (starts_of c) n) 0

-- whether an address is at least the first one, and below the second one
abbrev pub lies : ℕ → ℕ → ℕ → Bool
lies from to a = nat_le from a && nat_lt a to

-- the line in whose code an address is: a line's code ends where that of the next line begins, and the last one's
-- where the line table begins
abbrev pub line_in : List (ℕ × ℕ) → ℕ → ℕ → Option ℕ
line_in [] table a = None
line_in (s ∷ []) table a = if lies s.1 table a then Some s.0 else None
line_in (s ∷ next ∷ starts) table a = if lies s.1 next.1 a then Some s.0 else line_in (next ∷ starts) table a

-- ── where code is ──
-- addresses that rise strictly, from a number on, of lines or of anything else
abbrev pub AddressesRise : {A : Type 0} → ℕ → List (A × ℕ) → Type 0
AddressesRise low [] = Unit {0}
AddressesRise low (p ∷ ps) = (low ≤ p.1) × AddressesRise (p.1 + 1) ps

-- the most that a program may cost
abbrev pub most_cost : ℕ
most_cost = MOST_COST

-- Compiled, a program is a PRG file of the BASIC line and code, which with its line table ends by $9FFF. Its lines begin at
-- rising addresses, and their texts are in their code. No compiler is named: what never compiles says this of a program.
pub record IsBuiltFrom (program : Program) (c : Compiled) : Type 0 where
  pub shallow : too_deep program ≡ None
  pub code : List ℕ
  pub file : prg_of c ≡ header ++ code
  pub ends : CODE_START + length code ≤ 0xA000
  pub at : ℕ → ℕ
  pub starts : starts_of c ≡ map (λ n. (n, at n)) (numbers program)
  pub rising : AddressesRise LINES_AT (starts_of c)
  pub past : ℕ
  pub texts : LinesHoldTexts (prg_of c) past (starts_of c) program
  pub warned : map (λ w. (w.line, word_of w.target)) (warnings_of c) ≡ missing_targets program

-- it is as long as the compiler says, which may say more of it
pub record IsCompiled (own : Own) (seed : ℕ) (program : Program) (c : Compiled) : Type 0 where
  pub of : IsBuiltFrom program c
  pub taken : length of.code ≡ own.takes program
  pub made : own.makes seed program c
