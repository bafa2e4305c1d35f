-- The line table and Search.
use Rattle.std.specs.Prelude.{◌<◌, ◌≤◌, Bool, ℕ, List, [], ◌∷◌, ◌+◌, ◌*◌, ◌/◌, ◌%◌, ◌||◌, if◌then◌else◌, nat_eq, length, map, Option, Some, None}
use Rattle.tb_memmap.specs.Regions.{within}
use Rattle.tb_machine_reaching.specs.View.{View, Setup, Holds, Fits, Comes, view, Bytes}
use Rattle.tb_basic_syntax.specs.Source.{Rises}
use Rattle.tb_runtime16.specs.Addresses.{SEARCH_AT}
use Rattle.tb_compiled_kept.specs.Addresses.{POINTER, WANTED, RESULT, TABLE, COUNT, SCRATCH}
use Rattle.tb_runtime16.specs.Block.{block_part}
use Rattle.tb_runtime16.specs.Laws.{WordAt, Changes, Back, Faults, Gives}

-- ---- the table: pairs of a line's number and its code's address
-- a line: its number, and the address of its code
abbrev pub Line : Type 0
Line = ℕ × ℕ

-- the bytes of the line table, four a line: its number and its address, each low byte first
abbrev pub table_bytes : List Line → List ℕ
table_bytes [] = []
table_bytes (e ∷ es) = e.0 % 256 ∷ e.0 / 256 ∷ e.1 % 256 ∷ e.1 / 256 ∷ table_bytes es

-- the numbers of the lines of a table
abbrev pub numbers_in : List Line → List ℕ
numbers_in es = map (λ e. e.0) es

-- numbers and addresses of the lines are below 65,536
abbrev pub AllWords : List Line → Type 0
AllWords [] = Unit {0}
AllWords (e ∷ es) = (e.0 < 65536) × (e.1 < 65536) × AllWords es

-- the address of the line with a number
abbrev pub address_of : ℕ → List Line → Option ℕ
address_of t [] = None
address_of t (e ∷ es) = let later = address_of t es in if nat_eq e.0 t then Some e.1 else later

-- the addresses that Search may change: POINTER, TABLE, RESULT, COUNT and the two bytes from SCRATCH on
abbrev pub search_changes : ℕ → Bool
search_changes a = within POINTER (TABLE + 1) a || (within RESULT (RESULT + 1) a || (within COUNT (COUNT + 1) a || within SCRATCH (SCRATCH + 1) a))

-- back with the address, or at Fault with 1
abbrev pub Searched : ℕ → ℕ → (ℕ → ℕ) → List ℕ → List ℕ → Option ℕ → View → Type 0
Searched lo hi m text answers (Some address) w = Back lo hi text answers (Gives search_changes m address) w
Searched lo hi m text answers None w = Faults lo hi text answers 1 (Changes search_changes m) w

-- Search gives the address of the line with the number at WANTED, or goes to Fault with 1, within 510 Go events for every table
abbrev pub SearchLaw : Type 0
SearchLaw = (f : Setup) → Fits f 2 → Holds block_part f.code → (lo hi : ℕ) (text answers : List ℕ) (m : ℕ → ℕ) (a x y : ℕ) (n v i z c : Bool)
    (number table : ℕ) (lines : List Line) → WordAt m WANTED number → WordAt m TABLE table → WordAt m COUNT (length lines)
    → Bytes f.code table (table_bytes lines) → 0x0800 ≤ table → table + 4 * length lines ≤ 0xa000 → 1 ≤ length lines → Rises 0 65536 (numbers_in lines)
    → AllWords lines → Comes f (view a x y n v i z c SEARCH_AT (lo ∷ hi ∷ []) m text answers) (Searched lo hi m text answers (address_of number lines)) [] 510
