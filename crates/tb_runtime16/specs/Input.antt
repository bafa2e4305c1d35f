-- What Input promises: one variable's turn.
use Rattle.std.specs.Prelude.{◌≡◌, ℕ, ◌+◌, ◌*◌, ◌%◌, ◌≤◌, Bool, true, false, ◌||◌, List, [], ◌∷◌, ◌++◌, length, ◌==◌}
use Rattle.tb_cpu.specs.Effects.{bit}
use Rattle.tb_machine_reaching.specs.View.{View, Setup, Holds, Fits, Comes, view, back_at}
use Rattle.tb_machine_reaching.specs.Start.{IsHome, IsWaiting}
use Rattle.tb_basic_meaning.specs.Control.{column_after, fault_text}
use Rattle.tb_basic_meaning.specs.Input.{Nothing, Turn, Got, Bad, Dry, turn}
use Rattle.tb_runtime16.specs.Addresses.{INPUT_AT}
use Rattle.tb_compiled_kept.specs.Addresses.{COLUMN, LINE, OPEN}
use Rattle.tb_runtime16.specs.Block.{block_part}
use Rattle.tb_runtime16.specs.Ends.{Entered}
use Rattle.tb_runtime16.specs.Laws.{WordAt, Leaves, Gives, is_argument}
use Rattle.tb_opcodes.specs.Bytes.{AreBytes}

-- ---- the law

-- the addresses that Input changes
abbrev pub is_changed : ℕ → Bool
is_changed a = is_argument a || (a == OPEN || a == COLUMN)

-- what Input sends before it reads: nothing if a line is open, else a question mark and a space
abbrev pub prompt : Bool → List ℕ
prompt true = []
prompt false = 63 ∷ 32 ∷ []

-- what a turn sends after the prompt, at a line
abbrev pub turn_sends : ℕ → Turn → List ℕ
turn_sends line (Got v true rest) = []
turn_sends line (Got v false rest) = 13 ∷ []
turn_sends line Bad = fault_text 6 line
turn_sends line Dry = []

-- memory after a number was read
pub record Taken (m0 : ℕ → ℕ) (column number : ℕ) (stays : Bool) (m : ℕ → ℕ) : Type 0 where
  pub gives : Gives is_changed m0 number m
  pub line_open : m OPEN ≡ bit stays
  pub column_is : m COLUMN ≡ column

-- the end of a turn, from column c, when these bytes were sent before, with own on the stack of the caller
abbrev pub Ended : Setup → ℕ → ℕ → List ℕ → (ℕ → ℕ) → List ℕ → ℕ → List ℕ → Turn → View → Type 0
Ended f lo hi own m replies c before (Got v true rest) w = Leaves (back_at lo hi) own rest replies (Taken m (column_after c before % 256) v true) w
Ended f lo hi own m replies c before (Got v false rest) w = Leaves (back_at lo hi) own rest replies (Taken m 0 v false) w
Ended f lo hi own m replies c before Bad w = IsHome f w
Ended f lo hi own m replies c before Dry w = IsWaiting w × (length w.stack ≤ length own + 4)

-- Input does one variable's turn: back with a number, a fault 6, or waiting for a key, from any depth
abbrev pub InputLaw : Type 0
InputLaw =
    (f : Setup) (room : ℕ) → 13 ≤ room → Fits f room → Holds block_part f.code → (hlo hhi : ℕ) (above : List ℕ) → length above + 6 ≤ room
    → (lo hi : ℕ) (text answers : List ℕ) (m : ℕ → ℕ) → Entered f hlo hhi m → (line : ℕ) → WordAt m LINE line → AreBytes text → (is_open : Bool)
    → m OPEN ≡ bit is_open → (c : ℕ) → m COLUMN ≡ c % 256 → (a x y : ℕ) (n v i z carry : Bool) →
    Comes f (view a x y n v i z carry INPUT_AT (lo ∷ hi ∷ above ++ hlo ∷ hhi ∷ []) m text answers)
    (Ended f lo hi (above ++ hlo ∷ hhi ∷ []) m answers c (prompt is_open) (turn Nothing text)) (prompt is_open ++ turn_sends line (turn Nothing text)) (45 * length text + 463)
