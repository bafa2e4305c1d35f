-- What faults, polls and the prologue promise.
use Rattle.std.specs.Prelude.{◌≡◌, ◌≢◌, ℕ, ◌+◌, ◌*◌, ◌<◌, ◌≤◌, Bool, true, false, ◌||◌, List, [], ◌∷◌, ◌++◌, length, drop}
use Rattle.tb_memmap.specs.Regions.{within}
use Rattle.tb_kernal.specs.Machine.{State, first_or_zero}
use Rattle.tb_kernal.specs.Starts.{IsStart}
use Rattle.tb_machine_reaching.specs.View.{View, Setup, Part, Holds, Fits, Comes, view, back_at, part_at}
use Rattle.tb_machine_reaching.specs.Start.{setup_of, view_of, home_low, home_high, IsHome, Homed}
use Rattle.tb_basic_meaning.specs.Control.{fault_text}
use Rattle.tb_compiled_kept.specs.Addresses.{VARS, SEEDED, HOME_S, SEED, LINE, NOTES, LINES_AT}
use Rattle.tb_runtime16.specs.Addresses.{FAULT_AT, FAULT_LINE_AT, POLL_AT}
use Rattle.tb_runtime16.specs.Block.{block_part}
use Rattle.tb_runtime16.specs.Laws.{WordAt, Leaves}

-- the return address of the start is lo, hi on the stack above what is kept, and HOME_S keeps the stack pointer for it
pub record Entered (f : Setup) (lo hi : ℕ) (m : ℕ → ℕ) : Type 0 where
  pub homed : Homed f lo hi
  pub kept : m HOME_S + 2 ≡ f.home_s

-- Fault: k in A, from any depth
abbrev pub FaultLaw : Type 0
FaultLaw =
    (f : Setup) (room : ℕ) → 13 ≤ room → Fits f room → Holds block_part f.code → (hlo hhi : ℕ) (above : List ℕ) → length above + 2 ≤ room
    → (text answers : List ℕ) (m : ℕ → ℕ) → Entered f hlo hhi m → (line : ℕ) → WordAt m LINE line → (k x y : ℕ) (n v i z c : Bool) → k < 10 →
    Comes f (view k x y n v i z c FAULT_AT (above ++ hlo ∷ hhi ∷ []) m text answers) (IsHome f) (fault_text k line) 416

-- the entry that takes the line's number too: k in A, the number in X and Y, low byte first
abbrev pub FaultLineLaw : Type 0
FaultLineLaw =
    (f : Setup) (room : ℕ) → 13 ≤ room → Fits f room → Holds block_part f.code → (hlo hhi : ℕ) (above : List ℕ) → length above + 2 ≤ room
    → (text answers : List ℕ) (m : ℕ → ℕ) → Entered f hlo hhi m → (k x y : ℕ) (n v i z c : Bool) → k < 10 → x < 256 → y < 256 →
    Comes f (view k x y n v i z c FAULT_LINE_AT (above ++ hlo ∷ hhi ∷ []) m text answers) (IsHome f) (fault_text k (x + 256 * y)) 418

-- Poll: an answer is taken, and 3 stops the program, from any depth
abbrev pub PollLaw : Type 0
PollLaw =
    (f : Setup) (room : ℕ) → 13 ≤ room → Fits f room → Holds block_part f.code → (hlo hhi : ℕ) (above : List ℕ) → length above + 6 ≤ room
    → (lo hi : ℕ) (text answers : List ℕ) (m : ℕ → ℕ) → Entered f hlo hhi m → (line : ℕ) → WordAt m LINE line → first_or_zero answers < 256
    → (a x y : ℕ) (n v i z c : Bool) →
    (first_or_zero answers ≢ 3 → Comes f (view a x y n v i z c POLL_AT (lo ∷ hi ∷ above ++ hlo ∷ hhi ∷ []) m text answers)
    (Leaves (back_at lo hi) (above ++ hlo ∷ hhi ∷ []) text (drop 1 answers) (λ w. w ≡ m)) [] 5)
    × (first_or_zero answers ≡ 3 → Comes f (view a x y n v i z c POLL_AT (lo ∷ hi ∷ above ++ hlo ∷ hhi ∷ []) m text answers) (IsHome f) (fault_text 0 line) 422)

-- addresses that the prologue clears
abbrev pub is_cleared : ℕ → Bool
is_cleared a = within VARS SEEDED a || within SEED (NOTES + 1) a

-- the end of the prologue, from a start s: at the first line, with cleared data, keyboard and return as at s
pub record Begun (f : Setup) (s : State) (w : View) : Type 0 where
  pub pc : w.regs.pc ≡ LINES_AT
  pub stack : w.stack ≡ home_low s ∷ home_high s ∷ []
  pub binary : w.regs.flags.d ≡ false
  pub same_text : w.text ≡ s.text
  pub same_answers : w.answers ≡ s.answers
  pub cleared : (a : ℕ) → is_cleared a ≡ true → w.mem a ≡ 0
  pub bytes : (a : ℕ) → w.mem a < 256
  pub entered : Entered f (home_low s) (home_high s) w.mem

-- from any start to the first line
abbrev pub PrologueLaw : Type 0
PrologueLaw =
    (place : ℕ) (bytes : List ℕ) → 0x0800 ≤ place → place + length bytes ≤ 0xa000 → (inner : Part) → Holds inner (part_at place bytes)
    → Holds block_part inner → (s : State) → IsStart place bytes s →
    Comes (setup_of inner (part_at place bytes) s) (view_of s) (Begun (setup_of inner (part_at place bytes) s) s) [] 192
