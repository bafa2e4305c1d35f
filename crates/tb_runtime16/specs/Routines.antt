-- What the code of the lines needs of the routines and the prologue: the laws in one form, with one bound.
use Rattle.std.specs.Prelude.{not, ◌≡◌, ◌≢◌, ℕ, suc, ◌+◌, ◌*◌, ◌/◌, ◌%◌, ◌≤◌, ◌<◌, Bool, true, false, ◌||◌, List}
use Rattle.std.specs.Prelude.{[], ◌∷◌, ◌++◌, length, drop, nat_eq, nat_le}
use Rattle.tb_cpu.specs.Effects.{bit}
use Rattle.tb_kernal.specs.Machine.{first_or_zero}
use Rattle.tb_memmap.specs.Regions.{within}
use Rattle.tb_words.specs.Words.{word, magnitude, quotient, digits_of}
use Rattle.tb_basic_meaning.specs.Control.{fault_text, zone, column_after, has_line, deepest}
use Rattle.tb_basic_meaning.specs.Input.{Got, Bad, Dry, Nothing, turn}
use Rattle.tb_basic_syntax.specs.Source.{Rises}
use Rattle.tb_compiled_kept.specs.Addresses.{VARS, HELD, RETURN_LOW, RETURN_HIGH, POINTER, COLUMN, OPEN, SEEDED, SEED, LINE, NOTES, LEFT, RIGHT, TABLE, WANTED, COUNT, LENGTH}
use Rattle.tb_runtime16.specs.Addresses.{SEND_AT, MULTIPLY_AT, DIVIDE_AT, RANDOM_AT, NUMBER_AT, TEXT_AT, ZONE_AT, INPUT_AT, SEARCH_AT, PUSH_AT, POP_AT}
use Rattle.tb_runtime16.specs.Addresses.{FAULT_LINE_AT, FAULT_AT, POLL_AT}
use Rattle.tb_machine_reaching.specs.View.{View, Setup, Part, Holds, Fits, Comes, back_at, Bytes}
use Rattle.tb_machine_reaching.specs.Start.{IsHome, IsWaiting}
use Rattle.tb_runtime16.specs.Block.{block_part}
pub use Rattle.tb_runtime16.specs.Laws.{WordAt}
use Rattle.tb_runtime16.specs.Laws.{Leaves, Gives, Parts, Sent, Drawn, is_argument}
use Rattle.tb_opcodes.specs.Bytes.{AreBytes}
pub use Rattle.tb_runtime16.specs.Ends.{Entered}
use Rattle.tb_runtime16.specs.Input.{prompt, Taken}
pub use Rattle.tb_runtime16.specs.Returns.{AreReturns}
use Rattle.tb_runtime16.specs.Returns.{Popped, Pushed}
use Rattle.tb_runtime16.specs.Search.{Line, table_bytes, AllWords, search_changes}

-- ---- memory

-- the addresses that a program's state is kept at; all others are scratch
abbrev pub is_state : ℕ → Bool
is_state a = within VARS (HELD + 1) a || within RETURN_LOW (RETURN_HIGH + 499) a

-- all other addresses
abbrev pub is_scratch : ℕ → Bool
is_scratch a = not (is_state a)

-- the RND state is the stored one, or still the option's
pub data SeedAt (m : ℕ → ℕ) (option seed : ℕ) : Type 0 where
  stored : m SEEDED ≡ 1 → WordAt m SEED seed → SeedAt m option seed
  first : m SEEDED ≡ 0 → seed ≡ option → seed < 65536 → (old : ℕ) → WordAt m SEED old → SeedAt m option seed

-- ---- views

-- at an address, whatever the registers and flags other than D
pub record Here (at : ℕ) (bs : List ℕ) (m : ℕ → ℕ) (typed polled : List ℕ) (w : View) : Type 0 where
  pub pc : w.regs.pc ≡ at
  pub stack : w.stack ≡ bs
  pub binary : w.regs.flags.d ≡ false
  pub mem : w.mem ≡ m
  pub text : w.text ≡ typed
  pub answers : w.answers ≡ polled

-- at an address with a known A, whatever the other registers, and the flags other than D
pub record WithA (at k : ℕ) (bs : List ℕ) (m : ℕ → ℕ) (text answers : List ℕ) (w : View) : Type 0 where
  pub here : Here at bs m text answers w
  pub number : w.regs.a ≡ k

-- at an address with a known A, and a line's number in X and Y
pub record WithLine (at k n : ℕ) (bs : List ℕ) (m : ℕ → ℕ) (text answers : List ℕ) (w : View) : Type 0 where
  pub with_a : WithA at k bs m text answers w
  pub low : w.regs.x ≡ n % 256
  pub high : w.regs.y ≡ n / 256

-- from each view of a set
abbrev pub Moves : Setup → (View → Type 0) → (View → Type 0) → List ℕ → ℕ → Type 0
Moves f p q t n = (w : View) → p w → Comes f w q t n

-- waits for a key, with at most 14 bytes on the stack
pub record Waiting (w : View) : Type 0 where
  pub waits : IsWaiting w
  pub deep : length w.stack ≤ 14

-- what a turn of INPUT sends after a number: nothing if the line stays open, else 13
abbrev pub line_end : Bool → List ℕ
line_end true = []
line_end false = 13 ∷ []

-- ---- the routines

-- in one setup, for a line table of these numbers, with the start's return address lo, hi on the stack below the call: for every argument, with one bound
pub record Routines (table seed_option : ℕ) (numbers : List ℕ) (start : ℕ → ℕ) (f : Setup) (lo hi keys limit : ℕ) : Type 0 where
  pub multiply : (l h : ℕ) (m : ℕ → ℕ) (text answers : List ℕ) (a b : ℕ) → WordAt m LEFT a → WordAt m RIGHT b →
      Moves f (Here MULTIPLY_AT (l ∷ h ∷ lo ∷ hi ∷ []) m text answers) (Leaves (back_at l h) (lo ∷ hi ∷ []) text answers (Gives is_argument m (word (a * b)))) [] limit
  pub divide : (l h : ℕ) (m : ℕ → ℕ) (text answers : List ℕ) (a b : ℕ) → WordAt m LEFT a → WordAt m RIGHT b → b ≢ 0 →
      Moves f (Here DIVIDE_AT (l ∷ h ∷ lo ∷ hi ∷ []) m text answers) (Leaves (back_at l h) (lo ∷ hi ∷ []) text answers
      (Parts is_argument m (quotient a b) (magnitude a % magnitude b))) [] limit
  pub divide_by_zero : (l h : ℕ) (m : ℕ → ℕ) (text answers : List ℕ) (a n : ℕ) → WordAt m LEFT a → WordAt m RIGHT 0 → WordAt m LINE n → Entered f lo hi m →
      Moves f (Here DIVIDE_AT (l ∷ h ∷ lo ∷ hi ∷ []) m text answers) (IsHome f) (fault_text 2 n) limit
  pub number : (l h : ℕ) (m : ℕ → ℕ) (text answers : List ℕ) (a : ℕ) → WordAt m LEFT a → m COLUMN < 256 →
      Moves f (Here NUMBER_AT (l ∷ h ∷ lo ∷ hi ∷ []) m text answers) (Leaves (back_at l h) (lo ∷ hi ∷ []) text answers (Sent is_scratch m (digits_of a))) (digits_of a) limit
  pub text : (l h : ℕ) (m : ℕ → ℕ) (text answers : List ℕ) (at : ℕ) (bytes : List ℕ) → WordAt m POINTER at → m LENGTH ≡ length bytes
      → Bytes f.code at bytes → AreBytes bytes → 0x0800 ≤ at → at + length bytes ≤ 0xa000 → length bytes < 256 → m COLUMN < 256 →
      Moves f (Here TEXT_AT (l ∷ h ∷ lo ∷ hi ∷ []) m text answers) (Leaves (back_at l h) (lo ∷ hi ∷ []) text answers (Sent is_scratch m bytes)) bytes limit
  pub zone : (l h : ℕ) (m : ℕ → ℕ) (text answers : List ℕ) → m COLUMN < 256 →
      Moves f (Here ZONE_AT (l ∷ h ∷ lo ∷ hi ∷ []) m text answers) (Leaves (back_at l h) (lo ∷ hi ∷ []) text answers (Sent is_scratch m (zone (m COLUMN)))) (zone (m COLUMN)) limit
  pub send : (l h : ℕ) (m : ℕ → ℕ) (text answers : List ℕ) (b : ℕ) → b < 256 →
      Moves f (WithA SEND_AT b (l ∷ h ∷ lo ∷ hi ∷ []) m text answers) (Leaves (back_at l h) (lo ∷ hi ∷ []) text answers (Sent is_scratch m (b ∷ []))) (b ∷ []) limit
  pub search : (l h : ℕ) (m : ℕ → ℕ) (text answers : List ℕ) (n : ℕ) → WordAt m WANTED n → WordAt m TABLE table → WordAt m COUNT (length numbers) → has_line numbers n ≡ true →
      Moves f (Here SEARCH_AT (l ∷ h ∷ lo ∷ hi ∷ []) m text answers) (Leaves (back_at l h) (lo ∷ hi ∷ []) text answers (Gives search_changes m (start n))) [] limit
  pub search_fails : (l h : ℕ) (m : ℕ → ℕ) (text answers : List ℕ) (n at : ℕ) → WordAt m WANTED n → WordAt m TABLE table
      → WordAt m COUNT (length numbers) → has_line numbers n ≡ false → WordAt m LINE at → Entered f lo hi m →
      Moves f (Here SEARCH_AT (l ∷ h ∷ lo ∷ hi ∷ []) m text answers) (IsHome f) (fault_text 1 at) limit
  pub fault : (k : ℕ) → k < 10 → (m : ℕ → ℕ) (text answers : List ℕ) (n : ℕ) → WordAt m LINE n → Entered f lo hi m →
      Moves f (WithA FAULT_AT k (lo ∷ hi ∷ []) m text answers) (IsHome f) (fault_text k n) limit
  pub fault_line : (k : ℕ) → k < 10 → (m : ℕ → ℕ) (text answers : List ℕ) (n : ℕ) → n < 65536 → Entered f lo hi m →
      Moves f (WithLine FAULT_LINE_AT k n (lo ∷ hi ∷ []) m text answers) (IsHome f) (fault_text k n) limit
  pub pop : (l h : ℕ) (m : ℕ → ℕ) (text answers : List ℕ) (return_address : ℕ) (returns : List ℕ) → WordAt m NOTES (suc (length returns)) → AreReturns m (return_address ∷ returns)
      → suc (length returns) ≤ deepest →
      Moves f (Here POP_AT (l ∷ h ∷ lo ∷ hi ∷ []) m text answers) (Leaves (back_at l h) (lo ∷ hi ∷ []) text answers (Popped m return_address returns)) [] limit
  pub pop_fails : (l h : ℕ) (m : ℕ → ℕ) (text answers : List ℕ) (n : ℕ) → WordAt m NOTES 0 → WordAt m LINE n → Entered f lo hi m →
      Moves f (Here POP_AT (l ∷ h ∷ lo ∷ hi ∷ []) m text answers) (IsHome f) (fault_text 5 n) limit
  pub random : (l h : ℕ) (m : ℕ → ℕ) (text answers : List ℕ) (a seed : ℕ) → WordAt m RIGHT a → WordAt m LEFT seed_option → SeedAt m seed_option seed
      → (nat_eq a 0 || nat_le 32768 a) ≡ false →
      Moves f (Here RANDOM_AT (l ∷ h ∷ lo ∷ hi ∷ []) m text answers) (Leaves (back_at l h) (lo ∷ hi ∷ []) text answers (Drawn m a seed)) [] limit
  pub random_fails : (l h : ℕ) (m : ℕ → ℕ) (text answers : List ℕ) (a n : ℕ) → WordAt m RIGHT a → (nat_eq a 0 || nat_le 32768 a) ≡ true → WordAt m LINE n → Entered f lo hi m →
      Moves f (Here RANDOM_AT (l ∷ h ∷ lo ∷ hi ∷ []) m text answers) (IsHome f) (fault_text 3 n) limit
  pub push : (l h : ℕ) (m : ℕ → ℕ) (text answers : List ℕ) (return_address : ℕ) (returns : List ℕ) → WordAt m LEFT return_address → WordAt m NOTES (length returns)
      → AreReturns m returns → length returns < deepest →
      Moves f (Here PUSH_AT (l ∷ h ∷ lo ∷ hi ∷ []) m text answers) (Leaves (back_at l h) (lo ∷ hi ∷ []) text answers (Pushed m (return_address ∷ returns))) [] limit
  pub push_fails : (l h : ℕ) (m : ℕ → ℕ) (text answers returns : List ℕ) (n : ℕ) → WordAt m NOTES (length returns) → AreReturns m returns → length returns
      ≡ deepest → WordAt m LINE n → Entered f lo hi m →
      Moves f (Here PUSH_AT (l ∷ h ∷ lo ∷ hi ∷ []) m text answers) (IsHome f) (fault_text 4 n) limit
  pub input : (l h : ℕ) (m : ℕ → ℕ) (text answers : List ℕ) (o stays : Bool) (v : ℕ) (left : List ℕ) (n : ℕ) → m OPEN ≡ bit o → m COLUMN < 256
      → AreBytes text → length text ≤ keys → WordAt m LINE n → Entered f lo hi m → turn Nothing text ≡ Got v stays left →
      Moves f (Here INPUT_AT (l ∷ h ∷ lo ∷ hi ∷ []) m text answers) (Leaves (back_at l h) (lo ∷ hi ∷ []) left answers
      (Taken m (column_after (m COLUMN) (prompt o ++ line_end stays) % 256) v stays)) (prompt o ++ line_end stays) limit
  pub input_fails : (l h : ℕ) (m : ℕ → ℕ) (text answers : List ℕ) (o : Bool) (n : ℕ) → m OPEN ≡ bit o → m COLUMN < 256 → AreBytes text → length text
      ≤ keys → turn Nothing text ≡ Bad → WordAt m LINE n → Entered f lo hi m →
      Moves f (Here INPUT_AT (l ∷ h ∷ lo ∷ hi ∷ []) m text answers) (IsHome f) (prompt o ++ fault_text 6 n) limit
  pub input_waits : (l h : ℕ) (m : ℕ → ℕ) (text answers : List ℕ) (o : Bool) (n : ℕ) → m OPEN ≡ bit o → m COLUMN < 256 → AreBytes text → length text
      ≤ keys → turn Nothing text ≡ Dry → WordAt m LINE n → Entered f lo hi m →
      Moves f (Here INPUT_AT (l ∷ h ∷ lo ∷ hi ∷ []) m text answers) Waiting (prompt o) limit
  pub poll : (l h : ℕ) (m : ℕ → ℕ) (text answers : List ℕ) (n : ℕ) → AreBytes answers → nat_eq (first_or_zero answers) 3 ≡ false → WordAt m LINE n → Entered f lo hi m →
      Moves f (Here POLL_AT (l ∷ h ∷ lo ∷ hi ∷ []) m text answers) (Leaves (back_at l h) (lo ∷ hi ∷ []) text (drop 1 answers) (λ w. w ≡ m)) [] limit
  pub poll_breaks : (l h : ℕ) (m : ℕ → ℕ) (text answers : List ℕ) (n : ℕ) → AreBytes answers → nat_eq (first_or_zero answers) 3 ≡ true → WordAt m LINE n → Entered f lo hi m →
      Moves f (Here POLL_AT (l ∷ h ∷ lo ∷ hi ∷ []) m text answers) (IsHome f) (fault_text 0 n) limit

-- ---- what they are built on

-- the entries of the line table: each number with its line's address
abbrev pub entries : (ℕ → ℕ) → List ℕ → List Line
entries start [] = []
entries start (n ∷ ns) = (n, start n) ∷ entries start ns

-- the line table is in the program, with at least one line
pub record Tabled (code : Part) (table : ℕ) (numbers : List ℕ) (start : ℕ → ℕ) : Type 0 where
  pub shown : Bytes code table (table_bytes (entries start numbers))
  pub from : 0x0800 ≤ table
  pub to : table + 4 * length numbers ≤ 0xa000
  pub some : 1 ≤ length numbers
  pub rising : Rises 0 65536 numbers
  pub words : AllWords (entries start numbers)

-- how many Go events a routine takes at most, by the length of the keyboard's text
abbrev pub limit_by : ℕ → ℕ
limit_by keys = 45 * keys + 3828

-- the block and the line table are in the program, and S may go down by 16
abbrev pub AllLaws : Type 0
AllLaws =
    (table seed_option : ℕ) (numbers : List ℕ) (start : ℕ → ℕ) (f : Setup) (lo hi keys : ℕ) → Fits f 16 → Holds block_part f.code → Tabled f.code table numbers start →
    Routines table seed_option numbers start f lo hi keys (limit_by keys)
