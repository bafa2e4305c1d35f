-- What the routines promise, whatever the ROM does.
use Rattle.std.specs.Prelude.{◌≡◌, ◌⊎◌, ◌≢◌, ℕ, ◌+◌, ◌*◌, ◌/◌, ◌%◌, ◌<◌, ◌≤◌, Bool, false, ◌||◌, ◌==◌}
use Rattle.std.specs.Prelude.{if◌then◌else◌, List, [], ◌∷◌, length}
use Rattle.tb_opcodes.specs.Bytes.{AreBytes}
use Rattle.tb_memmap.specs.Regions.{within}
use Rattle.tb_machine_reaching.specs.View.{View, Setup, Holds, Fits, Comes, view, back_at, Bytes}
use Rattle.tb_words.specs.Words.{word, magnitude, quotient, seed_after, digits_of}
use Rattle.tb_basic_meaning.specs.Control.{zone, column_after}
use Rattle.tb_runtime16.specs.Addresses.{SEND_AT, MULTIPLY_AT, DIVIDE_AT, RANDOM_AT, NUMBER_AT, TEXT_AT, ZONE_AT, FAULT_AT}
use Rattle.tb_compiled_kept.specs.Addresses.{COLUMN, SEEDED, SEED, LEFT, RIGHT, RESULT, LENGTH, SCRATCH, POINTER}
use Rattle.tb_runtime16.specs.Block.{block_part}

-- a word, low byte first
pub record WordAt (m : ℕ → ℕ) (at w : ℕ) : Type 0 where
  pub low : m at ≡ w % 256
  pub high : m (at + 1) ≡ w / 256
  pub small : w < 65536

-- only these addresses were changed
abbrev pub Changes : (ℕ → Bool) → (ℕ → ℕ) → (ℕ → ℕ) → Type 0
Changes changes m0 m = (a : ℕ) → changes a ≡ false → m a ≡ m0 a

-- no address
abbrev pub nowhere : ℕ → Bool
nowhere a = false

-- LEFT, RIGHT and RESULT
abbrev pub is_argument : ℕ → Bool
is_argument a = within LEFT (RIGHT + 1) a || within RESULT (RESULT + 1) a

-- ---- how a routine ends

-- at an address with this on the stack, and this said about the memory
pub record Leaves (at : ℕ) (stack text answers : List ℕ) (q : (ℕ → ℕ) → Type 0) (w : View) : Type 0 where
  pub pc : w.regs.pc ≡ at
  pub stack_is : w.stack ≡ stack
  pub binary : w.regs.flags.d ≡ false
  pub same_text : w.text ≡ text
  pub same_answers : w.answers ≡ answers
  pub memory : q w.mem

-- back at the caller
abbrev pub Back : (lo hi : ℕ) (text answers : List ℕ) (q : (ℕ → ℕ) → Type 0) → View → Type 0
Back lo hi text answers q = Leaves (back_at lo hi) [] text answers q

-- at the entry of Fault, with the fault's number in A and S as at the routine's entry
pub record Faults (lo hi : ℕ) (text answers : List ℕ) (k : ℕ) (q : (ℕ → ℕ) → Type 0) (w : View) : Type 0 where
  pub leaves : Leaves FAULT_AT (lo ∷ hi ∷ []) text answers q w
  pub number : w.regs.a ≡ k

-- memory with a word at RESULT, and only these addresses changed
pub record Gives (changes : ℕ → Bool) (m0 : ℕ → ℕ) (v : ℕ) (m : ℕ → ℕ) : Type 0 where
  pub result : WordAt m RESULT v
  pub others : Changes changes m0 m

-- memory with a quotient at LEFT and a remainder at RESULT, and only these addresses changed
pub record Parts (changes : ℕ → Bool) (m0 : ℕ → ℕ) (q r : ℕ) (m : ℕ → ℕ) : Type 0 where
  pub left : WordAt m LEFT q
  pub rest : WordAt m RESULT r
  pub others : Changes changes m0 m

-- memory after bytes were sent: COLUMN is the column after them, modulo 256, and only these addresses changed besides
pub record Sent (changes : ℕ → Bool) (m0 : ℕ → ℕ) (sent : List ℕ) (m : ℕ → ℕ) : Type 0 where
  pub column : m COLUMN ≡ column_after (m0 COLUMN) sent % 256
  pub others : (a : ℕ) → changes a ≡ false → a ≢ COLUMN → m a ≡ m0 a

-- ---- Send

-- the byte in A is sent
abbrev pub SendLaw : Type 0
SendLaw =
    (f : Setup) → Fits f 2 → Holds block_part f.code → (lo hi : ℕ) (text answers : List ℕ) (m : ℕ → ℕ) (a x y : ℕ) (n v i z c : Bool) → a < 256 →
    Comes f (view a x y n v i z c SEND_AT (lo ∷ hi ∷ []) m text answers) (Back lo hi text answers (Sent nowhere m (a ∷ []))) (a ∷ []) 7

-- ---- Text

-- a text of at most 255 bytes in the program, with its address and length as the routine is given them
pub record Points (f : Setup) (m : ℕ → ℕ) (at : ℕ) (bytes : List ℕ) : Type 0 where
  pub pointer : WordAt m POINTER at
  pub shown : Bytes f.code at bytes
  pub from : 0x0800 ≤ at
  pub to : at + length bytes ≤ 0xa000
  pub count : m LENGTH ≡ length bytes
  pub few : length bytes < 256
  pub bytes_small : AreBytes bytes

-- memory after Text sent bytes: COLUMN is the column after them, POINTER and LENGTH are lost, and all else is unchanged
pub record Told (m0 : ℕ → ℕ) (sent : List ℕ) (m : ℕ → ℕ) : Type 0 where
  pub column : m COLUMN % 256 ≡ column_after (m0 COLUMN) sent % 256
  pub column_small : m0 COLUMN < 256 → m COLUMN < 256
  pub others : (a : ℕ) → a ≢ COLUMN → a ≢ POINTER → a ≢ POINTER + 1 → a ≢ LENGTH → m a ≡ m0 a

-- Text sends the bytes it is pointed to, in 15 Go events a byte and 3
abbrev pub TextLaw : Type 0
TextLaw =
    (f : Setup) → Fits f 4 → Holds block_part f.code → (lo hi : ℕ) (text answers : List ℕ) (m : ℕ → ℕ) (a x y : ℕ) (n v i z c : Bool) (at : ℕ)
    (bytes : List ℕ) → Points f m at bytes →
    Comes f (view a x y n v i z c TEXT_AT (lo ∷ hi ∷ []) m text answers) (Back lo hi text answers (Told m bytes)) bytes (15 * length bytes + 3)

-- ---- Zone

-- spaces up to the next column that 8 divides
abbrev pub ZoneLaw : Type 0
ZoneLaw =
    (f : Setup) → Fits f 4 → Holds block_part f.code → (lo hi : ℕ) (text answers : List ℕ) (m : ℕ → ℕ) (a x y : ℕ) (n v i z c : Bool) → m COLUMN < 256 →
    Comes f (view a x y n v i z c ZONE_AT (lo ∷ hi ∷ []) m text answers) (Back lo hi text answers (Sent nowhere m (zone (m COLUMN)))) (zone (m COLUMN)) 65

-- ---- Multiply

-- Multiply gives the product modulo 65,536 within 245 Go events
abbrev pub MultiplyLaw : Type 0
MultiplyLaw =
    (f : Setup) → Fits f 2 → Holds block_part f.code → (lo hi : ℕ) (text answers : List ℕ) (m : ℕ → ℕ) (a x y : ℕ) (n v i z c : Bool) (left right : ℕ)
    → WordAt m LEFT left → WordAt m RIGHT right →
    Comes f (view a x y n v i z c MULTIPLY_AT (lo ∷ hi ∷ []) m text answers) (Back lo hi text answers (Gives is_argument m (word (left * right)))) [] 245

-- ---- division without signs, inside Divide

-- the entry of the division without signs, inside Divide
abbrev pub unsigned_at : ℕ
unsigned_at = DIVIDE_AT + 66

-- memory after the division without signs: quotient q at LEFT, remainder r at RESULT, and all else unchanged
pub record Parted (m0 : ℕ → ℕ) (q r : ℕ) (m : ℕ → ℕ) : Type 0 where
  pub parts : Parts is_argument m0 q r m
  pub right_low : m RIGHT ≡ m0 RIGHT
  pub right_high : m (RIGHT + 1) ≡ m0 (RIGHT + 1)

-- inside Divide: quotient and remainder of words without signs
abbrev pub UnsignedLaw : Type 0
UnsignedLaw =
    (f : Setup) → Fits f 4 → Holds block_part f.code → (lo hi : ℕ) (text answers : List ℕ) (m : ℕ → ℕ) (a x y : ℕ) (n v i z c : Bool) (left right : ℕ)
    → WordAt m LEFT left → WordAt m RIGHT right → 1 ≤ right → right ≤ 32768 →
    Comes f (view a x y n v i z c unsigned_at (lo ∷ hi ∷ []) m text answers) (Back lo hi text answers (Parted m (left / right) (left % right))) [] 156

-- ---- Divide

-- the entry of what negates LEFT, inside Divide
abbrev pub negate_left_at : ℕ
negate_left_at = DIVIDE_AT + 29

-- Divide gives the quotient of signed words, truncated toward zero, and the remainder's size, within 203 Go events
abbrev pub DivideLaw : Type 0
DivideLaw =
    (f : Setup) → Fits f 6 → Holds block_part f.code → (lo hi : ℕ) (text answers : List ℕ) (m : ℕ → ℕ) (a x y : ℕ) (n v i z c : Bool) (left right : ℕ)
    → WordAt m LEFT left → WordAt m RIGHT right → 1 ≤ right →
    Comes f (view a x y n v i z c DIVIDE_AT (lo ∷ hi ∷ []) m text answers) (Back lo hi text answers (Parts is_argument m (quotient left right) (magnitude left % magnitude right))) [] 203

-- by 0, Divide goes to Fault with 2, with memory unchanged
abbrev pub DivideByZeroLaw : Type 0
DivideByZeroLaw =
    (f : Setup) → Fits f 2 → Holds block_part f.code → (lo hi : ℕ) (text answers : List ℕ) (m : ℕ → ℕ) (a x y : ℕ) (n v i z c : Bool) → WordAt m RIGHT 0 →
    Comes f (view a x y n v i z c DIVIDE_AT (lo ∷ hi ∷ []) m text answers) (Faults lo hi text answers 2 (λ w. w ≡ m)) [] 10

-- ---- Number

-- Number sends the shortest decimal text of the signed word at LEFT
abbrev pub NumberLaw : Type 0
NumberLaw =
    (f : Setup) → Fits f 6 → Holds block_part f.code → (lo hi : ℕ) (text answers : List ℕ) (m : ℕ → ℕ) (a x y : ℕ) (n v i z c : Bool) (number : ℕ)
    → WordAt m LEFT number → m COLUMN < 256 →
    Comes f (view a x y n v i z c NUMBER_AT (lo ∷ hi ∷ []) m text answers) (Back lo hi text answers (Sent is_argument m (digits_of number))) (digits_of number) 334

-- ---- Random

-- whether an address is that of SEEDED or one of the two of SEED
abbrev pub is_seed : ℕ → Bool
is_seed a = a == SEEDED || within SEED (SEED + 1) a

-- the state of RND before a call, given the option's first state
abbrev pub seed_of : (ℕ → ℕ) → ℕ → ℕ → ℕ
seed_of m option stored = if m SEEDED == 0 then option else stored

-- memory after Random: the state after seed is stored, RESULT is it modulo bound; LEFT, RIGHT and SCRATCH are lost
pub record Drawn (m0 : ℕ → ℕ) (bound seed : ℕ) (m : ℕ → ℕ) : Type 0 where
  pub result : WordAt m RESULT (seed_after seed % bound)
  pub seed_at : WordAt m SEED (seed_after seed)
  pub seeded : m SEEDED ≡ 1
  pub others : (a : ℕ) → is_argument a ≡ false → (a == SCRATCH) ≡ false → is_seed a ≡ false → m a ≡ m0 a

-- Random takes the next seed, and gives what the bound leaves of it
abbrev pub RandomLaw : Type 0
RandomLaw =
    (f : Setup) → Fits f 6 → Holds block_part f.code → (lo hi : ℕ) (text answers : List ℕ) (m : ℕ → ℕ) (a x y : ℕ) (n v i z c : Bool)
    (bound option stored : ℕ) → WordAt m RIGHT bound → WordAt m LEFT option → WordAt m SEED stored → 1 ≤ bound → bound < 32768 →
    Comes f (view a x y n v i z c RANDOM_AT (lo ∷ hi ∷ []) m text answers) (Back lo hi text answers (Drawn m bound (seed_of m option stored))) [] 242

-- for a bound below 1, Random goes to Fault with 3, with memory unchanged
abbrev pub RandomRangeLaw : Type 0
RandomRangeLaw =
    (f : Setup) → Fits f 2 → Holds block_part f.code → (lo hi : ℕ) (text answers : List ℕ) (m : ℕ → ℕ) (a x y : ℕ) (n v i z c : Bool) (bound : ℕ)
    → WordAt m RIGHT bound → (bound ≡ 0) ⊎ (32768 ≤ bound) →
    Comes f (view a x y n v i z c RANDOM_AT (lo ∷ hi ∷ []) m text answers) (Faults lo hi text answers 3 (λ w. w ≡ m)) [] 6
