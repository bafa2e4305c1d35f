-- A program that sends a line, and its routine that sends any text.
use Rattle.std.specs.Prelude.{◌≡◌, ◌≢◌, ◌⊎◌, ℕ, ◌+◌, ◌*◌, ◌<◌, ◌≤◌, Bool, true, false, List, [], ◌∷◌, length}
use Rattle.tb_memmap.specs.Regions.{CODE_START}
use Rattle.tb_kernal.specs.declared.events.Event.{Event}
use Rattle.tb_kernal.specs.declared.status.Status.TheVariants.{Running, Returned}
use Rattle.tb_kernal.specs.Machine.{State, status}
use Rattle.tb_kernal.specs.Runs.{run, all_lawful, goes}
use Rattle.tb_kernal.specs.Starts.{IsStart}
use Rattle.tb_words.specs.Prefixes.{IsPrefix}
use Rattle.tb_machine_reaching.specs.View.{View, Setup, Part, Holds, Fits, Comes, part_at, view, back_at, Bytes}

-- ---- the routine

-- the pointer to the next byte
abbrev pub pointer : ℕ
pointer = 0xfb

-- where the routine keeps the number of bytes left to send, in one byte
abbrev pub left : ℕ
left = 0xc000

-- the program's part, from its start on
abbrev pub program_part : List ℕ → Part
program_part program = part_at CODE_START program

-- a text of at most 255 bytes in the program, with its address and length as the routine is given them
pub record Points (f : Setup) (m : ℕ → ℕ) (text : List ℕ) : Type 0 where
  pub low : m pointer < 256
  pub high : m (pointer + 1) < 256
  pub shown : Bytes f.code (m pointer + 256 * m (pointer + 1)) text
  pub from : 0x0800 ≤ m pointer + 256 * m (pointer + 1)
  pub to : m pointer + 256 * m (pointer + 1) + length text ≤ 0xa000
  pub count : m left ≡ length text
  pub few : length text < 256

-- back at the caller, with all but the routine's own bytes unchanged
pub record Sent (lo hi : ℕ) (m : ℕ → ℕ) (text answers : List ℕ) (w : View) : Type 0 where
  pub pc : w.regs.pc ≡ back_at lo hi
  pub stack : w.stack ≡ []
  pub binary : w.regs.flags.d ≡ false
  pub same_text : w.text ≡ text
  pub same_answers : w.answers ≡ answers
  pub others : (a : ℕ) → a ≢ pointer → a ≢ pointer + 1 → a ≢ left → w.mem a ≡ m a

-- from its entry $081F to its return, under any caller and whatever the ROM does, the routine sends the text
abbrev pub SendsText : List ℕ → Type 0
SendsText program =
    (f : Setup) → Fits f 4 → Holds (program_part program) f.code →
    (lo hi : ℕ) (text answers : List ℕ) (m : ℕ → ℕ) (a x y : ℕ) (n v i z c : Bool) (sent : List ℕ) → Points f m sent →
    Comes f (view a x y n v i z c 0x081f (lo ∷ hi ∷ []) m text answers) (Sent lo hi m text answers) sent
    (9 * length sent + 3)

-- ---- the program

-- HELLO, and a return
abbrev pub hello_text : List ℕ
hello_text = 72 ∷ 69 ∷ 76 ∷ 76 ∷ 79 ∷ 13 ∷ []

-- from every start, whatever the ROM does: a prefix of the text was sent and the machine runs, for fewer than n Go
-- events, or exactly the text was sent and the machine returned
abbrev pub Prints : List ℕ → List ℕ → ℕ → Type 0
Prints program text n =
    (s : State) → IsStart CODE_START program s → (es : List Event) → all_lawful es s ≡ true →
    ((status (run es s) ≡ Returned) × ((run es s).sent ≡ text))
    ⊎ ((status (run es s) ≡ Running) × IsPrefix (run es s).sent text × (goes es < n))
