-- How the view of a started program begins, and where it ends.
use Rattle.std.specs.Prelude.{◌≡◌, ℕ, zero, suc, ◌+◌, ◌-◌, false, List, [], ◌∷◌, length}
use Rattle.tb_memmap.specs.Regions.{CODE_START}
use Rattle.tb_kernal.specs.Numbers.{CHRIN}
use Rattle.tb_kernal.specs.Machine.{State}
use Rattle.tb_machine_reaching.specs.View.{View, Setup, Part, back_at}

-- the bytes of a memory from an address on
abbrev pub from_memory : (ℕ → ℕ) → ℕ → ℕ → List ℕ
from_memory m at zero = []
from_memory m at (suc n) = m at ∷ from_memory m (at + 1) n

-- the low byte of the return address
abbrev pub home_low : State → ℕ
home_low s = s.mem (0x0101 + s.regs.s)

-- its high byte
abbrev pub home_high : State → ℕ
home_high s = s.mem (0x0101 + s.regs.s + 1)

-- all but the return address is kept on the stack, and S may go down by 16
abbrev pub setup_of : Part → Part → State → Setup
setup_of code whole s = record {
  code = code;
  whole = whole;
  rest = from_memory s.mem (0x0101 + s.regs.s + 1 + 1) (253 - s.regs.s);
  home = s.home;
  home_s = s.home_s;
  low = s.regs.s - 16;
}

-- the return address is on the view's stack
abbrev pub view_of : State → View
view_of s = record { regs = record s.regs { s = 0; pc = CODE_START }; stack = home_low s ∷ home_high s ∷ []; mem = s.mem; text = s.text; answers = s.answers }

-- ---- where a program ends

-- back where the machine was entered
pub record IsHome (f : Setup) (w : View) : Type 0 where
  pub pc : w.regs.pc ≡ f.home
  pub stack : w.stack ≡ []
  pub binary : w.regs.flags.d ≡ false

-- at CHRIN, with no byte left
pub record IsWaiting (w : View) : Type 0 where
  pub pc : w.regs.pc ≡ CHRIN
  pub text : w.text ≡ []

-- the return address of the start is lo, hi on the stack, and what is kept lies above it
pub record Homed (f : Setup) (lo hi : ℕ) : Type 0 where
  pub home : f.home ≡ back_at lo hi
  pub above : f.home_s + length f.rest ≡ 255
