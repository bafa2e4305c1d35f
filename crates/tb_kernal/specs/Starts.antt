-- The start of a program in a machine of which nothing else is known.
use Rattle.std.specs.Prelude.{ℕ, ◌≡◌, ◌+◌, ◌<◌, ◌≤◌, true, None, List, [], length, slice_index}
use Rattle.tb_memmap.specs.Regions.{CODE_START, is_rom}
use Rattle.tb_kernal.specs.Rom.{service_at}
use Rattle.tb_kernal.specs.Machine.{State, home_of}

-- bytes lie in a memory from an address on
abbrev pub LieAt : ℕ → List ℕ → (ℕ → ℕ) → Type 0
LieAt base bytes m = (k : ℕ) → k < length bytes → m (base + k) ≡ slice_index bytes k

-- each address of a memory holds a byte
abbrev pub HoldsBytes : (ℕ → ℕ) → Type 0
HoldsBytes m = (a : ℕ) → m a < 256

-- a machine at the start of a program: its bytes are in place; all other bytes, A, X, Y, flags and keyboard are arbitrary
pub record IsStart (base : ℕ) (bytes : List ℕ) (s : State) : Type 0 where
  pub loaded : LieAt base bytes s.mem
  pub holds_bytes : HoldsBytes s.mem
  pub pc : s.regs.pc ≡ CODE_START
  pub s_from : 0x60 ≤ s.regs.s
  pub s_to : s.regs.s ≤ 0xfd
  -- the program returns after the word on the stack, which leads into ROM and to no service
  pub home : s.home ≡ home_of s.mem s.regs
  pub home_s : s.home_s ≡ s.regs.s + 2
  pub in_rom : is_rom s.home ≡ true
  pub no_service : service_at s.home ≡ None
  pub nothing_refused : s.wrong ≡ None
  pub nothing_sent : s.sent ≡ []
