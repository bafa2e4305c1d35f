-- What a program knows of the machine between two events: all but the bytes that the ROM may write.
use Rattle.std.specs.Prelude.{◌≡◌, ◌⊎◌, ℕ, ◌+◌, ◌*◌, ◌%◌, ◌≤◌, Bool, true, false, ◌||◌, ◌==◌, List, [], ◌∷◌}
use Rattle.std.specs.Prelude.{◌++◌, length, Option, Some, None, if◌then◌else◌}
use Rattle.tb_cpu.specs.declared.registers.Regs.{Regs}
use Rattle.tb_cpu.specs.declared.wrong.Wrong.{Wrong}
use Rattle.tb_kernal.specs.declared.status.Status.TheVariants.{Running}
use Rattle.tb_kernal.specs.declared.rom.Service.{Service}
use Rattle.tb_memmap.specs.Regions.{within}
use Rattle.tb_kernal.specs.Rom.{service_at}
use Rattle.tb_kernal.specs.Machine.{State, status}
use Rattle.tb_machine_reaching.specs.Reaching.{States, Reaches}

-- ---- addresses

-- the program's own data
abbrev pub is_data : ℕ → Bool
is_data a = within 0x00fb 0x00fe a || within 0xc000 0xcfff a

-- the program itself, which isn't written
abbrev pub is_program : ℕ → Bool
is_program a = within 0x0800 0x9fff a

-- addresses that no event of the ROM writes
abbrev pub is_fixed : ℕ → Bool
is_fixed a = is_data a || is_program a

-- ---- a view, and what is kept

-- the registers, of which S is not looked at; the bytes pushed since a routine began, the last one first; memory; the keyboard
pub record View : Type 0 where
  pub regs : Regs
  pub stack : List ℕ
  pub mem : ℕ → ℕ
  pub text : List ℕ
  pub answers : List ℕ

-- some bytes at their addresses
abbrev pub Part : Type 0
Part = ℕ → Option ℕ

-- a list of bytes from an address on
abbrev pub part_at : ℕ → List ℕ → Part
part_at at [] a = None
part_at at (b ∷ bs) a = let later = part_at (at + 1) bs a in if a == at then Some b else later

-- bytes follow one another from an address on
abbrev pub Bytes : Part → ℕ → List ℕ → Type 0
Bytes code at [] = Unit {0}
Bytes code at (b ∷ bs) = (code at ≡ Some b) × Bytes code ((at + 1) % 65536) bs

-- a part without its bytes at some addresses
abbrev pub without : (ℕ → Bool) → Part → Part
without barred code a = if barred a then None else code a

-- all bytes of one are among the other's
abbrev pub Holds : Part → Part → Type 0
Holds part code = (a b : ℕ) → part a ≡ Some b → code a ≡ Some b

-- what is kept while a routine runs: the bytes that instructions may be fetched from, all bytes of the program,
-- the stack above the view's, the return, and the lowest S
pub record Setup : Type 0 where
  pub code : Part
  pub whole : Part
  pub rest : List ℕ
  pub home : ℕ
  pub home_s : ℕ
  pub low : ℕ

-- bytes follow one another in memory
abbrev pub Stacked : (ℕ → ℕ) → ℕ → List ℕ → Type 0
Stacked m at [] = Unit {0}
Stacked m at (b ∷ bs) = (m at ≡ b) × Stacked m (at + 1) bs

-- registers with another S
abbrev pub with_s : ℕ → Regs → Regs
with_s k r = record r { s = k }

-- the program is in memory, nothing went wrong, and the return leads to the ROM and to no service
pub record Stays (f : Setup) (m : ℕ → ℕ) (wrong : Option Wrong) (to to_s : ℕ) : Type 0 where
  pub whole : (a b : ℕ) → f.whole a ≡ Some b → (is_program a ≡ true) × (m a ≡ b)
  pub inner : Holds f.code f.whole
  pub right : wrong ≡ None
  pub home : to ≡ f.home
  pub home_s : to_s ≡ f.home_s
  pub far : 0xa000 ≤ f.home
  pub apart : service_at f.home ≡ None

-- a state looks like a view
pub record At (f : Setup) (v : View) (s : State) : Type 0 where
  pub regs : s.regs ≡ with_s s.regs.s v.regs
  pub depth : s.regs.s + length (v.stack ++ f.rest) ≡ 255
  pub stack : Stacked s.mem (0x0101 + s.regs.s) (v.stack ++ f.rest)
  pub bytes : (a : ℕ) → is_fixed a ≡ true → s.mem a ≡ v.mem a
  pub text : s.text ≡ v.text
  pub answers : s.answers ≡ v.answers
  pub stays : Stays f s.mem s.wrong s.home s.home_s

-- ---- reaching by views

-- PC is at a service, or at a byte that instructions may be fetched from
abbrev pub OnCode : Setup → States
OnCode f s = ((q : Service) × (service_at s.regs.pc ≡ Some q)) ⊎ ((b : ℕ) × (f.code s.regs.pc ≡ Some b))

-- on the way: the machine runs, on the program's code, with S in its window
pub record UnderWay (f : Setup) (s : State) : Type 0 where
  pub runs : status s ≡ Running
  pub not_below : f.low ≤ s.regs.s
  pub not_above : s.regs.s + length f.rest ≤ 255
  pub on_code : OnCode f s

-- with this many bytes on top of what is kept, S is not below the lowest
abbrev pub Fits : Setup → ℕ → Type 0
Fits f room = f.low + room + length f.rest ≤ 255

-- some view in q
abbrev pub Among : Setup → (View → Type 0) → States
Among f q s = (w : View) × At f w s × q w

-- from a view to a set of views, with output t within n Go events
pub record Comes (f : Setup) (v : View) (q : View → Type 0) (t : List ℕ) (n : ℕ) : Type 0 where
  pub reaches : Reaches (UnderWay f) (At f v) (Among f q) t n

-- ---- writing views

-- a view with D clear
abbrev pub view : ℕ → ℕ → ℕ → Bool → Bool → Bool → Bool → Bool → ℕ → List ℕ → (ℕ → ℕ) → List ℕ → List ℕ → View
view a x y n v i z c pc stack mem text answers = record {
  regs = record { a = a; x = x; y = y; s = 0; pc = pc; flags = record { n = n; v = v; d = false; i = i; z = z; c = c } };
  stack = stack;
  mem = mem;
  text = text;
  answers = answers;
}

-- where RTS goes
abbrev pub back_at : ℕ → ℕ → ℕ
back_at lo hi = (lo + 256 * hi + 1) % 65536
