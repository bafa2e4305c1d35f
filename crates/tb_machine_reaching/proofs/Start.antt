-- From an arbitrary start.
use Rattle.std.proofs.Common.{◌≡◌, ℕ, zero, suc, ◌+◌, ◌-◌, ◌%◌, ◌≤◌, ◌<◌, Bool, true, ◌&&◌, List, [], ◌∷◌, length, refl}
use Rattle.std.proofs.Common.{sym, ap, ◌∙◌, ⊎_elim, arith, eqb, Some}
use Rattle.std.specs.Prelude.{if◌then◌else◌}
use Rattle.std.proofs.lemmas.Bool.{and_parts, cases_eq, eqb-true, eq-eqb, ne_eqb}
use Rattle.std.proofs.lemmas.Bool.Decides.{nat_tests}
use Rattle.tb_cpu.specs.Operands.{word_from}
use Rattle.tb_memmap.specs.Regions.{is_rom}
use Rattle.tb_kernal.specs.Machine.{State}
use Rattle.tb_kernal.specs.Starts.{IsStart, LieAt}
use Rattle.tb_machine_reaching.specs.View.{At, Part, Holds, Fits, Stacked, part_at, is_program}
use Rattle.tb_machine_reaching.specs.Start.{from_memory, setup_of, view_of, home_low, home_high, Homed}
use Rattle.tb_machine_reaching.proofs.Act.{some_eq}

-- the bytes of n addresses are n bytes
pub length_from : (m : ℕ → ℕ) (at n : ℕ) → length (from_memory m at n) ≡ n
length_from m at zero = refl
length_from m at (suc n) = ap suc (length_from m (at + 1) n)

stacked_from : (m : ℕ → ℕ) (at n : ℕ) → Stacked m at (from_memory m at n)
stacked_from m at zero = tt
stacked_from m at (suc n) = (refl, stacked_from m (at + 1) n)

-- ---- bytes that lie in memory are a part's
far_rom : (a : ℕ) → is_rom a ≡ true → 0xa000 ≤ a
far_rom a h = grind (arith, nat_tests)

-- $0800 to $9FFF are the program's addresses
pub in_program : (a : ℕ) → 0x0800 ≤ a → a < 0xa000 → is_program a ≡ true
in_program a lo hi = grind (arith, nat_tests)

lies : (place : ℕ) (bytes : List ℕ) (m : ℕ → ℕ) → 0x0800 ≤ place → place + length bytes ≤ 0xa000 → LieAt place bytes m → (a b : ℕ)
    → part_at place bytes a ≡ Some b → (is_program a ≡ true) × (m a ≡ b)
lies place [] m from to h a b e = cc
lies place (x ∷ bytes) m from to h a b e = by_place (lies (place + 1) bytes m (omega arith) (omega arith)
    (λ k l. ap m (let s : place + 1 + k ≡ place + suc k = omega arith in s) ∙ h (suc k) (omega (arith, l))) a b)
  where
    by_place : (part_at (place + 1) bytes a ≡ Some b → (is_program a ≡ true) × (m a ≡ b)) → (is_program a ≡ true) × (m a ≡ b)
    by_place later = ⊎_elim
        (λ s. (
          in_program a (omega arith) (omega arith),
          ap m (let z : a ≡ place + 0 = omega arith in z) ∙ h 0 (omega arith) ∙ some_eq (ap (λ t. if t then Some x else part_at (place + 1) bytes a) (sym (eq-eqb a place s)) ∙ e),
        ))
        (λ n. later (ap (λ t. if t then Some x else part_at (place + 1) bytes a) (sym (ne_eqb a place n)) ∙ e))
        (cases_eq a place)

-- ---- the view at a start
module _ (place : ℕ) (bytes : List ℕ) (from : 0x0800 ≤ place) (to : place + length bytes ≤ 0xa000) (inner : Part)
    (holds : Holds inner (part_at place bytes)) (s : State) (h : IsStart place bytes s) where
  -- a started machine looks like the view of its start
  pub at_start : At (setup_of inner (part_at place bytes) s) (view_of s) s
  at_start = record {
    regs = ap (λ p. record s.regs { pc = p }) h.pc;
    depth = omega (arith, length_from s.mem (0x0101 + s.regs.s + 1 + 1) (253 - s.regs.s), h.s_to);
    stack = (refl, (refl, stacked_from s.mem (0x0101 + s.regs.s + 1 + 1) (253 - s.regs.s)));
    bytes = λ a e. refl;
    text = refl;
    answers = refl;
    stays = record { whole = lies place bytes s.mem from to h.loaded; inner = holds; right = h.nothing_refused; home = refl; home_s = refl; far = far_rom s.home h.in_rom; apart = h.no_service };
  }

  -- 16 bytes below the return address, and its two
  pub fits_start : Fits (setup_of inner (part_at place bytes) s) 18
  fits_start = omega (arith, length_from s.mem (0x0101 + s.regs.s + 1 + 1) (253 - s.regs.s), h.s_from, h.s_to)

  -- the return address of a start is on the stack, and what is kept lies above it
  pub homed_start : Homed (setup_of inner (part_at place bytes) s) (home_low s) (home_high s)
  homed_start =
      let low : 257 + s.regs.s ≡ 0x0101 + s.regs.s = omega arith in
      let high : 258 + s.regs.s ≡ 0x0101 + s.regs.s + 1 = omega arith in
      record {
        home = h.home ∙ ap (λ a. (word_from (s.mem a) (s.mem (258 + s.regs.s)) + 1) % 65536) low ∙ ap (λ a. (word_from (s.mem (0x0101 + s.regs.s)) (s.mem a) + 1) % 65536) high;
        above = omega (arith, h.home_s, length_from s.mem (0x0101 + s.regs.s + 1 + 1) (253 - s.regs.s), h.s_to);
      }

-- ---- cleared addresses: a computed test gives the fact for each address
abbrev pub all_zero : (ℕ → ℕ) → ℕ → ℕ → Bool
all_zero m at zero = true
all_zero m at (suc n) = eqb (m at) 0 && all_zero m (at + 1) n

-- if the test holds, each byte of the range is 0
pub zero_at : (m : ℕ → ℕ) (at n : ℕ) → all_zero m at n ≡ true → (a : ℕ) → at ≤ a → a < at + n → m a ≡ 0
zero_at m at zero h a lo hi = absurd (let none : ⊥ = omega arith in none)
zero_at m at (suc n) h a lo hi =
    let p = and_parts _ _ h in
    ⊎_elim (λ e. ap m e ∙ eqb-true _ _ p.0) (λ e. zero_at m (at + 1) n p.1 a (omega arith) (omega arith)) (cases_eq a at)
