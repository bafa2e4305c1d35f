-- The prologue.
use Rattle.std.proofs.Common.{◌≡◌, ℕ, zero, suc, ◌+◌, ◌-◌, ◌≤◌, ◌<◌, true, [], refl, sym, ⊎_elim, arith}
use Rattle.std.proofs.lemmas.Bool.{or_cases, cases_eq}
use Rattle.std.proofs.lemmas.Bool.Decides.{nat_tests}
use Rattle.tb_memmap.specs.Bytes.{with_byte}
use Rattle.tb_memmap.specs.Regions.{within}
use Rattle.tb_machine_reaching.proofs.Memory.{put_other, put_same}
use Rattle.tb_machine_reaching.specs.View.{part_at}
use Rattle.tb_machine_reaching.proofs.Acting.{the, run_view}
use Rattle.tb_machine_reaching.specs.Start.{setup_of, view_of}
use Rattle.tb_machine_reaching.proofs.Comes.{after, ending}
use Rattle.tb_machine_reaching.proofs.StackPointer.{taking_s}
use Rattle.tb_machine_reaching.proofs.Start.{length_from, fits_start, homed_start, zero_at}
use Rattle.tb_compiled_kept.specs.Addresses.{HOME_S, VARS, SEEDED, SEED, NOTES}
use Rattle.tb_runtime16.specs.Ends.{Begun, PrologueLaw}
use Rattle.tb_runtime16.proofs.Within.{prologue_part, prologue_in}

inside : (lo hi a : ℕ) → within lo hi a ≡ true → (lo ≤ a) × (a ≤ hi)
inside lo hi a h = (grind (arith, nat_tests), grind (arith, nat_tests))

-- bytes from the last of n down to the first cleared
abbrev cleared_to : ℕ → (ℕ → ℕ) → ℕ → ℕ
cleared_to zero m = m
cleared_to (suc n) m = cleared_to n (with_byte m (VARS + n) 0)

put_small : (m : ℕ → ℕ) (at b : ℕ) → b < 256 → ((a : ℕ) → m a < 256) → (a : ℕ) → with_byte m at b a < 256
put_small m at b small h a = ⊎_elim (λ e. let s = put_same m at b a e in omega (arith, s, small)) (λ e. let s = put_other m at b a e in omega (arith, s, h a)) (cases_eq a at)

cleared_small : (n : ℕ) (m : ℕ → ℕ) → ((a : ℕ) → m a < 256) → (a : ℕ) → cleared_to n m a < 256
cleared_small zero m h = h
cleared_small (suc n) m h = cleared_small n (with_byte m (VARS + n) 0) (put_small m (VARS + n) 0 (omega arith) h)

-- the prologue's law, from the block's bytes
pub prologue_law : PrologueLaw
prologue_law place bytes from to inner holds block s h =
    let f = setup_of inner (part_at place bytes) s in
    let fits = fits_start place bytes from to inner holds s h in
    let v = view_of s in
    let w = the v (run_view prologue_part 18 189 v) in
    let last = with_byte w.mem HOME_S s.regs.s in
    let size = length_from s.mem (0x0101 + s.regs.s + 1 + 1) (253 - s.regs.s) in
    after f 18 fits prologue_part (prologue_in inner block) 188 v (Begun f s) [] (1 + 2) refl
    (taking_s f 18 fits w s.regs.s (Begun f s) [] 2 (prologue_in inner block _ _ refl) refl (omega (arith, size, h.s_to))
    (ending f 18 fits prologue_part (prologue_in inner block) 1 _ (Begun f s) refl
    (record {
      pc = refl;
      stack = refl;
      binary = refl;
      same_text = refl;
      same_answers = refl;
      cleared = λ a e. ⊎_elim (λ r. let p = inside VARS SEEDED a r in zero_at last VARS 55 refl a p.0 (omega (arith, p.1))) (λ r. let p =
          inside SEED (NOTES + 1) a r in zero_at last SEED 6 refl a p.0 (omega (arith, p.1))) (or_cases _ _ e);
      bytes = put_small w.mem HOME_S s.regs.s (omega (arith, h.s_to)) (cleared_small 62 s.mem h.holds_bytes);
      entered = record { homed = homed_start place bytes from to inner holds s h; kept = sym h.home_s };
    })))
