-- What the prologue leaves represents the start of a program's run.
use Rattle.std.proofs.Common.{◌≡◌, ℕ, ◌+◌, ◌≤◌, ◌<◌, true, length, refl, sym, ◌∙◌, subst, arith}
use Rattle.std.specs.Prelude.{replicate}
use Rattle.std.proofs.lemmas.Bool.Decides.{nat_tests}
use Rattle.tb_memmap.proofs.View.{zeros}
use Rattle.tb_kernal.specs.Machine as machine
use Rattle.tb_machine_reaching.specs.View.{View, Setup}
use Rattle.tb_machine_reaching.specs.Start.{home_low, home_high}
use Rattle.tb_basic_syntax.specs.Source.{numbers}
use Rattle.tb_basic_meaning.specs.Control.{first_place}
use Rattle.tb_basic_meaning.specs.Meaning.{start}
use Rattle.tb_lower.specs.Slots.{SlotCode, Slots}
use Rattle.tb_compiled_kept.specs.Addresses.{VARS, COLUMN, OPEN, SEEDED, SEED, NOTES, LINES_AT, var_at}
use Rattle.tb_opcodes.specs.Bytes.{AreBytes}
use Rattle.tb_proof_simulation.specs.Layout.{Layout, place_address}
use Rattle.tb_runtime16.specs.Routines.{WordAt, first}
use Rattle.tb_runtime16.specs.Ends.{Begun, is_cleared}
use Rattle.tb_proof_simulation.proofs.Mirrors.{Opens}

-- nothing is known about the slots
abbrev pub some_slots : Slots
some_slots = record { words = replicate 16 0; held = 0 }

cleared_low : (a : ℕ) → VARS ≤ a → a ≤ SEEDED → is_cleared a ≡ true
cleared_low a lo hi = grind (arith, nat_tests)

zero_word : (m : ℕ → ℕ) (at : ℕ) → m at ≡ 0 → m (at + 1) ≡ 0 → WordAt m at 0
zero_word m at l h = record { low = l; high = h; small = omega arith }

module _ (ly : Layout) (f : Setup) (sc : SlotCode) (numbered : numbers sc ≡ ly.numbers) (first_at : place_address ly (first_place (numbers sc)) ≡ LINES_AT)
    (seed_small : ly.seed < 65536) (s : machine.State) (text : AreBytes s.text) (answers : AreBytes s.answers) (w : View) (b : Begun f s w) where
  -- after the prologue the memory holds the state at the start
  pub opened : Opens ly f (home_low s) (home_high s) (length s.text) (start (numbers sc) ly.seed s.text s.answers) w
  opened = record {
    pc = b.pc ∙ sym first_at;
    stack = b.stack;
    binary = b.binary;
    text = b.same_text;
    answers = b.same_answers;
    holds = record {
      vars = λ x lt. subst (WordAt w.mem (var_at x)) (sym (zeros 26 x))
          (zero_word w.mem (var_at x) (b.cleared (var_at x) (cleared_low (var_at x) (omega arith) (omega (arith, lt))))
          (b.cleared (var_at x + 1) (cleared_low (var_at x + 1) (omega arith) (omega (arith, lt)))));
      column = b.cleared COLUMN refl;
      opened = b.cleared OPEN refl;
      seeded = first (b.cleared SEEDED refl) refl seed_small 0 (zero_word w.mem SEED (b.cleared SEED refl) (b.cleared (SEED + 1) refl));
      count = zero_word w.mem NOTES (b.cleared NOTES refl) (b.cleared (NOTES + 1) refl);
      returns = tt;
      few = omega arith;
      all_vars = refl;
    };
    homed = b.entered;
    short = record { short = omega arith; text_bytes = text; answer_bytes = answers };
  }
