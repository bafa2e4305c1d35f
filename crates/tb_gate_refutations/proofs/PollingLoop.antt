-- Why the image of a loop is not one of END: after each round only the bytes below S were written, and they are the same.
use Rattle.std.proofs.Common.{◌≡◌, ℕ, Bool, true, false, if◌then◌else◌, refl}
use Rattle.std.specs.Prelude.{◌==◌}
use Rattle.tb_opcodes.specs.Opcodes.{decoded}
use Rattle.tb_memmap.specs.Bytes.{with_byte}
use Rattle.tb_kernal.specs.declared.status.Status.TheVariants.{Running, Returned}
use Rattle.tb_kernal.specs.Machine.{State}
use Rattle.tb_kernal.specs.Runs.{run}
use Rattle.tb_gate_refutations.specs.Compiled.{goto_itself_image}
use Rattle.tb_gate_refutations.specs.Programs.{ends}
use Rattle.tb_gate_refutations.specs.Statements.{IsRefuted}
use Rattle.tb_gate_refutations.proofs.Plain.{plain, started}
use Rattle.tb_gate_refutations.proofs.Refuting.{gos, circles_after}

chosen_again : (p q : Bool) (x y z : ℕ)
    → (if p then y else (if q then x else (if p then y else (if q then x else z)))) ≡ (if p then y else (if q then x else z))
chosen_again true q x y z = refl
chosen_again false true x y z = refl
chosen_again false false x y z = refl

-- two bytes that are written once more
written_again : (m : ℕ → ℕ) (a x b y : ℕ) → with_byte (with_byte (with_byte (with_byte m a x) b y) a x) b y ≡ with_byte (with_byte m a x) b y
written_again m a x b y = λ i c. chosen_again (c == b) (c == a) x y (m c) i

abbrev s : State
s = started goto_itself_image plain

-- a round, of which GETIN's call writes its return address
round : run (gos 5) (run (gos 197) s) ≡ run (gos 197) s
unfolding decoded
round = λ i. record (run (gos 197) s) { mem = written_again (run (gos 192) s).mem 0x01f0 0x0c 0x01ef 0x02 i }

-- line 10 again and again
pub silent_loop_that_polls : IsRefuted goto_itself_image ends
unfolding decoded
silent_loop_that_polls =
    circles_after goto_itself_image ends 1 plain refl 197 4 round 1 (λ d. let e : Running ≡ Returned = d.1 in cc)
