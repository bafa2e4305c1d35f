-- Why each image of a few instructions is wrong.
use Rattle.std.proofs.Common.{◌≡◌, ℕ, zero, suc, false, [], ◌∷◌, ◌++◌, refl}
use Rattle.tb_opcodes.specs.Opcodes.{decoded}
use Rattle.tb_cpu.specs.declared.wrong.Wrong.TheVariants.{Closed}
use Rattle.tb_kernal.specs.declared.events.Event.{Event}
use Rattle.tb_kernal.specs.declared.events.Event.TheVariants.{Go, Interrupt}
use Rattle.tb_kernal.specs.declared.status.Status.TheVariants.{Running, Returned}
use Rattle.tb_basic_meaning.specs.Control.{fault_text}
use Rattle.tb_basic_meaning.specs.Meaning.{source_run}
use Rattle.tb_gate_refutations.specs.Statements.{IsNeverKept}
use Rattle.tb_gate_refutations.specs.Bare as bare
use Rattle.tb_gate_refutations.specs.Bare.{stands_still, returns_in_decimal_mode, sends_uncleared_variable, keeps_below_s, keeps_in_rom_work}
use Rattle.tb_gate_refutations.specs.Bare.{faults_before_it_sends, faults_in_line_20}
use Rattle.tb_gate_refutations.specs.Programs.{ends, goto_itself, prints_variable, prints_a, prints_two, prints_and_faults, faults}
use Rattle.tb_gate_refutations.proofs.Plain.{plain, answering, decimal, filled, leaving_x}
use Rattle.tb_gate_refutations.proofs.Refuting.{is_over_with, gos, circles_after, goes_wrong_after, returns_after, returns_after_never, returns_wrong, sends_after, sends_wrong}

-- an interrupt that writes a B
abbrev b_at : ℕ → Event
b_at a = Interrupt (record { items = (a, 66) ∷ [] })

never_over : (seed m : ℕ) → is_over_with [] (source_run goto_itself seed [] [] m) ≡ false
never_over seed zero = refl
never_over seed (suc m) = never_over seed m

-- it returns
pub returns : IsNeverKept (bare.sends []) goto_itself
unfolding decoded
returns seed = returns_after_never (bare.sends []) goto_itself seed plain refl 2 [] refl refl (never_over seed)

-- it stands still
pub loops : IsNeverKept stands_still ends
unfolding decoded
loops seed = circles_after stands_still ends seed plain refl 1 0 refl 1 (λ d. let e : Running ≡ Returned = d.1 in cc)

-- it stands still, and takes no break
pub loops_without_break : IsNeverKept stands_still goto_itself
unfolding decoded
loops_without_break seed =
    circles_after stands_still goto_itself seed (answering (3 ∷ [])) refl 1 0 refl 1 (λ d. let e : Running ≡ Returned = d.1 in cc)

-- it sends an A
pub sends : IsNeverKept (bare.sends (65 ∷ [])) ends
unfolding decoded
sends seed = sends_after (bare.sends (65 ∷ [])) ends seed plain refl 4 (65 ∷ []) refl 1 refl

-- it returns with D set
pub decimal_mode : IsNeverKept returns_in_decimal_mode ends
unfolding decoded
decimal_mode seed = goes_wrong_after returns_in_decimal_mode ends seed decimal refl 2 (Closed 0xa100) refl

-- it sends a 1
pub uncleared : IsNeverKept sends_uncleared_variable prints_variable
unfolding decoded
uncleared seed = sends_after sends_uncleared_variable prints_variable seed filled refl 6 (49 ∷ []) refl 2 refl

-- CHROUT leaves 1 in X, so one A is sent
pub counts_in_x : IsNeverKept bare.counts_in_x prints_two
unfolding decoded
counts_in_x seed = returns_wrong bare.counts_in_x prints_two seed plain refl (gos 4 ++ Go (leaving_x 1) ∷ gos 3) refl (65 ∷ []) refl refl 2 refl

-- it sends the B of an interrupt below S
pub below_s : IsNeverKept keeps_below_s prints_a
unfolding decoded
below_s seed = sends_wrong keeps_below_s prints_a seed plain refl (gos 5 ++ b_at 0x01f0 ∷ gos 3) refl (66 ∷ []) refl 2 refl

-- it sends the B of an interrupt in the ROM's memory
pub in_rom_memory : IsNeverKept keeps_in_rom_work prints_a
unfolding decoded
in_rom_memory seed = sends_wrong keeps_in_rom_work prints_a seed plain refl (gos 3 ++ b_at 0x02 ∷ gos 3) refl (66 ∷ []) refl 2 refl

-- the fault comes first
pub items : IsNeverKept faults_before_it_sends prints_and_faults
unfolding decoded
items seed = sends_after faults_before_it_sends prints_and_faults seed plain refl 4 (13 ∷ []) refl 1 refl

-- the fault names another line
pub another_line : IsNeverKept faults_in_line_20 faults
unfolding decoded
another_line seed = returns_after faults_in_line_20 faults seed plain refl 32 (fault_text 2 20) refl refl 1 refl
