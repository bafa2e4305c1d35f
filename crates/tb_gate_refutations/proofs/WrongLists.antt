-- Why slot code is wrong, and why that of `lower` is right.
use Rattle.std.proofs.Common.{◌≡◌, ℕ, zero, suc, ◌≤◌, Bool, true, false, ◌&&◌, [], refl, sym, ap, ◌∙◌, arith}
use Rattle.std.specs.Prelude.{replicate, slice_index, nat_eq}
use Rattle.std.proofs.lemmas.Bool.{false≢true}
use Rattle.tb_basic_meaning.specs.Steps.{Run, GoesOn, Over, Faulted, Ended, Waits}
use Rattle.tb_basic_meaning.specs.Control.{State}
use Rattle.tb_basic_meaning.specs.Meaning.{line}
use Rattle.tb_lower.specs.Slots.{Slots, SlotState, Rest, Whole, Left, slot_run}
use Rattle.tb_lower.specs.Lowered.{program_code}
use Rattle.tb_lower.specs.Follows.{Follows}
use Rattle.tb_lower.proofs.Lists.{follows, more, none}
use Rattle.tb_gate_refutations.specs.Lists.{emptied, stored_late}
use Rattle.tb_gate_refutations.specs.Programs as program
use Rattle.tb_gate_refutations.specs.Programs.{stores_and_prints}
use Rattle.tb_gate_refutations.proofs.Refuting.{fails_ever}

abbrev cleared : Slots
cleared = record { words = replicate 16 0; held = 0 }

-- whether a run of the source faulted
abbrev is_faulted : Run State → Bool
is_faulted (Over Faulted out) = true
is_faulted (Over Ended out) = false
is_faulted (Over Waits out) = false
is_faulted (GoesOn s out) = false

-- the code comes past the last line, but the source ends
pub lower_gives_empty_lists : Follows program.ends (emptied program.ends) → ⊥
lower_gives_empty_lists f =
    let r = f.reaches_only 1 [] [] cleared refl 2 in
    false≢true (sym (fails_ever is_faulted (line program.ends) 1 r.0 _ refl) ∙ ap is_faulted r.1)

abbrev is_whole : Rest → Bool
is_whole Whole = true
is_whole (Left n is) = false

-- whether a line begins when A is 1
abbrev is_stored : Run SlotState → Bool
is_stored (GoesOn c out) = is_whole c.rest && nat_eq (slice_index c.state.vars 0) 1
is_stored (Over e out) = false

not_stored : (k : ℕ) → k ≤ 5 → is_stored (slot_run stored_late 1 [] [] cleared k) ≡ false
not_stored zero h = refl
not_stored (suc zero) h = refl
not_stored (suc (suc zero)) h = refl
not_stored (suc (suc (suc zero))) h = refl
not_stored (suc (suc (suc (suc zero)))) h = refl
not_stored (suc (suc (suc (suc (suc zero))))) h = refl
not_stored (suc (suc (suc (suc (suc (suc k)))))) h = absurd (omega (arith, h))

-- no line begins with A stored within as many instructions as line 10 may take
pub store_one_line_late : Follows stores_and_prints stored_late → ⊥
store_one_line_late f =
    let r = f.reaches 1 [] [] cleared refl 1 in
    false≢true (sym (not_stored r.0 r.1) ∙ ap is_stored r.2.2)

-- the lists of 10 END
pub ends : Follows program.ends (program_code program.ends)
ends = follows program.ends (more (omega arith) none)

-- the lists of 10 LET A=1, 20 PRINT A;
pub stores : Follows stores_and_prints (program_code stores_and_prints)
stores = follows stores_and_prints (more (omega arith) (more (omega arith) none))
