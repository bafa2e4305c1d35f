-- Why each changed image is wrong.
use Rattle.std.proofs.Common.{◌≡◌, ℕ, zero, suc, false, List, [], ◌∷◌, ◌++◌, refl}
use Rattle.std.specs.Prelude.{replicate}
use Rattle.tb_opcodes.specs.Opcodes.{decoded}
use Rattle.tb_cpu.specs.declared.wrong.Wrong.TheVariants.{Closed}
use Rattle.tb_kernal.specs.declared.events.Event.{Event}
use Rattle.tb_kernal.specs.declared.events.Event.TheVariants.{Go, Interrupt}
use Rattle.tb_kernal.specs.declared.status.Status.TheVariants.{Running, Returned}
use Rattle.tb_basic_meaning.specs.Control.{fault_text}
use Rattle.tb_basic_meaning.specs.Meaning.{source_run}
use Rattle.tb_gate_refutations.specs.Statements.{IsRefuted}
use Rattle.tb_gate_refutations.specs.Changed.{end_that_loops, loop_that_returns, end_without_break, break_in_line_20, line_10_left_out}
use Rattle.tb_gate_refutations.specs.Changed.{end_without_cld, variables_uncleared, quotient_before_text, folded_to_zero, quotient_left_zero}
use Rattle.tb_gate_refutations.specs.Changed.{digit_in_rom_memory, digit_below_s, text_counted_in_x, line_dropped_at_comma, calls_by_jsr}
use Rattle.tb_gate_refutations.specs.Changed.{notes_below_s, return_by_the_result, last_entry_skipped, high_byte_for_low, poll_at_jump_alone, poll_after_if}
use Rattle.tb_gate_refutations.specs.Programs.{ends, goto_itself, prints_two, prints_variable, prints_and_faults, prints_quotient}
use Rattle.tb_gate_refutations.specs.Programs.{goes_nowhere, inputs_two, calls_itself, calls_and_returns, goes_to_sum, prints_forever}
use Rattle.tb_gate_refutations.specs.Programs.{prints_if_zero}
use Rattle.tb_gate_refutations.specs.Changed.{quotient_rounded_down, difference_wrapped}
use Rattle.tb_gate_refutations.specs.Changed.{sign_not_turned}
use Rattle.tb_gate_refutations.specs.Changed.{sign_not_looked_at, sign_of_rest_lost, fifth_difference_forgotten, byte_not_counted}
use Rattle.tb_gate_refutations.specs.Changed.{zero_not_asked}
use Rattle.tb_gate_refutations.specs.Changed.{high_byte_ignored}
use Rattle.tb_gate_refutations.specs.Changed.{upper_byte_rounded_down}
use Rattle.tb_gate_refutations.specs.Programs.{prints_negative_quotient, compares_far}
use Rattle.tb_gate_refutations.specs.Programs.{prints_if_below_256}
use Rattle.tb_gate_refutations.specs.Programs.{prints_rest, prints_rest_by_three, prints_rest_of_bytes, prints_in_zones}
use Rattle.tb_gate_refutations.specs.Programs.{prints_if_positive}
use Rattle.tb_gate_refutations.specs.Programs.{prints_if_256}
use Rattle.tb_gate_refutations.specs.Programs.{prints_quotient_by_256}
use Rattle.tb_gate_refutations.proofs.Plain.{plain, typed, answering, decimal, filled, clearing, leaving_x}
use Rattle.tb_gate_refutations.proofs.Refuting.{is_over_with, circles_after, drifts_after, goes_wrong_after, returns_after, returns_after_never, returns_wrong, sends_after, sends_wrong}

-- after each Go an interrupt writes this byte there
abbrev rude : ℕ → ℕ → ℕ → List Event
rude a b zero = []
rude a b (suc n) = Go clearing ∷ Interrupt (record { items = (a, b) ∷ [] }) ∷ rude a b n

-- each service leaves 1 in X
abbrev leaving_1 : ℕ → List Event
leaving_1 zero = []
leaving_1 (suc n) = Go (leaving_x 1) ∷ leaving_1 n

never_over : (m : ℕ) → is_over_with [] (source_run goto_itself 1 [] [] m) ≡ false
never_over zero = refl
never_over (suc m) = never_over m

-- it goes round in three instructions
pub silent_loop_without_end : IsRefuted end_that_loops ends
unfolding decoded
silent_loop_without_end = circles_after end_that_loops ends 1 plain refl 230 2 refl 1 (λ d. let e : Running ≡ Returned = d.1 in cc)

-- it returns
pub returns_where_source_loops : IsRefuted loop_that_returns goto_itself
unfolding decoded
returns_where_source_loops = returns_after_never loop_that_returns goto_itself 1 plain refl 230 [] refl refl never_over

-- it returns silently
pub takes_no_break : IsRefuted end_without_break ends
unfolding decoded
takes_no_break = returns_after end_without_break ends 1 (answering (3 ∷ [])) refl 230 [] refl refl 1 refl

-- the break names line 20
pub fault_in_another_line : IsRefuted break_in_line_20 ends
unfolding decoded
fault_in_another_line = returns_after break_in_line_20 ends 1 (answering (3 ∷ [])) refl 350 (fault_text 0 20) refl refl 1 refl

-- it returns silently
pub missing_line : IsRefuted line_10_left_out prints_two
unfolding decoded
missing_line = returns_after line_10_left_out prints_two 1 plain refl 230 [] refl refl 2 refl

-- it comes to the return address with D set
pub prologue_trusts_memory_or_decimal : IsRefuted end_without_cld ends
unfolding decoded
prologue_trusts_memory_or_decimal = goes_wrong_after end_without_cld ends 1 decimal refl 230 (Closed 0xa100) refl

-- it sends 257
pub prologue_trusts_memory_or_decimal_in_variables : IsRefuted variables_uncleared prints_variable
unfolding decoded
prologue_trusts_memory_or_decimal_in_variables = sends_after variables_uncleared prints_variable 1 filled refl 230 (50 ∷ 53 ∷ 55 ∷ []) refl 2 refl

-- it sends the fault alone
pub print_values_all_items_first : IsRefuted quotient_before_text prints_and_faults
unfolding decoded
print_values_all_items_first = sends_after quotient_before_text prints_and_faults 1 plain refl 350 (fault_text 2 10) refl 1 refl

-- it sends AA0, and comes to the end
pub folding_drops_division_by_zero : IsRefuted folded_to_zero prints_and_faults
unfolding decoded
folding_drops_division_by_zero = sends_after folded_to_zero prints_and_faults 1 plain refl 450 (65 ∷ 65 ∷ 48 ∷ fault_text 7 10) refl 1 refl

-- it sends 0
pub quotient_is_always_zero : IsRefuted quotient_left_zero prints_quotient
unfolding decoded
quotient_is_always_zero = sends_after quotient_left_zero prints_quotient 1 plain refl 480 (48 ∷ fault_text 7 10) refl 2 refl

-- it sends -1
pub division_rounds_down : IsRefuted quotient_rounded_down prints_negative_quotient
unfolding decoded
division_rounds_down = sends_after quotient_rounded_down prints_negative_quotient 1 plain refl 520 (45 ∷ 49 ∷ fault_text 7 10) refl 2 refl

-- it returns silently
pub comparison_by_wrapped_difference : IsRefuted difference_wrapped compares_far
unfolding decoded
comparison_by_wrapped_difference = returns_after difference_wrapped compares_far 1 plain refl 230 [] refl refl 2 refl

-- it sends -1
pub quotient_by_256_rounds_down : IsRefuted upper_byte_rounded_down prints_quotient_by_256
unfolding decoded
quotient_by_256_rounds_down = sends_after upper_byte_rounded_down prints_quotient_by_256 1 plain refl 520 (45 ∷ 49 ∷ fault_text 7 10) refl 2 refl

-- it sends an A
pub high_byte_is_not_tested : IsRefuted high_byte_ignored prints_if_256
unfolding decoded
high_byte_is_not_tested = sends_after high_byte_ignored prints_if_256 1 plain refl 300 (65 ∷ []) refl 2 refl

-- it sends an A
pub zero_is_positive : IsRefuted zero_not_asked prints_if_positive
unfolding decoded
zero_is_positive = sends_after zero_not_asked prints_if_positive 1 plain refl 300 (65 ∷ []) refl 2 refl

-- it returns silently
pub negative_is_above_constant : IsRefuted sign_not_turned prints_if_below_256
unfolding decoded
negative_is_above_constant = returns_after sign_not_turned prints_if_below_256 1 plain refl 230 [] refl refl 2 refl

-- it sends 3
pub remainder_without_its_sign : IsRefuted sign_not_looked_at prints_rest
unfolding decoded
remainder_without_its_sign = sends_after sign_not_looked_at prints_rest 1 plain refl 600 (51 ∷ fault_text 7 20) refl 3 refl

-- it sends 1
pub remainder_by_three_without_its_sign : IsRefuted sign_of_rest_lost prints_rest_by_three
unfolding decoded
remainder_by_three_without_its_sign = sends_after sign_of_rest_lost prints_rest_by_three 1 plain refl 600 (49 ∷ fault_text 7 20) refl 3 refl

-- it sends 9
pub remainder_after_four_differences : IsRefuted fifth_difference_forgotten prints_rest_of_bytes
unfolding decoded
remainder_after_four_differences = sends_after fifth_difference_forgotten prints_rest_of_bytes 1 plain refl 600 (57 ∷ fault_text 7 30) refl 4 refl

-- it sends a space too many
pub byte_in_no_column : IsRefuted byte_not_counted prints_in_zones
unfolding decoded
byte_in_no_column = sends_after byte_not_counted prints_in_zones 1 plain refl 600 (65 ∷ (replicate 8 32 ++ 49 ∷ fault_text 7 10)) refl 2 refl

-- it sends the 9 of the interrupts
pub temporary_in_rom_memory : IsRefuted digit_in_rom_memory goes_nowhere
unfolding decoded
temporary_in_rom_memory = sends_wrong digit_in_rom_memory goes_nowhere 1 plain refl (rude 0x026d 57 340) refl (fault_text 9 10) refl 1 refl

-- it sends the 9 of the interrupts
pub temporary_below_s : IsRefuted digit_below_s goes_nowhere
unfolding decoded
temporary_below_s = sends_wrong digit_below_s goes_nowhere 1 plain refl (rude 0x0180 57 340) refl (fault_text 9 10) refl 1 refl

-- one A is sent
pub counter_kept_in_x_over_chrout : IsRefuted text_counted_in_x prints_two
unfolding decoded
counter_kept_in_x_over_chrout = returns_wrong text_counted_in_x prints_two 1 plain refl (leaving_1 230) refl (65 ∷ []) refl refl 2 refl

-- it asks again
pub input_drops_rest_of_line : IsRefuted line_dropped_at_comma inputs_two
unfolding decoded
input_drops_rest_of_line = sends_after line_dropped_at_comma inputs_two 1 (typed (49 ∷ 44 ∷ 50 ∷ 13 ∷ 51 ∷ 13 ∷ [])) refl 570 (63 ∷ 32 ∷ 13 ∷ 63 ∷ 32 ∷ 13 ∷ fault_text 7 10) refl 2 refl

-- S is lower by two for each call
pub returns_kept_on_page_one : IsRefuted calls_by_jsr calls_itself
unfolding decoded
returns_kept_on_page_one = drifts_after calls_by_jsr calls_itself 1 plain refl 260 refl

-- the interrupts turn the note into the address of line 20's break
pub returns_kept_on_page_one_below_s : IsRefuted notes_below_s calls_and_returns
unfolding decoded
returns_kept_on_page_one_below_s = sends_wrong notes_below_s calls_and_returns 1 plain refl (rude 0x0100 0x4d 370) refl (fault_text 0 20) refl 3 refl

-- it goes to address 0
pub return_goes_by_the_result : IsRefuted return_by_the_result calls_and_returns
unfolding decoded
return_goes_by_the_result = goes_wrong_after return_by_the_result calls_and_returns 1 plain refl 230 (Closed 0) refl

-- it finds no line 20
pub search_skips_last_entry : IsRefuted last_entry_skipped goes_to_sum
unfolding decoded
search_skips_last_entry = sends_after last_entry_skipped goes_to_sum 1 plain refl 380 (fault_text 1 10) refl 2 refl

-- the second answer is a break, in line 10 again
pub comparison_looks_at_the_high_byte : IsRefuted high_byte_for_low goes_to_sum
unfolding decoded
comparison_looks_at_the_high_byte = sends_after high_byte_for_low goes_to_sum 1 (answering (0 ∷ 3 ∷ [])) refl 420 (fault_text 0 10) refl 2 refl

-- the break comes in line 20
pub poll_only_at_jumps : IsRefuted poll_at_jump_alone prints_forever
unfolding decoded
poll_only_at_jumps = sends_after poll_at_jump_alone prints_forever 1 (answering (3 ∷ [])) refl 380 (65 ∷ fault_text 0 20) refl 1 refl

-- the second answer is taken in line 10
pub poll_inside_if : IsRefuted poll_after_if prints_if_zero
unfolding decoded
poll_inside_if = sends_after poll_after_if prints_if_zero 1 (answering (0 ∷ 3 ∷ [])) refl 350 (fault_text 0 10) refl 2 refl
