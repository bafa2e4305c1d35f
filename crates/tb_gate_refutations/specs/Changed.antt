-- Images of the compiler with some bytes changed, written by tools/refutations.py.
use Rattle.std.specs.Prelude.{ℕ, ◌+◌, ◌-◌, List, [], ◌∷◌, ◌++◌, take, drop, length}
use Rattle.tb_memmap.specs.Regions.{BASIC_START}
use Rattle.tb_gate_refutations.specs.Compiled.{goto_itself_image, ends_image, prints_variable_image, prints_two_image}
use Rattle.tb_gate_refutations.specs.Compiled.{prints_and_faults_image, prints_quotient_image, prints_negative_quotient_image}
use Rattle.tb_gate_refutations.specs.Compiled.{compares_far_image, prints_quotient_by_256_image, prints_if_256_image}
use Rattle.tb_gate_refutations.specs.Compiled.{prints_if_positive_image, prints_if_below_256_image, prints_rest_image}
use Rattle.tb_gate_refutations.specs.Compiled.{prints_rest_by_three_image, prints_rest_of_bytes_image, prints_in_zones_image}
use Rattle.tb_gate_refutations.specs.Compiled.{goes_nowhere_image, inputs_two_image, calls_itself_image, calls_and_returns_image}
use Rattle.tb_gate_refutations.specs.Compiled.{goes_to_sum_image, prints_forever_image, prints_if_zero_image}

-- other bytes from an address on
abbrev pub changed : List ℕ → ℕ → List ℕ → List ℕ
changed bytes a new = take (a - BASIC_START) bytes ++ new ++ drop (a - BASIC_START + length new) bytes

-- RTS instead of JMP to line 10
abbrev pub loop_that_returns : List ℕ
loop_that_returns = changed goto_itself_image 0x0c07 (0x60 ∷ [])

-- if no break comes, a loop in place of the unused Poll instead of RTS: two NOP and a JMP
abbrev pub end_that_loops : List ℕ
end_that_loops = changed (changed ends_image 0x0c05 (0xd0 ∷ 0xec ∷ 0xea ∷ [])) 0x0bf3 (0xea ∷ 0xea ∷ 0x4c ∷ 0xf3 ∷ 0x0b ∷ [])

-- two NOP instead of the branch at a break
abbrev pub end_without_break : List ℕ
end_without_break = changed ends_image 0x0c05 (0xea ∷ 0xea ∷ [])

-- LDX #20 instead of LDX #10 before a break
abbrev pub break_in_line_20 : List ℕ
break_in_line_20 = changed ends_image 0x0c09 (0x14 ∷ [])

-- NOP instead of CLD
abbrev pub end_without_cld : List ℕ
end_without_cld = changed ends_image 0x080d (0xea ∷ [])

-- two NOP instead of the branch back that clears the variables
abbrev pub variables_uncleared : List ℕ
variables_uncleared = changed prints_variable_image 0x0816 (0xea ∷ 0xea ∷ [])

-- JMP to line 20 where line 10 begins
abbrev pub line_10_left_out : List ℕ
line_10_left_out = changed prints_two_image 0x0c00 (0x4c ∷ 0x25 ∷ 0x0c ∷ [])

-- the quotient is computed first, and then the text is sent
abbrev pub quotient_before_text : List ℕ
quotient_before_text = changed prints_and_faults_image 0x0c11 (
    0x0a ∷ 0x8d ∷ 0x3a ∷ 0xc0 ∷ 0xa9 ∷ 0x00 ∷ 0x8d ∷ 0x3b ∷ 0xc0 ∷ 0xa9 ∷ 0x01 ∷ 0x85 ∷ 0xfb ∷ 0xa9 ∷ 0x00 ∷ 0x85 ∷ 0xfc ∷ 0xa9 ∷ 0x00 ∷ 0x85 ∷
    0xfd ∷ 0xa9 ∷ 0x00 ∷ 0x85 ∷ 0xfe ∷ 0x20 ∷ 0x2e ∷ 0x08 ∷ 0xa5 ∷ 0xfb ∷ 0x8d ∷ 0x40 ∷ 0xc0 ∷ 0xa5 ∷ 0xfc ∷ 0x8d ∷ 0x41 ∷ 0xc0 ∷ 0xa9 ∷ 0x4a ∷
    0x85 ∷ 0xfb ∷ 0xa9 ∷ 0x0c ∷ 0x85 ∷ 0xfc ∷ 0xa9 ∷ 0x02 ∷ 0x8d ∷ 0x6c ∷ 0xc0 ∷ 0x20 ∷ 0xd9 ∷ 0x09 ∷ 0x4c ∷ 0x4c ∷ 0x0c ∷ 0x41 ∷ 0x41 ∷ [])

-- 0 instead of 1, and three NOP instead of the division
abbrev pub folded_to_zero : List ℕ
folded_to_zero = changed (changed prints_and_faults_image 0x0c30 (0x00 ∷ [])) 0x0c3f (0xea ∷ 0xea ∷ 0xea ∷ [])

-- STY and STX, of 0, instead of each last ROL that completes a byte of the quotient
abbrev pub quotient_left_zero : List ℕ
quotient_left_zero = changed (changed prints_quotient_image 0x08bc (0x84 ∷ [])) 0x08ec (0x86 ∷ [])

-- complements instead of the negations before and after a division of a negative number
abbrev pub quotient_rounded_down : List ℕ
quotient_rounded_down = changed (changed (changed prints_negative_quotient_image 0x0865 (0xf6 ∷ 0x0b ∷ [])) 0x0848 (0x4c ∷ 0xf3 ∷ 0x0b ∷ [])) 0x0bf4 (0x60 ∷ 0x08 ∷ 0xa2 ∷ 0x00 ∷ 0x18 ∷ 0x4c ∷ 0x4e ∷ 0x08 ∷ [])

-- four NOP instead of BVC and EOR, which mend the sign of a difference that does not fit
abbrev pub difference_wrapped : List ℕ
difference_wrapped = changed compares_far_image 0x0c3e (0xea ∷ 0xea ∷ 0xea ∷ 0xea ∷ [])

-- CLC and NOP in place of what rounds a negative word up
abbrev pub upper_byte_rounded_down : List ℕ
upper_byte_rounded_down = changed prints_quotient_by_256_image 0x0c28 (0x18 ∷ 0xea ∷ 0xea ∷ 0xea ∷ 0xea ∷ 0xea ∷ [])

-- two NOP in place of the branch if a high byte is not 0
abbrev pub high_byte_ignored : List ℕ
high_byte_ignored = changed prints_if_256_image 0x0c29 (0xea ∷ 0xea ∷ [])

-- two NOP in place of the branch if a word that is not negative is 0
abbrev pub zero_not_asked : List ℕ
zero_not_asked = changed prints_if_positive_image 0x0c18 (0xea ∷ 0xea ∷ [])

-- two NOP in place of EOR, which turns the sign of a high byte
abbrev pub sign_not_turned : List ℕ
sign_not_turned = changed prints_if_below_256_image 0x0c24 (0xea ∷ 0xea ∷ [])

-- 0 in place of the high byte whose sign a remainder gets
abbrev pub sign_not_looked_at : List ℕ
sign_not_looked_at = changed prints_rest_image 0x0c32 (0xa0 ∷ 0x00 ∷ 0xea ∷ [])

-- 0 in place of the high byte whose sign the rest of a multiple gets
abbrev pub sign_of_rest_lost : List ℕ
sign_of_rest_lost = changed prints_rest_by_three_image 0x0cf6 (0xa0 ∷ 0x00 ∷ 0xea ∷ [])

-- two NOP in place of the branch to the call if more than four divisors are in a byte
abbrev pub fifth_difference_forgotten : List ℕ
fifth_difference_forgotten = changed prints_rest_of_bytes_image 0x0c89 (0xea ∷ 0xea ∷ [])

-- the call of CHROUT in place of that of Send, which counts columns
abbrev pub byte_not_counted : List ℕ
byte_not_counted = changed prints_in_zones_image 0x0c13 (0xd2 ∷ 0xff ∷ [])

-- the fault's digit at $026D, which the ROM may write, instead of $C06D
abbrev pub digit_in_rom_memory : List ℕ
digit_in_rom_memory = changed (changed goes_nowhere_image 0x0bb8 (0x02 ∷ [])) 0x0bc9 (0x02 ∷ [])

-- the fault's digit at $0180, below S, instead of $C06D
abbrev pub digit_below_s : List ℕ
digit_below_s = changed (changed goes_nowhere_image 0x0bb7 (0x80 ∷ 0x01 ∷ [])) 0x0bc8 (0x80 ∷ 0x01 ∷ [])

-- LDX and DEX instead of LDA and DEC: the bytes left are counted in X over CHROUT
abbrev pub text_counted_in_x : List ℕ
text_counted_in_x = changed (changed prints_two_image 0x09d9 (0xae ∷ [])) 0x09eb (0xca ∷ 0xea ∷ 0xea ∷ [])

-- a comma drops the rest of the line by a loop in place of the unused Poll, and ends it
abbrev pub line_dropped_at_comma : List ℕ
line_dropped_at_comma = changed (changed inputs_two_image 0x0a86 (0x20 ∷ 0xf3 ∷ 0x0b ∷ 0xea ∷ [])) 0x0bf3 (
    0x98 ∷ 0xc9 ∷ 0x0d ∷ 0xf0 ∷ 0xa6 ∷ 0x20 ∷ 0xcf ∷ 0xff ∷ 0xa8 ∷ 0x4c ∷ 0xf4 ∷ 0x0b ∷ [])

-- JSR to the line instead of a note: the return is kept on the stack
abbrev pub calls_by_jsr : List ℕ
calls_by_jsr = changed calls_itself_image 0x0c07 (0x20 ∷ 0x00 ∷ 0x0c ∷ [])

-- the low bytes of the notes from $0100 on, below S, instead of $C100
abbrev pub notes_below_s : List ℕ
notes_below_s = changed (changed calls_and_returns_image 0x0c13 (0x01 ∷ [])) 0x0c6d (0x01 ∷ [])

-- JMP (RESULT) instead of JMP (LEFT): the return that was taken is not there
abbrev pub return_by_the_result : List ℕ
return_by_the_result = changed calls_and_returns_image 0x0c76 (0x66 ∷ 0xc0 ∷ [])

-- JMP over the last comparison, and the search is told of one line of two
abbrev pub last_entry_skipped : List ℕ
last_entry_skipped = changed (changed goes_to_sum_image 0x0c70 (0x4c ∷ 0x83 ∷ 0x0c ∷ [])) 0x0c8c (0x01 ∷ [])

-- CPX #0 instead of CMP #10: the comparison with line 10 looks at the high byte alone
abbrev pub high_byte_for_low : List ℕ
high_byte_for_low = changed goes_to_sum_image 0x0c5d (0xe0 ∷ 0x00 ∷ [])

-- JMP over the poll of line 10, which doesn't jump, and what is done for the STOP key
abbrev pub poll_at_jump_alone : List ℕ
poll_at_jump_alone = changed prints_forever_image 0x0c00 (0x4c ∷ 0x10 ∷ 0x0c ∷ [])

-- the text's call goes by way of one more poll, in place of the unused Poll
abbrev pub poll_after_if : List ℕ
poll_after_if = changed (changed prints_if_zero_image 0x0c28 (0xf3 ∷ 0x0b ∷ [])) 0x0bf9 (0x03 ∷ 0x4c ∷ 0xd9 ∷ 0x09 ∷ 0x4c ∷ 0x07 ∷ 0x0c ∷ [])

-- where the line table of END begins, as if its line began there
abbrev pub line_table : ℕ → ℕ
line_table number = 0x0c2f
