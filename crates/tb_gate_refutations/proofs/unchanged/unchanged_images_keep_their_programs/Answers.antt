use Rattle.tb_gate_refutations.proofs.unchanged.unchanged_images_keep_their_programs.Goals as goal
use Rattle.tb_gate_refutations.proofs.UnchangedImages as lemma

pub returns-clause-ends : goal.returns-clause-ends
returns-clause-ends c = lemma.ends

pub returns-clause-goto_itself : goal.returns-clause-goto_itself
returns-clause-goto_itself c = lemma.goto_itself

pub returns-clause-prints_variable : goal.returns-clause-prints_variable
returns-clause-prints_variable c = lemma.prints_variable

pub returns-clause-prints_and_faults : goal.returns-clause-prints_and_faults
returns-clause-prints_and_faults c = lemma.prints_and_faults

pub returns-clause-goes_nowhere : goal.returns-clause-goes_nowhere
returns-clause-goes_nowhere c = lemma.goes_nowhere

pub returns-clause-prints_two : goal.returns-clause-prints_two
returns-clause-prints_two c = lemma.prints_two

pub returns-clause-prints_quotient : goal.returns-clause-prints_quotient
returns-clause-prints_quotient c = lemma.prints_quotient

pub returns-clause-inputs_two : goal.returns-clause-inputs_two
returns-clause-inputs_two c = lemma.inputs_two

pub returns-clause-calls_itself : goal.returns-clause-calls_itself
returns-clause-calls_itself c = lemma.calls_itself

pub returns-clause-calls_and_returns : goal.returns-clause-calls_and_returns
returns-clause-calls_and_returns c = lemma.calls_and_returns

pub returns-clause-goes_to_sum : goal.returns-clause-goes_to_sum
returns-clause-goes_to_sum c = lemma.goes_to_sum

pub returns-clause-prints_forever : goal.returns-clause-prints_forever
returns-clause-prints_forever c = lemma.prints_forever

pub returns-clause-prints_if_zero : goal.returns-clause-prints_if_zero
returns-clause-prints_if_zero c = lemma.prints_if_zero

pub returns-clause-prints_negative_quotient : goal.returns-clause-prints_negative_quotient
returns-clause-prints_negative_quotient c = lemma.prints_negative_quotient

pub returns-clause-compares_far : goal.returns-clause-compares_far
returns-clause-compares_far c = lemma.compares_far

pub returns-clause-prints_quotient_by_256 : goal.returns-clause-prints_quotient_by_256
returns-clause-prints_quotient_by_256 c = lemma.prints_quotient_by_256

pub returns-clause-prints_if_256 : goal.returns-clause-prints_if_256
returns-clause-prints_if_256 c = lemma.prints_if_256

pub returns-clause-prints_if_positive : goal.returns-clause-prints_if_positive
returns-clause-prints_if_positive c = lemma.prints_if_positive

pub returns-clause-prints_if_below_256 : goal.returns-clause-prints_if_below_256
returns-clause-prints_if_below_256 c = lemma.prints_if_below_256

pub returns-clause-prints_rest : goal.returns-clause-prints_rest
returns-clause-prints_rest c = lemma.prints_rest

pub returns-clause-prints_rest_by_three : goal.returns-clause-prints_rest_by_three
returns-clause-prints_rest_by_three c = lemma.prints_rest_by_three

pub returns-clause-prints_rest_of_bytes : goal.returns-clause-prints_rest_of_bytes
returns-clause-prints_rest_of_bytes c = lemma.prints_rest_of_bytes

pub returns-clause-prints_in_zones : goal.returns-clause-prints_in_zones
returns-clause-prints_in_zones c = lemma.prints_in_zones
