-- How calls end that read, make and write.
use Rattle.std.specs.Prelude.{ℕ, Result, Ok, Err}
use Rattle.std.specs.declared.convert.Infallible.{Infallible}
use Rattle.tb_engine_streams.specs.Numbers.{FAULT, NO_MEMORY}
use Rattle.tb_engine_streams.specs.declared.outcome.Outcome.{Outcome}
use Rattle.tb_engine_streams.specs.declared.outcome.Outcome.TheVariants.{Ended, Refused, ReadFault, WriteFault, NoMemory}
use Rattle.tb_engine_streams.specs.declared.stream.InputError.{InputError}
use Rattle.tb_engine_streams.specs.declared.stream.InputError.TheVariants as input

-- why a call made nothing that can be written
abbrev pub Failure : Type 0 → Type 0
Failure R = Outcome Infallible R

-- the exit status, by those of ends and of refusals
abbrev pub status_of : {E R : Type 0} → (E → ℕ) → (R → ℕ) → Outcome E R → ℕ
status_of of_end of_refusal (Ended end) = of_end end
status_of of_end of_refusal (Refused e) = of_refusal e
status_of of_end of_refusal ReadFault = FAULT
status_of of_end of_refusal WriteFault = FAULT
status_of of_end of_refusal NoMemory = NO_MEMORY

-- how a call ends by what it did, or by why it made nothing
abbrev pub ended_by : {E R : Type 0} → Result E (Failure R) → Outcome E R
ended_by (Ok end) = Ended end
ended_by (Err (Refused e)) = Refused e
ended_by (Err ReadFault) = ReadFault
ended_by (Err WriteFault) = WriteFault
ended_by (Err NoMemory) = NoMemory
ended_by (Err (Ended never)) = elim never [ ]

-- how a call ends if an input could not be had
abbrev pub of_input : {E R : Type 0} → InputError → Outcome E R
of_input input.Fault = ReadFault
of_input input.NoMemory = NoMemory
