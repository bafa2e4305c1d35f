-- The steps of an engine: what it made, and how that is delivered.
use Rattle.std.specs.Prelude.{◌≡◌, Result, Ok, Err}
use Rattle.tb_engine_streams.specs.Uses.{Use, Fails, NeverFails}
use Rattle.tb_engines.specs.declared.delivery.Text.{Text}
use Rattle.tb_engines.specs.declared.delivery.NoText.{NoText}
use Rattle.tb_engines.specs.declared.delivery.NoText.TheVariants.{Refused as NoTextRefused, NoMemory as NoTextNoMemory}
use Rattle.tb_engine_streams.specs.declared.outcome.Outcome.{Outcome as AnyOutcome}
use Rattle.tb_engine_streams.specs.declared.outcome.Outcome.TheVariants.{Ended, Refused, ReadFault, WriteFault, NoMemory}
use Rattle.tb_engines.specs.declared.outcome.Refusal.{Refusal}
use Rattle.tb_engines.specs.Outcomes.{Outcome, Product}

-- how a call ends if there is no text
abbrev pub outcome_without : {E : Type 0} → NoText → AnyOutcome E Refusal
outcome_without (NoTextRefused e) = Refused e
outcome_without NoTextNoMemory = NoMemory

-- what was made is a product; there is none if memory ran out
abbrev pub Makes : (Product → Type 0) → Result Text NoText → Type 0
Makes makes (Ok text) = makes (Ok (text.bytes.items, text.end))
Makes makes (Err (NoTextRefused e)) = makes (Err e)
Makes makes (Err NoTextNoMemory) = Unit {0}

-- the product that was made
abbrev pub Shows : Result Text NoText → Product → Type 0
Shows (Ok text) product = product ≡ Ok (text.bytes.items, text.end)
Shows (Err (NoTextRefused e)) product = product ≡ Err e
Shows (Err NoTextNoMemory) product = ⊥

-- delivering never ends in a read fault, and in a write fault only if the writer failed
abbrev pub DeliveryFaults : Outcome → Use → Type 0
DeliveryFaults ReadFault writer = ⊥
DeliveryFaults WriteFault writer = Fails writer
DeliveryFaults (Ended end) writer = NeverFails writer
DeliveryFaults (Refused e) writer = NeverFails writer
DeliveryFaults NoMemory writer = NeverFails writer
