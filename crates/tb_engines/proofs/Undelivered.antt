-- What is delivered where there is no text.
use Rattle.std.proofs.Common.{◌≡◌, ℕ, List, Option, Some, None, Result, Err, refl, sym, subst}
use Rattle.std.specs.Io.KnownBytes.{Keeps}
use Rattle.tb_engine_streams.specs.Uses.{Use}
use Rattle.tb_engines.specs.Outcomes.{Outcome, Answers, Product}
use Rattle.tb_engines.specs.Delivery.{Makes, Shows, DeliveryFaults, outcome_without}
use Rattle.tb_engines.specs.declared.delivery.Text.{Text}
use Rattle.tb_engines.specs.declared.delivery.NoText.{NoText}
use Rattle.tb_engines.specs.declared.delivery.NoText.TheVariants.{Refused, NoMemory}

kept : (bytes : Option (List ℕ)) → Keeps bytes bytes
kept None = tt
kept (Some xs) = refl

-- nothing is written
pub nothing_written : (made : Result Text NoText) (stop : NoText) (outcome : Outcome) (bytes : Option (List ℕ)) → made ≡ Err stop
    → outcome ≡ outcome_without stop → Answers (Shows made) outcome bytes bytes
nothing_written made stop outcome bytes is ends =
    subst (λ m. Answers (Shows m) outcome bytes bytes) (sym is) (subst (λ o. Answers (Shows (Err stop)) o bytes bytes) (sym ends) (by stop))
  where
    by : (stop : NoText) → Answers (Shows (Err stop)) (outcome_without stop) bytes bytes
    by (Refused e) = (refl, kept bytes)
    by NoMemory = kept bytes

-- and no writer fails
pub nothing_fails : (stop : NoText) (outcome : Outcome) (bytes : Option (List ℕ)) (failures : ℕ) → outcome ≡ outcome_without stop
    → DeliveryFaults outcome (record { old = bytes; new = bytes; old_failures = failures; new_failures = failures })
nothing_fails stop outcome bytes failures ends = subst (λ o. DeliveryFaults o untouched) (sym ends) (by stop)
  where
    untouched : Use
    untouched = record { old = bytes; new = bytes; old_failures = failures; new_failures = failures }

    by : (stop : NoText) → DeliveryFaults (outcome_without stop) untouched
    by (Refused e) = refl
    by NoMemory = refl

-- where a text is not made for a reason that is known of it, nothing is written
pub unmade : (makes : Product → Type 0) (stop : NoText) (outcome : Outcome) (bytes : Option (List ℕ)) → outcome ≡ outcome_without stop
    → Makes makes (Err stop) → Answers makes outcome bytes bytes
unmade makes stop outcome bytes ends is = subst (λ o. Answers makes o bytes bytes) (sym ends) (by stop is)
  where
    by : (stop : NoText) → Makes makes (Err stop) → Answers makes (outcome_without stop) bytes bytes
    by (Refused e) is = (is, kept bytes)
    by NoMemory is = kept bytes
