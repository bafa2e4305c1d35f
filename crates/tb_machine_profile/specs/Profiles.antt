-- Runs that are counted.
use Rattle.std.specs.Prelude.{ℕ, List, Result, Ok, Err}
use Rattle.std.specs.declared.alloc.AllocError.{AllocError}
use Rattle.tb_kernal.specs.declared.events.Event.{Event}
use Rattle.tb_kernal.specs.Machine.{Content, state_of}
use Rattle.tb_kernal.specs.Runs.{RanOver}
use Rattle.tb_machine_profile.specs.declared.run.Profile.{Profile}
use Rattle.tb_machine_profile.specs.Steps.{steps}
use Rattle.tb_machine_profile.specs.Tallies.{IsTally}

-- a run of at most `limit` events that an outside gave, and the tally of its steps; nothing is said if memory ran out
abbrev pub Profiled : {O : Type 0} → (O → Content → Event → O → Type 0) → O → Content → List ℕ → ℕ → Result Profile AllocError → O → Content → Type 0
Profiled gives o m starts limit (Ok profile) p n =
    (ran : RanOver gives o m limit (Ok profile.status) p n)
    × IsTally starts (steps starts 0 ran.events (state_of m)) profile.tally
Profiled gives o m starts limit (Err e) p n = Unit {0}
