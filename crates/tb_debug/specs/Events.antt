-- One event of a machine.
use Rattle.std.specs.Prelude.{◌≡◌, Bool}
use Rattle.tb_kernal.specs.declared.events.Event.{Event}
use Rattle.tb_kernal.specs.Machine.{Content, state_of, happens}
use Rattle.tb_kernal.specs.Runs.{is_own}

-- an event that an outside gave a machine, with the outside and the machine after it; room may be made before it
pub record Took {O : Type 0} (gives : O → Content → Event → O → Type 0) (o : O) (m : Content) (own : Bool) (p : O) (n : Content)
    : Type 0 where
  pub event : Event
  pub ready : Content
  pub same : state_of ready ≡ state_of m
  pub given : gives o ready event p
  pub happened : state_of n ≡ happens (state_of m) event
  pub is_own : own ≡ is_own event
