-- Ways of a session.
use Rattle.std.proofs.Common.{◌≡◌, Bool, true, Result, Ok, Err, OnOk, IfOk, sym, subst}
use Rattle.tb_dap_values.specs.declared.requests.Movement.{Movement}
use Rattle.tb_debug.specs.Begins.{StandsBy, StepsBy, standing_of}
use Rattle.tb_debug.specs.Debuggers.{KeepsRun}
use Rattle.tb_debug.specs.declared.moment.Reached.{Reached}
use Rattle.tb_debug.proofs.Leading.{stands_as}
use Rattle.tb_dap_adapter.specs.Sessions.{GoesAhead, GoesBehind, WalksBack, WalksOn}
use Rattle.tb_dap_adapter.specs.declared.session.Session.{Session}

module _ {E : Type 0} (s t : Session) where
  -- what a way on of the debugger is to the session
  pub walked_on : (m : Movement) (events : Bool) (r : Result Reached E) → OnOk r (KeepsRun s.debugger t.debugger)
      → OnOk r (t.debugger.stops ≡ s.debugger.stops) → OnOk r (t.debugger.shown ≡ s.debugger.shown)
      → IfOk r (λ reached. GoesAhead m events s.plan.limit s.debugger reached t.debugger)
      → IfOk r (λ reached. StandsBy s.debugger.starts reached t.debugger.present) → t ≡ record s { debugger = t.debugger }
      → IfOk r (λ reached. WalksOn m events s reached t)
  walked_on m events (Ok reached) run stops shown ahead stands others =
      record { walked = record { run = run; stops = stops; shown = shown }; ahead = ahead; stands = stands; others = others }
  walked_on m events (Err e) run stops shown ahead stands others = tt

  -- what a way back of the debugger is to the session
  pub walked_back : (is_single : Bool) (r : Result Reached E) → OnOk r (KeepsRun s.debugger t.debugger)
      → OnOk r (t.debugger.stops ≡ s.debugger.stops) → OnOk r (t.debugger.shown ≡ s.debugger.shown)
      → IfOk r (λ reached. GoesBehind is_single s.debugger reached t.debugger)
      → IfOk r (λ reached. StandsBy s.debugger.starts reached t.debugger.present) → t ≡ record s { debugger = t.debugger }
      → IfOk r (λ reached. WalksBack is_single s reached t)
  walked_back is_single (Ok reached) run stops shown behind stands others =
      record { walked = record { run = run; stops = stops; shown = shown }; behind = behind; stands = stands; others = others }
  walked_back is_single (Err e) run stops shown behind stands others = tt

  -- an event is a way on
  pub event_ahead : (m : Movement) (events : Bool) (r : Result Reached E) → events ≡ true → OnOk r (StepsBy 1 s.debugger.present t.debugger.present)
      → IfOk r (λ reached. GoesAhead m events s.plan.limit s.debugger reached t.debugger)
  event_ahead m events (Ok reached) is steps = subst (λ b. GoesAhead m b s.plan.limit s.debugger reached t.debugger) (sym is) steps
  event_ahead m events (Err e) is steps = tt

  -- a machine stands as its moment does
  pub event_stands : (r : Result Reached E) → IfOk r (λ reached. reached ≡ standing_of s.debugger.starts t.debugger.present)
      → IfOk r (λ reached. StandsBy s.debugger.starts reached t.debugger.present)
  event_stands (Ok reached) is = stands_as s.debugger.starts t.debugger.present reached is
  event_stands (Err e) is = tt
