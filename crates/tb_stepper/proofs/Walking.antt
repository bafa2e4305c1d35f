-- Walks to an address.
use Rattle.std.proofs.Common.{ℕ, ◌≡◌, ◌<◌, ◌+◌, Bool, true, false, nat_lt, refl, sym, ap, ◌∙◌, subst, arith, suc}
use Rattle.std.specs.Prelude.{None, Ok, Err}
use Rattle.std.specs.declared.alloc.AllocError.{AllocError}
use Rattle.tb_kernal.specs.declared.events.Event.{Event}
use Rattle.tb_kernal.specs.declared.status.Status.{Status}
use Rattle.tb_kernal.specs.Machine.{Content, state_of, status, is_stopped}
use Rattle.tb_stepper.specs.History.{Holds, SteppedBy, Stepped, Walked, Reaches, end_at}

module _ {O : Type 0} (gives : O → Content → Event → O → Type 0) where
  -- the status that a step answers is that of the machine after it
  pub status_by : (b : Bool) (h k : Holds O) (t : Status) → SteppedBy b gives h (Ok t) k → SteppedBy b gives h (Ok (status (state_of k.machine))) k
  status_by true h k t x = (ap (λ (y : Holds O). Ok (status (state_of y.machine))) x.1, x.1)
  status_by false h k t x = (x.0, refl)

  -- one more step
  pub walked_more : (address n : ℕ) (h b k : Holds O) (t : Status) → Walked gives address n h b → end_at address (nat_lt 0 n) (state_of b.machine) ≡ None → Stepped gives b (Ok t) k →
      Walked gives address (n + 1) h k
  walked_more address n h b k t w e s =
      let next : suc n ≡ n + 1 = omega arith in
      subst (λ m. Walked gives address m h k) next (b, w, e, status_by (is_stopped (status (state_of b.machine))) b k t s)

  refused_by : (b : Bool) (h k : Holds O) (e : AllocError) → SteppedBy b gives h (Err e) k → (h.machine.room ≡ 0) × (k ≡ h)
  refused_by true h k e x = absurd (cc)
  refused_by false h k e x = x

  -- a step for which there was no room
  pub refused : (address limit n : ℕ) (h b k : Holds O) (e : AllocError) → Walked gives address n h b
      → end_at address (nat_lt 0 n) (state_of b.machine) ≡ None → n < limit → Stepped gives b (Err e) k →
      Reaches gives address limit h (Err e) k
  refused address limit n h b k e w none less s =
      let r = refused_by (is_stopped (status (state_of b.machine))) b k e s in
      record {
        steps = n;
        walked = subst (λ (x : Holds O). Walked gives address n h x) (sym r.1) w;
        few = omega arith;
        answer =
            (ap (λ (x : Holds O). end_at address (nat_lt 0 n) (state_of x.machine)) r.1 ∙ none, less, ap (λ (x : Holds O). x.machine.room) r.1 ∙ r.0);
      }
