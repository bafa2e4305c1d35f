-- Runs of any step that sends bytes.
use Rattle.std.specs.Prelude.{ℕ, zero, suc, List, ◌++◌}

-- how a run ended; a run that waits does so for a key
pub data End : Type 0 where
  Ended Faulted Waits : End

-- what one step does, with the bytes that it sends
pub data Step (S : Type 0) : Type 0 where
  Goes : (next : S) (sent : List ℕ) → Step S
  Stops : (why : End) (sent : List ℕ) → Step S

-- a step with bytes sent before its own
abbrev pub after_sending : {S : Type 0} → List ℕ → Step S → Step S
after_sending t (Goes s u) = Goes s (t ++ u)
after_sending t (Stops e u) = Stops e (t ++ u)

-- a step, and then another if it goes on
abbrev pub and_then : {S S' : Type 0} → Step S → (S → Step S') → Step S'
and_then (Goes s t) f = after_sending t (f s)
and_then (Stops e t) f = Stops e t

-- a run so far, with all that was sent
pub data Run (S : Type 0) : Type 0 where
  GoesOn : (at : S) (sent : List ℕ) → Run S
  Over : (why : End) (sent : List ℕ) → Run S

-- a step after what was sent before
abbrev pub joined : {S : Type 0} → List ℕ → Step S → Run S
joined out (Goes s t) = GoesOn s (out ++ t)
joined out (Stops e t) = Over e (out ++ t)

-- one more step; a run that is over stays as it is
abbrev pub advance : {S : Type 0} → (S → Step S) → Run S → Run S
advance step (GoesOn s out) = joined out (step s)
advance step (Over e out) = Over e out

-- m more steps
abbrev pub advance_by : {S : Type 0} → (S → Step S) → ℕ → Run S → Run S
advance_by step zero r = r
advance_by step (suc m) r = advance_by step m (advance step r)

-- all that a run has sent
abbrev pub sent_by : {S : Type 0} → Run S → List ℕ
sent_by (GoesOn s out) = out
sent_by (Over e out) = out
