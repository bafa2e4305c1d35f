-- What a watch hears of a run.
use Rattle.std.specs.Prelude.{ℕ, zero, suc, ◌≡◌, ◌+◌, ◌*◌, ◌≤◌, List, [], ◌∷◌, ◌++◌, length, Result}
use Rattle.std.specs.declared.alloc.AllocError.{AllocError}
use Rattle.tb_kernal.specs.declared.events.Event.{Event}
use Rattle.tb_kernal.specs.declared.status.Status.{Status}
use Rattle.tb_kernal.specs.Machine.{Content}
use Rattle.tb_kernal.specs.Runs.{RanOver}

-- after how many events a run tells how far it is
abbrev pub STRETCH : ℕ
STRETCH = 65536

-- what is told: that a run begins, how many events it has taken so far, that it has ended
pub data Telling : Type 0 where
  Began : Telling
  Took : (events : ℕ) → Telling
  Ended : Telling

-- a watch heard all of this, in turn
abbrev pub Heard : {W : Type 0} → (W → Telling → W → Type 0) → W → List Telling → W → Type 0
Heard hears w [] v = v ≡ w
Heard hears w (t ∷ told) v = (u : _) × hears w t u × Heard hears u told v

-- what is told after each of so many stretches
abbrev pub took : ℕ → List Telling
took zero = []
took (suc stretches) = took stretches ++ Took ((stretches + 1) * STRETCH) ∷ []

-- what a watch hears of a run of so many events: after each STRETCH of them but the last ones how many were taken
pub record HearsRun {W : Type 0} (hears : W → Telling → W → Type 0) (w : W) (events : ℕ) (v : W) : Type 0 where
  pub stretches : ℕ
  pub taken : stretches * STRETCH ≤ events
  pub last : events ≤ (stretches + 1) * STRETCH
  pub heard : Heard hears w (Began ∷ took stretches ++ Ended ∷ []) v

-- what a run of at most `limit` events came to, and that a watch heard of it
pub record RanWatched {O W : Type 0} (gives : O → Content → Event → O → Type 0) (hears : W → Telling → W → Type 0)
    (o : O) (m : Content) (w : W) (limit : ℕ) (result : Result Status AllocError) (p : O) (n : Content) (v : W) : Type 0 where
  pub ran : RanOver gives o m limit result p n
  pub told : HearsRun hears w (length ran.events) v

-- a watch before something and after it
pub record Hearing (W : Type 0) : Type 1 where
  pub hears : W → Telling → W → Type 0
  pub before : W
  pub after : W

-- the watch that a run is given
abbrev pub hearing_of : {W : Type 0} → (W → Telling → W → Type 0) → W → W → Hearing W
hearing_of hears before after = record { hears = hears; before = before; after = after }
