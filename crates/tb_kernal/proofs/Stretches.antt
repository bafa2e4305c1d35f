-- Stretches of events, one after another, make one run.
use Rattle.std.proofs.Common.{◌≡◌, ℕ, suc, ◌+◌, ◌-◌, ◌*◌, ◌≤◌, true, List, [], ◌∷◌, ◌++◌, length, length-append, refl, subst, arith}
use Rattle.std.specs.Prelude.{Ok}
use Rattle.tb_kernal.specs.declared.events.Event.{Event}
use Rattle.tb_kernal.specs.declared.status.Status.{Status}
use Rattle.tb_kernal.specs.declared.status.Status.TheVariants.{Running, Waits, Returned, Wrong}
use Rattle.tb_kernal.specs.Machine.{Content, state_of, is_lawful, is_running}
use Rattle.tb_kernal.specs.Runs.{Answered, Gave, RanOver}
use Rattle.tb_kernal.proofs.Giving.{gave_all, gave_lawful, gave_run}
use Rattle.tb_kernal.specs.Hearing.{Began, Ended, Heard, RanWatched, STRETCH, Telling, Took, took}

module _ {W : Type 0} (hears : W → Telling → W → Type 0) where
  -- one thing more that was heard
  pub heard_more : (told : List Telling) (w v u : W) (t : Telling) → Heard hears w told v → hears v t u → Heard hears w (told ++ t ∷ []) u
  heard_more [] w v u t before now = (u, subst (λ x. hears x t u) before now, refl)
  heard_more (s ∷ told) w v u t before now = (before.0, before.1, heard_more told before.0 v u t before.2 now)

module _ {O W : Type 0} (gives : O → Content → Event → O → Type 0) (hears : W → Telling → W → Type 0)
    (law : (o : O) (m : Content) (e : Event) (p : O) → gives o m e p → is_lawful (state_of m) e ≡ true) where
  -- Events that were given in so many stretches, so many that `left` of a limit are left; and what was told of them.
  pub record Taken (o : O) (m : Content) (w : W) (limit left : ℕ) (p : O) (n : Content) (v : W) : Type 0 where
    pub events : List Event
    pub stretches : ℕ
    pub count : length events + left ≡ limit
    pub whole : length events ≡ stretches * STRETCH
    pub gave : Gave gives o m events p n
    pub heard : Heard hears w (Began ∷ took stretches) v

  -- a run begins, with a machine in the same state
  pub begins : (o : O) (m n : Content) (w v : W) (limit : ℕ) → state_of n ≡ state_of m → hears w Began v → Taken o m w limit limit o n v
  begins o m n w v limit same told =
      record { events = []; stretches = 0; count = omega arith; whole = omega arith; gave = (refl, same); heard = (v, told, refl) }

  -- a stretch more, after which the machine goes on, and which is told
  pub taken_on : (o : O) (m : Content) (w : W) (limit left stretch : ℕ) (p : O) (n : Content) (v : W) (t : Status) (q : O) (k : Content) (u : W)
      → (before : Taken o m w limit left p n v) → RanOver gives p n stretch (Ok t) q k → is_running t ≡ true → stretch ≤ left → stretch ≡ STRETCH
      → hears v (Took (limit - (left - stretch))) u → Taken o m w limit (left - stretch) q k u
  taken_on o m w limit left stretch p n v Running q k u before ran on few full told =
      let all : length ran.events ≡ stretch = ran.answer.1 refl in
      let sum = length-append before.events ran.events in
      let count = before.count in
      let whole = before.whole in
      let now : limit - (left - stretch) ≡ (before.stretches + 1) * STRETCH = omega (arith, count, whole, few, full) in
      record {
        events = before.events ++ ran.events;
        stretches = suc before.stretches;
        count = omega (arith, sum, count, all, few);
        whole = omega (arith, sum, whole, all, full);
        gave = gave_all gives before.events ran.events o m p n q k before.gave ran.gave;
        heard = heard_more hears (Began ∷ took before.stretches) w v u _ before.heard (subst (λ events. hears v (Took events) u) now told);
      }
  taken_on o m w limit left stretch p n v Waits q k u before ran on few full told = absurd (cc)
  taken_on o m w limit left stretch p n v Returned q k u before ran on few full told = absurd (cc)
  taken_on o m w limit left stretch p n v (Wrong x) q k u before ran on few full told = absurd (cc)

  -- the last stretch: the machine doesn't go on, or nothing of the limit is left
  pub ended : (o : O) (m : Content) (w : W) (limit left stretch : ℕ) (p : O) (n : Content) (v : W) (t : Status) (q : O) (k : Content) (u : W)
      → Taken o m w limit left p n v → RanOver gives p n stretch (Ok t) q k → stretch ≤ left → stretch ≤ STRETCH → (is_running t ≡ true → stretch ≡ left)
      → hears v Ended u → RanWatched gives hears o m w limit (Ok t) q k u
  ended o m w limit left stretch p n v t q k u before ran few short last told =
      let es = before.events ++ ran.events in
      let sum : length es ≡ length before.events + length ran.events = length-append before.events ran.events in
      let count = before.count in
      let whole = before.whole in
      let fewer = ran.few in
      let gave : Gave gives o m es q k = gave_all gives before.events ran.events o m p n q k before.gave ran.gave in record {
        ran = record {
          events = es;
          few = omega (arith, sum, count, fewer, few);
          gave = gave;
          ran = gave_run gives es o m q k gave;
          lawful = gave_lawful gives law es o m q k gave;
          answer = answered t ran.answer last;
        };
        told = record {
          stretches = before.stretches;
          taken = omega (arith, sum, whole);
          last = omega (arith, sum, whole, fewer, short);
          heard = heard_more hears (Began ∷ took before.stretches) w v u Ended before.heard told;
        };
      }
    where
      answered : (t : Status) → Answered (Ok t) k (length ran.events) stretch → (is_running t ≡ true → stretch ≡ left)
          → Answered (Ok t) k (length (before.events ++ ran.events)) limit
      answered Running answer last =
          let all : length ran.events ≡ stretch = answer.1 refl in
          let none : stretch ≡ left = last refl in
          let sum = length-append before.events ran.events in
          let count = before.count in
          (answer.0, λ runs. omega (arith, sum, count, all, none))
      answered Waits answer last = (answer.0, λ runs. absurd (cc))
      answered Returned answer last = (answer.0, λ runs. absurd (cc))
      answered (Wrong w) answer last = (answer.0, λ runs. absurd (cc))
