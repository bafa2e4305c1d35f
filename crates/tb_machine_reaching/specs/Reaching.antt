-- A set of states reaches another, whatever the lawful events.
use Rattle.std.specs.Prelude.{◌≡◌, ◌≢◌, ◌⊎◌, ℕ, ◌<◌, ◌≤◌, true, List, ◌++◌}
use Rattle.tb_cpu.specs.declared.wrong.Wrong.{Wrong}
use Rattle.tb_kernal.specs.declared.events.Event.{Event}
use Rattle.tb_kernal.specs.declared.status.Status.TheVariants.{Wrong as WentWrong}
use Rattle.tb_kernal.specs.Machine.{State, status}
use Rattle.tb_kernal.specs.Runs.{run, all_lawful, goes}

-- a set of states
abbrev pub States : Type 1
States = State → Type 0

-- a prefix of the events, with 1 to n Go events, ends in q, and t was sent
pub record Arrived (q : States) (t : List ℕ) (n : ℕ) (s : State) (es : List Event) : Type 0 where
  pub before : List Event
  pub after : List Event
  pub split : es ≡ before ++ after
  pub some : 1 ≤ goes before
  pub few : goes before ≤ n
  pub there : q (run before s)
  pub sent : (run before s).sent ≡ s.sent ++ t

-- fewer than n Go events, which lead to w, and a prefix of t was sent
pub record OnTheWay (w : States) (t : List ℕ) (n : ℕ) (s : State) (es : List Event) : Type 0 where
  pub few : goes es < n
  pub kept : w (run es s)
  pub so_far : List ℕ
  pub to_come : List ℕ
  pub sent : (run es s).sent ≡ s.sent ++ so_far
  pub whole : t ≡ so_far ++ to_come

-- from each state in p, every lawful list of events has come to q with output t within n Go events, or is still on the way in w
pub record Reaches (w p q : States) (t : List ℕ) (n : ℕ) : Type 0 where
  pub leads : (s : State) → p s → (es : List Event) → all_lawful es s ≡ true → Arrived q t n s es ⊎ OnTheWay w t n s es

-- the least that is promised on the way
abbrev pub NotWrong : States
NotWrong s = (e : Wrong) → status s ≢ WentWrong e
