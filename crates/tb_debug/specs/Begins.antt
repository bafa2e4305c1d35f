-- Where lines begin along a run.
use Rattle.std.specs.Prelude.{◌≡◌, ◌≢◌, ◌⊎◌, ℕ, zero, suc, ◌+◌, ◌<◌, ◌≤◌, ◌&&◌, Bool, true, false, List}
use Rattle.tb_kernal.specs.declared.status.Status.{Status}
use Rattle.tb_kernal.specs.declared.status.Status.TheVariants.{Running}
use Rattle.tb_kernal.specs.Machine.{state_of, status}
use Rattle.tb_kernal.specs.Runs.{is_own}
use Rattle.tb_debug.specs.Roms.{event_at}
use Rattle.tb_debug.specs.Runs.{Point, is_marked, point_at, spacing}
use Rattle.tb_debug.specs.declared.moment.Moment.{Moment}
use Rattle.tb_debug.specs.declared.moment.Reached.{Reached}
use Rattle.tb_debug.specs.declared.moment.Reached.TheVariants.{Line, Within, Ended, Limit}

-- the event after n others is the program's own
abbrev pub own_at : List Bool → Point → ℕ → Bool
own_at marks start n = is_own (event_at (point_at marks start n).rom (point_at marks start n).state.regs)

-- a line begins at the point after n events, and the last of these, one of the program's own, led there
unfoldable pub comes_to : List Bool → Point → ℕ → Bool
comes_to marks start zero = is_marked marks start.state.regs.pc
comes_to marks start (suc n) = own_at marks start n && is_marked marks (point_at marks start (suc n)).state.regs.pc

-- no line begins after more than m events and fewer than n
abbrev pub NoneBegins : List Bool → Point → ℕ → ℕ → Type 0
NoneBegins marks start m n = (k : ℕ) → m < k → k < n → comes_to marks start k ≡ false

-- the next line that begins after m events begins after n
abbrev pub IsNext : List Bool → Point → ℕ → ℕ → Type 0
IsNext marks start m n = (m < n) × (comes_to marks start n ≡ true) × NoneBegins marks start m n

-- k lines begin after m events, the last of them after n
abbrev pub Passes : List Bool → Point → ℕ → ℕ → ℕ → Type 0
Passes marks start m zero n = n ≡ m
Passes marks start m (suc k) n = (i : ℕ) × Passes marks start m k i × IsNext marks start i n

-- each line that begins up to the point after n events begins fewer than `spacing` events after a checkpoint's: so it takes
-- no more to run again from there to that line
abbrev pub IsNear : List Bool → Point → ℕ → ℕ → Type 0
IsNear marks start checkpoint n = (k : ℕ) → k ≤ n → comes_to marks start k ≡ true → k < checkpoint + spacing

-- a limit of events, or what can be counted, is used up
abbrev pub IsUsedUp : ℕ → Moment → Moment → Type 0
IsUsedUp limit m n = (n.events ≡ m.events + limit) ⊎ (n.events ≡ 18446744073709551615) ⊎ (n.begun ≡ 18446744073709551615)

-- how going on by a limit of events ends if no line begins
abbrev pub at_limit : Status → Reached
at_limit Running = Limit
at_limit why = Ended why

-- where going on from a moment by at most `limit` events ends: at the next line that begins; else where the machine
-- doesn't run, or at the limit
abbrev pub EndsAt : List Bool → Point → ℕ → Moment → Reached → Moment → Type 0
EndsAt marks start limit m Line n = IsNext marks start m.events n.events
EndsAt marks start limit m Within n = ⊥
EndsAt marks start limit m (Ended why) n =
    NoneBegins marks start m.events (suc n.events) × (status (state_of n.machine) ≡ why) × (why ≢ Running)
EndsAt marks start limit m Limit n = NoneBegins marks start m.events (suc n.events) × IsUsedUp limit m n

-- a way on at whose events no line begins: none begins between, and at its end one does as is told
pub record GoesBetween (marks : List Bool) (start : Point) (m : Moment) (begins : Bool) (n : Moment) : Type 0 where
  pub none : NoneBegins marks start m.events n.events
  pub comes : m.events < n.events → comes_to marks start n.events ≡ begins

-- if the answer is that a line begins, events were taken; a way on doesn't end within a line
abbrev pub Advances : Reached → Moment → Moment → Type 0
Advances Line m n = m.events < n.events
Advances Within m n = ⊥
Advances _ m n = Unit {0}

-- if the answer is that a line begins, one does there, or nothing was gone on
abbrev pub BeginsThere : List Bool → Point → Reached → Moment → Moment → Type 0
BeginsThere marks start Line m n = (n.events ≡ m.events) ⊎ (comes_to marks start n.events ≡ true)
BeginsThere marks start _ m n = Unit {0}

-- how a machine of this status stands, by whether a line begins
abbrev pub standing_by : Status → Bool → Reached
standing_by Running true = Line
standing_by Running false = Within
standing_by why begins = Ended why

-- how a moment stands
abbrev pub standing_of : List Bool → Moment → Reached
standing_of marks m = standing_by (status (state_of m.machine)) (is_marked marks m.machine.regs.pc)

-- a way ended as is told: a line begins there; or the machine runs, and none does; or it doesn't run
abbrev pub StandsBy : List Bool → Reached → Moment → Type 0
StandsBy marks Line m = is_marked marks m.machine.regs.pc ≡ true
StandsBy marks Within m = (status (state_of m.machine) ≡ Running) × (is_marked marks m.machine.regs.pc ≡ false)
StandsBy marks (Ended why) m = (status (state_of m.machine) ≡ why) × (why ≢ Running)
StandsBy marks Limit m = Unit {0}

-- this many events were taken, or fewer if the machine doesn't run then, or no more can be counted
pub record StepsBy (count : ℕ) (m n : Moment) : Type 0 where
  pub later : m.events ≤ n.events
  pub few : n.events ≤ m.events + count
  pub all : (status (state_of n.machine) ≢ Running) ⊎ IsUsedUp count m n

-- if the answer is the limit, it is used up
abbrev pub IsLimited : ℕ → Reached → Moment → Moment → Type 0
IsLimited limit Limit m n = IsUsedUp limit m n
IsLimited limit _ m n = Unit {0}

-- ---- ways to a point

-- this holds of no point between a moment and the one after n events
abbrev pub IsNowhere : (ℕ → Bool) → Moment → ℕ → Type 0
IsNowhere is_there m n = (k : ℕ) → m.events < k → k < n → is_there k ≡ false

-- a way on to the next point of which this holds, else to where the machine doesn't run, or to the limit
abbrev pub GoesTo : (ℕ → Bool) → ℕ → Reached → Moment → Moment → Type 0
GoesTo is_there limit Line m n = (m.events < n.events) × (is_there n.events ≡ true) × IsNowhere is_there m n.events
GoesTo is_there limit Within m n = ⊥
GoesTo is_there limit (Ended why) m n =
    IsNowhere is_there m (suc n.events) × (status (state_of n.machine) ≡ why) × (why ≢ Running)
GoesTo is_there limit Limit m n = IsNowhere is_there m (suc n.events) × IsUsedUp limit m n

-- fewer than these lines begin after m events, up to the point after n and with it
pub record FallsShort (marks : List Bool) (start : Point) (m lines n : ℕ) : Type 0 where
  pub begun : ℕ
  pub last : ℕ
  pub fewer : begun < lines
  pub passes : Passes marks start m begun last
  pub none : NoneBegins marks start last (suc n)

-- a way on by this many lines, or to where the machine doesn't run, or to the limit before them
abbrev pub GoesBy : ℕ → List Bool → Point → ℕ → Reached → Moment → Moment → Type 0
GoesBy lines marks start limit Line m n = Passes marks start m.events lines n.events
GoesBy lines marks start limit Within m n = Passes marks start m.events lines n.events
GoesBy lines marks start limit (Ended why) m n =
    Passes marks start m.events lines n.events ⊎ FallsShort marks start m.events lines n.events
GoesBy lines marks start limit Limit m n = FallsShort marks start m.events lines n.events × IsUsedUp limit m n
