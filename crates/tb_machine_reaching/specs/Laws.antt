-- The laws of reaching, as far as a clause can say them: over sets of states that a test gives.
use Rattle.std.specs.Prelude.{◌≡◌, ℕ, ◌+◌, Bool, true, List, ◌++◌}
use Rattle.arrayvec.specs.ArrayVec.{ArrayVec}
use Rattle.tb_kernal.specs.declared.events.Clobber.{Clobber}
use Rattle.tb_kernal.specs.declared.events.Event.TheVariants.{Go, Interrupt}
use Rattle.tb_kernal.specs.Machine.{State, is_lawful, happens}
use Rattle.tb_machine_reaching.specs.Reaching.{States, Reaches, NotWrong}
use Rattle.tb_machine_reaching.specs.View.{View, Setup, At, Among, Comes}

-- p lies in w, lawful interrupts keep p, and each lawful Go leads from p to q and sends t
pub record OneStep (w p q : States) (t : List ℕ) : Type 0 where
  pub inside : (s : State) → p s → w s
  pub keeps : (s : State) → p s → (ws : ArrayVec (ℕ × ℕ)) → is_lawful s (Interrupt ws) ≡ true → p (happens s (Interrupt ws))
  pub goes_on : (s : State) → p s → (k : Clobber) → is_lawful s (Go k) ≡ true → q (happens s (Go k)) × ((happens s (Go k)).sent ≡ s.sent ++ t)

-- the states that pass a test
abbrev pub Passes : (State → Bool) → States
Passes p s = p s ≡ true

-- one step reaches within 1
abbrev pub StepLaw : Type 0
StepLaw =
    (w p q : State → Bool) (t : List ℕ) → OneStep (Passes w) (Passes p) (Passes q) t → Reaches (Passes w) (Passes p) (Passes q) t 1

-- reaching one set after another adds outputs and bounds
abbrev pub ChainLaw : Type 0
ChainLaw =
    (w p q r : State → Bool) (t u : List ℕ) (n m : ℕ) → Reaches (Passes w) (Passes p) (Passes q) t n →
    Reaches (Passes w) (Passes q) (Passes r) u m → Reaches (Passes w) (Passes p) (Passes r) (t ++ u) (n + m)

-- what a law of views says on the way: nothing goes wrong
abbrev pub NeverWrongLaw : Type 0
NeverWrongLaw =
    (f : Setup) (v : View) (q : View → Bool) (t : List ℕ) (n : ℕ) → Comes f v (λ w. q w ≡ true) t n →
    Reaches NotWrong (At f v) (Among f (λ w. q w ≡ true)) t n
