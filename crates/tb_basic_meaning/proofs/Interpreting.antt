-- Steps that an interpreter does one after the other.
use Rattle.std.proofs.lemmas.List.{drop-replicate, take-replicate}
use Rattle.std.proofs.Common.{◌≡◌, ℕ, Bool, if◌then◌else◌, suc, ◌+◌, ◌-◌, ◌<◌, take, drop, replicate, List, ◌++◌, Result, Ok, Err, refl, sym, ap, ◌∙◌, subst, arith}
use Rattle.tb_basic_meaning.specs.declared.faults.RunStop.{RunStop}
use Rattle.tb_basic_meaning.specs.declared.faults.RunStop.TheVariants as stop
use Rattle.tb_basic_meaning.specs.declared.interpreter.Interpreter.{Interpreter}
use Rattle.tb_basic_syntax.specs.Source.{Statement}
use Rattle.tb_basic_meaning.specs.Control.{State, fall, fault_text}
use Rattle.tb_basic_meaning.specs.Parts.{fault_of}
use Rattle.tb_basic_meaning.specs.Meaning.{does}
use Rattle.tb_basic_meaning.specs.Interpreted.{state_of, IsStopped, Ran}
use Rattle.tb_basic_meaning.specs.Steps.{Step, Goes, Stops, and_then, Ended, Faulted, Waits, Run, GoesOn, Over, joined, advance_by}
use Rattle.tb_basic_meaning.proofs.Runs.{joined_after, over_stays}

-- a run, and then a step if it goes on
abbrev pub run_then : {S S' : Type 0} → Run S → (S → Step S') → Run S'
run_then (GoesOn s out) f = joined out (f s)
run_then (Over e out) f = Over e out

-- two steps after what was sent are the first and then the second
pub joined_then : {S S' : Type 0} → (out : List ℕ) (x : Step S) (f : S → Step S') → joined out (and_then x f) ≡ run_then (joined out x) f
joined_then out (Goes s t) f = joined_after out t (f s)
joined_then out (Stops e t) f = refl

-- a step that comes to the same as another one was done if that one was
pub ran_by : (x y : Step State) (old mid new : Interpreter) (r : Result (Unit {0}) RunStop) → joined old.output.sent.items x
    ≡ joined mid.output.sent.items y → Ran y mid new r → Ran x old new r
ran_by x y old mid new (Ok u) e h = e ∙ h
ran_by x y old mid new (Err why) e h = subst (λ q. IsStopped q new.output.sent.items why) (sym e) h

-- two steps, the first of which goes on
pub ran_then : (x : Step State) (f : State → Step State) (old mid new : Interpreter) (r : Result (Unit {0}) RunStop) → joined old.output.sent.items x
    ≡ GoesOn (state_of mid) mid.output.sent.items → Ran (f (state_of mid)) mid new r → Ran (and_then x f) old new r
ran_then x f old mid new r h h' =
    ran_by (and_then x f) (f (state_of mid)) old mid new r (joined_then old.output.sent.items x f ∙ ap (λ q. run_then q f) h) h'

-- the part of eight spaces from a column on is as many spaces as are left of eight
pub spaces : (m : ℕ) → take {A = ℕ} (8 - m) (drop {A = ℕ} m (replicate 8 32)) ≡ replicate (8 - m) 32
spaces m = ap (take {A = ℕ} (8 - m)) (drop-replicate m 8 32) ∙ take-replicate (8 - m) (8 - m) 32 (omega arith)

-- what IF does once its relation is known
abbrev pub decided : List ℕ → ℕ → Statement → Bool → State → Step State
decided ns n c b s = if b then does ns n c s else fall ns n s

-- after a line that goes on, the whole run is one of one line less
pub run_goes_on : (step : State → Step State) (limit counter : ℕ) (s s' : State) (out out' : List ℕ) (whole : Run State) → counter < limit
    → advance_by step (limit - counter) (GoesOn s out) ≡ whole → joined out (step s) ≡ GoesOn s' out' → advance_by step (limit - (counter + 1)) (GoesOn s' out') ≡ whole
run_goes_on step limit counter s s' out out' whole lt before h =
    let one : limit - counter ≡ suc (limit - (counter + 1)) = omega arith in
    ap (advance_by step (limit - (counter + 1))) (sym h) ∙ ap (λ n. advance_by step n (GoesOn s out)) (sym one) ∙ before

-- a run whose next line stops it has stopped as a whole
pub run_stops : (step : State → Step State) (limit counter : ℕ) (s : State) (out out' : List ℕ) (whole : Run State) (why : RunStop) → counter < limit
    → advance_by step (limit - counter) (GoesOn s out) ≡ whole → IsStopped (joined out (step s)) out' why → IsStopped whole out' why
run_stops step limit counter s out out' whole why lt before h =
    let one : limit - counter ≡ suc (limit - (counter + 1)) = omega arith in
    subst (λ r. IsStopped r out' why) (ap (λ n. advance_by step n (GoesOn s out)) (sym one) ∙ before) (stays (limit - (counter + 1)) (joined out (step s)) why h)
  where
    stays : (k : ℕ) (r : Run State) (why : RunStop) → IsStopped r out' why → IsStopped (advance_by step k r) out' why
    stays k r stop.Ended h = ap (advance_by step k) h ∙ over_stays step k Ended out'
    stays k r stop.Waits h = ap (advance_by step k) h ∙ over_stays step k Waits out'
    stays k r (stop.Fault f n) h = ap (advance_by step k) h ∙ over_stays step k Faulted (out' ++ fault_text (fault_of f) n)
    stays k r stop.NoMemory h = tt
