-- The plain program that runs a source: its parts as those of the meaning.
use Rattle.std.specs.Prelude.{◌≡◌, ℕ, Bool, List, ◌++◌, map, reverse, Result, Ok, Err}
use Rattle.tb_words.specs.Words.{holds}
use Rattle.tb_words.specs.declared.Rel.{Rel}
use Rattle.tb_basic_syntax.specs.Source.{Expression}
use Rattle.tb_basic_meaning.specs.declared.faults.RunStop.{RunStop}
use Rattle.tb_basic_meaning.specs.declared.faults.RunStop.TheVariants as stop
use Rattle.tb_basic_meaning.specs.declared.interpreter.Interpreter.{Interpreter}
use Rattle.tb_basic_meaning.specs.declared.interpreter.RunEnd.{RunEnd}
use Rattle.tb_basic_meaning.specs.declared.interpreter.RunEnd.TheVariants as run_end
use Rattle.tb_basic_meaning.specs.Steps.{Ended, Faulted, Waits, Step, Run, GoesOn, Over, joined}
use Rattle.tb_basic_meaning.specs.Control.{Place, State, fault_text}
use Rattle.tb_basic_meaning.specs.Meaning.{valued}
use Rattle.tb_basic_meaning.specs.Parts.{place_of, fault_of}

-- the state of an interpreter, which notes the newest return last
abbrev pub state_of : Interpreter → State
state_of i = record {
  place = place_of i.place;
  vars = i.variables;
  seed = i.seed;
  returns = reverse (map place_of i.returns.items);
  open_line = i.open_line;
  column = i.output.column;
  text = i.text.now;
  answers = i.answers.now;
}

-- the run once an interpreter has stopped, with what it has sent; nothing is said if memory ran out
abbrev pub IsStopped : Run State → List ℕ → RunStop → Type 0
IsStopped r out stop.Ended = r ≡ Over Ended out
IsStopped r out stop.Waits = r ≡ Over Waits out
IsStopped r out (stop.Fault k n) = r ≡ Over Faulted (out ++ fault_text (fault_of k) n)
IsStopped r out stop.NoMemory = Unit {0}

-- the interpreter did a step
abbrev pub Ran : Step State → Interpreter → Interpreter → Result (Unit {0}) RunStop → Type 0
Ran x old new (Ok u) = joined old.output.sent.items x ≡ GoesOn (state_of new) new.output.sent.items
Ran x old new (Err e) = IsStopped (joined old.output.sent.items x) new.output.sent.items e

-- the interpreter valued an expression at line n: whatever comes next, it goes on with the value, or the run stops
abbrev pub HasValue : ℕ → Expression → Interpreter → Interpreter → Result ℕ RunStop → Type 0
HasValue n e old new (Ok v) =
    (go : ℕ → State → Step State) → joined old.output.sent.items (valued n e (state_of old) go) ≡ joined new.output.sent.items (go v (state_of new))
HasValue n e old new (Err why) =
    (go : ℕ → State → Step State) → IsStopped (joined old.output.sent.items (valued n e (state_of old) go)) new.output.sent.items why

-- the interpreter compared two expressions: whatever comes next, it goes on with the answer, or the run stops
abbrev pub HasRelation : ℕ → Expression → Rel → Expression → Interpreter → Interpreter → Result Bool RunStop → Type 0
HasRelation n l rel r old new (Ok b) =
    (go : Bool → State → Step State) → joined old.output.sent.items (valued n l (state_of old) (λ x s. valued n r s (λ y s'. go (holds rel x y) s')))
    ≡ joined new.output.sent.items (go b (state_of new))
HasRelation n l rel r old new (Err why) =
    (go : Bool → State → Step State) → IsStopped (joined old.output.sent.items (valued n l (state_of old) (λ x s. valued n r s (λ y s'. go (holds rel x y) s')))) new.output.sent.items why

-- the end of a run with what it has sent and, if it goes on, its place and variables
abbrev pub IsRun : Run State → RunEnd → List ℕ → Place → List ℕ → Type 0
IsRun r run_end.GoesOn out place vars = (s : State) × (r ≡ GoesOn s out) × (s.place ≡ place) × (s.vars ≡ vars)
IsRun r run_end.Ended out place vars = r ≡ Over Ended out
IsRun r run_end.Faulted out place vars = r ≡ Over Faulted out
IsRun r run_end.Waits out place vars = r ≡ Over Waits out
