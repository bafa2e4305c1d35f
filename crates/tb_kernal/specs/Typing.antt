-- Bytes that are put after the keyboard's text.
use Rattle.std.specs.Prelude.{ℕ, ◌≡◌, ◌≢◌, List, [], ◌∷◌, ◌++◌}
use Rattle.tb_kernal.specs.declared.events.Event.{Event}
use Rattle.tb_kernal.specs.declared.status.Status.TheVariants.{Waits}
use Rattle.tb_kernal.specs.Machine.{State, Content, status, happens}
use Rattle.tb_kernal.specs.Runs.{run, all_lawful}

-- a machine with more after the keyboard's text
abbrev pub with_typed : Content → List ℕ → Content
with_typed m more = record m { all_text = m.all_text ++ more }

-- a state with more after what is left of the keyboard's text
abbrev pub with_more : List ℕ → State → State
with_more more s = record s { text = s.text ++ more }

-- the machine waits for a key before none of these events
abbrev pub NeverWaits : List Event → State → Type 0
NeverWaits [] s = Unit {0}
NeverWaits (e ∷ es) s = (status s ≢ Waits) × NeverWaits es (happens s e)

-- a run that has not waited is the same with more text after, and its events are as lawful
abbrev pub TypingKeepsRuns : Type 0
TypingKeepsRuns =
    (es : List Event) (s : State) (more : List ℕ) → NeverWaits es s →
    (run es (with_more more s) ≡ with_more more (run es s)) × (all_lawful es (with_more more s) ≡ all_lawful es s)
