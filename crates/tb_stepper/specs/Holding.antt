-- What undos give back.
use Rattle.std.specs.Prelude.{ℕ, ◌≡◌, ◌++◌, Bool, true, ◌&&◌, nat_le, List, [], ◌∷◌, length, take, drop, Option}
use Rattle.tb_kernal.specs.declared.events.Event.{Event}
use Rattle.tb_kernal.specs.Former.{Former}
use Rattle.tb_compiled.specs.declared.compiled.Compiled.{Compiled}
use Rattle.tb_kernal.specs.Rom.{written_open}
use Rattle.tb_kernal.specs.Machine.{State, Content, state_of, is_lawful, happens}

-- what a stepper holds: the present machine, the outside, an undo of each step that can be taken back, the oldest first, and the
-- program that its source was compiled to, if it has a source
pub record Holds (O : Type 0) : Type 0 where
  pub machine : Content
  pub outside : O
  pub undos : List Former
  pub program : Option Compiled

-- the state before an event, which its undo gives back from the state after it; the first two are the keyboard's whole text and answers
abbrev pub given_back : List ℕ → List ℕ → Former → State → State
given_back text answers u s =
    record s {
      regs = u.regs;
      mem = written_open s.mem u.bytes;
      text = drop u.text_taken text;
      answers = drop u.answers_taken answers;
      sent = take u.sent s.sent;
      wrong = u.wrong;
    }

-- the state that all undos lead back to
abbrev pub first_of : List ℕ → List ℕ → List Former → State → State
first_of text answers [] s = s
first_of text answers (u ∷ us) s = given_back text answers u (first_of text answers us s)

-- the states before the present one, the oldest first
abbrev pub earlier_of : List ℕ → List ℕ → List Former → State → List State
earlier_of text answers [] s = []
earlier_of text answers (u ∷ us) s = first_of text answers (u ∷ us) s ∷ earlier_of text answers us s

-- the machines of a history, the present one last
abbrev pub machines : {O : Type 0} → Holds O → List State
machines h = earlier_of h.machine.all_text h.machine.all_answers h.undos (state_of h.machine) ++ state_of h.machine ∷ []

-- no undo says that more keys were taken than there are
abbrev pub all_fit : List ℕ → List ℕ → List Former → Bool
all_fit text answers [] = true
all_fit text answers (u ∷ us) = (nat_le u.text_taken (length text) && nat_le u.answers_taken (length answers)) && all_fit text answers us

-- a state comes from another by one lawful event
abbrev pub Follows : State → State → Type 0
Follows s t = (e : Event) × (is_lawful s e ≡ true) × (t ≡ happens s e)

-- each state of a list comes from the one before it by one lawful event
abbrev pub EachFollows : List State → Type 0
EachFollows [] = Unit {0}
EachFollows (s ∷ []) = Unit {0}
EachFollows (s ∷ t ∷ ss) = Follows s t × EachFollows (t ∷ ss)
