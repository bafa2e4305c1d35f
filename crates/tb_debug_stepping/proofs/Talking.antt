-- A dialogue, command by command.
use Rattle.std.proofs.Common.{ℕ, ◌≡◌, List, [], ◌∷◌, ◌++◌, refl, sym, subst, ◌∙◌, append_assoc, append-nil, ap}
use Rattle.std.specs.Prelude.{Option, Some, None, Ok}
use Rattle.tb_kernal.specs.declared.events.Event.{Event}
use Rattle.tb_kernal.specs.Machine.{Content}
use Rattle.tb_stepper.specs.Holding.{Holds}
use Rattle.tb_debug_stepping.specs.declared.answer.Answer.{Answer}
use Rattle.tb_debug_stepping.specs.Commands.{Asked, asked_in}
use Rattle.tb_debug_stepping.specs.Answers.{text_of}
use Rattle.tb_debug_stepping.specs.Dialogue.{Responds, Dialogue}

-- an option that is not Some
pub none_of : {A : Type 0} (o : Option A) → ((x : A) → o ≡ Some x → ⊥) → o ≡ None
none_of None other = refl
none_of (Some x) other = absurd (other x refl)

module _ {O : Type 0} (gives : O → Content → Event → O → Type 0) (limit : ℕ) where
  -- the response to a command as that to its line
  pub responds_as : (b c : Holds O) (asked line : Asked) (said answer : Option Answer) → asked ≡ line → said ≡ answer
      → Responds gives limit b asked (Ok said) c → Responds gives limit b line (Ok answer) c
  responds_as b c asked line said answer e f responds =
      subst (λ a. Responds gives limit b a (Ok answer) c) e (subst (λ s. Responds gives limit b asked (Ok s) c) f responds)

  -- with this text the lines of a dialogue were answered up to some that are left, by this history
  abbrev pub Told : Holds O → List (List ℕ) → List ℕ → Holds O → List (List ℕ) → Type 0
  Told h lines text b left = (more : List ℕ) (k : Holds O) → Dialogue gives limit b left more k → Dialogue gives limit h lines (text ++ more) k

  -- one more command
  pub told_more : (h b c : Holds O) (lines left all : List (List ℕ)) (text line : List ℕ) (answer : Answer) → Told h lines text b all → all ≡ line ∷ left
      → Responds gives limit b (asked_in line) (Ok (Some answer)) c → Told h lines (text ++ (text_of answer ++ 10 ∷ [])) c left
  told_more h b c lines left all text line answer told first responds =
      λ more k d.
      let joined : text ++ (text_of answer ++ 10 ∷ more) ≡ (text ++ (text_of answer ++ 10 ∷ [])) ++ more
      = ap (λ x. text ++ x) (sym (append_assoc (text_of answer) (10 ∷ []) more)) ∙ sym (append_assoc text (text_of answer ++ 10 ∷ []) more) in
      let here : Dialogue gives limit b (line ∷ left) (text_of answer ++ 10 ∷ more) k = (Some answer, c, responds, (more, d, refl)) in
      let there : Dialogue gives limit b all (text_of answer ++ 10 ∷ more) k = subst (λ ls. Dialogue gives limit b ls (text_of answer ++ 10 ∷ more) k) (sym first) here in
      subst (λ t. Dialogue gives limit h lines t k) joined (told (text_of answer ++ 10 ∷ more) k there)

  -- the end of a dialogue: no line is left
  pub told_all : (h b : Holds O) (lines all : List (List ℕ)) (text : List ℕ) → Told h lines text b all → all ≡ [] → Dialogue gives limit h lines text b
  told_all h b lines all text told none =
      let there : Dialogue gives limit b all [] b = subst (λ ls. Dialogue gives limit b ls [] b) (sym none) (refl, refl) in
      subst (λ t. Dialogue gives limit h lines t b) (append-nil text) (told [] b there)

  -- the end of a dialogue: a line asks for it
  pub told_quit : (h b c : Holds O) (lines left all : List (List ℕ)) (text line : List ℕ) → Told h lines text b all → all ≡ line ∷ left
      → Responds gives limit b (asked_in line) (Ok None) c → Dialogue gives limit h lines text c
  told_quit h b c lines left all text line told first responds =
      let here : Dialogue gives limit b (line ∷ left) [] c = (None, c, responds, (refl, refl)) in
      let there : Dialogue gives limit b all [] c = subst (λ ls. Dialogue gives limit b ls [] c) (sym first) here in
      subst (λ t. Dialogue gives limit h lines t c) (append-nil text) (told [] c there)
