-- Steps that are the same, but for line numbers.
use Rattle.std.proofs.Common.{◌≡◌, ℕ, List, [], ◌∷◌, ◌++◌, refl, sym, ap, ◌∙◌, append_assoc}
use Rattle.tb_basic_syntax.specs.Source.{Expression}
use Rattle.tb_basic_meaning.specs.Steps.{Ended, Faulted, Waits, Step, Goes, Stops, after_sending, and_then}
use Rattle.tb_basic_meaning.specs.Control.{Place, State, fault, fault_text}
use Rattle.tb_basic_meaning.specs.Meaning.{with_value, valued}
use Rattle.tb_basic_meaning.specs.Values.{Valued, Gives, Fails, value}
use Rattle.tb_basic_renumber.specs.Runs.{moved_state}
use Rattle.tb_basic_renumber.proofs.Found.{IsPlace}

abbrev pub ArePlaces : List ℕ → List Place → Type 0
ArePlaces ns [] = Unit {0}
ArePlaces ns (p ∷ ps) = IsPlace ns p × ArePlaces ns ps

-- a state whose places are those of the lines
abbrev pub IsWithin : List ℕ → State → Type 0
IsWithin ns s = IsPlace ns s.place × ArePlaces ns s.returns

-- two steps that do the same
pub data Alike (f : ℕ → ℕ) (ns : List ℕ) : Step State → Step State → Type 0 where
  goes : (s : State) (t : List ℕ) → IsWithin ns s → Alike f ns (Goes s t) (Goes (moved_state f s) t)
  ends : (t : List ℕ) → Alike f ns (Stops Ended t) (Stops Ended t)
  waits : (t : List ℕ) → Alike f ns (Stops Waits t) (Stops Waits t)
  faults : (t : List ℕ) (k n : ℕ) (u u' : List ℕ) → u ≡ t ++ fault_text k n → u' ≡ t ++ fault_text k (f n) → Alike f ns (Stops Faulted u) (Stops Faulted u')

module _ (f : ℕ → ℕ) (ns : List ℕ) where
  -- two things to do from a state on that do the same
  abbrev pub AreAlike : (State → Step State) → (State → Step State) → Type 0
  AreAlike g h = (s : State) → IsWithin ns s → Alike f ns (g s) (h (moved_state f s))

  pub fault_alike : (k n : ℕ) → Alike f ns (fault k n) (fault k (f n))
  fault_alike k n = faults [] k n _ _ refl refl

  pub after_alike : (t : List ℕ) (x y : Step State) → Alike f ns x y → Alike f ns (after_sending t x) (after_sending t y)
  after_alike t _ _ (goes s u w) = goes s (t ++ u) w
  after_alike t _ _ (ends u) = ends (t ++ u)
  after_alike t _ _ (waits u) = waits (t ++ u)
  after_alike t _ _ (faults u k n v v' e e') =
      faults (t ++ u) k n (t ++ v) (t ++ v') (ap (λ w. t ++ w) e ∙ sym (append_assoc t u (fault_text k n)))
      (ap (λ w. t ++ w) e' ∙ sym (append_assoc t u (fault_text k (f n))))

  pub then_alike : (x y : Step State) (g h : State → Step State) → Alike f ns x y → AreAlike g h → Alike f ns (and_then x g) (and_then y h)
  then_alike _ _ g h (goes s t w) next = after_alike t (g s) (h (moved_state f s)) (next s w)
  then_alike _ _ g h (ends t) next = ends t
  then_alike _ _ g h (waits t) next = waits t
  then_alike _ _ g h (faults t k n u u' e e') next = faults t k n u u' e e'

  -- a value, and what comes next
  pub value_alike : (n : ℕ) (w : Valued) (s : State) (g h : ℕ → State → Step State) → IsWithin ns s → ((v : ℕ) → AreAlike (g v) (h v))
      → Alike f ns (with_value n w s g) (with_value (f n) w (moved_state f s) h)
  value_alike n (Gives v seed) s g h w next = next v (record s { seed = seed }) w
  value_alike n (Fails k) s g h w next = fault_alike k n

  pub valued_alike : (n : ℕ) (e : Expression) (s : State) (g h : ℕ → State → Step State) → IsWithin ns s → ((v : ℕ) → AreAlike (g v) (h v))
      → Alike f ns (valued n e s g) (valued (f n) e (moved_state f s) h)
  valued_alike n e s g h w next = value_alike n (value e s.vars s.seed) s g h w next
