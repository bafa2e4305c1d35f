-- Laws of steps and runs.
use Rattle.std.proofs.Common.{◌≡◌, ℕ, zero, suc, ◌+◌, List, [], ◌++◌, refl, sym, ap, ◌∙◌, append_assoc, append-nil, zero-add, suc-add}
use Rattle.tb_basic_meaning.specs.Steps.{End, Step, Goes, Stops, after_sending, and_then, Run, GoesOn, Over, joined, advance, advance_by, sent_by}
use Rattle.tb_words.specs.Prefixes.{IsPrefix}
use Rattle.tb_words.proofs.Prefixes.{prefix_trans}

-- sending nothing before a step changes nothing
pub after_nothing : {S : Type 0} → (x : Step S) → after_sending [] x ≡ x
after_nothing (Goes s t) = refl
after_nothing (Stops e t) = refl

-- sending two texts before a step is sending one after the other
pub after_append : {S : Type 0} → (t u : List ℕ) (x : Step S) → after_sending (t ++ u) x ≡ after_sending t (after_sending u x)
after_append t u (Goes s v) = ap (λ w. Goes s w) (append_assoc t u v)
after_append t u (Stops e v) = ap (λ w. Stops e w) (append_assoc t u v)

after_then : {A B : Type 0} → (t : List ℕ) (x : Step A) (f : A → Step B) → and_then (after_sending t x) f ≡ after_sending t (and_then x f)
after_then t (Goes s u) f = after_append t u (f s)
after_then t (Stops e u) f = refl

-- three steps in turn can be grouped either way
pub then_assoc : {A B C : Type 0} → (x : Step A) (f : A → Step B) (g : B → Step C) → and_then (and_then x f) g ≡ and_then x (λ s. and_then (f s) g)
then_assoc (Goes s t) f g = after_then t (f s) g
then_assoc (Stops e t) f g = refl

-- what is sent before a step joins what was sent earlier
pub joined_after : {S : Type 0} → (out t : List ℕ) (x : Step S) → joined out (after_sending t x) ≡ joined (out ++ t) x
joined_after out t (Goes s u) = ap (λ w. GoesOn s w) (sym (append_assoc out t u))
joined_after out t (Stops e u) = ap (λ w. Over e w) (sym (append_assoc out t u))

-- a run that is over stays as it is
pub over_stays : {S : Type 0} → (step : S → Step S) (m : ℕ) (e : End) (out : List ℕ) → advance_by step m (Over e out) ≡ Over e out
over_stays step zero e out = refl
over_stays step (suc m) e out = over_stays step m e out

-- a run of a + b steps is one of a steps and then one of b steps
pub advance_sum : {S : Type 0} → (step : S → Step S) (a b : ℕ) (r : Run S) → advance_by step (a + b) r ≡ advance_by step b (advance_by step a r)
advance_sum step zero b r = ap (λ n. advance_by step n r) (zero-add b)
advance_sum step (suc a) b r = ap (λ n. advance_by step n r) (suc-add a b) ∙ advance_sum step a b (advance step r)

-- what was sent at first is a prefix of what is sent later
joined_prefix : {S : Type 0} → (out : List ℕ) (x : Step S) → IsPrefix out (sent_by (joined out x))
joined_prefix out (Goes s t) = (t, refl)
joined_prefix out (Stops e t) = (t, refl)

advance_prefix : {S : Type 0} → (step : S → Step S) (r : Run S) → IsPrefix (sent_by r) (sent_by (advance step r))
advance_prefix step (GoesOn s out) = joined_prefix out (step s)
advance_prefix step (Over e out) = ([], append-nil out)

-- what a run has sent at first is a prefix of what it has sent later
pub grows : {S : Type 0} → (step : S → Step S) (m : ℕ) (r : Run S) → IsPrefix (sent_by r) (sent_by (advance_by step m r))
grows step zero r = ([], append-nil (sent_by r))
grows step (suc m) r = prefix_trans _ _ _ (advance_prefix step r) (grows step m (advance step r))
