-- The laws of reaching.
use Rattle.std.proofs.Common.{◌≡◌, ◌⊎◌, ℕ, ◌+◌, ◌≤◌, true, List, [], ◌∷◌, ◌++◌, refl, sym, ap, ◌∙◌, subst, inl, inr, ⊎_elim, arith, append_assoc, append-nil}
use Rattle.std.proofs.lemmas.Bool.{and_parts}
use Rattle.arrayvec.specs.ArrayVec.{ArrayVec}
use Rattle.tb_kernal.specs.declared.events.Event.{Event}
use Rattle.tb_kernal.specs.declared.events.Event.TheVariants.{Go, Interrupt}
use Rattle.tb_kernal.specs.Machine.{State, happens}
use Rattle.tb_kernal.specs.Runs.{run, all_lawful, goes}
use Rattle.tb_kernal.proofs.EventLists.{run_append, goes_append, lawful_after, interrupt_sends_nothing}
use Rattle.tb_machine_reaching.specs.Reaching.{States, Arrived, OnTheWay, Reaches}
use Rattle.tb_machine_reaching.specs.Laws.{OneStep}

later_arrived : (q : States) (t : List ℕ) (n : ℕ) (s : State) (ws : ArrayVec (ℕ × ℕ)) (es : List Event) → (happens s (Interrupt ws)).sent ≡ s.sent
    → Arrived q t n (happens s (Interrupt ws)) es → Arrived q t n s (Interrupt ws ∷ es)
later_arrived q t n s ws es e r = record {
  before = Interrupt ws ∷ r.before;
  after = r.after;
  split = ap (λ l. Interrupt ws ∷ l) r.split;
  some = r.some;
  few = r.few;
  there = r.there;
  sent = r.sent ∙ ap (λ l. l ++ t) e;
}

later_on_the_way : (i : States) (t : List ℕ) (n : ℕ) (s : State) (ws : ArrayVec (ℕ × ℕ)) (es : List Event) → (happens s (Interrupt ws)).sent ≡ s.sent
    → OnTheWay i t n (happens s (Interrupt ws)) es → OnTheWay i t n s (Interrupt ws ∷ es)
later_on_the_way i t n s ws es e r = record {
  few = r.few;
  kept = r.kept;
  so_far = r.so_far;
  to_come = r.to_come;
  sent = r.sent ∙ ap (λ l. l ++ r.so_far) e;
  whole = r.whole;
}

step_leads : (i p q : States) (t : List ℕ) → OneStep i p q t → (es : List Event) (s : State) → p s → all_lawful es s ≡ true → Arrived q t 1 s es ⊎ OnTheWay i t 1 s es
step_leads i p q t o [] s h l = inr (record { few = omega arith; kept = o.inside s h; so_far = []; to_come = t; sent = sym (append-nil s.sent); whole = refl })
step_leads i p q t o (Go k ∷ es) s h l =
    let g = o.goes_on s h k (and_parts _ _ l).0 in
    inl (record { before = Go k ∷ []; after = es; split = refl; some = omega arith; few = omega arith; there = g.0; sent = g.1 })
step_leads i p q t o (Interrupt ws ∷ es) s h l =
    let l' = and_parts _ _ l in
    let quiet = interrupt_sends_nothing s ws in
    ⊎_elim (λ a. inl (later_arrived q t 1 s ws es quiet a)) (λ a. inr (later_on_the_way i t 1 s ws es quiet a))
    (step_leads i p q t o es (happens s (Interrupt ws)) (o.keeps s h ws l'.0) l'.1)

-- one step reaches within 1
pub step : (i p q : States) (t : List ℕ) → OneStep i p q t → Reaches i p q t 1
step i p q t o = record { leads = λ s h es l. step_leads i p q t o es s h l }

-- ---- chain
on_first_way : (i : States) (t u : List ℕ) (n m : ℕ) (s : State) (es : List Event) → OnTheWay i t n s es → OnTheWay i (t ++ u) (n + m) s es
on_first_way i t u n m s es r = record {
  few = omega (arith, r.few);
  kept = r.kept;
  so_far = r.so_far;
  to_come = r.to_come ++ u;
  sent = r.sent;
  whole = ap (λ l. l ++ u) r.whole ∙ append_assoc r.so_far r.to_come u;
}

-- an arrival after an arrival is an arrival
pub then_arrived : (q r : States) (t u : List ℕ) (n m : ℕ) (s : State) (es : List Event) → (a : Arrived q t n s es) → Arrived r u m (run a.before s) a.after → Arrived r (t ++ u) (n + m) s es
then_arrived q r t u n m s es a b = record {
  before = a.before ++ b.before;
  after = b.after;
  split = a.split ∙ ap (λ l. a.before ++ l) b.split ∙ sym (append_assoc a.before b.before b.after);
  some = omega (arith, a.some, goes_append a.before b.before);
  few = omega (arith, a.few, b.few, goes_append a.before b.before);
  there = subst r (sym (run_append a.before b.before s)) b.there;
  sent = ap (λ x. x.sent) (run_append a.before b.before s) ∙ b.sent ∙ ap (λ l. l ++ u) a.sent ∙ append_assoc s.sent t u;
}

-- being on the way after an arrival is being on the way
pub then_on_the_way : (i q : States) (t u : List ℕ) (n m : ℕ) (s : State) (es : List Event) → (a : Arrived q t n s es)
    → OnTheWay i u m (run a.before s) a.after → OnTheWay i (t ++ u) (n + m) s es
then_on_the_way i q t u n m s es a b =
    let e : run es s ≡ run a.after (run a.before s) = ap (λ l. run l s) a.split ∙ run_append a.before a.after s in
    record {
      few = omega (arith, a.few, b.few, ap goes a.split, goes_append a.before a.after);
      kept = subst i (sym e) b.kept;
      so_far = t ++ b.so_far;
      to_come = b.to_come;
      sent = ap (λ x. x.sent) e ∙ b.sent ∙ ap (λ l. l ++ b.so_far) a.sent ∙ append_assoc s.sent t b.so_far;
      whole = ap (λ l. t ++ l) b.whole ∙ sym (append_assoc t b.so_far b.to_come);
    }

-- reaching q and from there r is reaching r: outputs and bounds add up
pub chain : (i p q r : States) (t u : List ℕ) (n m : ℕ) → Reaches i p q t n → Reaches i q r u m → Reaches i p r (t ++ u) (n + m)
chain i p q r t u n m first second = record {
  leads = λ s h es l.
      ⊎_elim
      (λ a. let l' = lawful_after a.before a.after s (subst (λ x. all_lawful x s ≡ true) a.split l) in
      ⊎_elim (λ b. inl (then_arrived q r t u n m s es a b)) (λ b. inr (then_on_the_way i q t u n m s es a b)) (second.leads (run a.before s) a.there a.after l'))
      (λ a. inr (on_first_way i t u n m s es a))
      (first.leads s h es l);
}

-- a larger bound, and a larger goal
pub widen : (i p q r : States) (t : List ℕ) (n m : ℕ) → n ≤ m → ((s : State) → q s → r s) → Reaches i p q t n → Reaches i p r t m
widen i p q r t n m le w first = record {
  leads = λ s h es l.
      ⊎_elim
      (λ a. inl (record { before = a.before; after = a.after; split = a.split; some = a.some; few = omega (arith, a.few, le); there = w _ a.there; sent = a.sent }))
      (λ a. inr (record { few = omega (arith, a.few, le); kept = a.kept; so_far = a.so_far; to_come = a.to_come; sent = a.sent; whole = a.whole }))
      (first.leads s h es l);
}

-- a weaker promise for the way
pub weakened : (w z p q : States) (t : List ℕ) (n : ℕ) → ((s : State) → w s → z s) → Reaches w p q t n → Reaches z p q t n
weakened w z p q t n g law = record {
  leads = λ s h es l.
      ⊎_elim
      (λ a. inl a)
      (λ a. inr (record { few = a.few; kept = g _ a.kept; so_far = a.so_far; to_come = a.to_come; sent = a.sent; whole = a.whole }))
      (law.leads s h es l);
}
