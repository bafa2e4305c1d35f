-- Addresses that nothing on the way may be at, as the first bytes of lines; a law that begins at such an address.
use Rattle.std.proofs.Common.{◌≡◌, ◌⊎◌, ℕ, ◌+◌, ◌≤◌, true, List, [], ◌∷◌, refl, ap, ◌∙◌, subst, inl, inr, ⊎_elim, arith}
use Rattle.std.proofs.lemmas.Bool.{and_parts}
use Rattle.tb_kernal.specs.declared.events.Event.{Event}
use Rattle.tb_kernal.specs.declared.events.Event.TheVariants.{Go, Interrupt}
use Rattle.tb_kernal.specs.Machine.{State, happens}
use Rattle.tb_kernal.specs.Runs.{run, all_lawful, goes}
use Rattle.tb_machine_reaching.specs.Reaching.{Arrived, OnTheWay}
use Rattle.tb_machine_reaching.specs.View.{View, Setup, At, Holds, UnderWay, Among, Comes}
use Rattle.tb_kernal.proofs.EventLists.{interrupt_sends_nothing, goes_append, lawful_after}
use Rattle.tb_machine_reaching.proofs.Laws.{then_arrived, then_on_the_way}
use Rattle.tb_machine_reaching.proofs.Act.{kept_by_interrupt}

-- ---- a law that begins there
-- a setup in which all the program's bytes may be fetched
abbrev pub opened : Setup → Setup
opened f = record f { code = f.whole }

-- one instruction at a barred address, and then a law
pub record Enters (f : Setup) (v : View) (q : View → Type 0) (t : List ℕ) (n : ℕ) : Type 0 where
  pub rest : ℕ
  pub few : 1 + rest ≤ n
  pub one : Comes (opened f) v (λ w. Comes f w q t rest) [] 1

-- ---- interrupts keep a view
pub quiet : (f : Setup) (v : View) (es : List Event) (s : State) → At f v s → all_lawful es s ≡ true → goes es ≡ 0 → At f v (run es s) × ((run es s).sent ≡ s.sent)
quiet f v [] s at h z = (at, refl)
quiet f v (Go k ∷ es) s at h z = absurd (let none : ⊥ = omega (arith, z) in none)
quiet f v (Interrupt ws ∷ es) s at h z =
    let p = and_parts _ _ h in
    let r = quiet f v es (happens s (Interrupt ws)) (kept_by_interrupt f v s at ws p.0) p.1 z in
    (r.0, r.1 ∙ interrupt_sends_nothing s ws)

-- when a law begins, the machine is under way
pub begins : (f : Setup) (v : View) (q : View → Type 0) (t : List ℕ) (n : ℕ) → Comes f v q t n → (s : State) → At f v s → UnderWay f s
begins f v q t n c s at = ⊎_elim (λ a. absurd (let none : ⊥ = omega (arith, a.some, ap goes a.split, goes_append a.before a.after) in none)) (λ a. a.kept) (c.reaches.leads s at [] refl)

module _ (f : Setup) (v : View) (q : View → Type 0) (t : List ℕ) (n : ℕ) where
  -- a view stays a view when all the program's bytes may be fetched
  pub open_up : (w : View) (s : State) → At f w s → At (opened f) w s
  open_up w s at =
      let st = at.stays in
      record {
        regs = at.regs;
        depth = at.depth;
        stack = at.stack;
        bytes = at.bytes;
        text = at.text;
        answers = at.answers;
        stays = record { whole = st.whole; inner = λ a b e. e; right = st.right; home = st.home; home_s = st.home_s; far = st.far; apart = st.apart };
      }

  close : (w : View) (s : State) → Holds f.code f.whole → At (opened f) w s → At f w s
  close w s inner at =
      let st = at.stays in
      record {
        regs = at.regs;
        depth = at.depth;
        stack = at.stack;
        bytes = at.bytes;
        text = at.text;
        answers = at.answers;
        stays = record { whole = st.whole; inner = inner; right = st.right; home = st.home; home_s = st.home_s; far = st.far; apart = st.apart };
      }

  -- only interrupts so far, or the law's two cases over the inner code
  pub enters : Enters f v q t n → (s : State) → At f v s → (es : List Event) → all_lawful es s ≡ true
      → (goes es ≡ 0) ⊎ (Arrived (Among f q) t n s es ⊎ OnTheWay (UnderWay f) t n s es)
  enters l s at es h = ⊎_elim there_first (λ a. inl (let z : goes es ≡ 0 = omega (arith, a.few) in z)) (l.one.reaches.leads s (open_up v s at) es h)
    where
      there_first : Arrived (Among (opened f) (λ w. Comes f w q t l.rest)) [] 1 s es → (goes es ≡ 0) ⊎ (Arrived (Among f q) t n s es ⊎ OnTheWay (UnderWay f) t n s es)
      there_first a =
          let h' = lawful_after a.before a.after s (subst (λ x. all_lawful x s ≡ true) a.split h) in
          inr (⊎_elim
          (λ b. let c = then_arrived _ _ [] t 1 l.rest s es a b in inl (record {
            before = c.before;
            after = c.after;
            split = c.split;
            some = c.some;
            few = omega (arith, c.few, l.few);
            there = c.there;
            sent = c.sent;
          }))
          (λ b. let c = then_on_the_way (UnderWay f) _ [] t 1 l.rest s es a b in
          inr (record { few = omega (arith, c.few, l.few); kept = c.kept; so_far = c.so_far; to_come = c.to_come; sent = c.sent; whole = c.whole }))
          (a.there.2.reaches.leads (run a.before s) (close a.there.0 (run a.before s) at.stays.inner a.there.1) a.after h'))
