-- The ends of a run, and that nothing goes wrong on the way.
use Rattle.std.proofs.Common.{◌≡◌, ◌⊎◌, ℕ, ◌+◌, true, List, [], ◌∷◌, ◌++◌, length, refl, sym, ap, ◌∙◌, subst, inl, inr, ⊎_elim}
use Rattle.std.proofs.lemmas.Bool.{and_parts}
use Rattle.tb_kernal.specs.declared.events.Event.{Event}
use Rattle.tb_kernal.specs.declared.status.Status.TheVariants.{Running, Waits, Returned, Wrong as WentWrong}
use Rattle.tb_kernal.specs.Machine.{State, status, happens, is_lawful}
use Rattle.tb_kernal.specs.Runs.{run, all_lawful}
use Rattle.tb_machine_reaching.specs.Reaching.{States, Reaches, OnTheWay, NotWrong}
use Rattle.tb_machine_reaching.specs.View.{View, Setup, At, UnderWay, Among, Comes}
use Rattle.tb_machine_reaching.specs.Start.{IsHome, IsWaiting}
use Rattle.tb_kernal.proofs.EventLists.{run_append, lawful_after}
use Rattle.tb_machine_reaching.proofs.Laws.{weakened}
use Rattle.tb_machine_reaching.proofs.Services.{waits, comes_home, stays_home}

-- ---- a machine that is under way is not wrong
pub not_wrong : (f : Setup) (s : State) → UnderWay f s → NotWrong s
not_wrong f s h e w = let both : Running ≡ WentWrong e = sym h.runs ∙ w in cc

-- what is reached by views is reached without going wrong
pub never_wrong : (f : Setup) (v : View) (q : View → Type 0) (t : List ℕ) (n : ℕ) → Comes f v q t n → Reaches NotWrong (At f v) (Among f q) t n
never_wrong f v q t n c = weakened (UnderWay f) NotWrong (At f v) (Among f q) t n (not_wrong f) c.reaches

-- ---- states that no lawful event leaves, and in which nothing is sent
pub record Rests (p : States) : Type 0 where
  pub stays : (s : State) → p s → (e : Event) → is_lawful s e ≡ true → p (happens s e) × ((happens s e).sent ≡ s.sent)

-- no lawful list of events leaves such states, and nothing is sent
pub rest_all : (p : States) → Rests p → (es : List Event) (s : State) → p s → all_lawful es s ≡ true → p (run es s) × ((run es s).sent ≡ s.sent)
rest_all p r [] s h l = (h, refl)
rest_all p r (e ∷ es) s h l =
    let l' = and_parts _ _ l in
    let a = r.stays s h e l'.0 in
    let b = rest_all p r es (happens s e) a.0 l'.1 in
    (b.0, b.1 ∙ a.1)

-- a machine that reaches such states is on the way, or there with the whole output
pub settles : (w p q : States) (t : List ℕ) (n : ℕ) → Reaches w p q t n → Rests q → (s : State) → p s → (es : List Event) → all_lawful es s ≡ true
    → (q (run es s) × ((run es s).sent ≡ s.sent ++ t)) ⊎ OnTheWay w t n s es
settles w p q t n law r s h es l = ⊎_elim
    (λ a. let l' = lawful_after a.before a.after s (subst (λ x. all_lawful x s ≡ true) a.split l) in
    let b = rest_all q r a.after (run a.before s) a.there l' in
    let e : run es s ≡ run a.after (run a.before s) = ap (λ l. run l s) a.split ∙ run_append a.before a.after s in
    inl (subst q (sym e) b.0, ap (λ x. x.sent) e ∙ b.1 ∙ a.sent))
    (λ a. inr a)
    (law.leads s h es l)

-- ---- home, and waiting
module _ (f : Setup) (above : f.home_s + length f.rest ≡ 255) where
  deep : (w : View) → w.stack ≡ [] → f.home_s + length (w.stack ++ f.rest) ≡ 255
  deep w h = ap (λ l. f.home_s + length (l ++ f.rest)) h ∙ above

  -- a machine that is home has the status Returned
  pub home_returned : (s : State) → Among f (IsHome f) s → status s ≡ Returned
  home_returned s h = comes_home f h.0 s h.1 h.2.pc (deep h.0 h.2.stack) h.2.binary

  -- no lawful event leaves home
  pub home_rests : Rests (Among f (IsHome f))
  home_rests = record {
    stays = λ s h e l.
        let same = stays_home f h.0 s h.1 h.2.pc (deep h.0 h.2.stack) h.2.binary e in
        ((h.0, subst (At f h.0) (sym same) h.1, h.2), ap (λ x. x.sent) same);
  }

-- a machine at CHRIN without a byte left has the status Waits
pub waiting_waits : (f : Setup) (s : State) → Among f IsWaiting s → status s ≡ Waits
waiting_waits f s h = waits f h.0 s h.1 h.2.pc h.2.text
