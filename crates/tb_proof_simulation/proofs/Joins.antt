-- From laws of views to the run of a program.
use Rattle.std.proofs.Common.{◌≡◌, ◌⊎◌, ℕ, ◌+◌, ◌≤◌, true, List, [], length, refl, ap, inl, inr, ⊎_elim, arith}
use Rattle.tb_kernal.specs.declared.events.Event.{Event}
use Rattle.tb_kernal.specs.declared.status.Status.TheVariants.{Running}
use Rattle.tb_kernal.specs.Machine as machine
use Rattle.tb_kernal.specs.Machine.{status, happens, is_lawful}
use Rattle.tb_kernal.specs.Runs.{run, all_lawful, goes}
use Rattle.tb_machine_reaching.specs.Reaching.{Arrived, OnTheWay}
use Rattle.tb_machine_reaching.specs.View.{View, Setup, At, Among, UnderWay, Comes}
use Rattle.tb_machine_reaching.specs.Start.{IsHome, IsWaiting}
use Rattle.tb_machine_reaching.proofs.Barred.{Enters, opened}
use Rattle.tb_machine_reaching.proofs.Comes.{looser}
use Rattle.tb_kernal.proofs.EventLists.{goes_append}
use Rattle.tb_machine_reaching.proofs.Services.{waits_on}
use Rattle.tb_machine_reaching.proofs.Ends.{home_rests, home_returned, waiting_waits}
use Rattle.tb_machine_reaching.proofs.Barred.{quiet, begins, enters, open_up}
use Rattle.tb_basic_meaning.specs.Steps.{End, Ended, Faulted, Step, Goes, Stops}
use Rattle.tb_basic_meaning.specs.Steps as steps
use Rattle.tb_lower.specs.Slots.{SlotState, Rest, Whole, Left}
use Rattle.tb_compiled_kept.specs.Keeps.{HasEnded}
use Rattle.tb_runtime16.specs.Routines.{Waiting}
use Rattle.tb_proof_simulation.proofs.Inductions as keeps
pub use Rattle.tb_proof_simulation.proofs.Inductions.{sent_in}
use Rattle.tb_proof_simulation.proofs.Inductions.{Reaches, still, there, on_way}
use Rattle.tb_proof_simulation.proofs.Mirrors.{Leads}

-- ---- a law, or one that begins a line
abbrev pub LawAt : Rest → Setup → View → (View → Type 0) → List ℕ → ℕ → Type 0
LawAt (Left n is) f v q t k = Comes f v q t k
LawAt Whole f v q t k = Comes f v q t k ⊎ Enters f v q t k

-- a larger goal
pub law_looser : (r : Rest) (f : Setup) (v : View) (p q : View → Type 0) (t : List ℕ) (k : ℕ) → ((w : View) → p w → q w) → LawAt r f v p t k → LawAt r f v q t k
law_looser (Left n is) f v p q t k g c = looser f v p q t k k (omega arith) g c
law_looser Whole f v p q t k g (inl c) = inl (looser f v p q t k k (omega arith) g c)
law_looser Whole f v p q t k g (inr e) =
    inr (record { rest = e.rest; few = e.few; one = looser (opened f) v _ _ [] 1 1 (omega arith) (λ u c. looser f u p q t e.rest e.rest (omega arith) g c) e.one })

-- the machine runs within its part of the stack
pub record Runs (f : Setup) (s : machine.State) : Type 0 where
  pub runs : status s ≡ Running
  pub not_below : f.low ≤ s.regs.s
  pub not_above : s.regs.s + length f.rest ≤ 255

-- a machine that is under way runs within its part of the stack
pub under_way_runs : (f : Setup) (s : machine.State) → UnderWay f s → Runs f s
under_way_runs f s k = record { runs = k.runs; not_below = k.not_below; not_above = k.not_above }

module _ (f : Setup) (v : View) (q : View → Type 0) (t : List ℕ) (n : ℕ) where
  law_runs : (r : Rest) → LawAt r f v q t n → (s : machine.State) → At f v s → Runs f s
  law_runs (Left m is) c s at = under_way_runs f s (begins f v q t n c s at)
  law_runs Whole (inl c) s at = under_way_runs f s (begins f v q t n c s at)
  law_runs Whole (inr l) s at =
      ⊎_elim (λ a. absurd (let no : ⊥ = omega (arith, a.some, ap goes a.split, goes_append a.before a.after) in no)) (λ a. let k = a.kept in
      record { runs = k.runs; not_below = k.not_below; not_above = k.not_above })
      (l.one.reaches.leads s (open_up f v q t n v s at) [] refl)

  law_leads : (r : Rest) → LawAt r f v q t n → (s : machine.State) → At f v s → (es : List Event) → all_lawful es s ≡ true
      → (goes es ≡ 0) ⊎ (Arrived (Among f q) t n s es ⊎ OnTheWay (UnderWay f) t n s es)
  law_leads (Left m is) c s at es h = inr (c.reaches.leads s at es h)
  law_leads Whole (inl c) s at es h = inr (c.reaches.leads s at es h)
  law_leads Whole (inr l) s at es h = enters f v q t n l s at es h

-- ---- at one start
module _ (f : Setup) (above : f.home_s + length f.rest ≡ 255) where
  abbrev pub IsEnd : End → machine.State → Type 0
  IsEnd Ended s = Among f (IsHome f) s
  IsEnd Faulted s = Among f (IsHome f) s
  IsEnd steps.Waits s = Among f Waiting s

  waits_so : (s : machine.State) → Among f Waiting s → Among f IsWaiting s
  waits_so s h = (h.0, h.1, h.2.waits)

  -- at an end, each lawful event keeps the machine there and sends nothing
  pub end_stays : (why : End) (e : Event) (s : machine.State) → is_lawful s e ≡ true → IsEnd why s → IsEnd why (happens s e) × ((happens s e).sent ≡ s.sent)
  end_stays Ended e s l h = (home_rests f above).stays s h e l
  end_stays Faulted e s l h = (home_rests f above).stays s h e l
  end_stays steps.Waits e s l h = let a = waits_on f h.0 s h.1 h.2.waits.pc h.2.waits.text e l in ((h.0, a.0, h.2), a.1)

  -- the status at an end
  pub ended : (why : End) (s : machine.State) → IsEnd why s → HasEnded why s
  ended Ended s h = home_returned f above s h
  ended Faulted s h = home_returned f above s h
  ended steps.Waits s h = waiting_waits f s (waits_so s h)

  -- a relation of states with views, and a step
  module _ (M : SlotState → View → Type 0) (step : SlotState → Step SlotState) (limit : ℕ) where
    abbrev pub R : SlotState → machine.State → Type 0
    R c s = (w : View) × At f w s × M c w

    abbrev pub Law : Type 0
    Law = (c : SlotState) (w : View) → M c w → LawAt c.rest f w (Leads f M (step c)) (sent_in (step c)) limit

    abbrev pub Goal : Step SlotState → machine.State → Type 0
    Goal = keeps.Goal IsEnd end_stays step R (UnderWay f) limit

    goal : (st : Step SlotState) (s : machine.State) → Among f (Leads f M st) s → Goal st s
    goal (Goes c t) s h = h
    goal (Stops Ended t) s h = h
    goal (Stops Faulted t) s h = h
    goal (Stops steps.Waits t) s h = h

    -- the law of the steps gives what the induction needs: each state reaches the next one's
    pub reaches : Law → (c : SlotState) → Reaches (R c) (Goal (step c)) (UnderWay f) (sent_in (step c)) limit
    reaches law c s h es l = ⊎_elim yet (⊎_elim arrived (λ a. on_way a)) (law_leads f h.0 (Leads f M (step c)) (sent_in (step c)) limit c.rest (law c h.0 h.2) s h.1 es l)
      where
        yet : goes es ≡ 0 → keeps.Way (R c) (Goal (step c)) (UnderWay f) (sent_in (step c)) limit s es
        yet z = let k = quiet f h.0 es s h.1 l z in still z (h.0, k.0, h.2) k.1

        arrived : Arrived (Among f (Leads f M (step c))) (sent_in (step c)) limit s es → keeps.Way (R c) (Goal (step c)) (UnderWay f) (sent_in (step c)) limit s es
        arrived a = there (record { before = a.before; after = a.after; split = a.split; some = a.some; few = a.few; there = goal (step c) (run a.before s) a.there; sent = a.sent })

    -- when a law begins, the machine runs
    pub fine : Law → (c : SlotState) (s : machine.State) → R c s → Runs f s
    fine law c s h = law_runs f h.0 (Leads f M (step c)) (sent_in (step c)) limit c.rest (law c h.0 h.2) s h.1
