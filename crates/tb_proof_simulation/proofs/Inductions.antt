-- A machine that reaches each next state of a run of steps keeps that run.
use Rattle.std.proofs.Common.{◌≡◌, ℕ, zero, suc, ◌+◌, ◌*◌, ◌≤◌, ◌<◌, true, List, [], ◌∷◌, ◌++◌, refl, sym, ap, ◌∙◌}
use Rattle.std.proofs.Common.{subst, append-nil, append_assoc, arith, length, ◌⊎◌, inl, inr, le_trans, mul-le-mul_right}
use Rattle.std.proofs.lemmas.Bool.{and_parts}
use Rattle.tb_kernal.specs.declared.events.Event.{Event}
use Rattle.tb_kernal.specs.Machine as machine
use Rattle.tb_kernal.specs.Machine.{happens, is_lawful}
use Rattle.tb_kernal.specs.Runs.{run, all_lawful, goes}
use Rattle.tb_machine_reaching.specs.Reaching.{Arrived, OnTheWay}
use Rattle.tb_kernal.proofs.EventLists.{sends_on, run_append, goes_append, lawful_after}
use Rattle.tb_basic_meaning.specs.Steps.{End, Step, Goes, Stops, Run, GoesOn, Over, joined, advance_by, sent_by}
use Rattle.tb_words.specs.Prefixes.{IsPrefix}
use Rattle.tb_basic_syntax.specs.Source.{Program, numbers}
use Rattle.tb_basic_meaning.specs.Control.{State}
use Rattle.tb_basic_meaning.specs.Meaning.{start, source_run}
use Rattle.tb_lower.specs.Slots.{SlotCode, Whole, Slots, SlotState, slot_run}
use Rattle.tb_lower.specs.Follows.{longest, Meets, Agrees, Follows}
use Rattle.tb_basic_meaning.proofs.Runs.{over_stays}
use Rattle.tb_words.proofs.Prefixes.{prefix_trans}
use Rattle.tb_proof_simulation.proofs.Strides.{IsStride, IsOutside}

-- after some events from the entry: still there, on the way, or past the goal
pub data Way (A B W : machine.State → Type 0) (t : List ℕ) (n : ℕ) (x : machine.State) (es : List Event) : Type 0 where
  still : goes es ≡ 0 → A (run es x) → (run es x).sent ≡ x.sent → Way A B W t n x es
  on_way : OnTheWay W t n x es → Way A B W t n x es
  there : Arrived B t n x es → Way A B W t n x es

-- the entry set A reaches the goal set B within n events of the program's own, sending t, with all states on the way in W
abbrev pub Reaches : (A B W : machine.State → Type 0) → List ℕ → ℕ → Type 0
Reaches A B W t n = (x : machine.State) → A x → (es : List Event) → all_lawful es x ≡ true → Way A B W t n x es

abbrev pub sent_in : Step SlotState → List ℕ
sent_in (Goes c t) = t
sent_in (Stops why t) = t

sends_more : (es : List Event) (x : machine.State) → IsPrefix x.sent (run es x).sent
sends_more [] x = ([], append-nil x.sent)
sends_more (e ∷ es) x = prefix_trans _ _ _ (sends_on e x) (sends_more es (happens x e))

-- the events after the first ones
pub lawful_back : (front back es : List Event) (x : machine.State) → front ++ back ≡ es → all_lawful es x ≡ true → all_lawful back (run front x) ≡ true
lawful_back front back es x e h = lawful_after front back x (ap (λ l. all_lawful l x) e ∙ h)

-- running the front and then the back is running the whole list
pub run_back : (front back es : List Event) (x : machine.State) → front ++ back ≡ es → run back (run front x) ≡ run es x
run_back front back es x e = sym (run_append front back x) ∙ ap (λ l. run l x) e

-- the Go events of front and back add up
pub goes_back : (front back es : List Event) → front ++ back ≡ es → goes es ≡ goes front + goes back
goes_back front back es e = ap goes (sym e) ∙ goes_append front back

-- a machine that returned or waits stays so and sends nothing
module _ (IsEnd : End → machine.State → Type 0)
    (end_stays : (why : End) (e : Event) (x : machine.State) → is_lawful x e ≡ true → IsEnd why x → IsEnd why (happens x e) × ((happens x e).sent ≡ x.sent))
    (step : SlotState → Step SlotState) (R : SlotState → machine.State → Type 0) (W : machine.State → Type 0) (limit : ℕ) where
  -- where a step leads
  abbrev pub Goal : Step SlotState → machine.State → Type 0
  Goal (Goes c t) x = R c x
  Goal (Stops why t) x = IsEnd why x

  -- a machine at an end stays there, whatever the lawful events, and sends nothing
  pub ends_stay : (why : End) (es : List Event) (x : machine.State) → all_lawful es x ≡ true → IsEnd why x → IsEnd why (run es x) × ((run es x).sent ≡ x.sent)
  ends_stay why [] x h end = (end, refl)
  ends_stay why (e ∷ es) x h end =
      let l = and_parts _ _ h in
      let one = end_stays why e x l.0 end in
      let more = ends_stay why es (happens x e) l.1 one.0 in
      (more.0, more.1 ∙ one.1)

  -- how a machine is related to a run: at its state, on the way after it, or at its end
  pub data Stands (r : Run SlotState) (y : machine.State) : Type 0 where
    at : (c : SlotState) → r ≡ GoesOn c y.sent → R c y → Stands r y
    behind : W y → IsPrefix y.sent (sent_by r) → Stands r y
    over : (why : End) → r ≡ Over why y.sent → IsEnd why y → Stands r y

  -- a machine has passed a run: what the run sent was sent, and if the run is over the machine is too
  abbrev pub Passes : Run SlotState → machine.State → Type 0
  Passes (GoesOn c out) y = IsPrefix out y.sent
  Passes (Over why out) y = (y.sent ≡ out) × IsEnd why y

  module _ (positive : 1 ≤ limit) (law : (c : SlotState) → Reaches (R c) (Goal (step c)) W (sent_in (step c)) limit) where
    joined_sent : (out : List ℕ) (s : Step SlotState) → sent_by (joined out s) ≡ out ++ sent_in s
    joined_sent out (Goes c t) = refl
    joined_sent out (Stops why t) = refl

    -- never wrong, and what was sent is what a run sent: by induction on the number of the program's own events
    pub stands : (fuel : ℕ) (c : SlotState) (x : machine.State) (es : List Event) → goes es < fuel → R c x → all_lawful es x ≡ true → (k : ℕ)
        × Stands (advance_by step k (GoesOn c x.sent)) (run es x)
    stands zero c x es lt r h = absurd (omega arith)
    stands (suc fuel) c x es lt r h = by (law c x r es h) (λ c' y back lt' r' h'. stands fuel c' y back lt' r' h')
      where
        -- the goal, and the events after it
        past_goal : (s : Step SlotState) (front back : List Event) → front ++ back ≡ es → 1 ≤ goes front → Goal s (run front x) → (run front x).sent
            ≡ x.sent ++ sent_in s → ((c' : SlotState) → goes back < fuel → R c' (run front x) → all_lawful back (run front x) ≡ true → (k : ℕ)
            × Stands (advance_by step k (GoesOn c' (run front x).sent)) (run back (run front x))) → (k : ℕ) × Stands (advance_by step k (joined x.sent s)) (run back (run front x))
        past_goal (Goes c' t) front back e one goal same next =
            let k = next c' (omega (arith, goes_back front back es e)) goal (lawful_back front back es x e h) in
            (k.0, subst (λ o. Stands (advance_by step k.0 (GoesOn c' o)) (run back (run front x))) same k.1)
        past_goal (Stops why t) front back e one goal same next =
            let stay = ends_stay why back (run front x) (lawful_back front back es x e h) goal in
            (0, over why (ap (λ o. Over why o) (sym (stay.1 ∙ same))) stay.0)

        by : Way (R c) (Goal (step c)) W (sent_in (step c)) limit x es → ((c' : SlotState) (y : machine.State) (back : List Event) → goes back < fuel
            → R c' y → all_lawful back y ≡ true → (k : ℕ) × Stands (advance_by step k (GoesOn c' y.sent)) (run back y)) → (k : ℕ)
            × Stands (advance_by step k (GoesOn c x.sent)) (run es x)
        by (still none a same) next = (0, at c (ap (λ o. GoesOn c o) (sym same)) a)
        by (on_way o) next =
            (1, behind o.kept (o.to_come, ap (λ l. l ++ o.to_come) o.sent ∙ append_assoc x.sent o.so_far o.to_come ∙ ap (λ l. x.sent ++ l) (sym o.whole) ∙ sym (joined_sent x.sent (step c))))
        by (there a) next =
            let k = past_goal (step c) a.before a.after (sym a.split) a.some a.there a.sent (λ c' lt' r' h'. next c' (run a.before x) a.after lt' r' h') in
            (suc k.0, subst (λ y. Stands (advance_by step k.0 (joined x.sent (step c))) y) (run_back a.before a.after es x (sym a.split)) k.1)

    -- within k times the limit the run's k steps are done
    pub done : (k : ℕ) (c : SlotState) (x : machine.State) (es : List Event) → R c x → all_lawful es x ≡ true → k * limit ≤ goes es
        → Passes (advance_by step k (GoesOn c x.sent)) (run es x)
    done zero c x es r h le = sends_more es x
    done (suc k) c x es r h le = by (law c x r es h) (λ c' y back r' h' le'. done k c' y back r' h' le')
      where
        past_goal : (s : Step SlotState) (front back : List Event) → front ++ back ≡ es → goes front ≤ limit → Goal s (run front x)
            → (run front x).sent ≡ x.sent ++ sent_in s → ((c' : SlotState) → R c' (run front x) → all_lawful back (run front x) ≡ true
            → k * limit ≤ goes back → Passes (advance_by step k (GoesOn c' (run front x).sent)) (run back (run front x)))
            → Passes (advance_by step k (joined x.sent s)) (run back (run front x))
        past_goal (Goes c' t) front back e few goal same next =
            subst (λ o. Passes (advance_by step k (GoesOn c' o)) (run back (run front x))) same
            (next c' goal (lawful_back front back es x e h) (omega (arith, goes_back front back es e)))
        past_goal (Stops why t) front back e few goal same next =
            let stay = ends_stay why back (run front x) (lawful_back front back es x e h) goal in
            subst (λ r. Passes r (run back (run front x))) (sym (over_stays step k why (x.sent ++ t))) (stay.1 ∙ same, stay.0)

        by : Way (R c) (Goal (step c)) W (sent_in (step c)) limit x es → ((c' : SlotState) (y : machine.State) (back : List Event) → R c' y
            → all_lawful back y ≡ true → k * limit ≤ goes back → Passes (advance_by step k (GoesOn c' y.sent)) (run back y))
            → Passes (advance_by step k (joined x.sent (step c))) (run es x)
        by (still none a same) next = absurd (omega arith)
        by (on_way o) next = absurd (let no : ⊥ = omega (arith, o.few, le) in no)
        by (there a) next =
            subst (λ y. Passes (advance_by step k (joined x.sent (step c))) y) (run_back a.before a.after es x (sym a.split))
            (past_goal (step c) a.before a.after (sym a.split) a.few a.there a.sent (λ c' r' h' le'. next c' (run a.before x) a.after r' h' le'))

-- the machine keeps the program that the slot code follows
module _ (IsEnd : End → machine.State → Type 0)
    (end_stays : (why : End) (e : Event) (x : machine.State) → is_lawful x e ≡ true → IsEnd why x → IsEnd why (happens x e) × ((happens x e).sent ≡ x.sent))
    (program : Program) (code : SlotCode) (follows : Follows program code) (step : SlotState → Step SlotState) (stride : IsStride code step)
    (R : SlotState → machine.State → Type 0) (W : machine.State → Type 0) (limit : ℕ) (positive : 1 ≤ limit)
    (law : (c : SlotState) → Reaches (R c) (Goal IsEnd end_stays step R W limit (step c)) W (sent_in (step c)) limit) where
  -- on its way with a prefix sent, or at the source's end with all of it sent
  abbrev pub IsKept : Run State → machine.State → Type 0
  IsKept source y =
      (IsPrefix y.sent (sent_by source) × (W y ⊎ ((c : SlotState) × R c y))) ⊎ ((why : End) × (source ≡ Over why y.sent) × IsEnd why y)

  agrees_prefix : (r : Run SlotState) (source : Run State) → Agrees r source → IsPrefix (sent_by r) (sent_by source)
  agrees_prefix (GoesOn c out) source h = h
  agrees_prefix (Over why out) source h = ([], append-nil out ∙ sym (ap sent_by h))

  kept_by : (r : Run SlotState) (source : Run State) (y : machine.State) → Agrees r source → Stands IsEnd end_stays step R W limit r y → IsKept source y
  kept_by r source y h (at c e w) = inl (subst (λ q. IsPrefix (sent_by q) (sent_by source)) e (agrees_prefix r source h), inr (c, w))
  kept_by r source y h (behind w p) = inl (prefix_trans _ _ _ p (agrees_prefix r source h), inl w)
  kept_by r source y h (over why e end) = inr (why, subst (λ q. Agrees q source) e h, end)

  module _ (seed : ℕ) (text answers : List ℕ) (slots : Slots) (size : length slots.words ≡ 16) (x : machine.State) (silent : x.sent ≡ [])
      (entered : R (record { state = start (numbers code) seed text answers; rest = Whole; slots = slots }) x) (es : List Event) (lawful : all_lawful es x ≡ true) where
    abbrev entry : SlotState
    entry = record { state = start (numbers code) seed text answers; rest = Whole; slots = slots }

    -- nothing wrong is done or sent
    pub kept : (m : ℕ) × IsKept (source_run program seed text answers m) (run es x)
    kept =
        let y = run es x in
        let n = goes es in
        let s = stands IsEnd end_stays step R W limit positive law (suc n) entry x es (omega arith) entered lawful in
        let k = stride.reached s.0 (GoesOn entry []) in
        let m = follows.reaches_only seed text answers slots size k.count in (
          m.0,
          kept_by (slot_run code seed text answers slots k.count) (source_run program seed text answers m.0) y m.1
              (subst (λ r. Stands IsEnd end_stays step R W limit r y) k.same
              (subst (λ o. Stands IsEnd end_stays step R W limit (advance_by step s.0 (GoesOn entry o)) y) silent s.1)),
        )

    -- what the source has sent or done after m lines, the machine has after a number of the program's own events
    abbrev pub HasPassed : Run State → machine.State → Type 0
    HasPassed (GoesOn s out) y = IsPrefix out y.sent
    HasPassed (Over why out) y = (y.sent ≡ out) × IsEnd why y

    passed_by : (m b : ℕ) (source : Run State) (r : Run SlotState) (y : machine.State) → Meets m source r b → Passes IsEnd end_stays step R W limit r y → HasPassed source y
    passed_by m b (GoesOn s out) r y h p = subst (λ q. Passes IsEnd end_stays step R W limit q y) h.2 p
    passed_by m b (Over why out) r y h p = subst (λ q. Passes IsEnd end_stays step R W limit q y) h.0 p

    -- a run that meets the source's is outside a list
    outside : (m b : ℕ) (source : Run State) (r : Run SlotState) → Meets m source r b → IsOutside r
    outside m b (GoesOn s out) r h = subst IsOutside (sym h.2) refl
    outside m b (Over why out) r h = subst IsOutside (sym h.0) tt

    -- after enough Go events the machine has passed the source's run of m lines
    pub paced : (m : ℕ) → m * (longest code + 1) * limit ≤ goes es → HasPassed (source_run program seed text answers m) (run es x)
    paced m le =
        let y = run es x in
        let k = follows.reaches seed text answers slots size m in
        let j = stride.found k.0 (GoesOn entry []) (outside m _ (source_run program seed text answers m) (slot_run code seed text answers slots k.0) k.2) in
        let few : j.count * limit ≤ goes es = le_trans (mul-le-mul_right limit (le_trans j.few k.1)) le in
        let d = done IsEnd end_stays step R W limit positive law j.count entry x es entered lawful few in
        passed_by m _ (source_run program seed text answers m) (slot_run code seed text answers slots k.0) y k.2
        (subst (λ r. Passes IsEnd end_stays step R W limit r y) j.same
        (subst (λ o. Passes IsEnd end_stays step R W limit (advance_by step j.count (GoesOn entry o)) y) silent d))
