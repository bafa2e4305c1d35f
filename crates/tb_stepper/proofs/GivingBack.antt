-- Lists of undos: one more undo, and undos that are dropped.
use Rattle.std.proofs.Common.{ℕ, ◌≡◌, ◌-◌, ◌+◌, ◌≤◌, Bool, true, ◌&&◌, List, [], ◌∷◌, ◌++◌, length, drop, refl, sym, ap}
use Rattle.std.proofs.Common.{subst, ◌∙◌, arith, suc, zero, length-append, length-drop}
use Rattle.std.specs.Prelude.{nat_le, Ok}
use Rattle.std.proofs.lemmas.Bool.{and_parts, and_from}
use Rattle.std.proofs.lemmas.Bool.Decides.{nat_tests}
use Rattle.std.proofs.lemmas.List.{drop-append-le}
use Rattle.circular_buffer.specs.Buffer.{keep_last}
use Rattle.tb_kernal.specs.declared.events.Event.{Event}
use Rattle.tb_kernal.specs.declared.status.Status.{Status}
use Rattle.tb_kernal.specs.Former.{Former}
use Rattle.tb_kernal.specs.Machine.{State, Content, state_of, is_lawful, happens, Happened}
use Rattle.tb_kernal.specs.Undoing.{Undone, IsFormer, back_to}
use Rattle.tb_kernal.proofs.TakingBack.{former_gives_back}
use Rattle.tb_stepper.specs.Holding.{Holds, given_back, first_of, earlier_of, all_fit, EachFollows}
use Rattle.tb_stepper.specs.History.{Added, machines}
use Rattle.tb_stepper.proofs.Following.{follows_more, follows_dropped}

module _ (text answers : List ℕ) where
  first_more : (us : List Former) (u : Former) (s : State) → first_of text answers (us ++ u ∷ []) s ≡ first_of text answers us (given_back text answers u s)
  first_more [] u s = refl
  first_more (v ∷ us) u s = ap (given_back text answers v) (first_more us u s)

  -- the newest undo gives back the state that the others lead back from
  pub earlier_more : (us : List Former) (u : Former) (s : State) →
      earlier_of text answers (us ++ u ∷ []) s ≡ earlier_of text answers us (given_back text answers u s) ++ given_back text answers u s ∷ []
  earlier_more [] u s = refl
  earlier_more (v ∷ us) u s = λ i. given_back text answers v (first_more us u s i) ∷ earlier_more us u s i

  -- without its oldest undos a history has lost its oldest states
  pub earlier_dropped : (n : ℕ) (us : List Former) (s : State) → earlier_of text answers (drop n us) s ≡ drop n (earlier_of text answers us s)
  earlier_dropped zero us s = refl
  earlier_dropped (suc n) [] s = refl
  earlier_dropped (suc n) (u ∷ us) s = earlier_dropped n us s

  -- there are as many earlier states as undos
  pub length_earlier : (us : List Former) (s : State) → length (earlier_of text answers us s) ≡ length us
  length_earlier [] s = refl
  length_earlier (u ∷ us) s = ap suc (length_earlier us s)

  -- whether an undo fits
  abbrev pub fits : Former → Bool
  fits u = nat_le u.text_taken (length text) && nat_le u.answers_taken (length answers)

  -- undos that fit still fit if the oldest are dropped
  pub fits_dropped : (n : ℕ) (us : List Former) → all_fit text answers us ≡ true → all_fit text answers (drop n us) ≡ true
  fits_dropped zero us h = h
  fits_dropped (suc n) [] h = h
  fits_dropped (suc n) (u ∷ us) h = fits_dropped n us (and_parts (fits u) _ h).1

  -- one more undo that fits is added
  pub fits_more : (us : List Former) (u : Former) → all_fit text answers us ≡ true → fits u ≡ true → all_fit text answers (us ++ u ∷ []) ≡ true
  fits_more [] u h f = and_from _ _ f refl
  fits_more (v ∷ us) u h f = let p = and_parts (fits v) _ h in and_from _ _ p.0 (fits_more us u p.1 f)

  -- the newest undo is taken off, and it fits
  pub fits_less : (us : List Former) (u : Former) → all_fit text answers (us ++ u ∷ []) ≡ true → (all_fit text answers us ≡ true) × (fits u ≡ true)
  fits_less [] u h = (refl, (and_parts (fits u) _ h).0)
  fits_less (v ∷ us) u h =
      let p = and_parts (fits v) _ h in
      let q = fits_less us u p.1 in
      (and_from _ _ p.0 q.0, q.1)

back_is : (noted now n : ℕ) → nat_le noted n ≡ true → back_to noted now n ≡ noted
back_is noted now n h = rw h refl

-- undoing gives back what the undo does
pub undone_is : (u : Former) (n q : Content) → Undone u n q → fits n.all_text n.all_answers u ≡ true → given_back n.all_text n.all_answers u (state_of n) ≡ state_of q
undone_is u n q done f =
    let p = and_parts _ _ f in
    let text : q.text_taken ≡ u.text_taken = done.text ∙ back_is _ _ _ p.0 in
    let answers : q.answers_taken ≡ u.answers_taken = done.answers ∙ back_is _ _ _ p.1 in
    let all_text : q.all_text ≡ n.all_text = done.keyboard.0 in
    let all_answers : q.all_answers ≡ n.all_answers = done.keyboard.1 in
    let regs = done.regs in
    let memory = done.memory in
    let sent = done.sent in
    let wrong = done.wrong in
    let home = done.home in
    let home_s = done.home_s in
    cc

-- the undo of an event gives back the state before the event
pub former_is : (u : Former) (m : Content) (e : Event) (t : Status) (n : Content) → IsFormer u m e → Happened m e (Ok t) n → given_back m.all_text m.all_answers u (state_of n) ≡ state_of m
former_is u m e t n noted h =
    let g = former_gives_back u m e t n noted h in
    let memory = g.0 in
    let sent = g.1 in
    let home = g.2 in
    let home_s = g.3 in
    let regs = noted.regs in
    let wrong = noted.wrong in
    let text = noted.text in
    let answers = noted.answers in
    cc

-- the undo that is noted of a machine fits its keyboard
pub former_fits : (u : Former) (m : Content) (e : Event) → IsFormer u m e → fits m.all_text m.all_answers u ≡ true
former_fits u m e noted =
    let text : u.text_taken ≤ length m.all_text = rw noted.text noted.text_in in
    let answers : u.answers_taken ≤ length m.all_answers = rw noted.answers noted.answers_in in
    grind (arith, nat_tests)

-- one more undo, of which the last 1,000 are kept, is one more machine, of which the last 1,001 are kept
pub machines_more : (text answers : List ℕ) (us : List Former) (u : Former) (s t : State) → given_back text answers u t ≡ s →
    earlier_of text answers (keep_last 1000 (us ++ u ∷ [])) t ++ t ∷ [] ≡ keep_last 1001 ((earlier_of text answers us s ++ s ∷ []) ++ t ∷ [])
machines_more text answers us u s t h =
    let before = earlier_of text answers us s ++ s ∷ [] in
    let more : earlier_of text answers (us ++ u ∷ []) t ≡ before = earlier_more text answers us u t ∙ ap (λ x. earlier_of text answers us x ++ x ∷ []) h in
    let n = length (us ++ u ∷ []) - 1000 in
    let m = length (before ++ t ∷ []) - 1001 in
    let long : length before ≡ length us + 1 = length-append _ (s ∷ []) ∙ ap (λ k. k + 1) (length_earlier text answers us s) in
    let same : n ≡ m = omega (arith, length-append us (u ∷ []), length-append before (t ∷ []), long) in
    let few : m ≤ length before = omega (arith, length-append before (t ∷ [])) in
    ap (λ l. l ++ t ∷ []) (earlier_dropped text answers n (us ++ u ∷ []) t ∙ ap (drop n) more ∙ ap (λ k. drop k before) same) ∙ sym (drop-append-le m before (t ∷ []) few)

-- at most 1,000 undos lead back to at most 1,001 machines
pub few_machines : {O : Type 0} (h : Holds O) → length h.undos ≤ 1000 → length (machines h) ≤ 1001
few_machines h few =
    let all = length-append (earlier_of h.machine.all_text h.machine.all_answers h.undos (state_of h.machine)) (state_of h.machine ∷ []) in
    let before = length_earlier h.machine.all_text h.machine.all_answers h.undos (state_of h.machine) in
    omega (arith, all, before)

-- of more undos the last 1,000 are kept
pub few_kept : (us : List Former) → length (keep_last 1000 us) ≤ 1000
few_kept us = omega (arith, length-drop (length us - 1000) us)

-- the undos after an event fit
pub kept_fit : (m ready n : Content) (e : Event) (t : Status) (u : Former) (us : List Former) → ready ≡ record m { room = ready.room } → IsFormer u ready e → Happened ready e (Ok t) n →
    all_fit m.all_text m.all_answers us ≡ true → all_fit n.all_text n.all_answers (keep_last 1000 (us ++ u ∷ [])) ≡ true
kept_fit m ready n e t u us r noted h f =
    let text : n.all_text ≡ m.all_text = h.4.0 ∙ ap (λ (c : Content). c.all_text) r in
    let answers : n.all_answers ≡ m.all_answers = h.4.1 ∙ ap (λ (c : Content). c.all_answers) r in
    let more : fits m.all_text m.all_answers u ≡ true =
    (λ i. fits (ap (λ (c : Content). c.all_text) (sym r) i) (ap (λ (c : Content). c.all_answers) (sym r) i) u) ∙ former_fits u ready e noted in
    (λ i. all_fit (text i) (answers i) (keep_last 1000 (us ++ u ∷ []))) ∙ fits_dropped m.all_text m.all_answers _ (us ++ u ∷ []) (fits_more m.all_text m.all_answers us u f more)

-- an event that happened, with its undo, adds a machine
pub added : {O : Type 0} (gives : O → Content → Event → O → Type 0) (h k : Holds O) (ready : Content) (e : Event) (t : Status) (u : Former) →
    ready ≡ record h.machine { room = ready.room } → gives h.outside ready e k.outside → IsFormer u ready e → Happened ready e (Ok t) k.machine
    → k.undos ≡ keep_last 1000 (h.undos ++ u ∷ []) → k.program ≡ h.program →
    Added gives h k
added gives h k ready e t u r given noted happened undos program =
    let same : state_of ready ≡ state_of h.machine = ap state_of r in
    let now = state_of k.machine in
    let text : k.machine.all_text ≡ h.machine.all_text = happened.4.0 ∙ ap (λ (c : Content). c.all_text) r in
    let answers : k.machine.all_answers ≡ h.machine.all_answers = happened.4.1 ∙ ap (λ (c : Content). c.all_answers) r in
    let back : given_back h.machine.all_text h.machine.all_answers u now ≡ state_of h.machine =
    (λ i. given_back (ap (λ (c : Content). c.all_text) (sym r) i) (ap (λ (c : Content). c.all_answers) (sym r) i) u now) ∙ former_is u ready e t k.machine noted happened ∙ same in
    record {
      ready = ready;
      event = e;
      same = same;
      given = given;
      happened = happened.1 ∙ ap (λ s. happens s e) same;
      program = program;
      kept =
          (λ i. earlier_of (text i) (answers i) (undos i) now ++ now ∷ []) ∙
          machines_more h.machine.all_text h.machine.all_answers h.undos u (state_of h.machine) now back;
    }

-- without its newest undo a history has the machines before the newest one
pub taken_off : {O : Type 0} (h k : Holds O) (u : Former) → h.undos ≡ k.undos ++ u ∷ [] → Undone u h.machine k.machine → all_fit h.machine.all_text h.machine.all_answers h.undos ≡ true →
    machines h ≡ machines k ++ state_of h.machine ∷ []
taken_off h k u undos undone f =
    let fit = (fits_less h.machine.all_text h.machine.all_answers k.undos u (ap (all_fit h.machine.all_text h.machine.all_answers) (sym undos) ∙ f)).1 in
    let now = state_of h.machine in
    let back : given_back h.machine.all_text h.machine.all_answers u now ≡ state_of k.machine = undone_is u h.machine k.machine undone fit in
    (λ i. earlier_of h.machine.all_text h.machine.all_answers (undos i) now ++ now ∷ []) ∙
    ap (λ l. l ++ now ∷ []) (earlier_more h.machine.all_text h.machine.all_answers k.undos u now) ∙
    (λ i. (earlier_of (sym undone.keyboard.0 i) (sym undone.keyboard.1 i) k.undos (back i) ++ back i ∷ []) ++ now ∷ [])

-- the machine that a lawful event adds follows
pub added_follows : {O : Type 0} (gives : O → Content → Event → O → Type 0) →
    ((o : O) (m : Content) (e : Event) (p : O) → gives o m e p → is_lawful (state_of m) e ≡ true) →
    (h k : Holds O) → Added gives h k → EachFollows (machines h) → EachFollows (machines k)
added_follows gives law h k a each =
    let lawful : is_lawful (state_of h.machine) a.event ≡ true = ap (λ s. is_lawful s a.event) (sym a.same) ∙ law h.outside a.ready a.event k.outside a.given in
    let more = follows_more (earlier_of h.machine.all_text h.machine.all_answers h.undos (state_of h.machine)) (state_of h.machine) (state_of k.machine) each (a.event, lawful, a.happened) in
    subst EachFollows (sym a.kept) (follows_dropped _ _ more)
