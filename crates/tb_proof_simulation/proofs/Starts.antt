-- Runs in which each start of a line is counted.
use Rattle.std.proofs.Common.{◌≡◌, ℕ, zero, suc, ◌+◌, ◌-◌, ◌*◌, ◌≤◌, ◌<◌, Bool, true, false, if◌then◌else◌, List, []}
use Rattle.std.proofs.Common.{◌∷◌, ◌++◌, refl, sym, ap, ◌∙◌, subst, arith, length, Option, Some, None, append_assoc, ⊎_elim, ap₂, ◌&&◌}
use Rattle.std.proofs.Common.{mul-le-mul_right, le_trans}
use Rattle.std.proofs.lemmas.Bool.{and_parts, cases_lt}
use Rattle.tb_kernal.specs.declared.events.Event.{Event}
use Rattle.tb_kernal.specs.declared.events.Event.TheVariants.{Go, Interrupt}
use Rattle.tb_kernal.specs.Machine as machine
use Rattle.tb_kernal.specs.Machine.{happens, is_lawful}
use Rattle.tb_kernal.specs.Runs.{run, all_lawful, goes, is_own}
use Rattle.tb_basic_meaning.specs.Steps.{End, Step, Goes, Stops, Run, GoesOn, Over, joined, advance, advance_by}
use Rattle.tb_basic_syntax.specs.Source.{Program, numbers}
use Rattle.tb_basic_meaning.specs.Control.{Place, At, Past, State, content_at}
use Rattle.tb_basic_meaning.specs.Meaning.{start, source_run}
use Rattle.tb_lower.specs.Slots.{Instr, SlotCode, Rest, Whole, Left, Slots, SlotState, slot_step, slot_run, slot_start, instr_at, begins, begins_in, beginnings}
use Rattle.tb_lower.specs.Follows.{longest, Meets, Follows}
use Rattle.tb_basic_meaning.proofs.Runs.{over_stays, advance_sum}
use Rattle.tb_lower.proofs.Lists.{beginnings_sum}
use Rattle.tb_proof_simulation.proofs.Inductions.{Way, still, on_way, there, Reaches, sent_in, lawful_back, run_back, goes_back}
use Rattle.tb_proof_simulation.proofs.Inductions as keeps
use Rattle.tb_proof_simulation.proofs.Strides.{IsStride, IsOutside, found_line, lines_at, passed}

-- a number if a test holds, else 0
abbrev pub count : ℕ → Bool → ℕ
count n b = if b then n else 0

-- an event counts if it is the program's own
first_counts : (e : Event) (es : List Event) → goes (e ∷ es) ≡ count 1 (is_own e) + goes es
first_counts (Go k) es = omega arith
first_counts (Interrupt ws) es = omega arith

module _ (starts : machine.State → ℕ) where
  -- how many starts of lines are met when an event of the machine's own comes
  abbrev pub met : List Event → machine.State → ℕ
  met [] x = 0
  met (e ∷ es) x = count (starts x) (is_own e) + met es (happens x e)

  -- the starts met in two lists of events add up
  pub met_append : (es fs : List Event) (x : machine.State) → met (es ++ fs) x ≡ met es x + met fs (run es x)
  met_append [] fs x = omega arith
  met_append (e ∷ es) fs x = omega (arith, met_append es fs (happens x e))

  -- in W, or in B after a front of the events, or the answer is known
  data Met (W B : machine.State → Type 0) (Z : Type 0) (room used : ℕ) (x : machine.State) (es : List Event) : Type 0 where
    on : W (run es x) → used + goes es < room → Met W B Z room used x es
    at : (front back : List Event) → front ++ back ≡ es → used + goes front ≤ room → B (run front x) → Met W B Z room used x es
    known : Z → Met W B Z room used x es

  -- from an answer for each list: the first front in B, all before it in W
  first_met : (W B : machine.State → Type 0) (Z : Type 0) → ((y : machine.State) → W y → starts y ≡ 0)
      → (room used : ℕ) (es : List Event) (x : machine.State) → all_lawful es x ≡ true → ((fs : List Event) → all_lawful fs x ≡ true
      → Met W B Z room used x fs) → (W (run es x) → used + goes es < room → met es x ≡ 0 → Z) → ((front back : List Event) → front ++ back ≡ es
      → used + goes front ≤ room → B (run front x) → met front x ≡ 0 → Z) → Z
  first_met W B Z none room used [] x l law ends reaches = now (law [] refl)
    where
      now : Met W B Z room used x [] → Z
      now (on w few) = ends w few refl
      now (at [] back e le b) = reaches [] [] refl le b refl
      now (at (a ∷ front) back e le b) = absurd cc
      now (known z) = z
  first_met W B Z none room used (e ∷ es) x l law ends reaches =
      now (law [] refl)
      (λ w. first_met W B Z none room (used + count 1 (is_own e)) es (happens x e) ok.1 (λ fs lf. later fs (law (e ∷ fs) (λ i. ok.0 i && lf i)))
      (λ v few q. ends v (omega (arith, few, first_counts e es)) (quiet w es q))
      (λ front back same le b q. reaches (e ∷ front) back (ap (λ k. e ∷ k) same) (omega (arith, le, first_counts e front)) b (quiet w front q)))
    where
      ok : (is_lawful x e ≡ true) × (all_lawful es (happens x e) ≡ true)
      ok = and_parts _ _ l

      quiet : W x → (fs : List Event) → met fs (happens x e) ≡ 0 → met (e ∷ fs) x ≡ 0
      quiet w fs q = let c = ap (λ n. count n (is_own e)) (none x w) in omega (arith, q, c, zero_count (is_own e))
        where
          zero_count : (b : Bool) → count 0 b ≡ 0
          zero_count true = refl
          zero_count false = refl

      later : (fs : List Event) → Met W B Z room used x (e ∷ fs) → Met W B Z room (used + count 1 (is_own e)) (happens x e) fs
      later fs (on w few) = on w (omega (arith, few, first_counts e fs))
      later fs (at [] back same le b) = known (reaches [] (e ∷ es) refl le b refl)
      later fs (at (a ∷ front) back same le b) =
          let head : a ≡ e = cc in
          let tail : front ++ back ≡ fs = cc in
          at front back tail (omega (arith, le, ap (λ a. goes (a ∷ front)) head, first_counts e front)) (subst (λ a. B (run front (happens x a))) head b)
      later fs (known z) = known z

      now : Met W B Z room used x [] → (W x → Z) → Z
      now (on w few) next = next w
      now (at [] back same le b) next = reaches [] (e ∷ es) refl le b refl
      now (at (a ∷ front) back same le b) next = absurd cc
      now (known z) next = z

  -- ── a law with its line starts ──
  -- from A, where `first` lines begin, to B: at A, on the way, or there, with the beginnings that were met
  pub data Counted (A B W : machine.State → Type 0) (t : List ℕ) (first n : ℕ) (x : machine.State) (es : List Event) : Type 0 where
    before : goes es ≡ 0 → A (run es x) → (run es x).sent ≡ x.sent → met es x ≡ 0 → Counted A B W t first n x es
    between : W (run es x) → met es x ≡ first → goes es < n → Counted A B W t first n x es
    behind : (front back : List Event) → front ++ back ≡ es → 1 ≤ goes front → goes front ≤ n → B (run front x) → (run front x).sent ≡ x.sent ++ t
        → met front x ≡ first → Counted A B W t first n x es

  module _ (A B W : machine.State → Type 0) (t : List ℕ) (first n : ℕ) (reaches : Reaches A B W t n)
      (keeps_entry : (e : Event) (x : machine.State) → is_own e ≡ false → is_lawful x e ≡ true → A x → A (happens x e) × ((happens x e).sent ≡ x.sent))
      (no_start : (y : machine.State) → W y → starts y ≡ 0) (entry : (y : machine.State) → A y → starts y ≡ first) where
    shift : (e : Event) (es : List Event) (x : machine.State) → is_own e ≡ false → (happens x e).sent ≡ x.sent
        → Counted A B W t first n (happens x e) es → Counted A B W t first n x (e ∷ es)
    shift e es x not_go same (before none a quiet v) =
        let g = ap (count 1) not_go in let s = ap (count (starts x)) not_go in
        before (omega (arith, g, none, first_counts e es)) a (quiet ∙ same) (omega (arith, s, v))
    shift e es x not_go same (between w v few) =
        let g = ap (count 1) not_go in let s = ap (count (starts x)) not_go in
        between w (omega (arith, s, v)) (omega (arith, g, few, first_counts e es))
    shift e es x not_go same (behind front back q some few b all v) =
        let g = ap (count 1) not_go in let s = ap (count (starts x)) not_go in
        behind (e ∷ front) back (ap (λ l. e ∷ l) q) (omega (arith, g, some, first_counts e front)) (omega (arith, g, few, first_counts e front)) b
        (all ∙ ap (λ l. l ++ t) same) (omega (arith, s, v))

    -- a law that counts no line on the way counts those at its entry
    pub counted : (es : List Event) (x : machine.State) → A x → all_lawful es x ≡ true → Counted A B W t first n x es
    counted [] x a l = before refl a refl refl
    counted (e ∷ es) x a l = by (is_own e) refl (λ not_go. let k = keeps_entry e x not_go ok.0 a in shift e es x not_go k.1 (counted es (happens x e) k.0 ok.1))
      where
        ok : (is_lawful x e ≡ true) × (all_lawful es (happens x e) ≡ true)
        ok = and_parts _ _ l

        arrived : (fs : List Event) → is_own e ≡ true → (front back : List Event) → front ++ back ≡ e ∷ fs → 1 ≤ goes front → goes front ≤ n
            → B (run front x) → (run front x).sent ≡ x.sent ++ t → Met (λ y. W y) (λ y. B y × (y.sent ≡ x.sent ++ t)) (Counted A B W t first n x (e ∷ es)) n 1 (happens x e) fs
        arrived fs go [] back same some few b all = absurd (let no : ⊥ = omega (arith, some) in no)
        arrived fs go (a ∷ front) back same some few b all =
            let head : a ≡ e = cc in
            let tail : front ++ back ≡ fs = cc in
            let g = ap (count 1) go in
            at front back tail (omega (arith, g, few, ap (λ a. goes (a ∷ front)) head, first_counts e front))
            (subst (λ a. B (run front (happens x a))) head b, subst (λ a. (run front (happens x a)).sent ≡ x.sent ++ t) head all)

        way : (fs : List Event) → is_own e ≡ true → Way A B W t n x (e ∷ fs) → Met (λ y. W y) (λ y. B y × (y.sent ≡ x.sent ++ t))
            (Counted A B W t first n x (e ∷ es)) n 1 (happens x e) fs
        way fs go (still none a same) = let g = ap (count 1) go in absurd (let no : ⊥ = omega (arith, g, none, first_counts e fs) in no)
        way fs go (on_way o) = let g = ap (count 1) go in on o.kept (omega (arith, o.few, g, first_counts e fs))
        way fs go (there a) = arrived fs go a.before a.after (sym a.split) a.some a.few a.there a.sent

        by : (b : Bool) → is_own e ≡ b → (is_own e ≡ false → Counted A B W t first n x (e ∷ es)) → Counted A B W t first n x (e ∷ es)
        by false not_go next = next not_go
        by true go next =
            let g = ap (count 1) go in let s = ap (count (starts x)) go in
            first_met (λ y. W y) (λ y. B y × (y.sent ≡ x.sent ++ t)) _ no_start n 1 es (happens x e) ok.1
            (λ fs lf. way fs go (reaches x a (e ∷ fs) (λ i. ok.0 i && lf i)))
            (λ w few q. between w (omega (arith, s, q, entry x a)) (omega (arith, g, few, first_counts e es)))
            (λ front back same le b q. behind (e ∷ front) back (ap (λ l. e ∷ l) same) (omega (arith, g, first_counts e front))
            (omega (arith, g, le, first_counts e front)) b.0 b.1 (omega (arith, s, q, entry x a)))

-- ── the slot code's runs ──

-- when a state is at a line
is_line : (code : SlotCode) (q : Rest) (p : Place) → lines_at code q p ≡ 1 → (n : ℕ) × (is : List Instr) × (q ≡ Whole) × (p ≡ At n) × (content_at code n ≡ Some is)
is_line code (Left n is) p e = absurd (let no : ⊥ = omega (arith, e) in no)
is_line code Whole Past e = absurd (let no : ⊥ = omega (arith, e) in no)
is_line code Whole (At n) e = found (content_at code n) refl e
  where
    found : (o : Option (List Instr)) → content_at code n ≡ o → found_line o ≡ 1 → (n' : ℕ) × (is : List Instr) × (Whole ≡ Whole) × (At n ≡ At n')
        × (content_at code n' ≡ Some is)
    found (Some is) c e = (n, is, refl, refl, c)
    found None c e = absurd (let no : ⊥ = omega (arith, e) in no)

IsGoing : Run SlotState → Type 0
IsGoing (GoesOn c out) = Unit {0}
IsGoing (Over why out) = ⊥

ended_before : (step : SlotState → Step SlotState) (d : ℕ) (r : Run SlotState) (why : End) (out : List ℕ) (c : SlotState) (o : List ℕ)
    → r ≡ Over why out → advance_by step d r ≡ GoesOn c o → ⊥
unfolding IsGoing
ended_before step d r why out c o e h = subst IsGoing (sym h ∙ ap (advance_by step d) e ∙ over_stays step d why out) tt

-- at the beginning of a line with m beginnings before it, the source has done m lines
module _ (code : SlotCode) (m : ℕ) (r : Run SlotState) (k : ℕ) (c : SlotState) (out : List ℕ) (now : advance_by (slot_step code) k r ≡ GoesOn c out)
    (met : beginnings code k r ≡ m) (begins_here : begins c.rest c.state.place ≡ 1) where
  too_late : (j : ℕ) → k < j → m < beginnings code j r
  too_late j lt =
      let e : j ≡ k + suc (j - k - 1) = omega (arith, lt) in
      let s = ap (λ n. beginnings code n r) e ∙ beginnings_sum code k (suc (j - k - 1)) r in
      let b : begins_in (advance_by (slot_step code) k r) ≡ 1 = ap begins_in now ∙ begins_here in
      omega (arith, s, b, met)

  behind_place : (p : Place) (s : State) (w : Slots) (o : List ℕ) (j : ℕ) → s.place ≡ p → j < k → advance_by (slot_step code) j r
      ≡ GoesOn (record { state = s; rest = Whole; slots = w }) o → beginnings code j r ≡ m → ⊥
  behind_place (At n) s w o j here lt e b =
      let d : k ≡ j + suc (k - j - 1) = omega (arith, lt) in
      let t = ap (λ n. beginnings code n r) d ∙ beginnings_sum code j (suc (k - j - 1)) r in
      let q : begins_in (advance_by (slot_step code) j r) ≡ 1 = ap begins_in e ∙ ap (begins Whole) here in
      omega (arith, t, q, b, met)
  behind_place Past s w o j here lt e b =
      let d : k ≡ j + suc (k - j - 1) = omega (arith, lt) in
      ended_before (slot_step code) (k - j - 1) (advance (slot_step code) (advance_by (slot_step code) j r)) _ _ c out
      (ap (advance (slot_step code)) e ∙ ap (λ p. joined o (instr_at code Whole p s w)) here)
      (sym (advance_sum (slot_step code) j (suc (k - j - 1)) r) ∙ ap (λ n. advance_by (slot_step code) n r) (sym d) ∙ now)

  same_line : (source : Run State) (j : ℕ) → Meets m source (advance_by (slot_step code) j r) (beginnings code j r) → source ≡ GoesOn c.state out
  same_line (Over why o) j h =
      ⊎_elim (λ lt. absurd (let no : ⊥ = omega (arith, too_late j lt, h.1) in no))
      (λ le. absurd (let d : k ≡ j + (k - j) = omega (arith, le) in ended_before (slot_step code) (k - j) (advance_by (slot_step code) j r) why o c
      out h.0 (sym (advance_sum (slot_step code) j (k - j) r) ∙ ap (λ n. advance_by (slot_step code) n r) (sym d) ∙ now)))
      (cases_lt k j)
  same_line (GoesOn s o) j h =
      ⊎_elim (λ lt. absurd (let no : ⊥ = omega (arith, too_late j lt, h.3) in no))
      (λ le. ⊎_elim (λ lt. absurd (behind_place s.place s h.0 o j refl lt h.2 h.3))
      (λ ge. let e : j ≡ k = omega (arith, le, ge) in
      let x : GoesOn (record { state = s; rest = Whole; slots = h.0 }) o ≡ GoesOn c out = sym h.2 ∙ ap (λ n. advance_by (slot_step code) n r) e ∙ now in
      let a : record { state = s; rest = Whole; slots = h.0 } ≡ c = cc in
      let b : o ≡ out = cc in
      ap (λ c. GoesOn c.state o) a ∙ ap (GoesOn c.state) b)
      (cases_lt j k))
      (cases_lt k j)

-- ── lines of the machine ──
module _ (IsEnd : End → machine.State → Type 0)
    (end_stays : (why : End) (e : Event) (x : machine.State) → is_lawful x e ≡ true → IsEnd why x → IsEnd why (happens x e) × ((happens x e).sent ≡ x.sent))
    (program : Program) (code : SlotCode) (follows : Follows program code) (step : SlotState → Step SlotState) (stride : IsStride code step)
    (R : SlotState → machine.State → Type 0) (W : machine.State → Type 0) (limit : ℕ) (positive : 1 ≤ limit)
    (law : (c : SlotState) → Reaches (R c) (keeps.Goal IsEnd end_stays step R W limit (step c)) W (sent_in (step c)) limit)
    (starts : machine.State → ℕ)
    (others_keep : (c : SlotState) (e : Event) (x : machine.State) → is_own e ≡ false → is_lawful x e ≡ true → R c x → R c (happens x e) × ((happens x e).sent ≡ x.sent))
    (no_start : (y : machine.State) → W y → starts y ≡ 0)
    (no_start_at_end : (why : End) (y : machine.State) → IsEnd why y → starts y ≡ 0)
    (entry : (c : SlotState) (y : machine.State) → R c y → starts y ≡ lines_at code c.rest c.state.place) where
  abbrev Goal : Step SlotState → machine.State → Type 0
  Goal = keeps.Goal IsEnd end_stays step R W limit

  abbrev Law : SlotState → machine.State → List Event → Type 0
  Law c x es = Counted starts (R c) (Goal (step c)) W (sent_in (step c)) (lines_at code c.rest c.state.place) limit x es

  step_law : (c : SlotState) (es : List Event) (x : machine.State) → R c x → all_lawful es x ≡ true → Law c x es
  step_law c es x r l = counted starts (R c) (Goal (step c)) W (sent_in (step c)) (lines_at code c.rest c.state.place) limit (law c) (others_keep c) no_start (entry c) es x r l

  met_sum : (front back es : List Event) (x : machine.State) → front ++ back ≡ es → met starts es x ≡ met starts front x + met starts back (run front x)
  met_sum front back es x e = ap (λ l. met starts l x) (sym e) ∙ met_append starts front back x

  -- a machine at the state of a run after k steps, with b lines begun
  record Stood (r : Run SlotState) (y : machine.State) (b : ℕ) : Type 0 where
    k : ℕ
    c : SlotState
    now : advance_by step k r ≡ GoesOn c y.sent
    related : R c y
    begun : passed step k r ≡ b

  stood : (fuel : ℕ) (c : SlotState) (x : machine.State) (es : List Event) → goes es < fuel → R c x → all_lawful es x ≡ true → starts (run es x) ≡ 1
      → Stood (GoesOn c x.sent) (run es x) (met starts es x)
  stood zero c x es lt r l one = absurd (omega arith)
  stood (suc fuel) c x es lt r l one = by (step_law c es x r l) (λ c' y back lt' r' l' one'. stood fuel c' y back lt' r' l' one')
    where
      past_goal : (st : Step SlotState) → step c ≡ st → (front back : List Event) → front ++ back ≡ es → 1 ≤ goes front → Goal st (run front x)
          → (run front x).sent ≡ x.sent ++ sent_in st → met starts front x ≡ lines_at code c.rest c.state.place
          → ((c' : SlotState) (y : machine.State) (back : List Event) → goes back < fuel → R c' y → all_lawful back y ≡ true → starts (run back y) ≡ 1
          → Stood (GoesOn c' y.sent) (run back y) (met starts back y)) → Stood (GoesOn c x.sent) (run es x) (met starts es x)
      past_goal (Stops why t) e front back eq some goal same v next =
          let stay = keeps.ends_stay IsEnd end_stays step R W limit why back (run front x) (lawful_back front back es x eq l) goal in
          absurd (let no : ⊥ = omega (arith, one, ap starts (run_back front back es x eq), no_start_at_end why _ stay.0) in no)
      past_goal (Goes c' t) e front back eq some goal same v next =
          let j = run_back front back es x eq in
          let s = next c' (run front x) back (omega (arith, lt, some, goes_back front back es eq)) goal (lawful_back front back es x eq l) (ap starts j ∙ one) in
          let b : passed step s.k (joined x.sent (step c)) ≡ met starts back (run front x) = ap (λ st. passed step s.k (joined x.sent st)) e
          ∙ ap (λ o. passed step s.k (GoesOn c' o)) (sym same) ∙ s.begun in
          let g = stride.begins_line c c' t e in
          record {
            k = suc s.k;
            c = s.c;
            now = ap (λ st. advance_by step s.k (joined x.sent st)) e ∙ ap (λ o. advance_by step s.k (GoesOn c' o)) (sym same) ∙ s.now ∙ ap (λ y. GoesOn s.c y.sent) j;
            related = subst (R s.c) j s.related;
            begun = omega (arith, b, g, v, met_sum front back es x eq);
          }

      by : Law c x es → ((c' : SlotState) (y : machine.State) (back : List Event) → goes back < fuel → R c' y → all_lawful back y ≡ true
          → starts (run back y) ≡ 1 → Stood (GoesOn c' y.sent) (run back y) (met starts back y)) → Stood (GoesOn c x.sent) (run es x) (met starts es x)
      by (before none a same v) next = record { k = 0; c = c; now = ap (λ o. GoesOn c o) (sym same); related = a; begun = sym v }
      by (between w v few) next = absurd (let no : ⊥ = omega (arith, one, no_start _ w) in no)
      by (behind front back eq some few goal same v) next = past_goal (step c) refl front back eq some goal same v next

  -- the machine reaches the state after k steps of a run
  record Come (r : Run SlotState) (c : SlotState) (out : List ℕ) (k : ℕ) (x : machine.State) (es : List Event) : Type 0 where
    front : List Event
    back : List Event
    split : front ++ back ≡ es
    few : goes front ≤ k * limit
    related : R c (run front x)
    all : (run front x).sent ≡ out
    begun : met starts front x ≡ passed step k r

  comes : (k : ℕ) (c : SlotState) (x : machine.State) (es : List Event) → R c x → all_lawful es x ≡ true → k * limit ≤ goes es
      → (c' : SlotState) (out : List ℕ) → advance_by step k (GoesOn c x.sent) ≡ GoesOn c' out → Come (GoesOn c x.sent) c' out k x es
  comes zero c x es r l le c' out e = let a : c ≡ c' = cc in let o : x.sent ≡ out = cc in record {
    front = [];
    back = es;
    split = refl;
    few = omega arith;
    related = subst (λ c. R c x) a r;
    all = o;
    begun = refl;
  }
  comes (suc k) c x es r l le c' out e = by (step_law c es x r l) (λ d y back r' l' le' e'. comes k d y back r' l' le' c' out e')
    where
      past_goal : (st : Step SlotState) → step c ≡ st → (front back : List Event) → front ++ back ≡ es → goes front ≤ limit → Goal st (run front x)
          → (run front x).sent ≡ x.sent ++ sent_in st → met starts front x ≡ lines_at code c.rest c.state.place
          → ((d : SlotState) (y : machine.State) (back : List Event) → R d y → all_lawful back y ≡ true → k * limit ≤ goes back
          → advance_by step k (GoesOn d y.sent) ≡ GoesOn c' out → Come (GoesOn d y.sent) c' out k y back) → Come (GoesOn c x.sent) c' out (suc k) x es
      past_goal (Stops why t) q front back eq few goal same v next =
          absurd (ended_before step k (joined x.sent (step c)) why (x.sent ++ t) c' out (ap (joined x.sent) q) e)
      past_goal (Goes d t) q front back eq few goal same v next =
          let s = next d (run front x) back goal (lawful_back front back es x eq l) (omega (arith, le, few, goes_back front back es eq))
          (ap (λ o. advance_by step k (GoesOn d o)) same ∙ ap (λ st. advance_by step k (joined x.sent st)) (sym q) ∙ e) in
          let b : passed step k (joined x.sent (step c)) ≡ met starts s.front (run front x) = ap (λ st. passed step k (joined x.sent st)) q
          ∙ ap (λ o. passed step k (GoesOn d o)) (sym same) ∙ sym s.begun in
          let g = stride.begins_line c d t q in
          let j = run_back front s.front (front ++ s.front) x refl in
          record {
            front = front ++ s.front;
            back = s.back;
            split = append_assoc front s.front s.back ∙ ap (λ l. front ++ l) s.split ∙ eq;
            few = omega (arith, few, s.few, goes_back front s.front (front ++ s.front) refl);
            related = subst (R c') j s.related;
            all = ap (λ s. s.sent) (sym j) ∙ s.all;
            begun = omega (arith, b, g, v, met_sum front s.front (front ++ s.front) x refl);
          }

      by : Law c x es → ((d : SlotState) (y : machine.State) (back : List Event) → R d y → all_lawful back y ≡ true → k * limit ≤ goes back
          → advance_by step k (GoesOn d y.sent) ≡ GoesOn c' out → Come (GoesOn d y.sent) c' out k y back) → Come (GoesOn c x.sent) c' out (suc k) x es
      by (before none a same v) next = absurd (let no : ⊥ = omega (arith, none, le, positive) in no)
      by (between w v few) next = absurd (let no : ⊥ = omega (arith, few, le) in no)
      by (behind front back eq some few goal same v) next = past_goal (step c) refl front back eq few goal same v next

  -- the machine's own next event
  record Own (c : SlotState) (x : machine.State) (es : List Event) : Type 0 where
    front : List Event
    event : Event
    back : List Event
    split : front ++ (event ∷ back) ≡ es
    own : is_own event ≡ true
    none : goes front ≡ 0
    related : R c (run front x)
    all : (run front x).sent ≡ x.sent
    begun : met starts front x ≡ 0

  own_event : (c : SlotState) (x : machine.State) (es : List Event) → R c x → all_lawful es x ≡ true → 1 ≤ goes es → Own c x es
  own_event c x [] r l some = absurd (omega arith)
  own_event c x (e ∷ es) r l some = by (is_own e) refl (λ r' some'. own_event c (happens x e) es r' ok.1 some')
    where
      ok : (is_lawful x e ≡ true) × (all_lawful es (happens x e) ≡ true)
      ok = and_parts _ _ l

      by : (b : Bool) → is_own e ≡ b → (R c (happens x e) → 1 ≤ goes es → Own c (happens x e) es) → Own c x (e ∷ es)
      by true go next = record { front = []; event = e; back = es; split = refl; own = go; none = refl; related = r; all = refl; begun = refl }
      by false not_go next =
          let k = others_keep c e x not_go ok.0 r in
          let g = ap (count 1) not_go in
          let s = ap (count (starts x)) not_go in
          let n = next k.0 (omega (arith, some, g, first_counts e es)) in
          record {
            front = e ∷ n.front;
            event = n.event;
            back = n.back;
            split = ap (λ l. e ∷ l) n.split;
            own = n.own;
            none = omega (arith, g, n.none, first_counts e n.front);
            related = n.related;
            all = n.all ∙ k.1;
            begun = omega (arith, s, n.begun);
          }

  -- ── against the source ──
  -- the source has done m lines and goes on at a line, and so does the machine
  pub record AtLine (seed : ℕ) (text answers : List ℕ) (m : ℕ) (y : machine.State) : Type 0 where
    pub state : State
    pub slots : Slots
    pub done : source_run program seed text answers m ≡ GoesOn state y.sent
    pub related : R (record { state = state; rest = Whole; slots = slots }) y
    pub number : ℕ
    pub list : List Instr
    pub place : state.place ≡ At number
    pub found : content_at code number ≡ Some list

  -- an event of the machine's own that begins a line, m lines having begun before it
  pub record Begins (seed : ℕ) (text answers : List ℕ) (m bound : ℕ) (x : machine.State) (es : List Event) : Type 0 where
    pub front : List Event
    pub event : Event
    pub back : List Event
    pub split : front ++ (event ∷ back) ≡ es
    pub own : is_own event ≡ true
    pub few : goes front < bound
    pub starts_here : starts (run front x) ≡ 1
    pub begun : met starts front x ≡ m

  module _ (seed : ℕ) (text answers : List ℕ) (slots : Slots) (size : length slots.words ≡ 16) (x : machine.State) (silent : x.sent ≡ [])
      (entered : R (record { state = start (numbers code) seed text answers; rest = Whole; slots = slots }) x) where
    abbrev first : SlotState
    first = record { state = start (numbers code) seed text answers; rest = Whole; slots = slots }

    -- at a line's start, m starts having been met, m lines are done
    pub at_line : (es : List Event) → all_lawful es x ≡ true → starts (run es x) ≡ 1 → AtLine seed text answers (met starts es x) (run es x)
    at_line es l one =
        let s = stood (suc (goes es)) first x es (omega arith) entered l one in
        let e : lines_at code s.c.rest s.c.state.place ≡ 1 = sym (entry s.c (run es x) s.related) ∙ one in
        let w = is_line code s.c.rest s.c.state.place e in
        let b : begins s.c.rest s.c.state.place ≡ 1 = ap₂ begins w.2 w.3 in
        let f = follows.reaches seed text answers slots size (met starts es x) in
        let k = stride.reached s.k (GoesOn first []) in
        let now : slot_run code seed text answers slots k.count ≡ GoesOn s.c (run es x).sent = sym k.same ∙ ap (λ o. advance_by step s.k (GoesOn first o)) (sym silent) ∙ s.now in
        let begun : beginnings code k.count (slot_start code seed text answers slots) ≡ met starts es x = sym k.begun ∙ ap (λ o. passed step s.k (GoesOn first o)) (sym silent) ∙ s.begun in
        record {
          state = s.c.state;
          slots = s.c.slots;
          done = same_line code (met starts es x) (slot_start code seed text answers slots) k.count s.c (run es x).sent now begun b (source_run program seed text answers (met starts es x)) f.0 f.2;
          related = subst (λ q. R (record { state = s.c.state; rest = q; slots = s.c.slots }) (run es x)) w.2 s.related;
          number = w.0;
          list = w.1;
          place = w.3;
          found = w.4;
        }

    -- if the source goes on at a line after m lines, the machine begins it within a bound
    pub line_comes : (m : ℕ) (s : State) (out : List ℕ) (n : ℕ) (is : List Instr) → source_run program seed text answers m ≡ GoesOn s out
        → s.place ≡ At n → content_at code n ≡ Some is → (es : List Event) → all_lawful es x ≡ true → m * (longest code + 1) * limit + 1 ≤ goes es
        → Begins seed text answers m (m * (longest code + 1) * limit + 1) x es
    line_comes m s out n is e here found es l le =
        let f = follows.reaches seed text answers slots size m in
        let h : Meets m (GoesOn s out) (slot_run code seed text answers slots f.0) (beginnings code f.0 (slot_start code seed text answers slots)) =
        subst (λ q. Meets m q (slot_run code seed text answers slots f.0) (beginnings code f.0 (slot_start code seed text answers slots))) e f.2 in
        let c : SlotState = record { state = s; rest = Whole; slots = h.0 } in
        let k = stride.found f.0 (GoesOn first []) (subst IsOutside (sym h.2) refl) in
        let small : k.count * limit ≤ m * (longest code + 1) * limit = mul-le-mul_right limit (le_trans k.few f.1) in
        let a = comes k.count first x es entered l (omega (arith, small, le)) c out (ap (λ o. advance_by step k.count (GoesOn first o)) silent ∙ k.same ∙ h.2) in
        let o = own_event c (run a.front x) a.back a.related (lawful_back a.front a.back es x a.split l) (omega (arith, le, small, a.few, goes_back a.front a.back es a.split)) in
        let j = run_back a.front o.front (a.front ++ o.front) x refl in
        let b : passed step k.count (GoesOn first x.sent) ≡ m = ap (λ o. passed step k.count (GoesOn first o)) silent ∙ k.begun ∙ h.3 in
        record {
          front = a.front ++ o.front;
          event = o.event;
          back = o.back;
          split = append_assoc a.front o.front (o.event ∷ o.back) ∙ ap (λ l. a.front ++ l) o.split ∙ a.split;
          own = o.own;
          few = omega (arith, a.few, small, o.none, goes_back a.front o.front (a.front ++ o.front) refl);
          starts_here = ap starts (sym j) ∙ entry c _ o.related ∙ ap (lines_at code Whole) here ∙ ap found_line found;
          begun = omega (arith, a.begun, b, o.begun, met_sum a.front o.front (a.front ++ o.front) x refl);
        }
