-- The runs of groups are runs of slot instructions, and each line's beginning is a group's beginning.
use Rattle.std.proofs.Common.{◌≡◌, ℕ, zero, suc, ◌+◌, ◌-◌, ◌≤◌, ◌<◌, List, [], ◌∷◌, ◌++◌, refl, sym, ap, ◌∙◌, subst, append-nil, arith, ⊎_elim}
use Rattle.std.proofs.lemmas.Bool.{cases_lt}
use Rattle.tb_basic_meaning.specs.Steps.{Step, Goes, Stops, and_then, after_sending, Run, GoesOn, Over, joined, advance, advance_by}
use Rattle.tb_lower.specs.Slots.{Instr, Put, Store, Compute, LeaveUnless, JumpTo, SlotCode, Rest, Whole, Left, SlotState, slot_step, begins, beginnings}
use Rattle.tb_basic_meaning.proofs.Runs.{advance_sum, joined_after}
use Rattle.tb_lower.proofs.Lists.{beginnings_sum}
use Rattle.tb_compiler_selection.specs.Groups.{Operand, Constant, Variable, InSlot, HeldBefore, HeldNow, Group, Calculate, Stepped, Convert, Move, Use, Test, TestGo}
use Rattle.tb_compiler_selection.specs.Groups.{OnLeft, OnRight, Divides, Remains, Single, fetch, keep, kept, convert, use_of, slot_of, expand}
use Rattle.tb_compiler_selection.specs.Select.{select}
use Rattle.tb_compiler_selection.specs.GroupSteps.{inside, steps, ahead, first, first_group, fallen, group_step, InsideRest, IsInside}
use Rattle.tb_compiler_selection.specs.Laws.{Reached, Found}

-- a group has an instruction
operand_some : (k : ℕ) (a : Operand) (j : Instr) (js : List Instr) → (i : Instr) × (is : List Instr) × (fetch k a ++ j ∷ js ≡ i ∷ is)
operand_some k (Constant w) j js = (_, _, refl)
operand_some k (Variable x) j js = (_, _, refl)
operand_some k InSlot j js = (_, _, refl)

-- a group has at least one instruction
pub expand_some : (g : Group) → (i : Instr) × (is : List Instr) × (expand g ≡ i ∷ is)
expand_some (Calculate op (Constant w) b d) = (_, _, refl)
expand_some (Calculate op (Variable x) b d) = (_, _, refl)
expand_some (Calculate op InSlot b d) = operand_some (slot_of d + 1) b (Compute op (slot_of d)) (kept d)
expand_some (Stepped op (Constant w) b by v x) = (_, _, refl)
expand_some (Stepped op (Variable y) b by v x) = (_, _, refl)
expand_some (Stepped op InSlot b by v x) = operand_some 1 b (Compute op 0) (Put 1 v ∷ Compute by 0 ∷ Store x ∷ [])
expand_some (Convert what a d) = operand_some (slot_of d) a (convert what (slot_of d)) (kept d)
expand_some (Use how a) = operand_some 0 a (use_of how) []
expand_some (Move a home) = operand_some 0 a (keep home) []
expand_some (Test rel HeldBefore b) = operand_some 0 b (LeaveUnless rel) []
expand_some (Test rel (HeldNow (Constant w)) b) = (_, _, refl)
expand_some (Test rel (HeldNow (Variable x)) b) = (_, _, refl)
expand_some (Test rel (HeldNow InSlot) b) = (_, _, refl)
expand_some (TestGo rel HeldBefore b to) = operand_some 0 b (LeaveUnless rel) (JumpTo to ∷ [])
expand_some (TestGo rel (HeldNow (Constant w)) b to) = (_, _, refl)
expand_some (TestGo rel (HeldNow (Variable x)) b to) = (_, _, refl)
expand_some (TestGo rel (HeldNow InSlot) b to) = (_, _, refl)
expand_some (Divides how x d OnLeft to) = (_, _, refl)
expand_some (Divides how x d OnRight to) = (_, _, refl)
expand_some (Remains x d to) = (_, _, refl)
expand_some (Single i) = (_, _, refl)

module _ (code : SlotCode) where
  -- some steps of slot instructions lead from a state to where x leads, passing no beginning of a list but the first
  pub record Covers (c : SlotState) (out : List ℕ) (x : Step SlotState) : Type 0 where
    pub more : ℕ
    pub leads : advance_by (slot_step code) more (advance (slot_step code) (GoesOn c out)) ≡ joined out x
    pub none_begins : beginnings code more (advance (slot_step code) (GoesOn c out)) ≡ 0
    pub within : (m : ℕ) → m < more → IsInside (advance_by (slot_step code) m (advance (slot_step code) (GoesOn c out)))

  -- some steps of slot instructions lead from where x leads to where y leads, passing no beginning of a list
  record Behind (out : List ℕ) (x y : Step SlotState) : Type 0 where
    more : ℕ
    leads : advance_by (slot_step code) more (joined out x) ≡ joined out y
    none_begins : beginnings code more (joined out x) ≡ 0
    within : (m : ℕ) → m < more → IsInside (advance_by (slot_step code) m (joined out x))

  stays_put : (out t : List ℕ) (c : SlotState) → Behind out (Goes c t) (after_sending t (Goes c []))
  stays_put out t c = record {
    more = 0;
    leads = ap (λ l. GoesOn c (out ++ l)) (sym (append-nil t));
    none_begins = refl;
    within = λ m lt. absurd (omega (arith, lt));
  }

  begins_not : (r : Rest) (c : SlotState) → c.rest ≡ r → InsideRest r → begins c.rest c.state.place ≡ 0
  begins_not Whole c e h = absurd h
  begins_not (Left n is) c e h = ap (λ r. begins r c.state.place) e

  on_inside : (out t : List ℕ) (c : SlotState) → InsideRest c.rest → (x : Step SlotState) → Covers c (out ++ t) x → Behind out (Goes c t) (after_sending t x)
  on_inside out t c here x h = record {
    more = suc h.more;
    leads = h.leads ∙ sym (joined_after out t x);
    none_begins = omega (arith, begins_not c.rest c refl here, h.none_begins);
    within = within;
  }
    where
      within : (m : ℕ) → m < suc h.more → IsInside (advance_by (slot_step code) m (GoesOn c (out ++ t)))
      within zero lt = here
      within (suc m) lt = h.within m (omega (arith, lt))

  -- a step and those after it, by what is known of those after it
  on : (out : List ℕ) (f : SlotState → Step SlotState) (x : Step SlotState) → ((c : SlotState) (t : List ℕ) → InsideRest c.rest
      → Behind out (Goes c t) (after_sending t (f c))) → Behind out x (and_then x (λ c. inside f c.rest c))
  on out f (Stops e t) next = record { more = 0; leads = refl; none_begins = refl; within = λ m lt. absurd (omega (arith, lt)) }
  on out f (Goes c t) next = by c.rest refl
    where
      by : (r : Rest) → c.rest ≡ r → Behind out (Goes c t) (after_sending t (inside f r c))
      by Whole e = stays_put out t c
      by (Left n js) e = next c t (subst InsideRest (sym e) tt)

  over : (i : Instr) (is : List Instr) (c : SlotState) (out : List ℕ) → Behind out (slot_step code c) (steps code (i ∷ is) c) → Covers c out (steps code (i ∷ is) c)
  over i is c out h = record { more = h.more; leads = h.leads; none_begins = h.none_begins; within = h.within }

  -- the steps of instructions, at least one
  pub covers : (i : Instr) (is : List Instr) (c : SlotState) (out : List ℕ) → Covers c out (steps code (i ∷ is) c)
  covers i [] c out = over i [] c out (on out (steps code []) (slot_step code c) (λ c' t h. stays_put out t c'))
  covers i (j ∷ js) c out = over i (j ∷ js) c out (on out (steps code (j ∷ js)) (slot_step code c) (λ c' t h. on_inside out t c' h (steps code (j ∷ js) c') (covers j js c' (out ++ t))))

  one_covers : (c : SlotState) (out : List ℕ) → Covers c out (slot_step code c)
  one_covers c out = record { more = 0; leads = refl; none_begins = refl; within = λ m lt. absurd (omega (arith, lt)) }

  -- the instructions of a group, which has at least one
  some : (g : Group) (c : SlotState) (out : List ℕ) → Covers c out (steps code (expand g) c)
  some g c out = by (expand_some g)
    where
      by : (i : Instr) × (is : List Instr) × (expand g ≡ i ∷ is) → Covers c out (steps code (expand g) c)
      by p = subst (λ l. Covers c out (steps code l c)) (sym p.2) (covers p.0 p.1 c out)

  -- steps, and the fall into the next line if nothing is left of theirs
  then_fallen : (c : SlotState) (out : List ℕ) (x : Step SlotState) → Covers c out x → Covers c out (and_then x (λ d. fallen code d.rest d))
  then_fallen c out (Stops e t) h = record { more = h.more; leads = h.leads; none_begins = h.none_begins; within = h.within }
  then_fallen c out (Goes d t) h = by d.rest refl
    where
      stays : Covers c out (Goes d (t ++ []))
      stays = record { more = h.more; leads = h.leads ∙ ap (λ l. GoesOn d (out ++ l)) (sym (append-nil t)); none_begins = h.none_begins; within = h.within }

      by : (q : Rest) → d.rest ≡ q → Covers c out (after_sending t (fallen code q d))
      by Whole e = stays
      by (Left n (i ∷ is)) e = stays
      by (Left n []) e =
          let r = advance (slot_step code) (GoesOn c out) in
          let sum = beginnings_sum code h.more 1 r in
          let at = ap (λ q. beginnings code 1 q) h.leads in
          let none = begins_not d.rest d refl (subst InsideRest (sym e) tt) in
          let before = h.none_begins in
          record {
            more = h.more + 1;
            leads = advance_sum (slot_step code) h.more 1 r ∙ ap (advance (slot_step code)) h.leads ∙ sym (joined_after out t (slot_step code d));
            none_begins = omega (arith, sum, at, none, before);
            within = λ m lt. ⊎_elim (λ less. h.within m less) (λ ge. let same : m ≡ h.more = omega (arith, lt, ge) in
                subst IsInside (sym (ap (λ k. advance_by (slot_step code) k r) same ∙ h.leads)) (subst InsideRest (sym e) tt)) (cases_lt m h.more);
          }

  -- one group
  pub group_covers : (c : SlotState) (out : List ℕ) → Covers c out (group_step code c)
  group_covers c out = then_fallen c out (first_group code c) (by (select (ahead code c.rest c.state.place)))
    where
      by : (gs : List Group) → Covers c out (first code gs c)
      by [] = one_covers c out
      by (g ∷ gs) = some g c out

  -- ---- runs

  -- after j groups a run is where the instructions lead it
  pub reached : (j : ℕ) (r : Run SlotState) → Reached code j r
  reached zero r = record { count = 0; enough = omega arith; same = refl; begun = refl }
  reached (suc j) (Over e out) =
      let h = reached j (Over e out) in
      record { count = suc h.count; enough = omega (arith, h.enough); same = h.same; begun = ap (λ n. 0 + n) h.begun }
  reached (suc j) (GoesOn c out) = joins (group_covers c out) (reached j (joined out (group_step code c)))
    where
      joins : Covers c out (group_step code c) → Reached code j (joined out (group_step code c)) → Reached code (suc j) (GoesOn c out)
      joins g h =
          let r = advance (slot_step code) (GoesOn c out) in
          let sum = beginnings_sum code g.more h.count r in
          let at = ap (λ r. beginnings code h.count r) g.leads in
          let none = g.none_begins in
          let begun = h.begun in
          record {
            count = suc (g.more + h.count);
            enough = omega (arith, h.enough);
            same = h.same ∙ ap (λ r. advance_by (slot_step code) h.count r) (sym g.leads) ∙ sym (advance_sum (slot_step code) g.more h.count r);
            begun = omega (arith, sum, at, none, begun);
          }

  found_within : (fuel k : ℕ) (r : Run SlotState) → k ≤ fuel → (IsInside (advance_by (slot_step code) k r) → ⊥) → Found code k r
  found_within fuel zero r le out = record { count = 0; few = omega arith; same = refl; begun = refl }
  found_within zero (suc k) r le out = absurd (omega (arith, le))
  found_within (suc fuel) (suc k) (Over e o) le out =
      let h = found_within fuel k (Over e o) (omega (arith, le)) out in
      record { count = suc h.count; few = omega (arith, h.few); same = h.same; begun = ap (λ n. 0 + n) h.begun }
  found_within (suc fuel) (suc k) (GoesOn c o) le out = by (group_covers c o) (λ k' lt out'. found_within fuel k' (joined o (group_step code c)) (omega (arith, lt, le)) out')
    where
      by : Covers c o (group_step code c) → ((k' : ℕ) → k' ≤ k → (IsInside (advance_by (slot_step code) k' (joined o (group_step code c))) → ⊥)
          → Found code k' (joined o (group_step code c))) → Found code (suc k) (GoesOn c o)
      by g next = ⊎_elim (λ lt. absurd (out (g.within k lt))) (λ ge. far (k - g.more) (omega (arith, ge))) (cases_lt k g.more)
        where
          far : (k' : ℕ) → g.more + k' ≡ k → Found code (suc k) (GoesOn c o)
          far k' e =
              let r = advance (slot_step code) (GoesOn c o) in
              let there : advance_by (slot_step code) k' (joined o (group_step code c)) ≡ advance_by (slot_step code) k r =
              ap (λ r. advance_by (slot_step code) k' r) (sym g.leads) ∙ sym (advance_sum (slot_step code) g.more k' r) ∙ ap (λ n. advance_by (slot_step code) n r) e in
              let h = next k' (omega (arith, e)) (λ i. out (subst IsInside there i)) in
              let sum = beginnings_sum code g.more k' r in
              let at = ap (λ r. beginnings code k' r) g.leads in
              let all = ap (λ n. beginnings code n r) e in
              let none = g.none_begins in
              let begun = h.begun in
              record {
                count = suc h.count;
                few = omega (arith, h.few, e);
                same = h.same ∙ there;
                begun = omega (arith, sum, at, all, none, begun);
              }

  -- a run that is not inside a line is where some number of groups leads
  pub found : (k : ℕ) (r : Run SlotState) → (IsInside (advance_by (slot_step code) k r) → ⊥) → Found code k r
  found k r out = found_within k k r (omega arith) out
