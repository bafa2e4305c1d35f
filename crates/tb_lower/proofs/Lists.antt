-- From instruction to instruction: slot code has the runs of its program.
use Rattle.std.proofs.Common.{◌≡◌, ℕ, zero, suc, ◌+◌, ◌-◌, ◌*◌, ◌≤◌, Bool, true, false, if◌then◌else◌, List, [], ◌∷◌}
use Rattle.std.proofs.Common.{◌++◌, length, Option, Some, None, option_map, nat_eq, nat_le, slice_index, refl, sym, ap, ◌∙◌, subst, arith, length-set}
use Rattle.std.proofs.Common.{zero-add, suc-add, add_assoc, ⊎_elim, leb-true}
use Rattle.std.proofs.lemmas.Bool.{cases_lt}
use Rattle.tb_words.specs.Words.{holds}
use Rattle.tb_basic_syntax.specs.Source.{Statement, Numbered, Program, numbers}
use Rattle.tb_basic_meaning.specs.Steps.{and_then, End, Step, Goes, Stops, after_sending, Run, GoesOn, Over, joined, advance, advance_by, sent_by}
use Rattle.tb_basic_meaning.specs.Control.{Place, At, Past, State, content_at, poll, fall, past}
use Rattle.tb_basic_meaning.specs.Input.{input}
use Rattle.tb_basic_meaning.specs.Values.{Valued, Gives, Fails}
use Rattle.tb_basic_meaning.specs.Meaning.{does, does_at, does_found, line, start}
use Rattle.tb_basic_meaning.specs.Need.{statement_need, too_deep}
use Rattle.tb_lower.specs.Slots.{Instr, Put, Load, Store, Negate, Compute, Random, SendText, SendNumber, SendZone, SendNewline, Input, Poll, Hold, LeaveUnless}
use Rattle.tb_lower.specs.Slots.{Jump, Call, JumpTo, CallTo, Return, SlotCode, Rest, Whole, Left, Slots, SlotState, After, Stays, Leaves, staying, leaving}
use Rattle.tb_lower.specs.Slots.{with_word, into, act, settled, instr, instr_found, instr_at, slot_step, slot_start, slot_run, begins, begins_in, beginnings}
use Rattle.tb_lower.specs.Slots as slots
use Rattle.tb_lower.specs.Lowered.{list_code, program_code}
use Rattle.tb_lower.specs.Follows.{longest, Meets, Agrees, IsListOf, Follows}
use Rattle.tb_basic_meaning.proofs.Runs.{joined_after, over_stays, advance_sum, grows}
use Rattle.tb_lower.proofs.Values.{stay_then, perform}
use Rattle.tb_lower.proofs.Statements.{polled_runs}
use Rattle.tb_lower.proofs.Weighed.{bounded_list, same_texts}

-- an instruction that stays in the line keeps the number of slots
abbrev SizeKept : ℕ → Step After → Type 0
SizeKept size (Goes (Stays s w) t) = length w.words ≡ size
SizeKept size (Goes (Leaves s) t) = Unit {0}
SizeKept size (Stops e t) = Unit {0}

put_size : (k v size : ℕ) (w : Slots) → length w.words ≡ size → length (with_word w k v).words ≡ size
put_size k v size w len = length-set w.words k v ∙ len

into_size : (n k size : ℕ) (x : Valued) (s : State) (w : Slots) → length w.words ≡ size → SizeKept size (into n k x s w)
into_size n k size (Gives v seed) s w len = put_size k v size w len
into_size n k size (Fails f) s w len = tt

staying_size : (size : ℕ) (x : Step State) (w : Slots) → length w.words ≡ size → SizeKept size (staying w x)
staying_size size (Goes s t) w len = len
staying_size size (Stops e t) w len = tt

leaving_size : (size : ℕ) (x : Step State) → SizeKept size (leaving x)
leaving_size size (Goes s t) = tt
leaving_size size (Stops e t) = tt

leave_size : (size : ℕ) (b : Bool) (ns : List ℕ) (n : ℕ) (s : State) (w : Slots) → length w.words ≡ size → SizeKept size (if b then Goes (Stays s w) [] else leaving (fall ns n s))
leave_size size true ns n s w len = len
leave_size size false ns n s w len = tt

act_size : (ns : List ℕ) (n size : ℕ) (i : Instr) (s : State) (w : Slots) → length w.words ≡ size → SizeKept size (act ns n i s w)
act_size ns n size (Put k v) s w len = put_size k _ size w len
act_size ns n size (Load k x) s w len = put_size k _ size w len
act_size ns n size (Store x) s w len = len
act_size ns n size (Negate k) s w len = put_size k _ size w len
act_size ns n size (Compute op k) s w len = into_size n k size _ s w len
act_size ns n size (Random k) s w len = into_size n k size _ s w len
act_size ns n size (SendText t) s w len = len
act_size ns n size SendNumber s w len = len
act_size ns n size SendZone s w len = len
act_size ns n size SendNewline s w len = len
act_size ns n size (Input x) s w len = staying_size size (input n x s) w len
act_size ns n size Poll s w len = staying_size size (poll n s) w len
act_size ns n size Hold s w len = len
act_size ns n size (LeaveUnless rel) s w len = leave_size size (holds rel w.held (slice_index w.words 0)) ns n s w len
act_size ns n size Jump s w len = leaving_size size _
act_size ns n size Call s w len = leaving_size size _
act_size ns n size (JumpTo target) s w len = leaving_size size _
act_size ns n size (CallTo target) s w len = leaving_size size _
act_size ns n size Return s w len = leaving_size size _
act_size ns n size slots.End s w len = tt

meets_shift : (a m b : ℕ) (source : Run State) (r : Run SlotState) → Meets m source r b → Meets (a + m) source r (a + b)
meets_shift a m b (GoesOn s out) r h = (h.0, h.1, h.2, ap (λ n. a + n) h.3)
meets_shift a m b (Over e out) r h = (h.0, omega (arith, h.1))

numbers_code : (lines : Program) → numbers (program_code lines) ≡ numbers lines
numbers_code [] = refl
numbers_code (l ∷ lines) = ap (λ ns. l.number ∷ ns) (numbers_code lines)

found_if : (b : Bool) (c : Statement) (x : Option Statement) → (if b then Some (list_code c) else option_map list_code x) ≡ option_map list_code (if b then Some c else x)
found_if true c x = refl
found_if false c x = refl

found_code : (lines : Program) (n : ℕ) → content_at (program_code lines) n ≡ option_map list_code (content_at lines n)
found_code [] n = refl
found_code (l ∷ lines) n =
    ap (λ x. if nat_eq l.number n then Some (list_code l.content) else x) (found_code lines n)
    ∙ found_if (nat_eq l.number n) l.content (content_at lines n)

-- a statement that is found is shallow, and its code is at most this long
abbrev IsFit : ℕ → Option Statement → Type 0
IsFit size (Some c) = (statement_need c ≤ 16) × (length (list_code c) ≤ size)
IsFit size None = Unit {0}

fit_more : (a b : ℕ) (x : Option Statement) → a ≤ b → IsFit a x → IsFit b x
fit_more a b (Some c) le h = (h.0, omega (arith, h.1))
fit_more a b None le h = tt

fit_if : (b : Bool) (size : ℕ) (c : Statement) (x : Option Statement) → IsFit size (Some c) → IsFit size x → IsFit size (if b then Some c else x)
fit_if true size c x h k = h
fit_if false size c x h k = k

pub data IsShallow : Program → Type 0 where
  none : IsShallow []
  more : {l : Numbered Statement} {lines : Program} → statement_need l.content ≤ 16 → IsShallow lines → IsShallow (l ∷ lines)

found_fit : (lines : Program) (n : ℕ) → IsShallow lines → IsFit (longest (program_code lines)) (content_at lines n)
found_fit [] n h = tt
found_fit (l ∷ lines) n (more h hs) =
    fit_if (nat_eq l.number n) (longest (program_code (l ∷ lines))) l.content (content_at lines n)
    (h, omega arith)
    (fit_more (longest (program_code lines)) (longest (program_code (l ∷ lines))) (content_at lines n) (omega arith) (found_fit lines n hs))

module _ (code : SlotCode) where
  -- the beginnings of a + b steps are those of the first a steps and of the b after them
  pub beginnings_sum : (a b : ℕ) (r : Run SlotState) → beginnings code (a + b) r ≡ beginnings code a r + beginnings code b (advance_by (slot_step code) a r)
  beginnings_sum zero b r = ap (λ n. beginnings code n r) (zero-add b) ∙ sym (zero-add _)
  beginnings_sum (suc a) b r =
      ap (λ n. beginnings code n r) (suc-add a b)
      ∙ ap (λ n. begins_in r + n) (beginnings_sum a b (advance (slot_step code) r))
      ∙ sym (add_assoc (begins_in r) _ _)

  -- some steps, at most the limit, after which the slot run meets the source's
  pub record Arrives (limit m passed : ℕ) (source : Run State) (r : Run SlotState) : Type 0 where
    pub steps : ℕ
    pub few : steps ≤ limit
    pub meets : Meets m source (advance_by (slot_step code) steps r) (passed + beginnings code steps r)

  -- the first instruction's outcome x, and then the rest of the line
  acted : (n : ℕ) (is : List Instr) (w : Slots) (out : List ℕ) (x : Step After) → length w.words ≡ 16 → SizeKept 16 x
      → ((s : State) (w' : Slots) (out' : List ℕ) → length w'.words ≡ 16 → Arrives (length is) 0 0 (joined out' (perform (numbers code) n is s w'))
      (joined out' (instr (numbers code) n is s w'))) → Arrives (suc (length is)) 0 0 (joined out (stay_then x (perform (numbers code) n is))) (joined out (settled n is w x))
  acted n is w out (Goes (Stays s w') t) len size next =
      let a = next s w' (out ++ t) size in
      let ns = numbers code in
      let at : Run SlotState = GoesOn (record { state = s; rest = Left n is; slots = w' }) (out ++ t) in
      let same : joined out (after_sending t (perform ns n is s w')) ≡ joined (out ++ t) (perform ns n is s w') = joined_after out t (perform ns n is s w') in
      let zero_more : 0 + beginnings code (suc a.steps) at ≡ 0 + beginnings code a.steps (advance (slot_step code) at) = zero-add _ in
      record {
        steps = suc a.steps;
        few = omega (arith, a.few);
        meets = subst (λ b. Meets 0 (joined out (after_sending t (perform ns n is s w'))) (advance_by (slot_step code) (suc a.steps) at) b) (sym zero_more)
            (subst (λ q. Meets 0 q (advance_by (slot_step code) (suc a.steps) at) (0 + beginnings code a.steps (advance (slot_step code) at))) (sym same) a.meets);
      }
  acted n is w out (Goes (Leaves s) t) len size next = record { steps = 0; few = omega arith; meets = (w, len, refl, refl) }
  acted n is w out (Stops e t) len size next = record { steps = 0; few = omega arith; meets = (refl, omega arith) }

  -- a list of instructions to its end, after the first one
  list_arrives : (n : ℕ) (is : List Instr) (s : State) (w : Slots) (out : List ℕ) → length w.words ≡ 16
      → Arrives (length is) 0 0 (joined out (perform (numbers code) n is s w)) (joined out (instr (numbers code) n is s w))
  list_arrives n [] s w out len = record { steps = 0; few = omega arith; meets = (w, len, refl, refl) }
  list_arrives n (i ∷ is) s w out len =
      acted n is w out (act (numbers code) n i s w) len (act_size (numbers code) n 16 i s w len) (λ s' w' out' len'. list_arrives n is s' w' out' len')

meets_sum : (c : SlotCode) (m a b passed : ℕ) (source : Run State) (r : Run SlotState)
    → Meets m source (advance_by (slot_step c) b (advance_by (slot_step c) a r)) (passed + beginnings c a r + beginnings c b
    (advance_by (slot_step c) a r)) → Meets m source (advance_by (slot_step c) (a + b) r) (passed + beginnings c (a + b) r)
meets_sum c m a b passed source r h =
    let e : passed + beginnings c a r + beginnings c b (advance_by (slot_step c) a r) ≡ passed + beginnings c (a + b) r =
    add_assoc passed _ _ ∙ ap (λ n. passed + n) (sym (beginnings_sum c a b r)) in
    subst (λ q. Meets m source q (passed + beginnings c (a + b) r)) (sym (advance_sum (slot_step c) a b r))
    (subst (λ n. Meets m source (advance_by (slot_step c) b (advance_by (slot_step c) a r)) n) e h)

-- the lines of a program, none of which needs more than 16 slots
module _ (program : Program) (shallow : IsShallow program) where
  -- a line from its beginning, where its statement is x and its list x'
  found_arrives : (n : ℕ) (s : State) (w : Slots) (out : List ℕ) (x : Option Statement) (x' : Option (List Instr)) → x' ≡ option_map list_code x
      → length w.words ≡ 16 → IsFit (longest (program_code program)) x → Arrives (program_code program) (longest (program_code program)) 1 1
      (joined out (does_found (numbers program) n x s)) (joined out (instr_found (numbers (program_code program)) n x' s w))
  found_arrives n s w out None x' e len fit =
      subst (λ y. Arrives (program_code program) (longest (program_code program)) 1 1 (joined out (past (numbers program)))
      (joined out (instr_found (numbers (program_code program)) n y s w))) (sym e)
      record { steps = 0; few = omega arith; meets = (ap (λ ns. joined out (past ns)) (numbers_code program), omega arith) }
  found_arrives n s w out (Some c) x' e len fit =
      let ns = numbers (program_code program) in
      let a = list_arrives (program_code program) n (list_code c) s w out len in
      let r = joined out (instr ns n (list_code c) s w) in
      let same : perform ns n (list_code c) s w ≡ and_then (poll n s) (does (numbers program) n c) =
      polled_runs ns n c 16 fit.0 s w len ∙ ap (λ ms. and_then (poll n s) (does ms n c)) (numbers_code program) in
      subst (λ y. Arrives (program_code program) (longest (program_code program)) 1 1 (joined out (and_then (poll n s) (does (numbers program) n c))) (joined out (instr_found ns n y s w))) (sym e)
      record {
        steps = a.steps;
        few = omega (arith, a.few, fit.1);
        meets = subst (λ q. Meets 1 (joined out q) (advance_by (slot_step (program_code program)) a.steps r) (1 + beginnings (program_code program) a.steps r)) same
            (subst (λ b. Meets 1 (joined out (perform ns n (list_code c) s w)) (advance_by (slot_step (program_code program)) a.steps r) (1 + b)) (zero-add _)
            (meets_shift 1 0 _ (joined out (perform ns n (list_code c) s w)) (advance_by (slot_step (program_code program)) a.steps r) a.meets));
      }

  place_arrives : (p : Place) (s : State) (w : Slots) (out : List ℕ) → length w.words ≡ 16
      → Arrives (program_code program) (longest (program_code program)) 1 (begins Whole p) (joined out (does_at program p s))
      (joined out (instr_at (program_code program) Whole p s w))
  place_arrives (At n) s w out len =
      found_arrives n s w out (content_at program n) (content_at (program_code program) n) (found_code program n) len (found_fit program n shallow)
  place_arrives Past s w out len =
      record { steps = 0; few = omega arith; meets = (ap (λ ns. joined out (past ns)) (numbers_code program), omega arith) }

  -- m lines more
  record Reaches (m : ℕ) (source : Run State) (r : Run SlotState) : Type 0 where
    k : ℕ
    few : k ≤ m * (longest (program_code program) + 1)
    meets : Meets m (advance_by (line program) m source) (advance_by (slot_step (program_code program)) k r) (beginnings (program_code program) k r)

  -- if the runs meet after a line, they meet after m more
  goes_on : (m b : ℕ) (source : Run State) (r : Run SlotState) → Meets 1 source r b → ((s : State) (w : Slots) (out : List ℕ) → length w.words ≡ 16
      → Reaches m (GoesOn s out) (GoesOn (record { state = s; rest = Whole; slots = w }) out)) → (k : ℕ)
      × (k ≤ m * (longest (program_code program) + 1)) × Meets (suc m) (advance_by (line program) m source)
      (advance_by (slot_step (program_code program)) k r) (b + beginnings (program_code program) k r)
  goes_on m b (GoesOn s out) r h next =
      let a = next s h.0 out h.1 in
      let c = program_code program in
      let at : Run SlotState = GoesOn (record { state = s; rest = Whole; slots = h.0 }) out in
      let source = advance_by (line program) m (GoesOn s out) in
      let shifted : Meets (suc m) source (advance_by (slot_step c) a.k at) (1 + beginnings c a.k at) =
      let e : 1 + m ≡ suc m = omega arith in
      subst (λ n. Meets n source (advance_by (slot_step c) a.k at) (1 + beginnings c a.k at)) e (meets_shift 1 m _ source (advance_by (slot_step c) a.k at) a.meets) in (
        a.k,
        a.few,
        subst (λ q. Meets (suc m) source (advance_by (slot_step c) a.k q) (b + beginnings c a.k q)) (sym h.2)
            (subst (λ n. Meets (suc m) source (advance_by (slot_step c) a.k at) (n + beginnings c a.k at)) (sym h.3) shifted),
      )
  goes_on m b (Over e out) r h next =
      let e' : b + 0 ≤ suc m = omega (arith, h.1) in
      (0, omega arith, subst (λ q. Meets (suc m) q r (b + 0)) (sym (over_stays (line program) m e out)) (h.0, e'))

  all_reach : (m : ℕ) (s : State) (w : Slots) (out : List ℕ) → length w.words ≡ 16 → Reaches m (GoesOn s out) (GoesOn (record { state = s; rest = Whole; slots = w }) out)
  all_reach zero s w out len = record { k = 0; few = omega arith; meets = (w, len, refl, refl) }
  all_reach (suc m) s w out len =
      let c = program_code program in
      let a = place_arrives s.place s w out len in
      let next : Run SlotState = joined out (slot_step c (record { state = s; rest = Whole; slots = w })) in
      let b = goes_on m _ (joined out (line program s)) _ a.meets (all_reach m) in
      record {
        k = suc (a.steps + b.0);
        few = omega (arith, a.few, b.1);
        meets = meets_sum c (suc m) a.steps b.0 (begins Whole s.place) (advance_by (line program) m (joined out (line program s))) next b.2;
      }

abbrev IsGoing : Run SlotState → Type 0
IsGoing (GoesOn s out) = Unit {0}
IsGoing (Over e out) = ⊥

-- the end of a run, as a run of the source's
abbrev source_over : Run SlotState → Run State
source_over (Over e out) = Over e out
source_over (GoesOn s out) = GoesOn s.state out

-- a step passes at most one beginning
begins_once : (r : Run SlotState) → begins_in r ≤ 1
begins_once (GoesOn c out) = once c.rest c.state.place
  where
    once : (rest : Rest) (p : Place) → begins rest p ≤ 1
    once (Left n is) p = omega arith
    once Whole (At n) = omega arith
    once Whole Past = omega arith
begins_once (Over e out) = omega arith

few_beginnings : (c : SlotCode) (k : ℕ) (r : Run SlotState) → beginnings c k r ≤ k
few_beginnings c zero r = omega arith
few_beginnings c (suc k) r = omega (arith, begins_once r, few_beginnings c k (advance (slot_step c) r))

-- the run after k steps agrees with the source's run that a later or an earlier one meets
agrees_before : (c : SlotCode) (d m b : ℕ) (q later : Run SlotState) (source : Run State) → later ≡ advance_by (slot_step c) d q → Meets m source later b → Agrees q source
agrees_before c d m b (GoesOn s o) later (GoesOn t out) e h =
    let p = grows (slot_step c) d (GoesOn s o) in
    (p.0, p.1 ∙ ap sent_by (sym e ∙ h.2))
agrees_before c d m b (GoesOn s o) later (Over why out) e h =
    let p = grows (slot_step c) d (GoesOn s o) in
    (p.0, p.1 ∙ ap sent_by (sym e ∙ h.0))
agrees_before c d m b (Over why o) later (GoesOn t out) e h =
    absurd (subst IsGoing (sym h.2 ∙ e ∙ over_stays (slot_step c) d why o) tt)
agrees_before c d m b (Over why o) later (Over why' out) e h =
    ap source_over (sym h.0 ∙ e ∙ over_stays (slot_step c) d why o)

-- a run that is over when the source's run is over stays so
agrees_after : (c : SlotCode) (d m b : ℕ) (q sooner : Run SlotState) (why : End) (out : List ℕ) → q ≡ advance_by (slot_step c) d sooner
    → Meets m (Over why out) sooner b → Agrees q (Over why out)
agrees_after c d m b q sooner why out e h =
    let stays : q ≡ Over why out = e ∙ ap (advance_by (slot_step c) d) h.0 ∙ over_stays (slot_step c) d why out in
    subst (λ r. Agrees r (Over why out)) (sym stays) refl

list_of : (x : Option Statement) → IsListOf x (option_map list_code x)
list_of None = tt
list_of (Some c) = (bounded_list c, same_texts c)

-- the code of a shallow program has the program's runs
pub follows : (program : Program) → IsShallow program → Follows program (program_code program)
follows program shallow = record {
  same_numbers = numbers_code program;
  lists = λ n. subst (IsListOf (content_at program n)) (sym (found_code program n)) (list_of (content_at program n));
  reaches = λ seed text answers w len m.
      let c = program_code program in
      let a = all_reach program shallow m (start (numbers c) seed text answers) w [] len in (
        a.k,
        a.few,
        subst (λ ns. Meets m (advance_by (line program) m (GoesOn (start ns seed text answers) [])) (slot_run c seed text answers w a.k)
            (beginnings c a.k (slot_start c seed text answers w))) (numbers_code program) a.meets,
      );
  reaches_only = λ seed text answers w len k.
      let c = program_code program in
      let a = all_reach program shallow k (start (numbers c) seed text answers) w [] len in (
        k,
        subst (λ ns. Agrees (slot_run c seed text answers w k) (advance_by (line program) k (GoesOn (start ns seed text answers) []))) (numbers_code program)
            (agrees_at c k a.k (slot_start c seed text answers w) (advance_by (line program) k (GoesOn (start (numbers c) seed text answers) [])) a.meets),
      );
}
  where
    agrees_at : (c : SlotCode) (k j : ℕ) (r : Run SlotState) (source : Run State) → Meets k source (advance_by (slot_step c) j r) (beginnings c j r)
        → Agrees (advance_by (slot_step c) k r) source
    agrees_at c k j r (GoesOn s out) h =
        let d : j ≡ k + (j - k) = omega (arith, few_beginnings c j r, h.3) in
        agrees_before c (j - k) k (beginnings c j r) (advance_by (slot_step c) k r) (advance_by (slot_step c) j r) (GoesOn s out)
        (ap (λ n. advance_by (slot_step c) n r) d ∙ advance_sum (slot_step c) k (j - k) r) h
    agrees_at c k j r (Over why out) h =
        ⊎_elim
        (λ lt.
        let d : k ≡ j + (k - j) = omega arith in
        agrees_after c (k - j) k (beginnings c j r) (advance_by (slot_step c) k r) (advance_by (slot_step c) j r) why out
        (ap (λ n. advance_by (slot_step c) n r) d ∙ advance_sum (slot_step c) j (k - j) r) h)
        (λ le.
        let d : j ≡ k + (j - k) = omega arith in
        agrees_before c (j - k) k (beginnings c j r) (advance_by (slot_step c) k r) (advance_by (slot_step c) j r) (Over why out)
        (ap (λ n. advance_by (slot_step c) n r) d ∙ advance_sum (slot_step c) k (j - k) r) h)
        (cases_lt j k)

shallow_if : (b : Bool) (l : Numbered Statement) (lines : Program) → nat_le (statement_need l.content) 16 ≡ b
    → ((too_deep lines ≡ None) → IsShallow lines) → (if b then too_deep lines else Some l.number) ≡ None → IsShallow (l ∷ lines)
shallow_if true l lines e next h = more (leb-true (statement_need l.content) 16 e) (next h)
shallow_if false l lines e next h = absurd cc

-- a program of which no line is too deep is shallow
pub shallow : (lines : Program) → too_deep lines ≡ None → IsShallow lines
shallow [] h = none
shallow (l ∷ lines) h = shallow_if (nat_le (statement_need l.content) 16) l lines refl (shallow lines) h

-- the code of a program that is not too deep has the program's runs
pub lowered : (lines : Program) (code : SlotCode) → too_deep lines ≡ None → code ≡ program_code lines → Follows lines code
lowered lines code h e = subst (Follows lines) (sym e) (follows lines (shallow lines h))
