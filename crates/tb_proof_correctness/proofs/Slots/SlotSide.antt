-- What the slot instructions of a group do, and what they read.
use Rattle.std.proofs.Common.{◌≡◌, ◌≢◌, ℕ, ◌+◌, ◌≤◌, ◌<◌, Bool, true, false, if◌then◌else◌, List, [], ◌∷◌, ◌++◌}
use Rattle.std.proofs.Common.{length, refl, sym, ap, ◌∙◌, subst, arith, Some, None, ◌⊎◌, inl, inr, get_or-set_same, get_or-set_other, length-set}
use Rattle.std.proofs.Common.{append_assoc}
use Rattle.std.specs.Prelude.{slice_index, slice_set, nat_eq}
use Rattle.std.proofs.lemmas.Bool.{eqb-true, leb-true}
use Rattle.tb_words.specs.Words.{word}
use Rattle.tb_basic_syntax.specs.declared.expressions.Operator.{Operator}
use Rattle.tb_basic_meaning.specs.Steps.{Step, Goes, Stops, Faulted, and_then}
use Rattle.tb_basic_meaning.specs.Control.{State, fault_text}
use Rattle.tb_basic_meaning.specs.Values.{apply, given}
use Rattle.tb_basic_meaning.specs.Meaning as meaning
use Rattle.tb_basic_syntax.specs.Source.{numbers}
use Rattle.tb_lower.specs.Slots.{Instr, Compute, SlotCode, Left, Slots, SlotState, Stays, act, settled, into, with_word}
use Rattle.tb_basic_meaning.proofs.Runs.{after_nothing}
use Rattle.tb_compiler_selection.specs.declared.liveness.Live.{Live}
use Rattle.tb_compiler_selection.specs.Groups.{Operand, Constant, Variable, InSlot, IntoVariable, IntoHeld, Destination, IntoSlot, IntoHome, Calculate, fetch, kept, slot_of, expand}
use Rattle.tb_compiler_selection.specs.Liveness.{live, written}
use Rattle.tb_compiler_selection.specs.Select.{omits_only_dead, right_slot_dead}
use Rattle.tb_compiler_selection.specs.GroupSteps.{inside, steps}

-- ---- what is done
-- the word of an operand whose slot is k
abbrev pub fetched : State → Slots → ℕ → Operand → ℕ
fetched s r k (Constant w) = word w
fetched s r k (Variable x) = slice_index s.vars x
fetched s r k InSlot = slice_index r.words k

-- the slots once it is fetched
abbrev pub with_fetched : State → Slots → ℕ → Operand → Slots
with_fetched s r k (Constant w) = with_word r k (word w)
with_fetched s r k (Variable x) = with_word r k (slice_index s.vars x)
with_fetched s r k InSlot = r

-- the state and the slots once a word is at its destination
abbrev pub landed : Destination → ℕ → State → State
landed (IntoSlot k) v s = s
landed (IntoHome (IntoVariable x)) v s = meaning.stored x v s
landed (IntoHome IntoHeld) v s = s

abbrev pub slots_landed : Destination → ℕ → Slots → Slots
slots_landed (IntoSlot k) v r = r
slots_landed (IntoHome (IntoVariable x)) v r = r
slots_landed (IntoHome IntoHeld) v r = record r { held = v }

-- the slots after a calculation
abbrev pub calculated : State → Slots → Operand → Operand → Destination → ℕ → Slots
calculated s r a b d v = slots_landed d v (with_word (with_fetched s (with_fetched s r (slot_of d) a) (slot_of d + 1) b) (slot_of d) v)

-- a list whose parts are bracketed to the right
abbrev pub spread : Operator → Operand → Operand → Destination → List Instr → List Instr
spread op a b d is = fetch (slot_of d) a ++ (fetch (slot_of d + 1) b ++ (Compute op (slot_of d) ∷ (kept d ++ is)))

-- the group's instructions, bracketed to the right
pub spread_is : (op : Operator) (a b : Operand) (d : Destination) (is : List Instr) → expand (Calculate op a b d) ++ is ≡ spread op a b d is
spread_is op a b d is =
    append_assoc (fetch (slot_of d) a) (fetch (slot_of d + 1) b ++ Compute op (slot_of d) ∷ kept d) is
    ∙ ap (λ l. fetch (slot_of d) a ++ l) (append_assoc (fetch (slot_of d + 1) b) (Compute op (slot_of d) ∷ kept d) is)

-- ---- slots that are read
pub same_slot : (r : Slots) (k v : ℕ) → k < length r.words → slice_index (slice_set r.words k v) k ≡ v
same_slot r k v h = get_or-set_same r.words k v 0 h

-- a slot is unchanged when another one is written
pub other_slot : (r : Slots) (k j v : ℕ) → j ≢ k → slice_index (slice_set r.words k v) j ≡ slice_index r.words j
other_slot r k j v h = get_or-set_other r.words k j v 0 h

-- a fetch keeps the number of slots
pub fetched_length : (s : State) (r : Slots) (k : ℕ) (a : Operand) → length (with_fetched s r k a).words ≡ length r.words
fetched_length s r k (Constant w) = length-set r.words k (word w)
fetched_length s r k (Variable x) = length-set r.words k (slice_index s.vars x)
fetched_length s r k InSlot = refl

-- the slot that a word is fetched into has it
pub fetched_same : (s : State) (r : Slots) (k : ℕ) (a : Operand) → k < length r.words → slice_index (with_fetched s r k a).words k ≡ fetched s r k a
fetched_same s r k (Constant w) h = same_slot r k (word w) h
fetched_same s r k (Variable x) h = same_slot r k (slice_index s.vars x) h
fetched_same s r k InSlot h = refl

-- the other slots are unchanged by a fetch
pub fetched_other : (s : State) (r : Slots) (k j : ℕ) (a : Operand) → j ≢ k → slice_index (with_fetched s r k a).words j ≡ slice_index r.words j
fetched_other s r k j (Constant w) h = other_slot r k j (word w) h
fetched_other s r k j (Variable x) h = other_slot r k j (slice_index s.vars x) h
fetched_other s r k j InSlot h = refl

-- the held word is unchanged by a fetch
pub fetched_held : (s : State) (r : Slots) (k : ℕ) (a : Operand) → (with_fetched s r k a).held ≡ r.held
fetched_held s r k (Constant w) = refl
fetched_held s r k (Variable x) = refl
fetched_held s r k InSlot = refl

-- an operand after another slot's fetch
pub fetched_behind : (s : State) (r : Slots) (k j : ℕ) (a b : Operand) → j ≢ k → fetched s (with_fetched s r k a) j b ≡ fetched s r j b
fetched_behind s r k j a (Constant w) h = refl
fetched_behind s r k j a (Variable x) h = refl
fetched_behind s r k j a InSlot h = fetched_other s r k j a h

-- ---- what steps do
module _ (code : SlotCode) (n : ℕ) where
  -- a state of the slot code in the line
  abbrev pub line : List Instr → State → Slots → SlotState
  line is s r = record { state = s; rest = Left n is; slots = r }

  -- the steps of a fetch
  pub fetches : (k : ℕ) (a : Operand) (js back : List Instr) (s : State) (r : Slots) → steps code (fetch k a ++ js) (line (fetch k a ++ back) s r)
      ≡ steps code js (line back s (with_fetched s r k a))
  fetches k (Constant w) js back s r = after_nothing (steps code js (line back s (with_word r k (word w))))
  fetches k (Variable x) js back s r = after_nothing (steps code js (line back s (with_word r k (slice_index s.vars x))))
  fetches k InSlot js back s r = refl

  -- after an instruction that stays in the line
  abbrev pub next : List Instr → Step SlotState → Step SlotState
  next js x = and_then x (λ c. inside (steps code js) c.rest c)

  -- an instruction that stays in the line
  pub acts : (i : Instr) (js back : List Instr) (s s' : State) (r r' : Slots) → act (numbers code) n i s r ≡ Goes (Stays s' r') []
      → steps code (i ∷ js) (line (i ∷ back) s r) ≡ steps code js (line back s' r')
  acts i js back s s' r r' e = ap (λ x. next js (settled n back r x)) e ∙ after_nothing (steps code js (line back s' r'))

  -- an instruction that faults
  pub stops : (i : Instr) (js back : List Instr) (s : State) (r : Slots) (t : List ℕ) → act (numbers code) n i s r ≡ Stops Faulted t
      → steps code (i ∷ js) (line (i ∷ back) s r) ≡ Stops Faulted t
  stops i js back s r t e = ap (λ x. next js (settled n back r x)) e

  -- the step that stores a result
  pub keeps : (d : Destination) (is : List Instr) (s : State) (r : Slots) → steps code (kept d) (line (kept d ++ is) s r)
      ≡ Goes (line is (landed d (slice_index r.words (slot_of d)) s) (slots_landed d (slice_index r.words (slot_of d)) r)) []
  keeps (IntoSlot k) is s r = refl
  keeps (IntoHome (IntoVariable x)) is s r = refl
  keeps (IntoHome IntoHeld) is s r = refl

  -- the word that was computed goes to its destination
  pub ends : (i : Instr) (d : Destination) (is : List Instr) (s s' : State) (q : Slots) (v : ℕ) → slot_of d < length q.words
      → act (numbers code) n i s q ≡ Goes (Stays s' (with_word q (slot_of d) v)) [] → steps code (i ∷ kept d) (line (i ∷ (kept d ++ is)) s q)
      ≡ Goes (line is (landed d v s') (slots_landed d v (with_word q (slot_of d) v))) []
  ends i d is s s' q v lt e =
      acts i (kept d) (kept d ++ is) s s' q (with_word q (slot_of d) v) e
      ∙ keeps d is s' (with_word q (slot_of d) v)
      ∙ ap (λ v'. Goes (line is (landed d v' s') (slots_landed d v' (with_word q (slot_of d) v))) []) (same_slot q (slot_of d) v lt)

-- ---- a calculation
module _ (code : SlotCode) (n : ℕ) (op : Operator) (a b : Operand) (d : Destination) (is : List Instr) (s : State) (r : Slots) (all : length r.words ≡ 16) (room : slot_of d + 1 < 16) where
  abbrev k : ℕ
  k = slot_of d

  abbrev both : Slots
  both = with_fetched s (with_fetched s r k a) (k + 1) b

  -- the left word is in its slot
  pub left_is : slice_index both.words k ≡ fetched s r k a
  left_is = fetched_other s (with_fetched s r k a) (k + 1) k b (λ e. omega (arith, e)) ∙ fetched_same s r k a (omega (arith, all, room))

  -- the right word is in its slot
  pub right_is : slice_index both.words (k + 1) ≡ fetched s r (k + 1) b
  right_is =
      fetched_same s (with_fetched s r k a) (k + 1) b (omega (arith, all, room, fetched_length s r k a))
      ∙ fetched_behind s r k (k + 1) a b (λ e. omega (arith, e))

  -- there are still as many slots
  pub both_length : length both.words ≡ 16
  both_length = fetched_length s (with_fetched s r k a) (k + 1) b ∙ fetched_length s r k a ∙ all

  so_far : steps code (expand (Calculate op a b d)) (line code n (spread op a b d is) s r) ≡ steps code (Compute op k ∷ kept d) (line code n (Compute op k ∷ (kept d ++ is)) s both)
  so_far =
      fetches code n k a (fetch (k + 1) b ++ Compute op k ∷ kept d) (fetch (k + 1) b ++ (Compute op k ∷ (kept d ++ is))) s r
      ∙ fetches code n (k + 1) b (Compute op k ∷ kept d) (Compute op k ∷ (kept d ++ is)) s (with_fetched s r k a)

  -- if the operator has a value
  pub calculate_goes : (v : ℕ) → apply op (fetched s r k a) (fetched s r (k + 1) b) ≡ Some v → steps code (expand (Calculate op a b d))
      (line code n (spread op a b d is) s r) ≡ Goes (line code n is (landed d v s) (calculated s r a b d v)) []
  calculate_goes v e =
      let got : apply op (slice_index both.words k) (slice_index both.words (k + 1)) ≡ Some v = ap (λ x. apply op x (slice_index both.words (k + 1)))
      left_is ∙ ap (λ y. apply op (fetched s r k a) y) right_is ∙ e in
      so_far ∙ ends code n (Compute op k) d is s s both v (omega (arith, both_length, room)) (ap (λ o. into n k (given o s.seed) s both) got)

  -- if it has none
  pub calculate_fails : apply op (fetched s r k a) (fetched s r (k + 1) b) ≡ None → steps code (expand (Calculate op a b d))
      (line code n (spread op a b d is) s r) ≡ Stops Faulted (fault_text 2 n)
  calculate_fails e =
      let got : apply op (slice_index both.words k) (slice_index both.words (k + 1)) ≡ None = ap (λ x. apply op x (slice_index both.words (k + 1)))
      left_is ∙ ap (λ y. apply op (fetched s r k a) y) right_is ∙ e in
      so_far ∙ stops code n (Compute op k) (kept d) (kept d ++ is) s both (fault_text 2 n) (ap (λ o. into n k (given o s.seed) s both) got)

-- ---- what is read
pub written_reads : (j k : ℕ) (u : Live) → j < u.slots → j ≢ k → j < (written k u).slots
written_reads j k u lt ne = by (nat_eq u.slots (k + 1)) refl
  where
    by : (t : Bool) → nat_eq u.slots (k + 1) ≡ t → j < (if t then k else u.slots)
    by false e = lt
    by true e = omega (arith, lt, ne, eqb-true u.slots (k + 1) e)

-- a slot that is read after a fetch into another one is read before it
pub fetch_reads : (j k : ℕ) (a : Operand) (is : List Instr) → j < (live is).slots → j ≢ k → j < (live (fetch k a ++ is)).slots
fetch_reads j k (Constant w) is lt ne = written_reads j k (live is) lt ne
fetch_reads j k (Variable x) is lt ne = written_reads j k (live is) lt ne
fetch_reads j k InSlot is lt ne = lt

-- the held word is read after a fetch exactly if it is before it
pub fetch_held : (k : ℕ) (a : Operand) (is : List Instr) → (live (fetch k a ++ is)).held ≡ (live is).held
fetch_held k (Constant w) is = refl
fetch_held k (Variable x) is = refl
fetch_held k InSlot is = refl

-- an operand that is in its slot is read there
abbrev pub StandsIn : Operand → ℕ → Live → Type 0
StandsIn InSlot k u = k < u.slots
StandsIn (Constant w) k u = Unit {0}
StandsIn (Variable x) k u = Unit {0}

-- slot 0 is dead if its word goes to a home
abbrev pub IsDead : Destination → Live → Type 0
IsDead (IntoSlot k) u = Unit {0}
IsDead (IntoHome home) u = u.slots ≤ 0

-- if slots q took the place of r, what is read after a word that goes to d is read before it too, and is the same
pub record Lasting (u : Live) (d : Destination) (is : List Instr) (r q : Slots) : Type 0 where
  pub all : length q.words ≡ length r.words
  pub same_held : q.held ≡ r.held
  pub dead : IsDead d (live is)
  pub others : (j : ℕ) → j < (live is).slots → j ≢ slot_of d → (j < u.slots) × (slice_index q.words j ≡ slice_index r.words j)
  pub held : (live (kept d ++ is)).held ≡ true → u.held ≡ true

-- a slot that is read after a result is stored is read before that
pub kept_reads : (d : Destination) (is : List Instr) (j : ℕ) → j < (live is).slots → j < (live (kept d ++ is)).slots
kept_reads (IntoSlot k) is j lt = lt
kept_reads (IntoHome (IntoVariable x)) is j lt = omega (arith, lt)
kept_reads (IntoHome IntoHeld) is j lt = omega (arith, lt)

-- ---- a calculation, read
-- what a calculation reads, and that it omits nothing that is read after it
module _ (op : Operator) (a b : Operand) (d : Destination) (is : List Instr) where
  abbrev pub asked : Live
  asked = live (spread op a b d is)

  abbrev computed : List Instr
  computed = Compute op (slot_of d) ∷ (kept d ++ is)

  abbrev right_first : List Instr
  right_first = fetch (slot_of d + 1) b ++ computed

  -- a left word that is in its slot is read there
  pub left_asked : StandsIn a (slot_of d) asked
  left_asked = by a
    where
      by : (a : Operand) → StandsIn a (slot_of d) (live (fetch (slot_of d) a ++ right_first))
      by InSlot = fetch_reads (slot_of d) (slot_of d + 1) b computed (omega arith) (λ e. omega (arith, e))
      by (Constant w) = tt
      by (Variable x) = tt

  -- a right word that is in its slot is read there
  pub right_asked : StandsIn b (slot_of d + 1) asked
  right_asked = by b
    where
      by : (b : Operand) → StandsIn b (slot_of d + 1) (live (fetch (slot_of d) a ++ (fetch (slot_of d + 1) b ++ computed)))
      by InSlot = fetch_reads (slot_of d + 1) (slot_of d) a computed (omega arith) (λ e. omega (arith, e))
      by (Constant w) = tt
      by (Variable x) = tt

  module _ (s : State) (r : Slots) (free : omits_only_dead (Calculate op a b d) (live is) ≡ true) where
    -- the slots once both operands are fetched
    abbrev given_both : Slots
    given_both = with_fetched s (with_fetched s r (slot_of d) a) (slot_of d + 1) b

    -- another slot that is read after it is read before it, and is the same
    other_asked : (j : ℕ) → j < (live is).slots → j ≢ slot_of d → (j < asked.slots) × (slice_index given_both.words j ≡ slice_index r.words j)
    other_asked j lt ne = by d free ne
      where
        -- a slot that is not the right operand's, or that one if nothing is fetched into it
        apart : (k : ℕ) → right_slot_dead a b k (live is) ≡ true → j ≢ k → (j ≢ k + 1) ⊎ (b ≡ InSlot)
        apart k = go a b
          where
            go : (a b : Operand) → right_slot_dead a b k (live is) ≡ true → j ≢ k → (j ≢ k + 1) ⊎ (b ≡ InSlot)
            go InSlot InSlot f n = inr refl
            go _ InSlot f n = inl (λ e. omega (arith, e, lt, leb-true _ _ f))
            go _ _ f n = inl (λ e. omega (arith, e, lt, leb-true _ _ f))

        in_slot : (k : ℕ) → j ≢ k → (j ≢ k + 1) ⊎ (b ≡ InSlot) → (j < (live (fetch k a ++ (fetch (k + 1) b ++ Compute op k ∷ is))).slots)
            × (slice_index (with_fetched s (with_fetched s r k a) (k + 1) b).words j ≡ slice_index r.words j)
        in_slot k n q = (
          fetch_reads j k a (fetch (k + 1) b ++ Compute op k ∷ is) (right q) n,
          same q ∙ fetched_other s r k j a n,
        )
          where
            right : (j ≢ k + 1) ⊎ (b ≡ InSlot) → j < (live (fetch (k + 1) b ++ Compute op k ∷ is)).slots
            right (inl x) = fetch_reads j (k + 1) b (Compute op k ∷ is) (omega (arith, lt)) x
            right (inr e) = subst (λ b. j < (live (fetch (k + 1) b ++ Compute op k ∷ is)).slots) (sym e) (omega (arith, lt))

            same : (j ≢ k + 1) ⊎ (b ≡ InSlot) → slice_index (with_fetched s (with_fetched s r k a) (k + 1) b).words j ≡ slice_index (with_fetched s r k a).words j
            same (inl x) = fetched_other s (with_fetched s r k a) (k + 1) j b x
            same (inr e) = ap (λ b. slice_index (with_fetched s (with_fetched s r k a) (k + 1) b).words j) e

        by : (d : Destination) → omits_only_dead (Calculate op a b d) (live is) ≡ true → j ≢ slot_of d → (j < (live (spread op a b d is)).slots)
            × (slice_index (with_fetched s (with_fetched s r (slot_of d) a) (slot_of d + 1) b).words j ≡ slice_index r.words j)
        by (IntoSlot k) f n = in_slot k n (apart k f n)
        by (IntoHome home) f n = absurd (omega (arith, lt, leb-true _ _ f))

    -- what is read after a calculation lasts through it
    pub calculate_lasting : Lasting asked d is r given_both
    calculate_lasting = record {
      all = fetched_length s (with_fetched s r (slot_of d) a) (slot_of d + 1) b ∙ fetched_length s r (slot_of d) a;
      same_held = fetched_held s (with_fetched s r (slot_of d) a) (slot_of d + 1) b ∙ fetched_held s r (slot_of d) a;
      dead = by d free;
      others = other_asked;
      held = λ h. fetch_held (slot_of d) a right_first ∙ fetch_held (slot_of d + 1) b computed ∙ h;
    }
      where
        by : (d : Destination) → omits_only_dead (Calculate op a b d) (live is) ≡ true → IsDead d (live is)
        by (IntoSlot k) f = tt
        by (IntoHome home) f = leb-true _ _ f
