-- What the slot instructions of a group with one word do, and what they read.
use Rattle.std.proofs.Common.{◌≡◌, ℕ, ◌+◌, ◌%◌, ◌<◌, Bool, true, false, ◌||◌, if◌then◌else◌, List, [], ◌∷◌, ◌++◌}
use Rattle.std.proofs.Common.{length, refl, ap, ◌∙◌, subst, sym, arith, append_assoc}
use Rattle.std.specs.Prelude.{slice_index, nat_eq, nat_le}
use Rattle.std.proofs.lemmas.Bool.{leb-true}
use Rattle.tb_words.specs.Words.{digits_of, negated, seed_after}
use Rattle.tb_basic_syntax.specs.Source.{numbers}
use Rattle.tb_basic_meaning.specs.Control.{State, fault_text, go_sub, go_to, send}
use Rattle.tb_lower.specs.Ranges.{AreInRange}
use Rattle.tb_lower.specs.Slots.{After, Instr, Random, SlotCode, Slots, Stays, act, into, leaving, settled, staying, with_word}
use Rattle.tb_basic_meaning.specs.Steps.{Faulted, Goes, Step, Stops}
use Rattle.tb_basic_meaning.specs.Values.{Fails, Gives, random}
use Rattle.tb_compiled_kept.specs.Addresses.{HELD}
use Rattle.tb_runtime16.specs.Routines.{WordAt}
use Rattle.tb_compiler_templates.specs.Templates.{slot_at}
use Rattle.tb_compiler_selection.specs.Groups.{Operand, Constant, Variable, InSlot, IntoHome, IntoSlot, Destination, Conversion, Negated, Drawn, Convert, Usage}
use Rattle.tb_compiler_selection.specs.Groups.{AsNumber, AsLine, AsSubroutine, Use, convert, expand, fetch, kept, slot_of, use_of}
use Rattle.tb_compiler_selection.specs.Liveness.{live, live_before, read}
use Rattle.tb_compiler_selection.specs.Select.{omits_only_dead, slot_dead}
use Rattle.tb_compiler_selection.specs.GroupSteps.{steps}
use Rattle.tb_proof_correctness.proofs.Relation.Landing.{DestFits}
use Rattle.tb_proof_correctness.proofs.Relation.GroupInvariants.{one_step}
use Rattle.tb_proof_correctness.proofs.Relation.Matching.{HoldsLive}
use Rattle.tb_proof_correctness.proofs.Relation.Operands.{OperandFits, dest_fits, range_fetch}
use Rattle.tb_proof_correctness.proofs.Slots.SlotSide.{IsDead, Lasting, StandsIn, ends, fetch_held, fetch_reads, fetched, fetched_held, fetched_length, fetched_other}
use Rattle.tb_proof_correctness.proofs.Slots.SlotSide.{fetched_same, fetches, kept_reads, landed, line, slots_landed, stops, with_fetched}

-- an instruction that reads slot k before what follows it
abbrev pub Reads : ℕ → Instr → List Instr → Type 0
Reads k i behind = live_before i (live behind) ≡ read (k + 1) (live behind)

-- a word that is not fetched is read in its slot
pub word_asked : (k : ℕ) (a : Operand) (i : Instr) (behind : List Instr) → Reads k i behind → StandsIn a k (live (fetch k a ++ i ∷ behind))
word_asked k (Constant w) i behind e = tt
word_asked k (Variable x) i behind e = tt
word_asked k InSlot i behind e = subst (λ u. k < u.slots) (sym e) (omega arith)

-- ---- conversions
abbrev pub spread_convert : Conversion → Operand → Destination → List Instr → List Instr
spread_convert what a d is = fetch (slot_of d) a ++ convert what (slot_of d) ∷ (kept d ++ is)

-- the group's instructions, bracketed to the right
pub spread_convert_is : (what : Conversion) (a : Operand) (d : Destination) (is : List Instr) → expand (Convert what a d) ++ is ≡ spread_convert what a d is
spread_convert_is what a d is = append_assoc (fetch (slot_of d) a) (convert what (slot_of d) ∷ kept d) is

-- a conversion reads its slot
pub convert_reads : (what : Conversion) (k : ℕ) (behind : List Instr) → Reads k (convert what k) behind
convert_reads Negated k behind = refl
convert_reads Drawn k behind = refl

-- what the ranges of a conversion's instructions give
pub record ConvertFits (a : Operand) (d : Destination) : Type 0 where
  pub word : OperandFits a
  pub slot : slot_of d < 16
  pub dest : DestFits d

-- the range of a conversion's instructions gives those of its word and its destination
pub convert_fits : (what : Conversion) (a : Operand) (d : Destination) → AreInRange 256 (expand (Convert what a d)) → ConvertFits a d
convert_fits what a d h = let p = range_fetch (slot_of d) a (convert what (slot_of d) ∷ kept d) h in by what p.0 p.1
  where
    by : (what : Conversion) → OperandFits a → AreInRange 256 (convert what (slot_of d) ∷ kept d) → ConvertFits a d
    by Negated o r = record { word = o; slot = r.0; dest = dest_fits d r.0 r.1 }
    by Drawn o r = record { word = o; slot = r.0; dest = dest_fits d r.0 r.1 }

module _ (code : SlotCode) (n : ℕ) (a : Operand) (d : Destination) (is : List Instr) (s : State) (r : Slots) (all : length r.words ≡ 16) (room : slot_of d < 16) where
  abbrev k : ℕ
  k = slot_of d

  abbrev q : Slots
  q = with_fetched s r k a

  abbrev x : ℕ
  x = fetched s r k a

  word_is : slice_index q.words k ≡ x
  word_is = fetched_same s r k a (omega (arith, all, room))

  some : k < length q.words
  some = omega (arith, room, all, fetched_length s r k a)

  -- what a conversion does, if it gives a word
  abbrev pub Converts : Conversion → State → ℕ → Type 0
  Converts what s' v = steps code (expand (Convert what a d)) (line code n (spread_convert what a d is) s r) ≡ Goes (line code n is (landed d v s') (slots_landed d v (with_word q k v))) []

  converts : (what : Conversion) (s' : State) (v : ℕ) → act (numbers code) n (convert what k) s q ≡ Goes (Stays s' (with_word q k v)) [] → Converts what s' v
  converts what s' v e =
      fetches code n k a (convert what k ∷ kept d) (convert what k ∷ (kept d ++ is)) s r
      ∙ ends code n (convert what k) d is s s' q v some e

  -- what a negation does
  pub negate_goes : Converts Negated s (negated x)
  negate_goes = converts Negated s (negated x) (ap (λ y. Goes (Stays s (with_word q k (negated y))) []) word_is)

  -- RND of the word, whose bound is good or bad
  drawn : (t : Bool) → (nat_eq x 0 || nat_le 32768 x) ≡ t → act (numbers code) n (Random k) s q ≡ into n k (if t then Fails 3 else Gives (seed_after s.seed % x) (seed_after s.seed)) s q
  drawn t e = ap (λ y. into n k (random y s.seed) s q) word_is ∙ ap (λ t. into n k (if t then Fails 3 else Gives (seed_after s.seed % x) (seed_after s.seed)) s q) e

  -- what RND with a good bound does
  pub draw_goes : (nat_eq x 0 || nat_le 32768 x) ≡ false → Converts Drawn (record s { seed = seed_after s.seed }) (seed_after s.seed % x)
  draw_goes e = converts Drawn (record s { seed = seed_after s.seed }) (seed_after s.seed % x) (drawn false e)

  -- RND with a bad bound faults
  pub draw_fails : (nat_eq x 0 || nat_le 32768 x) ≡ true → steps code (expand (Convert Drawn a d)) (line code n (spread_convert Drawn a d is) s r) ≡ Stops Faulted (fault_text 3 n)
  draw_fails e =
      fetches code n k a (Random k ∷ kept d) (Random k ∷ (kept d ++ is)) s r
      ∙ stops code n (Random k) (kept d) (kept d ++ is) s q (fault_text 3 n) (drawn true e)

-- what it reads, and that it omits nothing that is read after it
pub convert_lasting : (what : Conversion) (a : Operand) (d : Destination) (is : List Instr) (s : State) (r : Slots)
    → omits_only_dead (Convert what a d) (live is) ≡ true → Lasting (live (spread_convert what a d is)) d is r (with_fetched s r (slot_of d) a)
convert_lasting what a d is s r free = record {
  all = fetched_length s r (slot_of d) a;
  same_held = fetched_held s r (slot_of d) a;
  dead = by d free;
  others = λ j lt ne. (
    fetch_reads j (slot_of d) a (convert what (slot_of d) ∷ (kept d ++ is)) (before j lt) ne,
    fetched_other s r (slot_of d) j a ne,
  );
  held = λ h. fetch_held (slot_of d) a (convert what (slot_of d) ∷ (kept d ++ is)) ∙ ap (λ u. u.held) reads ∙ h;
}
  where
    reads : Reads (slot_of d) (convert what (slot_of d)) (kept d ++ is)
    reads = convert_reads what (slot_of d) (kept d ++ is)

    before : (j : ℕ) → j < (live is).slots → j < (live (convert what (slot_of d) ∷ (kept d ++ is))).slots
    before j lt = subst (λ u. j < u.slots) (sym reads) (omega (arith, kept_reads d is j lt))

    by : (d : Destination) → omits_only_dead (Convert what a d) (live is) ≡ true → IsDead d (live is)
    by (IntoSlot k) f = tt
    by (IntoHome home) f = leb-true _ _ f

-- ---- uses
abbrev pub spread_use : Usage → Operand → List Instr → List Instr
spread_use how a is = fetch 0 a ++ use_of how ∷ is

-- the group's instructions, bracketed to the right
pub spread_use_is : (how : Usage) (a : Operand) (is : List Instr) → expand (Use how a) ++ is ≡ spread_use how a is
spread_use_is how a is = append_assoc (fetch 0 a) (use_of how ∷ []) is

-- a use of a word, at line n of the lines ns
abbrev pub used : List ℕ → ℕ → Usage → ℕ → State → Slots → Step After
used ns n AsNumber x s slots = staying slots (send (digits_of x) s)
used ns n AsLine x s slots = leaving (go_to ns n x s)
used ns n AsSubroutine x s slots = leaving (go_sub ns n x s)

-- a use reads slot 0
pub use_reads : (how : Usage) (behind : List Instr) → Reads 0 (use_of how) behind
use_reads AsNumber behind = refl
use_reads AsLine behind = refl
use_reads AsSubroutine behind = refl

-- the range of a use's instructions gives that of its word
pub use_fits : (how : Usage) (a : Operand) → AreInRange 256 (expand (Use how a)) → OperandFits a
use_fits how a h = (range_fetch 0 a (use_of how ∷ []) h).0

-- what it does: its instruction, on its word
pub use_steps : (code : SlotCode) (n : ℕ) (how : Usage) (a : Operand) (is : List Instr) (s : State) (r : Slots) → length r.words ≡ 16
    → steps code (expand (Use how a)) (line code n (spread_use how a is) s r) ≡ settled n is (with_fetched s r 0 a)
    (used (numbers code) n how (fetched s r 0 a) s (with_fetched s r 0 a))
use_steps code n how a is s r all =
    fetches code n 0 a (use_of how ∷ []) (use_of how ∷ is) s r
    ∙ one_step code (use_of how) (line code n (use_of how ∷ is) s (with_fetched s r 0 a))
    ∙ ap (settled n is (with_fetched s r 0 a)) (by how)
  where
    same : slice_index (with_fetched s r 0 a).words 0 ≡ fetched s r 0 a
    same = fetched_same s r 0 a (omega (arith, all))

    by : (how : Usage) → act (numbers code) n (use_of how) s (with_fetched s r 0 a) ≡ used (numbers code) n how (fetched s r 0 a) s (with_fetched s r 0 a)
    by AsNumber = ap (λ x. used (numbers code) n AsNumber x s (with_fetched s r 0 a)) same
    by AsLine = ap (λ x. used (numbers code) n AsLine x s (with_fetched s r 0 a)) same
    by AsSubroutine = ap (λ x. used (numbers code) n AsSubroutine x s (with_fetched s r 0 a)) same

-- after it, all that is read is in memory
pub used_read : (how : Usage) (a : Operand) (is : List Instr) (s : State) (r : Slots) (m : ℕ → ℕ) → omits_only_dead (Use how a) (live is) ≡ true
    → HoldsLive (live (spread_use how a is)) r m → HoldsLive (live is) (with_fetched s r 0 a) m
used_read how a is s r m free h = record {
  words = by a free h;
  held = λ p. subst (λ v. WordAt m HELD v) (sym (fetched_held s r 0 a)) (h.held (fetch_held 0 a (use_of how ∷ is) ∙ ap (λ u. u.held) (use_reads how is) ∙ p));
  all_words = fetched_length s r 0 a ∙ h.all_words;
}
  where
    by : (a : Operand) → slot_dead a (live is) ≡ true → HoldsLive (live (spread_use how a is)) r m → (k : ℕ) → k < (live is).slots
        → WordAt m (slot_at k) (slice_index (with_fetched s r 0 a).words k)
    by (Constant w) f h k lt = absurd (omega (arith, lt, leb-true _ _ f))
    by (Variable x) f h k lt = absurd (omega (arith, lt, leb-true _ _ f))
    by InSlot f h k lt = h.words k (subst (λ u. k < u.slots) (sym (use_reads how is)) (omega (arith, lt)))
