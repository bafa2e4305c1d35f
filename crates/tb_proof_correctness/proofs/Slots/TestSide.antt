-- What the slot instructions of a test do, and what they read.
use Rattle.std.proofs.Common.{◌≡◌, ℕ, ◌<◌, Bool, true, false, if◌then◌else◌, List, [], ◌∷◌, ◌++◌, length, refl, ap, ◌∙◌, subst, arith, append_assoc}
use Rattle.std.specs.Prelude.{slice_index, nat_le, not}
use Rattle.std.proofs.lemmas.Bool.{leb-true, and_parts}
use Rattle.tb_words.specs.Words.{holds}
use Rattle.tb_words.specs.declared.Rel.{Rel}
use Rattle.tb_basic_syntax.specs.Source.{numbers}
use Rattle.tb_basic_meaning.specs.Steps.{Step, Goes}
use Rattle.tb_basic_meaning.specs.Control.{State, next_after, fall}
use Rattle.tb_lower.specs.Ranges.{AreInRange}
use Rattle.tb_lower.specs.Slots.{Instr, Put, Load, Hold, LeaveUnless, SlotCode, Whole, Slots, SlotState, Stays, settled, leaving}
use Rattle.tb_basic_meaning.proofs.Runs.{after_nothing}
use Rattle.tb_proof_simulation.proofs.Mirrors.{HoldsState}
use Rattle.tb_proof_simulation.specs.Layout.{Layout}
use Rattle.tb_compiler_selection.specs.Groups.{Operand, Constant, Variable, InSlot, Tested, HeldBefore, HeldNow, Test, fetch, held, expand}
use Rattle.tb_compiler_selection.specs.Liveness.{live, nothing_live}
use Rattle.tb_compiler_selection.specs.Select.{test_words_dead}
use Rattle.tb_compiler_selection.specs.GroupSteps.{steps}
use Rattle.tb_compiler_templates.specs.Sources.{source_of, tested_source}
use Rattle.tb_proof_correctness.proofs.Relation.Matching.{HoldsLive}
use Rattle.tb_proof_correctness.proofs.Slots.SlotSide.{line, next, fetched, with_fetched, fetches, fetched_same, fetched_held, fetched_length, fetch_held}
use Rattle.tb_proof_correctness.proofs.Relation.Operands.{OperandFits, SourceHolds, operand_held, range_fetch}

-- the left word of a test
abbrev pub tested_word : State → Slots → Tested → ℕ
tested_word s r HeldBefore = r.held
tested_word s r (HeldNow a) = fetched s r 0 a

-- the slots once it is held
abbrev pub with_held : State → Slots → Tested → Slots
with_held s r HeldBefore = r
with_held s r (HeldNow a) = record (with_fetched s r 0 a) { held = slice_index (with_fetched s r 0 a).words 0 }

-- the slots after a test
abbrev pub tested : State → Slots → Tested → Operand → Slots
tested s r a b = with_fetched s (with_held s r a) 0 b

-- the list with its parts bracketed to the right
abbrev pub spread_test : Rel → Tested → Operand → List Instr → List Instr
spread_test rel HeldBefore b is = fetch 0 b ++ LeaveUnless rel ∷ is
spread_test rel (HeldNow a) b is = fetch 0 a ++ (Hold ∷ (fetch 0 b ++ LeaveUnless rel ∷ is))

-- the instructions of a test, and some after it
abbrev pub test_before : Rel → Tested → Operand → List Instr → List Instr
test_before rel a b js = held a ++ (fetch 0 b ++ LeaveUnless rel ∷ js)

-- a test and the instructions after it, bracketed to the right
pub spread_test_is : (rel : Rel) (a : Tested) (b : Operand) (js is : List Instr) → test_before rel a b js ++ is ≡ spread_test rel a b (js ++ is)
spread_test_is rel HeldBefore b js is = append_assoc (fetch 0 b) (LeaveUnless rel ∷ js) is
spread_test_is rel (HeldNow (Constant w)) b js is = ap (λ l. Put 0 w ∷ Hold ∷ l) (append_assoc (fetch 0 b) (LeaveUnless rel ∷ js) is)
spread_test_is rel (HeldNow (Variable x)) b js is = ap (λ l. Load 0 x ∷ Hold ∷ l) (append_assoc (fetch 0 b) (LeaveUnless rel ∷ js) is)
spread_test_is rel (HeldNow InSlot) b js is = ap (λ l. Hold ∷ l) (append_assoc (fetch 0 b) (LeaveUnless rel ∷ js) is)

module _ (code : SlotCode) (n : ℕ) (rel : Rel) (a : Tested) (b : Operand) (is : List Instr) (s : State) (r : Slots) where
  -- up to the test itself, with some instructions after it
  pub so_far : (js : List Instr) → steps code (test_before rel a b js) (line code n (spread_test rel a b is) s r) ≡ steps code (LeaveUnless rel ∷ js)
      (line code n (LeaveUnless rel ∷ is) s (tested s r a b))
  so_far js = by a
    where
      right : (r : Slots) → steps code (fetch 0 b ++ LeaveUnless rel ∷ js) (line code n (fetch 0 b ++ LeaveUnless rel ∷ is) s r)
          ≡ steps code (LeaveUnless rel ∷ js) (line code n (LeaveUnless rel ∷ is) s (with_fetched s r 0 b))
      right r = fetches code n 0 b (LeaveUnless rel ∷ js) (LeaveUnless rel ∷ is) s r

      hold : (r : Slots) → steps code (Hold ∷ (fetch 0 b ++ LeaveUnless rel ∷ js)) (line code n (Hold ∷ (fetch 0 b ++ LeaveUnless rel ∷ is)) s r)
          ≡ steps code (fetch 0 b ++ LeaveUnless rel ∷ js) (line code n (fetch 0 b ++ LeaveUnless rel ∷ is) s (record r { held = slice_index r.words 0 }))
      hold r = after_nothing (steps code (fetch 0 b ++ LeaveUnless rel ∷ js) (line code n (fetch 0 b ++ LeaveUnless rel ∷ is) s (record r { held = slice_index r.words 0 })))

      by : (a : Tested) → steps code (test_before rel a b js) (line code n (spread_test rel a b is) s r) ≡ steps code (LeaveUnless rel ∷ js)
          (line code n (LeaveUnless rel ∷ is) s (tested s r a b))
      by HeldBefore = right r
      by (HeldNow a) =
          ap (λ l. steps code l (line code n (spread_test rel (HeldNow a) b is) s r)) (append_assoc (fetch 0 a) (Hold ∷ []) (fetch 0 b ++ LeaveUnless rel ∷ js))
          ∙ fetches code n 0 a (Hold ∷ (fetch 0 b ++ LeaveUnless rel ∷ js)) (Hold ∷ (fetch 0 b ++ LeaveUnless rel ∷ is)) s r
          ∙ hold (with_fetched s r 0 a)
          ∙ right (with_held s r (HeldNow a))

  -- stays in the line, or goes on with the next one
  abbrev pub branched : Bool → Step SlotState
  branched true = Goes (line code n is s (tested s r a b)) []
  branched false = Goes (record { state = record s { place = next_after (numbers code) n }; rest = Whole; slots = tested s r a b }) []

  decides : (t : Bool) → next code n [] (settled n is (tested s r a b) (if t then Goes (Stays s (tested s r a b)) [] else leaving (fall (numbers code) n s))) ≡ branched t
  decides true = refl
  decides false = refl

  module _ (all : length r.words ≡ 16) (free : test_words_dead a b (live is) ≡ true) where
    left_is : (tested s r a b).held ≡ tested_word s r a
    left_is = by a
      where
        by : (a : Tested) → (tested s r a b).held ≡ tested_word s r a
        by HeldBefore = fetched_held s r 0 b
        by (HeldNow a) = fetched_held s (with_held s r (HeldNow a)) 0 b ∙ fetched_same s r 0 a (omega (arith, all))

    right_is : slice_index (tested s r a b).words 0 ≡ fetched s r 0 b
    right_is = by a b free
      where
        with_length : (a : Operand) → 0 < length (with_fetched s r 0 a).words
        with_length a = omega (arith, all, fetched_length s r 0 a)

        by : (a : Tested) (b : Operand) → test_words_dead a b (live is) ≡ true → slice_index (tested s r a b).words 0 ≡ fetched s r 0 b
        by HeldBefore b f = fetched_same s r 0 b (omega (arith, all))
        by (HeldNow a) InSlot f = absurd (let no : ⊥ = cc in no)
        by (HeldNow a) (Constant w) f = fetched_same s (with_held s r (HeldNow a)) 0 (Constant w) (with_length a)
        by (HeldNow a) (Variable x) f = fetched_same s (with_held s r (HeldNow a)) 0 (Variable x) (with_length a)

    -- whether it holds for the words tested
    pub decided : (t : Bool) → holds rel (tested_word s r a) (fetched s r 0 b) ≡ t → holds rel (tested s r a b).held (slice_index (tested s r a b).words 0) ≡ t
    decided t e = ap (λ x. holds rel x (slice_index (tested s r a b).words 0)) left_is ∙ ap (λ y. holds rel (tested_word s r a) y) right_is ∙ e

    -- what the whole test does
    pub test_goes : (t : Bool) → holds rel (tested_word s r a) (fetched s r 0 b) ≡ t → steps code (expand (Test rel a b)) (line code n (spread_test rel a b is) s r) ≡ branched t
    test_goes t e = so_far [] ∙ ap (λ t. next code n [] (settled n is (tested s r a b) (if t then Goes (Stays s (tested s r a b)) [] else leaving
        (fall (numbers code) n s)))) (decided t e) ∙ decides t

-- ---- what is read
not_both : (t : Bool) → t ≡ true → not t ≡ true → ⊥
not_both true e f = cc
not_both false e f = cc

tested_length : (s : State) (r : Slots) (a : Tested) (b : Operand) → length (tested s r a b).words ≡ length r.words
tested_length s r HeldBefore b = fetched_length s r 0 b
tested_length s r (HeldNow a) b = fetched_length s (with_held s r (HeldNow a)) 0 b ∙ fetched_length s r 0 a

-- after a test, all that is read is in memory
pub tested_read : (rel : Rel) (a : Tested) (b : Operand) (is : List Instr) (s : State) (r : Slots) (m : ℕ → ℕ) → test_words_dead a b (live is) ≡ true
    → HoldsLive (live (spread_test rel a b is)) r m → HoldsLive (live is) (tested s r a b) m
tested_read rel HeldBefore InSlot is s r m f h = record { words = λ k lt. h.words k (omega (arith, lt)); held = λ q. h.held refl; all_words = h.all_words }
tested_read rel HeldBefore (Constant w) is s r m f h = record {
  words = λ k lt. absurd (omega (arith, lt, leb-true _ _ f));
  held = λ q. h.held refl;
  all_words = tested_length s r HeldBefore (Constant w) ∙ h.all_words;
}
tested_read rel HeldBefore (Variable x) is s r m f h = record {
  words = λ k lt. absurd (omega (arith, lt, leb-true _ _ f));
  held = λ q. h.held refl;
  all_words = tested_length s r HeldBefore (Variable x) ∙ h.all_words;
}
tested_read rel (HeldNow a) InSlot is s r m f h = absurd (let no : ⊥ = cc in no)
tested_read rel (HeldNow a) (Constant w) is s r m f h =
    let p = and_parts (nat_le (live is).slots 0) (not (live is).held) f in
    record {
      words = λ k lt. absurd (omega (arith, lt, leb-true _ _ p.0));
      held = λ q. absurd (let no : ⊥ = not_both (live is).held q p.1 in no);
      all_words = tested_length s r (HeldNow a) (Constant w) ∙ h.all_words;
    }
tested_read rel (HeldNow a) (Variable x) is s r m f h =
    let p = and_parts (nat_le (live is).slots 0) (not (live is).held) f in
    record {
      words = λ k lt. absurd (omega (arith, lt, leb-true _ _ p.0));
      held = λ q. absurd (let no : ⊥ = not_both (live is).held q p.1 in no);
      all_words = tested_length s r (HeldNow a) (Variable x) ∙ h.all_words;
    }

-- after a test that leaves the line nothing is read
pub left_read : (s : State) (r : Slots) (a : Tested) (b : Operand) (m : ℕ → ℕ) → length r.words ≡ 16 → HoldsLive nothing_live (tested s r a b) m
left_read s r a b m all = record { words = λ k lt. absurd (omega (arith, lt)); held = λ q. absurd (let no : ⊥ = cc in no); all_words = tested_length s r a b ∙ all }

-- ---- its words
abbrev pub TestedFits : Tested → Type 0
TestedFits HeldBefore = Unit {0}
TestedFits (HeldNow a) = OperandFits a

pub record TestFits (a : Tested) (b : Operand) : Type 0 where
  pub left : TestedFits a
  pub right : OperandFits b

-- the range of a test's instructions gives those of its words
pub test_fits : (rel : Rel) (a : Tested) (b : Operand) (js : List Instr) → AreInRange 256 (test_before rel a b js) → TestFits a b
test_fits rel HeldBefore b js h = record { left = tt; right = (range_fetch 0 b (LeaveUnless rel ∷ js) h).0 }
test_fits rel (HeldNow a) b js h =
    let p = range_fetch 0 a (Hold ∷ (fetch 0 b ++ LeaveUnless rel ∷ js)) (subst (AreInRange 256) (append_assoc (fetch 0 a) (Hold ∷ []) (fetch 0 b ++ LeaveUnless rel ∷ js)) h) in
    record { left = p.0; right = (range_fetch 0 b (LeaveUnless rel ∷ js) p.1.1).0 }

-- the test's left word is where its source says
pub left_held : (ly : Layout) (rel : Rel) (a : Tested) (b : Operand) (is : List Instr) (s : State) (r : Slots) (m : ℕ → ℕ) → HoldsState ly s m
    → HoldsLive (live (spread_test rel a b is)) r m → TestedFits a → SourceHolds m (tested_source a) (tested_word s r a)
left_held ly rel HeldBefore b is s r m hs hr fit = let v = hr.held (fetch_held 0 b (LeaveUnless rel ∷ is)) in record { low_byte = v.low; high_byte = v.high; small = v.small }
left_held ly rel (HeldNow (Constant w)) b is s r m hs hr fit = operand_held ly s _ r m 0 (Constant w) hs hr tt tt
left_held ly rel (HeldNow (Variable x)) b is s r m hs hr fit = operand_held ly s _ r m 0 (Variable x) hs hr fit tt
left_held ly rel (HeldNow InSlot) b is s r m hs hr fit = operand_held ly s _ r m 0 InSlot hs hr tt (omega arith)

-- the test's right word is where its source says
pub right_held : (ly : Layout) (rel : Rel) (a : Tested) (b : Operand) (is : List Instr) (s : State) (r : Slots) (m : ℕ → ℕ)
    → test_words_dead a b (live is) ≡ true → HoldsState ly s m → HoldsLive (live (spread_test rel a b is)) r m → OperandFits b → SourceHolds m (source_of 0 b) (fetched s r 0 b)
right_held ly rel HeldBefore InSlot is s r m f hs hr fit = operand_held ly s _ r m 0 InSlot hs hr tt (omega arith)
right_held ly rel (HeldNow a) InSlot is s r m f hs hr fit = absurd (let no : ⊥ = cc in no)
right_held ly rel a (Constant w) is s r m f hs hr fit = operand_held ly s _ r m 0 (Constant w) hs hr tt tt
right_held ly rel a (Variable x) is s r m f hs hr fit = operand_held ly s _ r m 0 (Variable x) hs hr fit tt
