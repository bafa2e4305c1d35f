-- What is kept of the weaker relation when a word is written to where a result goes.
use Rattle.std.proofs.Common.{◌≡◌, ◌≢◌, ℕ, ◌+◌, ◌<◌, true, false, List, length, sym, ap, ◌∙◌, subst, arith, ⊎_elim, get_or-set_same, get_or-set_other, length-set}
use Rattle.std.specs.Prelude.{slice_index, slice_set}
use Rattle.std.proofs.lemmas.Bool.{cases_eq}
use Rattle.tb_basic_meaning.specs.Control.{State}
use Rattle.tb_lower.specs.Slots.{Instr, Slots, with_word}
use Rattle.tb_compiled_kept.specs.Addresses.{COLUMN, HELD, HOME_S, LINE, NOTES, OPEN, SEED, SEEDED, var_at}
use Rattle.tb_compiler_templates.specs.Templates.{slot_at}
use Rattle.tb_runtime16.specs.Routines.{SeedAt, WordAt, is_state}
use Rattle.tb_proof_simulation.proofs.Mirrors.{HoldsState}
use Rattle.tb_proof_simulation.specs.Layout.{Layout}
use Rattle.tb_proof_simulation.proofs.Frames.{Same, SameSingles, returns_kept, low_is_state, return_is_state, put_away, seed_over, word_kept}
use Rattle.tb_proof_simulation.proofs.Pieces.{put_word}
use Rattle.tb_compiler_selection.specs.declared.liveness.Live.{Live}
use Rattle.tb_compiler_selection.specs.Groups.{IntoVariable, IntoHeld, Destination, IntoSlot, IntoHome, slot_of}
use Rattle.tb_compiler_selection.specs.Liveness.{live}
use Rattle.tb_compiler_templates.specs.Sources.{destination_at}
use Rattle.tb_proof_correctness.proofs.Relation.Matching.{HoldsLive}
use Rattle.tb_proof_correctness.proofs.Slots.SlotSide.{Lasting, landed, slots_landed}

-- memory that agrees on single bytes has the same RND state
pub seed_kept : (m m' : ℕ → ℕ) {option seed : ℕ} → SameSingles m m' → SeedAt m option seed → SeedAt m' option seed
seed_kept m m' e = seed_over m m' (e SEEDED (omega arith) (omega arith) (λ q. omega (arith, q)) (λ q. omega (arith, q)))
    (e SEED (omega arith) (omega arith) (λ q. omega (arith, q)) (λ q. omega (arith, q))) (e (SEED + 1) (omega arith) (omega arith) (λ q. omega (arith, q)) (λ q. omega (arith, q)))

module _ (ly : Layout) (s : State) (m m' : ℕ → ℕ) (h : HoldsState ly s m) where
  -- new variables; the rest is kept
  pub state_with : (vs : List ℕ) → length vs ≡ 26 → ((x : ℕ) → x < 26 → WordAt m' (var_at x) (slice_index vs x)) → m' COLUMN ≡ m COLUMN
      → SameSingles m m' → Same m m' 0xC100 0xC4F3 → HoldsState ly (record s { vars = vs }) m'
  state_with vs lv v co e e' = record {
    vars = v;
    column = co ∙ h.column;
    opened = e OPEN (omega arith) (omega arith) (λ q. omega (arith, q)) (λ q. omega (arith, q)) ∙ h.opened;
    seeded = seed_kept m m' e h.seeded;
    count = word_kept m m' NOTES _ (e NOTES (omega arith) (omega arith) (λ q. omega (arith, q)) (λ q. omega (arith, q)))
        (e (NOTES + 1) (omega arith) (omega arith) (λ q. omega (arith, q)) (λ q. omega (arith, q))) h.count;
    returns = returns_kept ly m m' s.returns h.few e' h.returns;
    few = h.few;
    all_vars = lv;
  }

  -- memory that agrees on the state holds it
  pub state_same : Same m m' 0xC000 0xC034 → SameSingles m m' → Same m m' 0xC100 0xC4F3 → HoldsState ly s m'
  state_same v e e' = state_with s.vars h.all_vars (λ x lt. word_kept m m' (var_at x) _ (v _ (omega arith) (omega (arith, lt)))
      (v _ (omega arith) (omega (arith, lt))) (h.vars x lt)) (v COLUMN (omega arith) (omega arith)) e e'

  -- scratch was written
  pub state_scratch : ((a : ℕ) → is_state a ≡ true → m' a ≡ m a) → HoldsState ly s m'
  state_scratch e = state_same (λ a lo hi. e a (low_is_state a lo (omega (arith, hi))))
      (λ a lo hi n n'. e a (low_is_state a (omega (arith, lo)) (omega (arith, hi)))) (λ a lo hi. e a (return_is_state a lo hi))

-- ---- a result written
abbrev pub DestFits : Destination → Type 0
DestFits (IntoSlot k) = k < 16
DestFits (IntoHome (IntoVariable x)) = x < 26
DestFits (IntoHome IntoHeld) = Unit {0}

-- all addresses but a word's are unchanged
abbrev pub Elsewhere : (ℕ → ℕ) → (ℕ → ℕ) → ℕ → Type 0
Elsewhere m m' p = (a : ℕ) → a ≢ p → a ≢ p + 1 → m' a ≡ m a

-- a result goes elsewhere than HOME_S
pub home_kept : (d : Destination) → DestFits d → (m m' : ℕ → ℕ) → Elsewhere m m' (destination_at d) → m' HOME_S ≡ m HOME_S
home_kept (IntoSlot k) fit m m' e = e HOME_S (λ q. omega (arith, q)) (λ q. omega (arith, q))
home_kept (IntoHome (IntoVariable x)) fit m m' e = e HOME_S (λ q. omega (arith, q, fit)) (λ q. omega (arith, q, fit))
home_kept (IntoHome IntoHeld) fit m m' e = e HOME_S (λ q. omega (arith, q)) (λ q. omega (arith, q))

-- a result that is written gives the state with it
pub state_landed : (ly : Layout) (s : State) (m m' : ℕ → ℕ) (d : Destination) (v : ℕ) → DestFits d → HoldsState ly s m
    → WordAt m' (destination_at d) v → Elsewhere m m' (destination_at d) → HoldsState ly (landed d v s) m'
state_landed ly s m m' (IntoSlot k) v fit h w e =
    state_same ly s m m' h (λ a lo hi. e a (λ q. omega (arith, q, hi)) (λ q. omega (arith, q, hi))) (λ a lo hi n n'. e a (λ q. omega (arith, q, hi))
    (λ q. omega (arith, q, hi))) (λ a lo hi. e a (λ q. omega (arith, q, lo, fit)) (λ q. omega (arith, q, lo, fit)))
state_landed ly s m m' (IntoHome IntoHeld) v fit h w e =
    state_same ly s m m' h (λ a lo hi. e a (λ q. omega (arith, q, hi)) (λ q. omega (arith, q, hi))) (λ a lo hi n n'. e a (λ q. omega (arith, q, hi))
    (λ q. omega (arith, q, hi))) (λ a lo hi. e a (λ q. omega (arith, q, lo)) (λ q. omega (arith, q, lo)))
state_landed ly s m m' (IntoHome (IntoVariable x)) v fit h w e =
    state_with ly s m m' h (slice_set s.vars x v) (length-set s.vars x v ∙ h.all_vars)
    (λ j lt. ⊎_elim
    (λ q. subst (λ j. WordAt m' (var_at j) (slice_index (slice_set s.vars x v) j)) (sym q) (subst (λ y. WordAt m' (var_at x) y)
    (sym (get_or-set_same s.vars x v 0 (omega (arith, fit, h.all_vars)))) w))
    (λ n. subst (λ y. WordAt m' (var_at j) y) (sym (get_or-set_other s.vars x j v 0 n))
    (word_kept m m' (var_at j) _ (e _ (λ q. n (omega (arith, q))) (λ q. omega (arith, q))) (e _ (λ q. omega (arith, q)) (λ q. n (omega (arith, q)))) (h.vars j lt)))
    (cases_eq j x))
    (e COLUMN (λ q. omega (arith, q, fit)) (λ q. omega (arith, q, fit)))
    (λ a lo hi n n'. e a (λ q. omega (arith, q, lo, fit)) (λ q. omega (arith, q, lo, fit)))
    (λ a lo hi. e a (λ q. omega (arith, q, lo, fit)) (λ q. omega (arith, q, lo, fit)))

-- a result that is written gives the slots with it
pub read_landed : (u : Live) (d : Destination) (is : List Instr) (r q : Slots) (m m' : ℕ → ℕ) (v : ℕ) → DestFits d → Lasting u d is r q
    → HoldsLive u r m → WordAt m' (destination_at d) v → Elsewhere m m' (destination_at d) → HoldsLive (live is) (slots_landed d v (with_word q (slot_of d) v)) m'
read_landed u (IntoSlot k) is r q m m' v fit l h w e = record {
  words = λ j lt. ⊎_elim
      (λ p. subst (λ j. WordAt m' (slot_at j) (slice_index (slice_set q.words k v) j)) (sym p) (subst (λ y. WordAt m' (slot_at k) y)
      (sym (get_or-set_same q.words k v 0 (omega (arith, fit, h.all_words, l.all)))) w))
      (λ n. let o = l.others j lt n in
      subst (λ y. WordAt m' (slot_at j) y) (sym (get_or-set_other q.words k j v 0 n ∙ o.1))
      (word_kept m m' (slot_at j) _ (e _ (λ q. n (omega (arith, q))) (λ q. omega (arith, q))) (e _ (λ q. omega (arith, q)) (λ q. n (omega (arith, q)))) (h.words j o.0)))
      (cases_eq j k);
  held = λ p. subst (λ y. WordAt m' HELD y) (sym l.same_held)
      (word_kept m m' HELD _ (e HELD (λ q. omega (arith, q, fit)) (λ q. omega (arith, q, fit))) (e (HELD + 1) (λ q. omega (arith, q, fit))
      (λ q. omega (arith, q, fit))) (h.held (l.held p)));
  all_words = length-set q.words k v ∙ l.all ∙ h.all_words;
}
read_landed u (IntoHome (IntoVariable x)) is r q m m' v fit l h w e = record {
  words = λ j lt. absurd (omega (arith, lt, l.dead));
  held = λ p. subst (λ y. WordAt m' HELD y) (sym l.same_held)
      (word_kept m m' HELD _ (e HELD (λ q. omega (arith, q, fit)) (λ q. omega (arith, q, fit))) (e (HELD + 1) (λ q. omega (arith, q, fit))
      (λ q. omega (arith, q, fit))) (h.held (l.held p)));
  all_words = length-set q.words 0 v ∙ l.all ∙ h.all_words;
}
read_landed u (IntoHome IntoHeld) is r q m m' v fit l h w e = record {
  words = λ j lt. absurd (omega (arith, lt, l.dead));
  held = λ q. w;
  all_words = length-set q.words 0 v ∙ l.all ∙ h.all_words;
}

-- ---- the line's number set
pub state_lined : (ly : Layout) (s : State) (m : ℕ → ℕ) (l h : ℕ) → HoldsState ly s m → HoldsState ly s (put_word m LINE l h)
state_lined ly s m l h hs =
    state_same ly s m (put_word m LINE l h) hs (λ a lo hi. put_away m LINE l h a (λ q. omega (arith, q, hi)) (λ q. omega (arith, q, hi)))
    (λ a lo hi n n'. put_away m LINE l h a n n') (λ a lo hi. put_away m LINE l h a (λ q. omega (arith, q, lo)) (λ q. omega (arith, q, lo)))

-- the line's number that is set keeps what is read
pub read_lined : (u : Live) (r : Slots) (m : ℕ → ℕ) (l h : ℕ) → HoldsLive u r m → HoldsLive u r (put_word m LINE l h)
read_lined u r m l h hr = record {
  words = λ k lt. word_kept m (put_word m LINE l h) (slot_at k) _ (put_away m LINE l h _ (λ q. omega (arith, q)) (λ q. omega (arith, q)))
      (put_away m LINE l h _ (λ q. omega (arith, q)) (λ q. omega (arith, q))) (hr.words k lt);
  held = λ q. word_kept m (put_word m LINE l h) HELD _ (put_away m LINE l h _ (λ q. omega (arith, q)) (λ q. omega (arith, q)))
      (put_away m LINE l h _ (λ q. omega (arith, q)) (λ q. omega (arith, q))) (hr.held q);
  all_words = hr.all_words;
}

-- a word of scratch was written
pub scratch_put : (m : ℕ → ℕ) (p l h : ℕ) → is_state p ≡ false → is_state (p + 1) ≡ false → (a : ℕ) → is_state a ≡ true → put_word m p l h a ≡ m a
scratch_put m p l h k k' a o = put_away m p l h a (apart p k) (apart (p + 1) k')
  where
    apart : (b : ℕ) → is_state b ≡ false → a ≢ b
    apart b k e = let no : true ≡ false = sym o ∙ ap is_state e ∙ k in cc
