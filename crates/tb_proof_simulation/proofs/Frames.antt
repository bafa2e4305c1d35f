-- What is kept of the meaning's state when bytes are written.
use Rattle.std.proofs.Common.{◌≡◌, ◌≢◌, ℕ, suc, ◌+◌, ◌/◌, ◌%◌, ◌≤◌, ◌<◌, Bool, true, false, List, [], ◌∷◌, length}
use Rattle.std.proofs.Common.{refl, sym, ap, ◌∙◌, subst, arith, eqb, if◌then◌else◌}
use Rattle.std.proofs.lemmas.List.{length-map}
use Rattle.std.specs.Prelude.{slice_index}
use Rattle.tb_cpu.specs.Effects.{bit}
use Rattle.tb_proof_simulation.proofs.Mirrors.{HoldsState, return_addresses}
use Rattle.tb_proof_simulation.proofs.Pieces.{put_word}
use Rattle.tb_proof_simulation.specs.Layout.{Layout, place_address}
use Rattle.tb_runtime16.specs.Routines.{AreReturns, SeedAt, WordAt, first, is_state, stored}
use Rattle.tb_basic_meaning.specs.Control.{Place, State, column_after}
use Rattle.tb_memmap.specs.Bytes.{with_byte}
use Rattle.tb_machine_reaching.proofs.Memory.{put_other, put_same}
use Rattle.tb_compiled_kept.specs.Addresses.{COLUMN, LINE, NOTES, OPEN, SEED, SEEDED, var_at}
use Rattle.std.proofs.lemmas.Bool.Decides.{nat_tests}

-- ---- words
pub word_kept : (m m' : ℕ → ℕ) (a w : ℕ) → m' a ≡ m a → m' (a + 1) ≡ m (a + 1) → WordAt m a w → WordAt m' a w
word_kept m m' a w e e' h = record { low = e ∙ h.low; high = e' ∙ h.high; small = h.small }

-- a word that is written leaves all other addresses
pub put_away : (m : ℕ → ℕ) (at lo hi a : ℕ) → a ≢ at → a ≢ at + 1 → put_word m at lo hi a ≡ m a
put_away m at lo hi a n n' = put_other (with_byte m at lo) (at + 1) hi a n' ∙ put_other m at lo a n

-- the low byte of a word that is written
pub put_low : (m : ℕ → ℕ) (at lo hi : ℕ) → put_word m at lo hi at ≡ lo
put_low m at lo hi = put_other (with_byte m at lo) (at + 1) hi at (λ e. omega (arith, e)) ∙ put_same m at lo at refl

-- the high byte of a word that is written
pub put_high : (m : ℕ → ℕ) (at lo hi : ℕ) → put_word m at lo hi (at + 1) ≡ hi
put_high m at lo hi = put_same (with_byte m at lo) (at + 1) hi (at + 1) refl

-- a word that is written is there
pub word_put : (m : ℕ → ℕ) (at lo hi w : ℕ) → lo ≡ w % 256 → hi ≡ w / 256 → w < 65536 → WordAt (put_word m at lo hi) at w
word_put m at lo hi w e e' h = record { low = put_low m at lo hi ∙ e; high = put_high m at lo hi ∙ e'; small = h }

-- a word elsewhere is kept
pub word_away : (m : ℕ → ℕ) (at lo hi a w : ℕ) → a ≢ at → a ≢ at + 1 → a + 1 ≢ at → WordAt m a w → WordAt (put_word m at lo hi) a w
word_away m at lo hi a w n n' n'' h = word_kept m (put_word m at lo hi) a w (put_away m at lo hi a n n') (put_away m at lo hi (a + 1) n'' (λ e. n (omega (arith, e)))) h

-- ---- owned addresses
pub low_is_state : (a : ℕ) → 0xC000 ≤ a → a ≤ 0xC061 → is_state a ≡ true
low_is_state a lo hi = grind (arith, nat_tests)

-- the return list belongs to the state
pub return_is_state : (a : ℕ) → 0xC100 ≤ a → a ≤ 0xC4F3 → is_state a ≡ true
return_is_state a lo hi = grind (arith, nat_tests)

-- ---- parts of the state
-- two memories agree on the single bytes except the line's number
abbrev pub SameSingles : (ℕ → ℕ) → (ℕ → ℕ) → Type 0
SameSingles m m' = (a : ℕ) → 0xC035 ≤ a → a ≤ 0xC03F → a ≢ LINE → a ≢ LINE + 1 → m' a ≡ m a

-- two memories agree from one address to another
abbrev pub Same : (ℕ → ℕ) → (ℕ → ℕ) → ℕ → ℕ → Type 0
Same m m' lo hi = (a : ℕ) → lo ≤ a → a ≤ hi → m' a ≡ m a

-- a memory that agrees on the return list has the same return addresses
pub returns_are_kept : (m m' : ℕ → ℕ) (ns : List ℕ) → length ns ≤ 500 → Same m m' 0xC100 0xC4F3 → AreReturns m ns → AreReturns m' ns
returns_are_kept m m' [] few s h = tt
returns_are_kept m m' (n ∷ ns) few s h = (
  record { low = s _ (omega arith) (omega (arith, few)) ∙ h.0.low; high = s _ (omega arith) (omega (arith, few)) ∙ h.0.high; small = h.0.small },
  returns_are_kept m m' ns (omega (arith, few)) s h.1,
)

-- the returns to places stay in a memory that is the same where they are kept
pub returns_kept : (ly : Layout) (m m' : ℕ → ℕ) (ps : List Place) → length ps ≤ 500 → Same m m' 0xC100 0xC4F3 → AreReturns m (return_addresses ly ps)
    → AreReturns m' (return_addresses ly ps)
returns_kept ly m m' ps few s h = returns_are_kept m m' (return_addresses ly ps) (omega (arith, few, length-map ps (place_address ly))) s h

-- the column after bytes that are sent
pub column_mod : (c : ℕ) (t : List ℕ) → column_after (c % 256) t % 256 ≡ column_after c t % 256
column_mod c [] = omega arith
column_mod c (b ∷ bs) = go (λ k. column_mod k bs) (eqb b 13)
  where
    go : ((k : ℕ) → column_after (k % 256) bs % 256 ≡ column_after k bs % 256) → (z : Bool) → column_after (if z then 0 else c % 256 + 1) bs % 256
        ≡ column_after (if z then 0 else c + 1) bs % 256
    go r true = refl
    go r false = sym (r (c % 256 + 1)) ∙ ap (λ x. column_after x bs % 256) (let e : (c % 256 + 1) % 256 ≡ (c + 1) % 256 = omega arith in e) ∙ r (c + 1)

-- ---- the state
pub seed_over : (m m' : ℕ → ℕ) {option seed : ℕ} → m' SEEDED ≡ m SEEDED → m' SEED ≡ m SEED → m' (SEED + 1) ≡ m (SEED + 1) → SeedAt m option seed → SeedAt m' option seed
seed_over m m' a b c (stored k w) = stored (a ∙ k) (word_kept m m' SEED _ b c w)
seed_over m m' a b c (first k q r old w) = first (a ∙ k) q r old (word_kept m m' SEED _ b c w)

module _ (ly : Layout) (s : State) (m m' : ℕ → ℕ) (h : HoldsState ly s m) where
  vars_kept : Same m m' 0xC000 0xC033 → (x : ℕ) → x < 26 → WordAt m' (var_at x) (slice_index s.vars x)
  vars_kept e x lt = word_kept m m' (var_at x) _ (e _ (omega arith) (omega (arith, lt))) (e _ (omega arith) (omega (arith, lt))) (h.vars x lt)

  -- bytes are sent
  pub state_told : (t : List ℕ) → m' COLUMN ≡ column_after (m COLUMN) t % 256 → ((a : ℕ) → is_state a ≡ true → a ≢ COLUMN → m' a ≡ m a)
      → HoldsState ly (record s { column = column_after s.column t }) m'
  state_told t co e =
      let low : (a : ℕ) → 0xC000 ≤ a → a ≤ 0xC061 → a ≢ COLUMN → m' a ≡ m a = λ a lo hi. e a (low_is_state a lo hi) in
      record {
        vars = vars_kept (λ a lo hi. low a lo (omega (arith, hi)) (λ e. omega (arith, e, hi)));
        column = co ∙ ap (λ c. column_after c t % 256) h.column ∙ column_mod s.column t;
        opened = low OPEN (omega arith) (omega arith) (λ e. omega (arith, e)) ∙ h.opened;
        seeded = seed_over m m' (low SEEDED (omega arith) (omega arith) (λ e. omega (arith, e))) (low SEED (omega arith) (omega arith)
            (λ e. omega (arith, e))) (low (SEED + 1) (omega arith) (omega arith) (λ e. omega (arith, e))) h.seeded;
        count = word_kept m m' NOTES _ (low NOTES (omega arith) (omega arith) (λ e. omega (arith, e))) (low (NOTES + 1) (omega arith) (omega arith) (λ e. omega (arith, e))) h.count;
        returns = returns_kept ly m m' s.returns h.few (λ a lo hi. e a (return_is_state a lo hi) (λ e. omega (arith, e, lo))) h.returns;
        few = h.few;
        all_vars = h.all_vars;
      }

  -- the return list is another one
  state_with_return : (place : Place) (ps : List Place) → length ps ≤ 500 → WordAt m' NOTES (length ps) → AreReturns m' (return_addresses ly ps)
      → ((a : ℕ) → 0xC000 ≤ a → a ≤ 0xC061 → a ≢ NOTES → a ≢ NOTES + 1 → m' a ≡ m a) → HoldsState ly (record s { place = place; returns = ps }) m'
  state_with_return place ps few count returns low =
      record {
        vars = vars_kept (λ a lo hi. low a lo (omega (arith, hi)) (λ e. omega (arith, e, hi)) (λ e. omega (arith, e, hi)));
        column = low COLUMN (omega arith) (omega arith) (λ e. omega (arith, e)) (λ e. omega (arith, e)) ∙ h.column;
        opened = low OPEN (omega arith) (omega arith) (λ e. omega (arith, e)) (λ e. omega (arith, e)) ∙ h.opened;
        seeded = seed_over m m' (low SEEDED (omega arith) (omega arith) (λ e. omega (arith, e)) (λ e. omega (arith, e)))
            (low SEED (omega arith) (omega arith) (λ e. omega (arith, e)) (λ e. omega (arith, e))) (low (SEED + 1) (omega arith) (omega arith)
            (λ e. omega (arith, e)) (λ e. omega (arith, e))) h.seeded;
        count = count;
        returns = returns;
        few = few;
        all_vars = h.all_vars;
      }

  -- the newest return is taken away
  pub state_popped : (p : Place) (ps : List Place) → s.returns ≡ p ∷ ps → WordAt m' NOTES (length ps) → ((a : ℕ) → is_state a ≡ true → a ≢ NOTES
      → a ≢ NOTES + 1 → m' a ≡ m a) → HoldsState ly (record s { place = p; returns = ps }) m'
  state_popped p ps q count e =
      let few : suc (length ps) ≤ 500 = subst (λ l. length l ≤ 500) q h.few in
      let returns : AreReturns m (return_addresses ly (p ∷ ps)) = subst (λ l. AreReturns m (return_addresses ly l)) q h.returns in
      state_with_return p ps (omega (arith, few)) count (returns_kept ly m m' ps (omega (arith, few)) (λ a lo hi. e a (return_is_state a lo hi)
      (λ e. omega (arith, e, lo)) (λ e. omega (arith, e, lo))) returns.1) (λ a lo hi. e a (low_is_state a lo hi))

  -- the RND state is stored
  pub state_drawn : (seed : ℕ) → m' SEEDED ≡ 1 → WordAt m' SEED seed → ((a : ℕ) → is_state a ≡ true → a ≢ SEEDED → a ≢ SEED → a ≢ SEED + 1
      → m' a ≡ m a) → HoldsState ly (record s { seed = seed }) m'
  state_drawn seed one word e =
      let low : (a : ℕ) → 0xC000 ≤ a → a ≤ 0xC061 → a ≢ SEEDED → a ≢ SEED → a ≢ SEED + 1 → m' a ≡ m a = λ a lo hi. e a (low_is_state a lo hi) in
      record {
        vars = vars_kept (λ a lo hi. low a lo (omega (arith, hi)) (λ e. omega (arith, e, hi)) (λ e. omega (arith, e, hi)) (λ e. omega (arith, e, hi)));
        column = low COLUMN (omega arith) (omega arith) (λ e. omega (arith, e)) (λ e. omega (arith, e)) (λ e. omega (arith, e)) ∙ h.column;
        opened = low OPEN (omega arith) (omega arith) (λ e. omega (arith, e)) (λ e. omega (arith, e)) (λ e. omega (arith, e)) ∙ h.opened;
        seeded = stored one word;
        count = word_kept m m' NOTES _ (low NOTES (omega arith) (omega arith) (λ e. omega (arith, e)) (λ e. omega (arith, e)) (λ e. omega (arith, e)))
            (low (NOTES + 1) (omega arith) (omega arith) (λ e. omega (arith, e)) (λ e. omega (arith, e)) (λ e. omega (arith, e))) h.count;
        returns = returns_kept ly m m' s.returns h.few (λ a lo hi. e a (return_is_state a lo hi) (λ e. omega (arith, e, lo)) (λ e. omega (arith, e, lo)) (λ e. omega (arith, e, lo))) h.returns;
        few = h.few;
        all_vars = h.all_vars;
      }

  -- INPUT has read a number
  pub state_asked : (stays : Bool) (c : ℕ) (text : List ℕ) → m' OPEN ≡ bit stays → m' COLUMN ≡ c % 256 → ((a : ℕ) → is_state a ≡ true → a ≢ OPEN
      → a ≢ COLUMN → m' a ≡ m a) → HoldsState ly (record s { open_line = stays; column = c; text = text }) m'
  state_asked stays c text op co e =
      let low : (a : ℕ) → 0xC000 ≤ a → a ≤ 0xC061 → a ≢ OPEN → a ≢ COLUMN → m' a ≡ m a = λ a lo hi. e a (low_is_state a lo hi) in
      record {
        vars = vars_kept (λ a lo hi. low a lo (omega (arith, hi)) (λ e. omega (arith, e, hi)) (λ e. omega (arith, e, hi)));
        column = co;
        opened = op;
        seeded = seed_over m m' (low SEEDED (omega arith) (omega arith) (λ e. omega (arith, e)) (λ e. omega (arith, e)))
            (low SEED (omega arith) (omega arith) (λ e. omega (arith, e)) (λ e. omega (arith, e))) (low (SEED + 1) (omega arith) (omega arith)
            (λ e. omega (arith, e)) (λ e. omega (arith, e))) h.seeded;
        count = word_kept m m' NOTES _ (low NOTES (omega arith) (omega arith) (λ e. omega (arith, e)) (λ e. omega (arith, e)))
            (low (NOTES + 1) (omega arith) (omega arith) (λ e. omega (arith, e)) (λ e. omega (arith, e))) h.count;
        returns = returns_kept ly m m' s.returns h.few (λ a lo hi. e a (return_is_state a lo hi) (λ e. omega (arith, e, lo)) (λ e. omega (arith, e, lo))) h.returns;
        few = h.few;
        all_vars = h.all_vars;
      }

  -- one more return
  pub state_pushed : (to p : Place) → length s.returns < 500 → WordAt m' NOTES (suc (length s.returns)) → AreReturns m' (return_addresses ly (p ∷ s.returns))
      → ((a : ℕ) → 0xC000 ≤ a → a ≤ 0xC061 → a ≢ NOTES → a ≢ NOTES + 1 → m' a ≡ m a) → HoldsState ly (record s { place = to; returns = p ∷ s.returns }) m'
  state_pushed to p few count return_address low = state_with_return to (p ∷ s.returns) few count return_address low
