-- Loops that go on one by one.
use Rattle.std.proofs.Common.{◌≡◌, ℕ, zero, suc, ◌+◌, ◌-◌, ◌<◌, ◌≤◌, nat_lt, true, false, List, [], ◌∷◌, ◌++◌, Option, None, Ok, Err, refl, sym, ap, ◌∙◌, append-nil, append_assoc, arith}
use Rattle.tb_memmap.specs.Bytes.{peek}
use Rattle.tb_memmap.specs.declared.memory.Closed.{Closed}
use Rattle.tb_dap_views.specs.Code.{behind, places}
use Rattle.tb_dap_views.specs.Memory.{before, readable}
use Rattle.tb_dap_views.specs.Sources.{breakable_by, breakable_in, standing_at}
use Rattle.tb_dap_views.specs.declared.sources.Breakable.{Breakable}
use Rattle.tb_dap_views.specs.declared.sources.SourceFile.{SourceFile}

module _ (m : ℕ → ℕ) (a n i : ℕ) where
  -- one more byte was read
  pub reads_more : (byte : ℕ) (old new all : List ℕ) → i < n → Ok byte ≡ peek m (a + i) → new ≡ old ++ byte ∷ []
      → old ++ readable (n - i) m (a + i) ≡ all → new ++ readable (n - (i + 1)) m (a + (i + 1)) ≡ all
  reads_more byte old new all few is pushed h =
      let k = n - (i + 1) in
      let left : n - i ≡ suc k = omega (arith, few) in
      let next : a + (i + 1) ≡ a + i + 1 = omega arith in
      let step : byte ∷ readable k m (a + (i + 1)) ≡ readable (n - i) m (a + i) =
      ap (λ b. byte ∷ readable k m b) next ∙ ap (λ r. before r (readable k m (a + i + 1))) is ∙ sym (ap (λ j. readable j m (a + i)) left) in
      ap (λ xs. xs ++ readable k m (a + (i + 1))) pushed ∙ append_assoc old (byte ∷ []) _ ∙ ap (λ ys. old ++ ys) step ∙ h

  -- no more byte can be read
  pub reads_no_more : (e : Closed) (old all : List ℕ) → i < n → Err e ≡ peek m (a + i) → old ++ readable (n - i) m (a + i) ≡ all → old ≡ all
  reads_no_more e old all few is h =
      let left : n - i ≡ suc (n - (i + 1)) = omega (arith, few) in
      let none : readable (n - i) m (a + i) ≡ [] =
      ap (λ j. readable j m (a + i)) left ∙ ap (λ r. before r (readable (n - (i + 1)) m (a + i + 1))) (sym is) in
      sym (ap (λ x. old ++ x) none ∙ append-nil old) ∙ h

-- a line gives the program none: the next one is looked at
pub looks_on : (f : SourceFile) (n i : ℕ) (found : Option Breakable) → i < n → standing_at f i ≡ None → breakable_in f (n - i) i ≡ found
    → breakable_in f (n - (i + 1)) (i + 1) ≡ found
looks_on f n i found few none h =
    let left : n - i ≡ suc (n - (i + 1)) = omega (arith, few) in
    ap (λ s. breakable_by i s (breakable_in f (n - (i + 1)) (i + 1))) (sym none) ∙ sym (ap (λ j. breakable_in f j i) left) ∙ h

-- behind the last place there is no instruction
pub no_places : (n : ℕ) (m : ℕ → ℕ) (end a : ℕ) → nat_lt a 65536 ≡ false → places n m end a ≡ []
unfolding places
no_places zero m end a past = refl
no_places (suc n) m end a past = rw past refl

module _ (m : ℕ → ℕ) (end a n i : ℕ) where
  -- one more place was found
  pub places_on : (next : ℕ) (old new all : List ℕ) → i < n → nat_lt a 65536 ≡ true → next ≡ behind m end a → new ≡ old ++ a ∷ []
      → old ++ places (n - i) m end a ≡ all → new ++ places (n - (i + 1)) m end next ≡ all
  unfolding places
  places_on next old new all few inside is pushed h =
      let k = n - (i + 1) in
      let left : n - i ≡ suc k = omega (arith, few) in
      let one : places (suc k) m end a ≡ a ∷ places k m end (behind m end a) = rw inside refl in
      let step : a ∷ places k m end next ≡ places (n - i) m end a =
      ap (λ b. a ∷ places k m end b) is ∙ sym one ∙ sym (ap (λ j. places j m end a) left) in
      ap (λ xs. xs ++ places k m end next) pushed ∙ append_assoc old (a ∷ []) _ ∙ ap (λ ys. old ++ ys) step ∙ h

-- nothing is left behind the last place
pub no_more_places : (n : ℕ) (m : ℕ → ℕ) (end a : ℕ) (old all : List ℕ) → nat_lt a 65536 ≡ false → old ++ places n m end a ≡ all → old ≡ all
no_more_places n m end a old all past h = sym (ap (λ x. old ++ x) (no_places n m end a past) ∙ append-nil old) ∙ h

-- no instruction is left
pub none_left : (m : ℕ → ℕ) (end a n i : ℕ) (old all : List ℕ) → n ≤ i → old ++ places (n - i) m end a ≡ all → old ≡ all
unfolding places
none_left m end a n i old all done h =
    let none : n - i ≡ 0 = omega (arith, done) in
    sym (ap (λ j. old ++ places j m end a) none ∙ append-nil old) ∙ h
