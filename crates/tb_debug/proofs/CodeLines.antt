-- Lines of code that are read one by one.
use Rattle.std.proofs.Common.{◌≡◌, ◌≢◌, ℕ, zero, suc, ◌+◌, ◌%◌, List, [], ◌∷◌, ◌++◌, refl, sym, ap, subst, ◌∙◌, append-nil, append_assoc, arith}
use Rattle.tb_asm.specs.Layout.{Entry}
use Rattle.tb_debug.specs.Readings.{code_behind, code_bytes, code_of, code_size}

-- at a closed address there is no line of code
pub code_ends : (count : ℕ) (m : ℕ → ℕ) (a : ℕ) (before : List (ℕ × Entry)) → count ≢ 0
    → ((lines : List (ℕ × Entry)) → code_behind (code_bytes m a) a lines ≡ []) → before ≡ before ++ code_of count m a
unfolding code_of
code_ends zero m a before some none = absurd (some refl)
code_ends (suc n) m a before some none = sym (ap (λ x. before ++ x) (none _) ∙ append-nil before)

-- if no line is asked for, there is none
pub no_code : (count : ℕ) (m : ℕ → ℕ) (a : ℕ) (before : List (ℕ × Entry)) → count ≡ 0 → before ≡ before ++ code_of count m a
unfolding code_of
no_code zero m a before none = sym (append-nil before)
no_code (suc n) m a before none = let no : suc n ≡ 0 = none in absurd (omega (arith, no))

-- else there is one, and then one less
pub code_goes_on : (n count : ℕ) (m : ℕ → ℕ) (a size : ℕ) (before all : List (ℕ × Entry)) (line : ℕ × Entry) → suc n ≡ count
    → ((lines : List (ℕ × Entry)) → code_behind (code_bytes m a) a lines ≡ line ∷ lines) → size ≡ code_size a (code_bytes m a)
    → all ≡ (before ++ line ∷ []) ++ code_of n m ((a + size) % 65536) → all ≡ before ++ code_of count m a
unfolding code_of
code_goes_on n count m a size before all line one_more first is_size rest =
    subst (λ k. all ≡ before ++ code_of k m a) one_more
    (rest ∙ ap (λ s. (before ++ line ∷ []) ++ code_of n m ((a + s) % 65536)) is_size
    ∙ append_assoc before (line ∷ []) _ ∙ ap (λ x. before ++ x) (sym (first _)))
