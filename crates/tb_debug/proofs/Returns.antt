-- The lines to return to, one by one.
use Rattle.std.proofs.Common.{◌≡◌, append_assoc, ℕ, zero, suc, ◌+◌, ◌-◌, ◌<◌, List, [], ◌∷◌, ◌++◌, Option, length, refl, sym, ap, ◌∙◌, arith}
use Rattle.tb_debug.specs.Lines.{line_at}
use Rattle.tb_debug_inspection.specs.Readings.{return_in}
use Rattle.tb_debug.specs.Readings.{lines_of_returns}

-- as many lines are told as are asked for
pub many_told : (lines : List (ℕ × ℕ)) (m : ℕ → ℕ) (n : ℕ) → length (lines_of_returns lines m n) ≡ n
many_told lines m zero = refl
many_told lines m (suc n) = ap suc (many_told lines m n)

module _ (lines : List (ℕ × ℕ)) (m : ℕ → ℕ) (told : List (Option ℕ)) (count n : ℕ) where
  -- one more of the returns is told: the loop of `returns`
  pub one_told : (now : List (Option ℕ)) (line : Option ℕ) → n < count → now ≡ told ++ line ∷ [] → line ≡ line_at lines (return_in m (count - 1 - n))
      → told ++ lines_of_returns lines m (count - n) ≡ lines_of_returns lines m count → now ++ lines_of_returns lines m (count - (n + 1)) ≡ lines_of_returns lines m count
  one_told now line few pushed is h =
      let k = count - 1 - n in
      let rest : count - (n + 1) ≡ count - 1 - n = omega (arith, few) in
      let all : count - n ≡ suc (count - 1 - n) = omega (arith, few) in
      let step : line ∷ lines_of_returns lines m (count - (n + 1)) ≡ lines_of_returns lines m (count - n) =
      ap (λ j. line ∷ lines_of_returns lines m j) rest ∙ ap (λ l. l ∷ lines_of_returns lines m k) is ∙ sym (ap (lines_of_returns lines m) all) in
      ap (λ xs. xs ++ lines_of_returns lines m (count - (n + 1))) pushed ∙ append_assoc told (line ∷ []) (lines_of_returns lines m (count - (n + 1)))
      ∙ ap (λ ys. told ++ ys) step ∙ h
