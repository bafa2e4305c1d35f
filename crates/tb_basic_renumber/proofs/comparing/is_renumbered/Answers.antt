-- The goals of `is_renumbered` in src/comparing.rt.
use Rattle.std.proofs.Common.{◌≡◌, ◌↔◌, ℕ, List, ◌∙◌}
use Rattle.tb_basic_syntax.specs.declared.statements.Statement.{Statement}
use Rattle.tb_basic_syntax.specs.PlainData.{lines_of}
use Rattle.tb_basic_syntax.specs.Source.{numbers}
use Rattle.tb_basic_renumber.specs.Renumbered.{new_number, put_through, renumbered}
use Rattle.tb_basic_renumber.proofs.comparing.is_renumbered.Goals as goal

-- what the rest of both is at the beginning
same : (first step : ℕ) (rest new old given : List (ℕ × Statement)) → rest ≡ new → given ≡ old
    → (lines_of rest ≡ put_through (new_number first step (numbers (lines_of old))) (lines_of given)) ↔ (lines_of new ≡ renumbered first step (lines_of old))
same first step rest new old given is_new is_old = rw (is_new, is_old) (λ h. h, λ h. h)

pub loop-number-init : goal.loop-number-init
loop-number-init c =
    same c.args.numbering.now.first c.args.numbering.now.step _ _ _ _ c.lines-rest.ensures
    (c.into_iter-number-iterator.ensures.into_iter_gives ∙ c.lines-number-items.ensures)
