-- Why a way stops is told just where it stops.
use Rattle.std.proofs.Common.{◌≡◌, ℕ, ℤ, ◌||◌, Bool, true, false, List, [], ◌∷◌, Option, Some, None, refl, ap, ◌∙◌}
use Rattle.std.specs.Prelude.{if◌then◌else◌, not}
use Rattle.std.specs.Option.{is_some}
use Rattle.std.specs.Ordering.{int_eq}
use Rattle.tb_words.specs.declared.Letter.{Letter}
use Rattle.tb_debug.specs.Breakpoints.{breaks, broken, differ, first_changed, is_among, value_in}
use Rattle.tb_debug.specs.Stopping.{cause_by}

-- a variable that changed is told just if one differs
changed_told : (ws : List Letter) (before after : List ℤ) → is_some (first_changed ws before after) ≡ differ ws before after
changed_told [] before after = refl
changed_told (w ∷ ws) before after = by (int_eq (value_in before w) (value_in after w)) (changed_told ws before after)
  where
    by : (same : Bool) → is_some (first_changed ws before after) ≡ differ ws before after
        → is_some (if same then first_changed ws before after else Some w) ≡ (not same || differ ws before after)
    by true rest = rest
    by false rest = refl

-- a line is told just if it has a breakpoint
broken_told : (lines : List ℕ) (line : Option ℕ) → is_some (broken lines line) ≡ breaks lines line
broken_told lines None = refl
broken_told lines (Some line) = by (is_among lines line)
  where
    by : (among : Bool) → is_some {T = ℕ} (if among then Some line else None) ≡ among
    by true = refl
    by false = refl

-- one of both is told
either_told : (line : Option ℕ) (changed : Option Letter) → is_some (cause_by line changed) ≡ (is_some line || is_some changed)
either_told (Some line) changed = refl
either_told None (Some letter) = refl
either_told None None = refl

-- why a way stops is told just if it stops
pub cause_told : (lines : List ℕ) (line : Option ℕ) (ws : List Letter) (before after : List ℤ)
    → is_some (cause_by (broken lines line) (first_changed ws before after)) ≡ (breaks lines line || differ ws before after)
cause_told lines line ws before after =
    either_told (broken lines line) (first_changed ws before after)
    ∙ ap (λ b. b || is_some (first_changed ws before after)) (broken_told lines line)
    ∙ ap (λ b. breaks lines line || b) (changed_told ws before after)
