-- Whole runs.
use Rattle.std.proofs.Common.{◌≡◌, ℕ, zero, suc, List, [], ◌++◌, refl, sym, ap, ◌∙◌, subst, append_assoc}
use Rattle.tb_basic_syntax.specs.Source.{Program, numbers, Rises}
use Rattle.tb_basic_meaning.specs.Steps.{Faulted, Step, Run, GoesOn, Over, joined, advance, advance_by}
use Rattle.tb_basic_meaning.specs.Control.{Place, State, first_place, fault_text}
use Rattle.tb_basic_meaning.specs.Meaning.{line, start}
use Rattle.tb_basic_renumber.specs.Renumbered.{new_number, put_through}
use Rattle.tb_basic_renumber.specs.Runs.{moved_state, Corresponds, goes_on, ended, waits, faulted, RenumberedRunAlike}
use Rattle.tb_basic_renumber.proofs.Order.{BothRise}
use Rattle.tb_basic_renumber.proofs.Found.{first_is_place, numbers_moved, first_moved, highest_renumbered}
use Rattle.tb_basic_renumber.proofs.Alike.{IsWithin, Alike, AreAlike}
use Rattle.tb_basic_renumber.proofs.Alike as alike
use Rattle.tb_basic_renumber.proofs.LineSteps.{line_alike}

-- runs that are the same, and whose places are those of the lines
pub data Same (f : ℕ → ℕ) (ns : List ℕ) : Run State → Run State → Type 0 where
  on : (s : State) (out : List ℕ) → IsWithin ns s → Same f ns (GoesOn s out) (GoesOn (moved_state f s) out)
  over : (r r' : Run State) (why : Corresponds f r r') → ((step : State → Step State) → advance step r ≡ r) → ((step : State → Step State) → advance step r' ≡ r') → Same f ns r r'

module _ (f : ℕ → ℕ) (ns : List ℕ) where
  faulted_by : (out : List ℕ) (k n : ℕ) (u u' : List ℕ) → u ≡ out ++ fault_text k n → u' ≡ out ++ fault_text k (f n) → Corresponds f (Over Faulted u) (Over Faulted u')
  faulted_by out k n u u' e e' =
      subst (λ v. Corresponds f (Over Faulted v) (Over Faulted u')) (sym e)
      (subst (λ v. Corresponds f (Over Faulted (out ++ fault_text k n)) (Over Faulted v)) (sym e') (faulted out k n))

  joined_same : (out : List ℕ) (x y : Step State) → Alike f ns x y → Same f ns (joined out x) (joined out y)
  joined_same out _ _ (alike.goes s t w) = on s (out ++ t) w
  joined_same out _ _ (alike.ends t) = over _ _ (ended (out ++ t)) (λ step. refl) (λ step. refl)
  joined_same out _ _ (alike.waits t) = over _ _ (waits (out ++ t)) (λ step. refl) (λ step. refl)
  joined_same out _ _ (alike.faults t k n u u' e e') =
      over _ _ (faulted_by (out ++ t) k n (out ++ u) (out ++ u') (ap (λ w. out ++ w) e ∙ sym (append_assoc out t (fault_text k n)))
      (ap (λ w. out ++ w) e' ∙ sym (append_assoc out t (fault_text k (f n))))) (λ step. refl) (λ step. refl)

  advance_same : (g h : State → Step State) → AreAlike f ns g h → (r r' : Run State) → Same f ns r r' → Same f ns (advance g r) (advance h r')
  advance_same g h are _ _ (on s out w) = joined_same out (g s) (h (moved_state f s)) (are s w)
  advance_same g h are _ _ (over r r' why stays stays') =
      subst (λ q. Same f ns q (advance h r')) (sym (stays g)) (subst (λ q. Same f ns r q) (sym (stays' h)) (over r r' why stays stays'))

  runs_same : (g h : State → Step State) → AreAlike f ns g h → (m : ℕ) (r r' : Run State) → Same f ns r r' → Same f ns (advance_by g m r) (advance_by h m r')
  runs_same g h are zero r r' same = same
  runs_same g h are (suc m) r r' same = runs_same g h are m (advance g r) (advance h r') (advance_same g h are r r' same)

  corresponds : (r r' : Run State) → Same f ns r r' → Corresponds f r r'
  corresponds _ _ (on s out w) = goes_on s out
  corresponds _ _ (over r r' why stays stays') = why

-- the start by the new numbers
start_moved : (f : ℕ → ℕ) (program : Program) (seed : ℕ) (text answers : List ℕ)
    → start (numbers (put_through f program)) seed text answers ≡ moved_state f (start (numbers program) seed text answers)
start_moved f program seed text answers =
    ap (λ (p : Place). record (moved_state f (start (numbers program) seed text answers)) { place = p })
    (ap first_place (numbers_moved f program) ∙ first_moved f (numbers program))

-- a program and itself renumbered run alike
pub run_alike : RenumberedRunAlike
run_alike first step program rises new_rises sound seed text answers m =
    let f = new_number first step (numbers program) in
    let rise : BothRise f 1 1 (numbers program) = (rises, subst (λ ns. Rises 1 32768 ns) (numbers_moved f program) new_rises) in
    let last = highest_renumbered first step (numbers program) in
    let begin : Same f (numbers program) (GoesOn (start (numbers program) seed text answers) []) (GoesOn (start (numbers (put_through f program)) seed text answers) []) =
    subst (λ s. Same f (numbers program) (GoesOn (start (numbers program) seed text answers) []) (GoesOn s [])) (sym (start_moved f program seed text answers))
    (on (start (numbers program) seed text answers) [] (first_is_place (numbers program), tt)) in
    corresponds f (numbers program) _ _
    (runs_same f (numbers program) (line program) (line (put_through f program)) (line_alike f program rise sound last) m _ _ begin)
