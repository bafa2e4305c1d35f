-- A file's program has its numbers in rising order.
use Rattle.std.proofs.Common.{◌≡◌, ℕ, ◌+◌, ◌<◌, ◌≤◌, Bool, true, false, List, [], ◌∷◌, Result, Ok, Err, refl, sym, arith, ◌==◌, if◌then◌else◌}
use Rattle.std.proofs.lemmas.Bool.Decides.{nat_tests}
use Rattle.std.specs.Prelude.{nat_lt}
use Rattle.std.proofs.lemmas.Bool.{eqb-true}
use Rattle.tb_basic_syntax.specs.Source.{Statement, Program, Rises, numbers}
use Rattle.tb_basic_text.specs.declared.notation.Notation.{Notation}
use Rattle.tb_parser.specs.Files.{Outcome, line_at, with_line, without_line, edited, at_end, LinesIn, end, bad, good}
use Rattle.tb_parser.specs.Readings.{Refusal, Edit, LineIn, blank, unfit, unnumbered, bad_line_number, deletes, sets, unread}

from_lower : (low lower : ℕ) (ns : List ℕ) → lower ≤ low → Rises (low + 1) 32768 ns → Rises (lower + 1) 32768 ns
from_lower low lower [] le h = tt
from_lower low lower (n ∷ ns) le h = (omega (arith, h.0), h.1, h.2)

from_same : (m n : ℕ) (ns : List ℕ) → m ≡ n → Rises (m + 1) 32768 ns → Rises (n + 1) 32768 ns
from_same m n ns e h = rw e at h

below_from_test : (a b : ℕ) → nat_lt a b ≡ true → a + 1 ≤ b
below_from_test a b e = grind (arith, nat_tests)

above_from_tests : (a b : ℕ) → nat_lt a b ≡ false → (a == b) ≡ false → b + 1 ≤ a
above_from_tests a b e f = grind (arith, nat_tests)

with_line_rises : (n : ℕ) (c : Statement) (low : ℕ) (p : Program) → low + 1 ≤ n → n < 32768 → Rises (low + 1) 32768 (numbers p) → Rises (low + 1) 32768 (numbers (with_line n c p))
with_line_rises n c low [] above within h = (above, within, tt)
with_line_rises n c low (line ∷ lines) above within h = go (nat_lt n line.number) (n == line.number) refl refl (λ higher. with_line_rises n c line.number lines higher within h.2)
  where
    go : (less same : Bool) → nat_lt n line.number ≡ less → (n == line.number) ≡ same → (line.number + 1 ≤ n → Rises (line.number + 1) 32768 (numbers (with_line n c lines)))
        → Rises (low + 1) 32768 (numbers (if less then line_at n c ∷ line ∷ lines else if same then line_at n c ∷ lines else line ∷ with_line n c lines))
    go true same is other rest = (above, within, (below_from_test n line.number is, h.1, h.2))
    go false true is other rest = (above, within, from_same line.number n (numbers lines) (sym (eqb-true n line.number other)) h.2)
    go false false is other rest = (h.0, h.1, rest (above_from_tests n line.number is other))

without_line_rises : (n low : ℕ) (p : Program) → Rises (low + 1) 32768 (numbers p) → Rises (low + 1) 32768 (numbers (without_line n p))
without_line_rises n low [] h = tt
without_line_rises n low (line ∷ lines) h = go (n == line.number) (without_line_rises n line.number lines h.2)
  where
    go : (same : Bool) → Rises (line.number + 1) 32768 (numbers (without_line n lines)) → Rises (low + 1) 32768 (numbers (if same then lines else line ∷ without_line n lines))
    go true rest = from_lower line.number low (numbers lines) (omega (arith, h.0)) h.2
    go false rest = (h.0, h.1, rest)

KeepsRising : Result Edit Refusal → Type 0
KeepsRising (Ok edit) = (p : Program) → Rises 1 32768 (numbers p) → Rises 1 32768 (numbers (edited edit p))
KeepsRising (Err r) = Unit {0}

edit_keeps : {notation : Notation} (line : List ℕ) (m : Result Edit Refusal) → LineIn notation line m → KeepsRising m
unfolding KeepsRising
edit_keeps line _ (blank e) = λ p h. h
edit_keeps line _ (unfit first r e u) = tt
edit_keeps line _ (unnumbered first e fit d) = tt
edit_keeps line _ (bad_line_number first e fit d n) = tt
edit_keeps line _ (deletes number n) = λ p h. without_line_rises number 0 p h
edit_keeps line _ (sets number text c n some t) = λ p h. with_line_rises number c 0 p (omega (arith, n.in_range.0)) (omega (arith, n.in_range.1)) h
edit_keeps line _ (unread number text r n some t) = tt

abbrev OutcomeRises : Outcome → Type 0
OutcomeRises (Ok p) = Rises 1 32768 (numbers p)
OutcomeRises (Err r) = Unit {0}

end_rises : (p : Program) → Rises 1 32768 (numbers p) → OutcomeRises (at_end p)
end_rises [] h = tt
end_rises (line ∷ lines) h = h

-- the lines of a file make a program whose numbers rise
pub lines_rise : {notation : Notation} (n : ℕ) (p : Program) (lines : List (List ℕ)) (outcome : Outcome) → Rises 1 32768 (numbers p) → LinesIn notation n p lines outcome → OutcomeRises outcome
unfolding KeepsRising
lines_rise n p _ _ h (end _ _) = end_rises p h
lines_rise n p _ _ h (bad _ _ line lines r is) = tt
lines_rise n p _ _ h (good _ _ line lines edit outcome is rest) = lines_rise (n + 1) (edited edit p) lines outcome (edit_keeps line (Ok edit) is p h) rest
