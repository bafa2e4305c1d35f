-- A tidy text is its own tidy text.
use Rattle.std.proofs.Common.{◌≡◌, ℕ, ◌≤◌, Bool, true, false, ◌&&◌, ◌==◌, List, [], ◌∷◌, ◌++◌, length, Ok, Err, refl, sym, ap, subst, ◌∙◌, ◌⊎◌, inl, inr, arith}
use Rattle.tb_basic_text.specs.declared.notation.Notation.{Notation}
use Rattle.tb_parser.proofs.Unique.{line_one, ok_err}
use Rattle.tb_basic_format.specs.Kept.{kept}
use Rattle.tb_basic_format.specs.Lines.{IsBad, IsGood, IsMadeTidy, IsTidied, tidied, tidy_line, tidy, too_long, other, good, bad}
use Rattle.tb_basic_format.specs.Texts.{AreWithin, IsEnd, IsTidyText, IsWithin, last, next, placed}
use Rattle.tb_basic_format.proofs.SameText.{empty_stays, new_within}

-- ── a line ──
-- what comes of a line is the line, or its tidy form, which then takes its place
abbrev Comes : Notation → List ℕ → List ℕ → Type 0
Comes notation line new = (new ≡ line) ⊎ ((new ≡ tidy_line line) × IsGood notation line × (length (tidy_line line) ≤ 255) × (kept (tidy_line line) ≡ kept line))

comes_made : (notation : Notation) (line new : List ℕ) → IsGood notation line → IsMadeTidy line new → Comes notation line new
comes_made notation line _ is (tidy short same) = inr (refl, is, short, same)
comes_made notation line _ is (too_long e) = inl refl
comes_made notation line _ is (other e) = inl refl

comes : {notation : Notation} (line new : List ℕ) → IsTidied notation line new → Comes notation line new
comes {notation} line _ (good new is made) = comes_made notation line new is made
comes line _ (bad is) = inl refl

not_both : (notation : Notation) (line : List ℕ) → IsGood notation line → IsBad notation line → ⊥
not_both notation line g b = ok_err g.0 b.0 (line_one line (Ok g.0) (Err b.0) g.1 b.1)

-- a tidy form is its own tidy form
tidy_stays : {notation : Notation} (line again : List ℕ) → kept (tidy_line line) ≡ kept line → IsTidied notation (tidy_line line) again → again ≡ tidy_line line
tidy_stays line again same second = elim (comes (tidy_line line) again second) [
  | inl e ↦ e
  | inr h ↦ h.0 ∙ ap (λ (k : List ℕ). tidied k) same
]

made_stays : {notation : Notation} (line new again : List ℕ) → IsMadeTidy line new → IsTidied notation new again → again ≡ new
made_stays line _ again (tidy short same) second = tidy_stays line again same second
made_stays line _ again (too_long e) second = elim (comes line again second) [
  | inl same ↦ same
  | inr h ↦ absurd (omega (arith, e, h.2))
]
made_stays line _ again (other e) second = elim (comes line again second) [
  | inl same ↦ same
  | inr h ↦ absurd (e h.3)
]

-- what comes of a line stays
line_stays : {notation : Notation} (line new again : List ℕ) → IsTidied notation line new → IsTidied notation new again → again ≡ new
line_stays line _ again (good new is made) second = made_stays line new again made second
line_stays {notation} line _ again (bad is) second = elim (comes line again second) [
  | inl same ↦ same
  | inr h ↦ absurd (not_both notation line h.1 is)
]

-- a line of which once nothing comes becomes nothing or stays
blank_stays : {notation : Notation} (line again : List ℕ) → IsTidied notation line [] → IsTidied notation line again → placed true line again ≡ line
blank_stays line [] first second = refl
blank_stays {notation} line (b ∷ again) first second = elim (comes line (b ∷ again) second) [
  | inl same ↦ same
  | inr h ↦ elim (comes line [] first) [
    | inl none ↦ absurd (let e = empty_stays (b ∷ again) (subst (λ (l : List ℕ). IsTidied notation l (b ∷ again)) (sym none) second) in cc)
    | inr g ↦ absurd (let e : [] ≡ b ∷ again = g.0 ∙ sym h.0 in cc)
  ]
]

-- what stands for a line stays
placed_stays : {notation : Notation} (bound : Bool) (line new again : List ℕ) → IsTidied notation line new → IsTidied notation (placed bound line new) again
    → placed bound (placed bound line new) again ≡ placed bound line new
placed_stays true line [] again first second = blank_stays line again first second
placed_stays false line [] again first second = let e : again ≡ [] = empty_stays again second in rw e refl
placed_stays bound line (b ∷ new) again first second = let e : again ≡ b ∷ new = line_stays line (b ∷ new) again first second in rw e refl

placed_within : {notation : Notation} (bound : Bool) (line new : List ℕ) → AreWithin line → IsTidied notation line new → AreWithin (placed bound line new)
placed_within true line [] w is = w
placed_within false line [] w is = tt
placed_within bound line (b ∷ new) w is = new_within line (b ∷ new) w is

-- ── a text ──
within_end : (b : ℕ) → IsWithin b → IsEnd b → ⊥
within_end b w (inl e) = w.0 e
within_end b w (inr e) = w.1 e

-- a line has no end within
no_end : (line : List ℕ) (e : ℕ) (text : List ℕ) → IsEnd e → AreWithin (line ++ e ∷ text) → ⊥
no_end [] e text end w = within_end e w.0 end
no_end (b ∷ line) e text end w = no_end line e text end w.1

head_same : (a b : ℕ) (xs ys : List ℕ) → a ∷ xs ≡ b ∷ ys → a ≡ b
head_same a b xs ys e = cc

tail_same : (a b : ℕ) (xs ys : List ℕ) → a ∷ xs ≡ b ∷ ys → xs ≡ ys
tail_same a b xs ys e = cc

-- a text has one first line
split_same : (a b : List ℕ) (d e : ℕ) (s t : List ℕ) → AreWithin a → AreWithin b → IsEnd d → IsEnd e → a ++ d ∷ s ≡ b ++ e ∷ t → (a ≡ b) × (d ≡ e) × (s ≡ t)
split_same [] [] d e s t wa wb ends ende same = (refl, head_same d e s t same, tail_same d e s t same)
split_same [] (y ∷ b) d e s t wa wb ends ende same = absurd (within_end y wb.0 (subst IsEnd (head_same d y s (b ++ e ∷ t) same) ends))
split_same (x ∷ a) [] d e s t wa wb ends ende same = absurd (within_end x wa.0 (subst IsEnd (sym (head_same x e (a ++ d ∷ s) t same)) ende))
split_same (x ∷ a) (y ∷ b) d e s t wa wb ends ende same =
    let rest = split_same a b d e s t wa.1 wb.1 ends ende (tail_same x y (a ++ d ∷ s) (b ++ e ∷ t) same) in
    let first : x ≡ y = head_same x y (a ++ d ∷ s) (b ++ e ∷ t) same in
    (rw (first, rest.0) refl, rest.1, rest.2)

last_stays : {notation : Notation} (line new line2 new2 : List ℕ) → IsTidied notation line new → IsTidied notation line2 new2 → line2 ≡ placed true line new → placed true line2 new2 ≡ placed true line new
last_stays {notation} line new line2 new2 is is2 e =
    rw e (placed_stays true line new new2 is (subst (λ (l : List ℕ). IsTidied notation l new2) e is2))

next_stays : {notation : Notation} (bound : Bool) (line new line2 new2 : List ℕ) (e : ℕ) (r r2 : List ℕ) → IsTidied notation line new → IsTidied notation line2 new2
    → line2 ≡ placed bound line new → r2 ≡ r → placed bound line2 new2 ++ e ∷ r2 ≡ placed bound line new ++ e ∷ r
next_stays {notation} bound line new line2 new2 e r r2 is is2 same rest =
    let here : placed bound line2 new2 ≡ placed bound line new =
    ap (λ (l : List ℕ). placed bound l new2) same ∙ placed_stays bound line new new2 is (subst (λ (l : List ℕ). IsTidied notation l new2) same is2) in
    ap (λ (l : List ℕ). l ++ e ∷ r2) here ∙ ap (λ (t : List ℕ). placed bound line new ++ e ∷ t) rest

-- what is the tidy text of a tidy text is that
pub text_stays : (notation : Notation) (behind : Bool) (text tidy_text found again : List ℕ) → IsTidyText notation behind text tidy_text → IsTidyText notation behind found again
    → found ≡ tidy_text → again ≡ tidy_text
text_stays notation _ _ _ _ _ (last b line new w is) (last b2 line2 new2 w2 is2) same = last_stays line new line2 new2 is is2 same
text_stays notation _ _ _ _ _ (last b line new w is) (next b2 line2 new2 e2 text2 r2 w2 end2 is2 rest2) same =
    absurd (no_end line2 e2 text2 end2 (subst AreWithin (sym same) (placed_within true line new w is)))
text_stays notation _ _ _ _ _ (next b line new e text r w end is rest) (last b2 line2 new2 w2 is2) same =
    absurd (no_end (placed (b && (e == 10)) line new) e r end (subst AreWithin same w2))
text_stays notation _ _ _ _ _ (next b line new e text r w end is rest) (next b2 line2 new2 e2 text2 r2 w2 end2 is2 rest2) same =
    let s = split_same line2 (placed (b && (e == 10)) line new) e2 e text2 r w2 (placed_within (b && (e == 10)) line new w is) end2 end same in
    let later : IsTidyText notation (e == 13) text2 r2 = subst (λ (x : ℕ). IsTidyText notation (x == 13) text2 r2) s.1 rest2 in
    let below : r2 ≡ r = text_stays notation (e == 13) text r text2 r2 rest later s.2 in
    rw s.1 (next_stays (b && (e == 10)) line new line2 new2 e r r2 is is2 s.0 below)
