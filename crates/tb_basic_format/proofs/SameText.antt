-- The tidy text has as many lines, and each says the same.
use Rattle.std.proofs.Common.{◌≡◌, ℕ, Bool, true, false, ◌&&◌, ◌==◌, List, [], ◌∷◌, ◌++◌, map, refl, sym, ap, subst, ◌∙◌, inl, inr}
use Rattle.std.proofs.lemmas.Bool.{ne_eqb, eqb-true}
use Rattle.tb_basic_text.specs.declared.notation.Notation.{Notation}
use Rattle.tb_basic_text.specs.Lines.{lines_from}
use Rattle.tb_basic_format.specs.declared.modes.Mode.TheVariants.{Code}
use Rattle.tb_basic_format.specs.Kept.{kept, kept_from}
use Rattle.tb_basic_format.specs.Lines.{IsMadeTidy, IsTidied, tidy, too_long, other, good, bad}
use Rattle.tb_basic_format.specs.Texts.{IsEnd, IsTidyText, AreWithin, last, next, placed, said_from, squeezed_bytes}
use Rattle.tb_basic_format.proofs.KeptBytes.{within_kept, within_line}
use Rattle.tb_basic_format.proofs.SignEnds.{true_or_false}
use Rattle.tb_basic_format.proofs.SignedBytes.{same_squeezed}

-- what comes of a line keeps the same of it
made_same : (line new : List ℕ) → IsMadeTidy line new → kept new ≡ kept line
made_same line _ (tidy short same) = same
made_same line _ (too_long e) = refl
made_same line _ (other e) = refl

same_kept : {notation : Notation} (line new : List ℕ) → IsTidied notation line new → kept new ≡ kept line
same_kept line _ (good new is made) = made_same line new made
same_kept line _ (bad is) = refl

-- nothing comes of an empty line
made_empty : (new : List ℕ) → IsMadeTidy [] new → new ≡ []
unfolding kept_from
made_empty _ (tidy short same) = refl
made_empty _ (too_long e) = refl
made_empty _ (other e) = refl

-- and of a whole line
pub empty_stays : {notation : Notation} (new : List ℕ) → IsTidied notation [] new → new ≡ []
empty_stays _ (good new is made) = made_empty new made
empty_stays _ (bad is) = refl

-- no byte of what comes of a line ends it
pub new_within : {notation : Notation} (line new : List ℕ) → AreWithin line → IsTidied notation line new → AreWithin new
new_within line new within is =
    within_line Code new (subst AreWithin (sym (same_kept line new is)) (within_kept Code line within))

same_line : (notation : Notation) (line new : List ℕ) → IsTidied notation line new → squeezed_bytes notation new ≡ squeezed_bytes notation line
same_line notation line new is = same_squeezed notation new line (same_kept line new is)

-- a text without a line's end that isn't empty is one line
one_line : (behind : Bool) (b : ℕ) (line : List ℕ) → AreWithin (b ∷ line) → lines_from behind (b ∷ line) ≡ (b ∷ line) ∷ []
unfolding lines_from
one_line behind b [] w = rw (ne_eqb b 10 w.0.0, ne_eqb b 13 w.0.1) refl
one_line behind b (c ∷ line) w = rw (ne_eqb b 10 w.0.0, ne_eqb b 13 w.0.1, one_line false c line w.1) refl

-- a line ends at the first byte that ends one
split_line : (line : List ℕ) (e : ℕ) (text : List ℕ) → AreWithin line → IsEnd e → lines_from false (line ++ e ∷ text) ≡ line ∷ lines_from (e == 13) text
unfolding lines_from
split_line [] e text w (inl h) = rw h refl
split_line [] e text w (inr h) = rw h refl
split_line (b ∷ line) e text w end = rw (ne_eqb b 10 w.0.0, ne_eqb b 13 w.0.1, split_line line e text w.1 end) refl

-- so does one that isn't empty, behind whatever byte
split_some : (behind : Bool) (b : ℕ) (line : List ℕ) (e : ℕ) (text : List ℕ) → AreWithin (b ∷ line) → IsEnd e
    → lines_from behind ((b ∷ line) ++ e ∷ text) ≡ (b ∷ line) ∷ lines_from (e == 13) text
unfolding lines_from
split_some behind b line e text w end = rw (ne_eqb b 10 w.0.0, ne_eqb b 13 w.0.1, split_line line e text w.1 end) refl

-- and an empty one that isn't between a 13 and a 10
split_open : (behind : Bool) (line : List ℕ) (e : ℕ) (text : List ℕ) → AreWithin line → IsEnd e → (behind && (e == 10)) ≡ false
    → lines_from behind (line ++ e ∷ text) ≡ line ∷ lines_from (e == 13) text
unfolding lines_from
split_open false line e text w end opened = split_line line e text w end
split_open true (b ∷ line) e text w end opened = split_some true b line e text w end
split_open true [] e text w (inl h) opened = absurd (let t : (10 == 10) ≡ false = rw h at opened in cc)
split_open true [] e text w (inr h) opened = rw h refl

-- a 10 right behind a 13 ends no line
joined : (text : List ℕ) → lines_from true (10 ∷ text) ≡ lines_from false text
unfolding lines_from
joined text = refl

-- two lists of lines with the same first ones and the same others
both : (notation : Notation) (a b : List ℕ) (xs ys : List (List ℕ)) → squeezed_bytes notation a ≡ squeezed_bytes notation b
    → map (squeezed_bytes notation) xs ≡ map (squeezed_bytes notation) ys → map (squeezed_bytes notation) (a ∷ xs) ≡ map (squeezed_bytes notation) (b ∷ ys)
both notation a b xs ys e es =
    ap (λ (v : List ℕ). v ∷ map (squeezed_bytes notation) xs) e ∙ ap (λ (vs : List (List ℕ)). squeezed_bytes notation b ∷ vs) es

last_same : (notation : Notation) (behind : Bool) (line new : List ℕ) → AreWithin line → IsTidied notation line new
    → said_from notation behind (placed true line new) ≡ said_from notation behind line
last_same notation behind line [] w is = refl
last_same notation behind [] (b ∷ new) w is = absurd (let e = empty_stays (b ∷ new) is in cc)
last_same notation behind (a ∷ line) (b ∷ new) w is =
    rw (one_line behind b new (new_within (a ∷ line) (b ∷ new) w is), one_line behind a line w)
    (both notation (b ∷ new) (a ∷ line) [] [] (same_line notation (a ∷ line) (b ∷ new) is) refl)

placed_open : (line new : List ℕ) → placed false line new ≡ new
placed_open line [] = refl
placed_open line (b ∷ new) = refl

bound_is : (behind : Bool) (e : ℕ) → (behind && (e == 10)) ≡ true → (behind ≡ true) × (e ≡ 10)
bound_is true e h = (refl, eqb-true e 10 h)
bound_is false e h = absurd cc

-- a line between a 13 and a 10
bound_same : (notation : Notation) (line new text result : List ℕ) → AreWithin line → IsTidied notation line new
    → said_from notation false result ≡ said_from notation false text
    → said_from notation true (placed true line new ++ 10 ∷ result) ≡ said_from notation true (line ++ 10 ∷ text)
bound_same notation [] [] text result w is rest = rw (joined result, joined text) rest
bound_same notation [] (b ∷ new) text result w is rest = absurd (let e = empty_stays (b ∷ new) is in cc)
bound_same notation (a ∷ line) [] text result w is rest =
    rw (split_some true a line 10 result w (inl refl), split_some true a line 10 text w (inl refl))
    (both notation (a ∷ line) (a ∷ line) (lines_from false result) (lines_from false text) refl rest)
bound_same notation (a ∷ line) (b ∷ new) text result w is rest =
    rw (split_some true b new 10 result (new_within (a ∷ line) (b ∷ new) w is) (inl refl), split_some true a line 10 text w (inl refl))
    (both notation (b ∷ new) (a ∷ line) (lines_from false result) (lines_from false text) (same_line notation (a ∷ line) (b ∷ new) is) rest)

open_same : (notation : Notation) (behind : Bool) (line new : List ℕ) (e : ℕ) (text result : List ℕ) → AreWithin line → IsEnd e → IsTidied notation line new
    → (behind && (e == 10)) ≡ false → said_from notation (e == 13) result ≡ said_from notation (e == 13) text
    → said_from notation behind (new ++ e ∷ result) ≡ said_from notation behind (line ++ e ∷ text)
open_same notation behind line new e text result w end is opened rest =
    rw (split_open behind new e result (new_within line new w is) end opened, split_open behind line e text w end opened)
    (both notation new line (lines_from (e == 13) result) (lines_from (e == 13) text) (same_line notation line new is) rest)

next_same : (notation : Notation) (behind : Bool) (line new : List ℕ) (e : ℕ) (text result : List ℕ) → AreWithin line → IsEnd e → IsTidied notation line new
    → said_from notation (e == 13) result ≡ said_from notation (e == 13) text
    → said_from notation behind (placed (behind && (e == 10)) line new ++ e ∷ result) ≡ said_from notation behind (line ++ e ∷ text)
next_same notation behind line new e text result w end is rest = elim (true_or_false (behind && (e == 10))) [
  | inl bound ↦
      let b = bound_is behind e bound in
      let at : said_from notation false result ≡ said_from notation false text = rw b.1 at rest in
      rw (b.0, b.1) (bound_same notation line new text result w is at)
  | inr opened ↦ rw (opened, placed_open line new) (open_same notation behind line new e text result w end is opened rest)
]

-- what a tidy text says is what its source says
pub same_said : (notation : Notation) (behind : Bool) (text result : List ℕ) → IsTidyText notation behind text result
    → said_from notation behind result ≡ said_from notation behind text
same_said notation _ _ _ (last behind line new w is) = last_same notation behind line new w is
same_said notation _ _ _ (next behind line new e text result w end is rest) =
    next_same notation behind line new e text result w end is (same_said notation (e == 13) text result rest)
