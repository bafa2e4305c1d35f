-- Lines whose texts have no brace and no bracket are read alike in each notation.
use Rattle.std.proofs.Common.{◌≡◌, ℕ, ◌+◌, Bool, true, false, ◌||◌, List, [], ◌∷◌, ◌++◌, None, Result, refl, sym, ◌∙◌, subst, if◌then◌else◌}
use Rattle.tb_basic_syntax.specs.Source.{Program}
use Rattle.tb_parser.specs.declared.errors.SourceErrorKind.TheVariants.{LineTooLong}
use Rattle.tb_basic_text.specs.declared.notation.Notation.{Notation}
use Rattle.tb_basic_text.specs.declared.notation.Notation.TheVariants.{Plain, Signs}
use Rattle.tb_parser.specs.declared.squeeze.Mode.{Mode}
use Rattle.tb_parser.specs.declared.squeeze.Mode.TheVariants.{Code}
use Rattle.tb_parser.specs.declared.squeeze.Placed.{Placed}
use Rattle.tb_parser.specs.Files.{Outcome, edited, LinesIn, end, bad, good}
use Rattle.tb_parser.specs.Notations.{column_of, first_bad_in, squeezed_in}
use Rattle.tb_parser.specs.Readings.{Edit, Refusal, at_column, IsFitIn, IsUnfitIn, line_too_long, bad_byte, stands_for_too_much, IsNumberedIn}
use Rattle.tb_parser.specs.Readings.{LineIn, blank, unfit, unnumbered, bad_line_number, deletes, sets, unread}
use Rattle.tb_parser.specs.Scans.{first_bad}
use Rattle.tb_parser.specs.Signed as signed
use Rattle.tb_parser.specs.Signed.{LackSigns, has_signs, may_begin, sign_at}
use Rattle.tb_parser.specs.Squeezed.{after, is_dropped, is_in_code, shown, squeezed_from}

-- neither of two tests holds
record Neither (a b : Bool) : Type 0 where
  first : a ≡ false
  second : b ≡ false

neither : (a b : Bool) → (a || b) ≡ false → Neither a b
neither true b e = let no_match : true ≡ false = e in absurd cc
neither false b e = record { first = refl; second = e }

no_sign : (m : Mode) (b : ℕ) (line : List ℕ) → may_begin m b ≡ false → sign_at m (b ∷ line) ≡ None
no_sign m b line e = rw e refl

bad_alike : (m : Mode) (column : ℕ) (line : List ℕ) → has_signs m line ≡ false → signed.first_bad 0 m column line ≡ first_bad m column line
unfolding has_signs first_bad signed.first_bad
bad_alike m column [] e = refl
bad_alike m column (b ∷ line) e =
    let n = neither (may_begin m b) (has_signs (after m b) line) e in
    rw (no_sign m b line n.first, bad_alike (after m b) (column + 1) line n.second) refl

squeezed_alike : (m : Mode) (column : ℕ) (line : List ℕ) → has_signs m line ≡ false → signed.squeezed_from 0 m column line ≡ squeezed_from m column line
unfolding has_signs squeezed_from signed.squeezed_from
squeezed_alike m column [] e = refl
squeezed_alike m column (b ∷ line) e =
    let n = neither (may_begin m b) (has_signs (after m b) line) e in
    rw (no_sign m b line n.first, squeezed_alike (after m b) (column + 1) line n.second) (by (is_dropped m b))
  where
    by : (t : Bool) → (if t then [] else record { byte = shown m b; column = column; in_code = is_in_code m } ∷ []) ++ squeezed_from (after m b) (column + 1) line
        ≡ (if t then squeezed_from (after m b) (column + 1) line else record { byte = shown m b; column = column; in_code = is_in_code m } ∷ squeezed_from (after m b) (column + 1) line)
    by true = refl
    by false = refl

-- a line that is the same in two notations
record IsAlike (from to : Notation) (line : List ℕ) : Type 0 where
  bad_same : first_bad_in from line ≡ first_bad_in to line
  squeezed_same : squeezed_in from line ≡ squeezed_in to line

alike : (from to : Notation) (line : List ℕ) → has_signs Code line ≡ false → IsAlike from to line
alike Plain Plain line e = record { bad_same = refl; squeezed_same = refl }
alike Plain Signs line e = record { bad_same = sym (bad_alike Code 1 line e); squeezed_same = sym (squeezed_alike Code 1 line e) }
alike Signs Plain line e = record { bad_same = bad_alike Code 1 line e; squeezed_same = squeezed_alike Code 1 line e }
alike Signs Signs line e = record { bad_same = refl; squeezed_same = refl }

module _ {from to : Notation} {line : List ℕ} (a : IsAlike from to line) where
  fit_alike : IsFitIn from line → IsFitIn to line
  fit_alike fit = record { short = fit.short; clean = sym a.bad_same ∙ fit.clean; brief = rw a.squeezed_same at fit.brief }

  unfit_alike : {r : Refusal} → IsUnfitIn from line r → IsUnfitIn to line r
  unfit_alike (line_too_long h) = line_too_long h
  unfit_alike (bad_byte column short e) = bad_byte column short (sym a.bad_same ∙ e)
  unfit_alike (stands_for_too_much short e over) =
      subst (λ (placed : List Placed). IsUnfitIn to line (at_column LineTooLong (column_of 255 placed))) (sym a.squeezed_same)
      (stands_for_too_much short (sym a.bad_same ∙ e) (rw a.squeezed_same at over))

  numbered_alike : {number : ℕ} {text : List Placed} → IsNumberedIn from line number text → IsNumberedIn to line number text
  numbered_alike n = record { fit = fit_alike n.fit; value = rw a.squeezed_same at n.value; rest = rw a.squeezed_same at n.rest; in_range = n.in_range }

  line_alike : {said : Result Edit Refusal} → LineIn from line said → LineIn to line said
  line_alike (blank e) = blank e
  line_alike (unfit first r e u) = unfit first r e (unfit_alike u)
  line_alike (unnumbered first e fit d) = unnumbered first e (fit_alike fit) (rw a.squeezed_same at d)
  line_alike (bad_line_number first e fit d n) = bad_line_number first e (fit_alike fit) (rw a.squeezed_same at d) (rw a.squeezed_same at n)
  line_alike (deletes number n) = deletes number (numbered_alike n)
  line_alike (sets number text c n some t) = sets number text c (numbered_alike n) some t
  line_alike (unread number text r n some t) = unread number text r (numbered_alike n) some t

-- lines without signs make the same in each notation
pub lines_alike : (from to : Notation) (n : ℕ) (p : Program) (lines : List (List ℕ)) (outcome : Outcome) → LackSigns lines → LinesIn from n p lines outcome → LinesIn to n p lines outcome
lines_alike from to n p _ _ lack (end _ _) = end n p
lines_alike from to n p _ _ lack (bad _ _ line lines r is) = bad n p line lines r (line_alike (alike from to line lack.0) is)
lines_alike from to n p _ _ lack (good _ _ line lines edit outcome is rest) =
    good n p line lines edit outcome (line_alike (alike from to line lack.0) is) (lines_alike from to (n + 1) (edited edit p) lines outcome lack.1 rest)
