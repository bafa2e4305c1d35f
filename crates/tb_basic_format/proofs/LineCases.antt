-- What comes of a line, by what was found of it.
use Rattle.std.proofs.Common.{◌≡◌, ◌≢◌, ℕ, ◌<◌, ◌≤◌, List, length, Some, None, Result, Ok, Err, IfOk, refl, sym, ap, subst, ◌∙◌, ◌⊎◌, inl, inr, IfSome}
use Rattle.std.specs.Result.{result_err}
use Rattle.tb_parser.specs.Answers.{Says, edit_of, refusal_of}
use Rattle.tb_parser.specs.declared.edits.LineEdit.{LineEdit}
use Rattle.tb_parser.specs.declared.errors.LineFault.{LineFault}
use Rattle.tb_parser.specs.declared.errors.SourceErrorKind.{SourceErrorKind}
use Rattle.tb_parser.specs.declared.errors.SourceErrorKind.TheVariants.{NoMemory, Syntax}
use Rattle.tb_basic_text.specs.declared.notation.Notation.{Notation}
use Rattle.tb_parser.specs.Readings.{LineIn, Refusal, at_column}
use Rattle.tb_basic_format.specs.Kept.{kept}
use Rattle.std.specs.declared.alloc.AllocError.{AllocError}
use Rattle.std.specs.declared.alloc.Global.{Global}
use Rattle.std.specs.declared.vec.Vec.{Vec}
use Rattle.tb_basic_format.specs.Lines.{IsBad, IsGood, IsMadeTidy, IsTidied, tidied, tidy_line, tidy, too_long, other, good}

-- a fault other than want of memory is a refusal
refused : (kind : SourceErrorKind) (column : ℕ) (Is : Refusal → Type 0) → kind ≢ NoMemory → IfSome (refusal_of kind column) Is → (r : Refusal) × Is r
refused NoMemory column Is ne h = absurd (ne refl)
refused Syntax column Is ne h = (record { kind = Syntax; column = None }, h)
refused kind column Is ne h = (at_column kind column, h)

-- a line without a fault is good
pub good_if : (notation : Notation) (line : List ℕ) (r : Result LineEdit LineFault) → Says edit_of r (LineIn notation line) → result_err r ≡ None → IsGood notation line
good_if notation line (Ok edit) h e = (edit_of edit, h)
good_if notation line (Err fault) h e = absurd cc

-- one with a fault is bad
pub bad_if : (notation : Notation) (line : List ℕ) (r : Result LineEdit LineFault) (fault : LineFault) → Says edit_of r (LineIn notation line) → result_err r ≡ Some fault
    → fault.kind ≢ NoMemory → IsBad notation line
bad_if notation line (Ok edit) fault h e ne = absurd cc
bad_if notation line (Err f) fault h e ne =
    let same : f ≡ fault = cc in
    refused f.kind f.column (λ r. LineIn notation line (Err r)) (λ k. ne (ap (λ (g : LineFault). g.kind) (sym same) ∙ k)) h

module _ (line bytes made again : List ℕ) (kept_is : bytes ≡ kept line) (made_is : made ≡ tidied bytes) (again_is : again ≡ kept made) where
  made_tidy_is : made ≡ tidy_line line
  made_tidy_is = made_is ∙ ap (λ (k : List ℕ). tidied k) kept_is

  -- the tidy form takes the line's place
  pub takes : (length made ≤ 255) × (again ≡ bytes) → IsMadeTidy line made
  takes h =
      let short : length (tidy_line line) ≤ 255 = rw made_tidy_is at h.0 in
      let same : kept (tidy_line line) ≡ kept line = ap (λ (t : List ℕ). kept t) (sym made_tidy_is) ∙ (sym again_is ∙ (h.1 ∙ kept_is)) in
      subst (λ (t : List ℕ). IsMadeTidy line t) (sym made_tidy_is) (tidy short same)

  -- or the line stays
  pub stays : (255 < length made) ⊎ (again ≢ bytes) → IsMadeTidy line line
  stays (inl long) = too_long (rw made_tidy_is at long)
  stays (inr differs) = other (λ e. differs (again_is ∙ (ap (λ (t : List ℕ). kept t) made_tidy_is ∙ (e ∙ sym kept_is))))

-- a copy of a line is what the line is
pub copied : (line : List ℕ) (Is : List ℕ → Type 0) (r : Result (Vec ℕ Global) AllocError) → IfOk r (λ v. v.items ≡ line) → Is line → IfOk r (λ v. Is v.items)
copied line Is (Ok v) same is = subst Is (sym same) is
copied line Is (Err e) same is = tt

-- what comes of a good line comes of the line
pub of_good : (notation : Notation) (line : List ℕ) (r : Result (Vec ℕ Global) AllocError) → IsGood notation line → IfOk r (λ v. IsMadeTidy line v.items)
    → IfOk r (λ v. IsTidied notation line v.items)
of_good notation line (Ok v) is made = good v.items is made
of_good notation line (Err e) is made = tt
