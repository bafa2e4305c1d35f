-- The goals of `squeeze_fit` in src/parser.rt.
use Rattle.std.proofs.Common.{◌≡◌, ℕ, ◌<◌, ◌≤◌, List, length, None, Result, Ok, Err, IfSome, MatchResult, subst, sym}
use Rattle.tb_parser.specs.declared.errors.LineFault.{LineFault}
use Rattle.tb_parser.specs.declared.errors.SourceErrorKind.TheVariants.{LineTooLong}
use Rattle.tb_basic_text.specs.declared.notation.Notation.{Notation}
use Rattle.tb_parser.specs.declared.squeeze.Placed.{Placed}
use Rattle.tb_parser.specs.Answers.{refusal_of}
use Rattle.tb_parser.specs.Notations.{column_of, first_bad_in, squeezed_in}
use Rattle.tb_parser.specs.Readings.{IsFitIn, IsUnfitIn, at_column, stands_for_too_much}
use Rattle.tb_parser.proofs.parser.squeeze_fit.Goals as goal

too_much : (notation : Notation) (line : List ℕ) (placed : List Placed) → placed ≡ squeezed_in notation line → length line ≤ 255 → first_bad_in notation line ≡ None
    → 255 < length placed → IsUnfitIn notation line (at_column LineTooLong (column_of 255 placed))
too_much notation line placed is short clean over =
    subst (λ (p : List Placed). IsUnfitIn notation line (at_column LineTooLong (column_of 255 p))) (sym is) (stands_for_too_much short clean (rw is at over))

fit_if : {A : Type 0} (notation : Notation) (line : List ℕ) (placed : List Placed) (r : Result A LineFault) → placed ≡ squeezed_in notation line
    → (length line ≤ 255) × (first_bad_in notation line ≡ None)
    → MatchResult r (λ _. length placed ≤ 255) (λ fault. (255 < length placed) × (fault ≡ record { kind = LineTooLong; column = column_of 255 placed }))
    → MatchResult r (λ _. IsFitIn notation line × (placed ≡ squeezed_in notation line)) (λ fault. IfSome (refusal_of fault.kind fault.column) (IsUnfitIn notation line))
fit_if notation line placed (Ok u) is checked few = (record { short = checked.0; clean = checked.1; brief = rw is at few }, is)
fit_if notation line placed (Err fault) is checked many =
    subst (λ (f : LineFault). IfSome (refusal_of f.kind f.column) (IsUnfitIn notation line)) (sym many.1) (too_much notation line placed is checked.0 checked.1 many.0)

pub returns : goal.returns
returns c =
    fit_if c.args.notation c.args.line.now c.squeeze_in.new.placed.items c.check_length.result c.in_ok-squeeze_in.ensures c.in_ok-check_bytes.ensures
    (rw c.deref.ensures.value at c.check_length.ensures)
