-- The goals of `tidy_good_line` in src/lines.rt.
use Rattle.std.proofs.Common.{◌≡◌, ◌∙◌, List, ℕ, ap}
use Rattle.tb_basic_format.specs.Kept.{kept}
use Rattle.tb_basic_format.specs.Lines.{IsMadeTidy, tidied}
use Rattle.tb_basic_format.proofs.LineCases.{copied, stays, takes}
use Rattle.tb_basic_format.proofs.lines.tidy_good_line.Goals as goal

pub returns-then-not-takes_the_place : goal.returns-then-not-takes_the_place
returns-then-not-takes_the_place c =
    let line = c.args.line.now in
    let bytes = c.in_ok-bytes.bytes.items in
    let made = c.in_ok-tidy.tidy.items in
    let again = c.in_ok-again.again.items in
    let made_is : made ≡ tidied bytes = c.in_ok-tidy.ensures ∙ ap (λ (b : List ℕ). tidied b) c.as_slice.ensures.value in
    let again_is : again ≡ kept made = c.in_ok-again.ensures ∙ ap (λ (b : List ℕ). kept b) c.as_slice-2.ensures.value in
    copied line (λ (t : List ℕ). IsMadeTidy line t) c.from_slice.result c.from_slice.ensures.items
    (stays line bytes made again c.in_ok-bytes.ensures made_is again_is
    (rw (c.as_slice-3.ensures.value, c.as_slice-4.ensures.value, c.as_slice-5.ensures.value) at c.if-not-takes_the_place.ensures))

pub returns : goal.returns
returns c =
    let line = c.args.line.now in
    let bytes = c.in_ok-bytes.bytes.items in
    let made = c.in_ok-tidy.tidy.items in
    let again = c.in_ok-again.again.items in
    let made_is : made ≡ tidied bytes = c.in_ok-tidy.ensures ∙ ap (λ (b : List ℕ). tidied b) c.as_slice.ensures.value in
    let again_is : again ≡ kept made = c.in_ok-again.ensures ∙ ap (λ (b : List ℕ). kept b) c.as_slice-2.ensures.value in
    takes line bytes made again c.in_ok-bytes.ensures made_is again_is
    (rw (c.as_slice-3.ensures.value, c.as_slice-4.ensures.value, c.as_slice-5.ensures.value) at c.if-not-takes_the_place.ensures)
