-- The goals of `place` in src/breakpoints.rt.
use Rattle.std.proofs.Common.{◌≡◌, ◌<◌, ◌≤◌, ◌||◌, ℕ, nat_eq, arith, true, length, slice_index_or, sym, ap, ◌∙◌, subst}
use Rattle.std.proofs.lemmas.List.Sorted.{IsNonDecreasingBy-insert}
use Rattle.tb_debug.specs.Breakpoints.{AreRising, is_among}
use Rattle.tb_debug.proofs.Turning.{among_insert, among_there}
use Rattle.tb_debug.proofs.breakpoints.place.Goals as goal

pub returns-then-is_among-clause-among : goal.returns-then-is_among-clause-among
returns-then-is_among-clause-among c =
    let lines = c.args.lines.now.items in
    let line = c.args.line in
    let there : is_among lines line ≡ true = ap (λ ls. is_among ls line) (sym c.as_slice.ensures.value) ∙ sym c.is_among.ensures ∙ c.if-is_among.true in
    λ n. among_there lines line n there

pub returns-clause-among : goal.returns-clause-among
returns-clause-among c =
    let lines = c.args.lines.now.items in
    let line = c.args.line in
    subst (λ xs. (n : ℕ) → is_among xs n ≡ (nat_eq n line || is_among lines n)) (sym c.in_ok-insert.ensures.items)
    (λ n. among_insert lines line c.position_of-index.result n)

pub returns-clause-rising : goal.returns-clause-rising
returns-clause-rising c = λ rising.
    let lines = c.args.lines.now.items in
    let line = c.args.line in
    let index = c.position_of-index.result in
    let here = c.as_slice-2.ensures.value in
    subst AreRising (sym c.in_ok-insert.ensures.items)
    (IsNonDecreasingBy-insert (λ n. n) lines index line rising (subst (λ ls. index ≤ length ls) here c.position_of-index.ensures.few)
    (λ k d below. subst (λ ls. slice_index_or ls k d ≤ line) here (c.position_of-index.ensures.before k d below))
    (λ k d above inside.
    let later = rising index k d above inside in
    let next = subst (λ ls. index < length ls → line < slice_index_or ls index d) here (c.position_of-index.ensures.after d) in
    let under = next (omega (arith, above, inside)) in
    omega (arith, later, under)))
