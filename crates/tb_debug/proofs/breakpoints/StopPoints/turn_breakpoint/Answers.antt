-- The goals of `StopPoints::turn_breakpoint` in src/breakpoints.rt.
use Rattle.std.proofs.Common.{◌≡◌, nat_eq, true, false, rules, ap, sym, ◌∙◌, subst}
use Rattle.std.specs.Prelude.{not}
use Rattle.std.proofs.lemmas.Fn.{filter_same}
use Rattle.std.proofs.lemmas.List.Kept.{IsNonDecreasingBy-filter}
use Rattle.tb_debug.specs.Breakpoints.{AreRising, Turned, is_among}
use Rattle.tb_debug.proofs.Turning.{line_cleared, line_set}
use Rattle.tb_debug.proofs.breakpoints.StopPoints.turn_breakpoint.Goals as goal

pub returns-then-is_among-clause-turned : goal.returns-then-is_among-clause-turned
returns-then-is_among-clause-turned c =
    let lines = c.args.self.now.breakpoints.items in
    let line = c.args.line in
    let there : is_among lines line ≡ true = ap (λ ls. is_among ls line) (sym c.as_slice.ensures.value) ∙ sym c.is_among.ensures ∙ c.if-is_among.true in
    let left = filter_same _ (λ x. not (nat_eq x line)) _ (λ x b f' k. search rules) _ _ c.retain.ensures.filtered in
    subst (Turned line lines) (sym left) (line_cleared lines line there)

pub returns-clause-turned : goal.returns-clause-turned
returns-clause-turned c =
    let lines = c.args.self.now.breakpoints.items in
    let line = c.args.line in
    let none : is_among lines line ≡ false = ap (λ ls. is_among ls line) (sym c.as_slice.ensures.value) ∙ sym c.is_among.ensures ∙ c.if-is_among.false in
    line_set lines c.place.new.lines.items line none c.in_ok-place.ensures.among

pub returns-then-is_among-clause-rising : goal.returns-then-is_among-clause-rising
returns-then-is_among-clause-rising c = λ rising.
    let lines = c.args.self.now.breakpoints.items in
    let line = c.args.line in
    let left = filter_same _ (λ x. not (nat_eq x line)) _ (λ x b f' k. search rules) _ _ c.retain.ensures.filtered in
    subst AreRising (sym left) (IsNonDecreasingBy-filter (λ n. n) (λ x. not (nat_eq x line)) lines rising)
