-- The goals of `StopPoints::turn_watch` in src/breakpoints.rt.
use Rattle.std.proofs.Common.{◌≡◌, nat_eq, true, false, rules, ap, sym, ◌∙◌, subst}
use Rattle.std.specs.Prelude.{not}
use Rattle.std.proofs.lemmas.Fn.{filter_same}
use Rattle.tb_words.specs.Letters.{letter_index}
use Rattle.tb_debug.specs.Breakpoints.{WatchTurned, is_watched}
use Rattle.tb_debug.proofs.Turning.{watch_cleared, watch_set}
use Rattle.tb_debug.proofs.breakpoints.StopPoints.turn_watch.Goals as goal

pub returns-then-is_watched-clause-turned : goal.returns-then-is_watched-clause-turned
returns-then-is_watched-clause-turned c =
    let letters = c.args.self.now.watches.items in
    let index = letter_index c.args.letter in
    let there : is_watched letters index ≡ true =
    ap (is_watched letters) (sym c.index-index.ensures.place) ∙ ap (λ ls. is_watched ls c.index-index.result) (sym c.as_slice.ensures.value)
    ∙ sym c.is_watched.ensures ∙ c.if-is_watched.true in
    let left = filter_same _ (λ x. not (nat_eq (letter_index x) index)) _ (λ x b f' k. search rules) _ _ c.retain.ensures.filtered in
    subst (WatchTurned index letters) (sym left) (watch_cleared letters index there)

pub returns-clause-turned : goal.returns-clause-turned
returns-clause-turned c =
    let letters = c.args.self.now.watches.items in
    let index = letter_index c.args.letter in
    let none : is_watched letters index ≡ false =
    ap (is_watched letters) (sym c.index-index.ensures.place) ∙ ap (λ ls. is_watched ls c.index-index.result) (sym c.as_slice.ensures.value)
    ∙ sym c.is_watched.ensures ∙ c.if-is_watched.false in
    subst (WatchTurned index letters) (sym c.in_ok-push.ensures.items) (watch_set letters c.args.letter none)
