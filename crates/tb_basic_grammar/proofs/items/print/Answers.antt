-- The goals of `print` in src/items.rt.
use Rattle.std.proofs.Common.{[], ◌∷◌, ◌++◌, refl, ap, sym, ◌∙◌, map}
use Rattle.std.proofs.lemmas.List.{append-nil}
use Rattle.tb_basic_syntax.specs.PlainData.{item_of}
use Rattle.tb_basic_syntax.specs.Source.{Zone}
use Rattle.tb_basic_grammar.specs.ReadValues.{item_seen}
use Rattle.tb_basic_grammar.proofs.ListLoops.{is_longer, printed_shrinks, printed_next, item_pushed}
use Rattle.tb_basic_grammar.proofs.items.print.Goals as goal

pub loop-rest-smaller-in_ok-push-2 : goal.loop-rest-smaller-in_ok-push-2
loop-rest-smaller-in_ok-push-2 c =
    let i = c.loop-rest.invariant in
    printed_shrinks i.0 c.loop-rest.ends_line (map item_of c.loop-rest.items.items) c.loop-rest.large c.loop-rest.rest.now
    (item_seen c.in_ok-found.found) (is_longer c.loop-rest.rest.now c.loop-rest-test.ensures) i.1 c.in_ok-found.ensures
    44 c.in-Some.others.now c.in-Some.ensures

pub loop-rest-preserved-in_ok-push-2 : goal.loop-rest-preserved-in_ok-push-2
loop-rest-preserved-in_ok-push-2 c =
    let i = c.loop-rest.invariant in
    let item = item_pushed c.loop-rest.items.items c.push.new.self.items _ c.in_ok-push.ensures.items in
    let zone = item_pushed c.push.new.self.items c.push-in-Some.new.self.items _ c.in_ok-push-2.ensures.items in
    printed_next i.0 c.loop-rest.ends_line (map item_of c.loop-rest.items.items) c.loop-rest.large c.loop-rest.rest.now
    (item_seen c.in_ok-found.found) (is_longer c.loop-rest.rest.now c.loop-rest-test.ensures) i.1 c.in_ok-found.ensures
    44 c.in-Some.others.now _ _ c.is_empty-ends_line.result _ _ c.in-Some.ensures refl (zone ∙ ap (λ items. items ++ Zone ∷ []) item) c.if-ends_line.false c.or-large.ensures i.2

pub loop-rest-smaller : goal.loop-rest-smaller
loop-rest-smaller c =
    let i = c.loop-rest.invariant in
    printed_shrinks i.0 c.loop-rest.ends_line (map item_of c.loop-rest.items.items) c.loop-rest.large c.loop-rest.rest.now
    (item_seen c.in_ok-found.found) (is_longer c.loop-rest.rest.now c.loop-rest-test.ensures) i.1 c.in_ok-found.ensures
    59 c.in-Some-behind.others.now c.in-Some-behind.ensures

pub loop-rest-preserved : goal.loop-rest-preserved
loop-rest-preserved c =
    let i = c.loop-rest.invariant in
    let item = item_pushed c.loop-rest.items.items c.push.new.self.items _ c.in_ok-push.ensures.items in
    printed_next i.0 c.loop-rest.ends_line (map item_of c.loop-rest.items.items) c.loop-rest.large c.loop-rest.rest.now
    (item_seen c.in_ok-found.found) (is_longer c.loop-rest.rest.now c.loop-rest-test.ensures) i.1 c.in_ok-found.ensures
    59 c.in-Some-behind.others.now _ _ c.is_empty-ends_line.result _ _ c.in-Some-behind.ensures refl (item ∙ sym (append-nil _)) c.if-ends_line.false c.or-large.ensures i.2
