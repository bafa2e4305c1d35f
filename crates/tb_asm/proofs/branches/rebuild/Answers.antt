-- The goals of `rebuild` in src/branches.rt.
use Rattle.std.proofs.Common.{◌≡◌, ◌+◌, ◌%◌, ◌<◌, length, drop, map, false, get_or, ap, sym, subst, ◌∙◌, arith, refl, []}
use Rattle.tb_asm.specs.Layout.{entry_of}
use Rattle.tb_asm.specs.Settle.{items_from}
use Rattle.tb_asm.specs.Marks.{forms_of, form_of}
use Rattle.tb_asm.proofs.Passes.{behind}
use Rattle.tb_asm.proofs.RoundLabels.{BuildsTo, builds_more, forms_here}
use Rattle.tb_asm.proofs.branches.rebuild.Goals as goal

pub loop-index-init : goal.loop-index-init
loop-index-init c =
    let none : c.new-settled.result.items ≡ [] = c.new-settled.ensures.items in
    let within : c.args.at < 65536 = c.ranges.at.fits in
    let at : c.args.at ≡ c.args.at % 65536 = omega arith in
    let fs = forms_of (map entry_of c.args.items.now) c.args.long.now in
    subst (λ s. BuildsTo fs (map entry_of s) c.args.at (items_from c.args.at fs)) (sym none) (record { place = c.args.at; address_is = at; items = refl })

pub loop-index-preserved : goal.loop-index-preserved
loop-index-preserved c =
    let i = c.loop-index.index in
    let below : i < length c.args.items.now = c.loop-index-test.true in
    let marked : i < length c.args.long.now = omega arith in
    builds_more (form_of (get_or c.args.long.now i false) (entry_of c.index-items-index.result)) (forms_of (behind c.args.items.now (i + 1))
    (drop (i + 1) c.args.long.now)) (map entry_of c.loop-index.settled.items)
    (map entry_of c.push_form.new.settled.items) c.loop-index.address c.behind-address.result
    (subst (λ fs. BuildsTo fs (map entry_of c.loop-index.settled.items) c.loop-index.address
    (items_from c.args.at (forms_of (map entry_of c.args.items.now) c.args.long.now)))
    (forms_here c.args.items.now c.args.long.now i c.index-items-index.result below c.index-items-index.is marked) c.loop-index.invariant)
    c.in_ok-push_form.ensures (c.behind-address.ensures ∙ ap (λ n. (c.loop-index.address + n) % 65536) c.size.ensures)
