-- The goals of `place_forms` in src/branches.rt.
use Rattle.std.proofs.Common.{◌≡◌, ◌+◌, ◌%◌, ◌<◌, length, drop, map, false, get_or, sym, ap, subst, ◌∙◌, arith}
use Rattle.tb_asm.specs.Layout.{entry_of}
use Rattle.tb_asm.specs.Settle.{round_labels}
use Rattle.tb_asm.specs.Marks.{forms_of}
use Rattle.tb_asm.proofs.Passes.{behind}
use Rattle.tb_asm.proofs.RoundLabels.{PlacesTo, places_none, places_more, places_done, forms_here, behind_none}
use Rattle.tb_asm.proofs.branches.place_forms.Goals as goal

pub loop-index-init : goal.loop-index-init
loop-index-init c =
    let fs = forms_of (map entry_of c.args.items.now) c.args.long.now in
    let within : c.args.at < 65536 = c.ranges.at.fits in
    let at : c.args.at ≡ c.args.at % 65536 = omega arith in
    subst (λ ls. PlacesTo fs ls c.args.at (round_labels c.args.at fs)) (sym c.new-labels.ensures.empty) (places_none c.args.at fs at)

pub loop-index-preserved : goal.loop-index-preserved
loop-index-preserved c =
    let i = c.loop-index.index in
    let below : i < length c.args.items.now = c.loop-index-test.true in
    let marked : i < length c.args.long.now = omega arith in
    places_more (get_or c.args.long.now i false) (entry_of c.index-items-index.result) (forms_of (behind c.args.items.now (i + 1)) (drop (i + 1) c.args.long.now)) c.loop-index.labels.entries
    c.add_label.new.labels.entries c.loop-index.address c.behind-address.result
    (subst (λ fs. PlacesTo fs c.loop-index.labels.entries c.loop-index.address
    (round_labels c.args.at (forms_of (map entry_of c.args.items.now) c.args.long.now)))
    (forms_here c.args.items.now c.args.long.now i c.index-items-index.result below c.index-items-index.is marked) c.loop-index.invariant)
    c.in_ok-add_label.ensures (c.behind-address.ensures ∙ ap (λ n. (c.loop-index.address + n) % 65536) c.size.ensures)

pub returns-clause-found : goal.returns-clause-found
returns-clause-found c =
    let all = round_labels c.args.at (forms_of (map entry_of c.args.items.now) c.args.long.now) in
    places_done c.loop-index.labels.entries c.loop-index.address all
    (subst (λ es. PlacesTo (forms_of es (drop c.loop-index.index c.args.long.now)) c.loop-index.labels.entries c.loop-index.address all)
    (behind_none c.args.items.now c.loop-index.index c.loop-index-test.false) c.loop-index.invariant)
