-- The goals of `lengthen` in src/branches.rt.
use Rattle.std.proofs.Common.{◌≡◌, ◌<◌, false, length, map, replicate, sym, ap, subst, ◌∙◌}
use Rattle.std.proofs.lemmas.List.{length-map, length-replicate}
use Rattle.tb_asm.specs.Layout.{entry_of}
use Rattle.tb_asm.specs.Settle.{Settles, kept, round_labels}
use Rattle.tb_asm.specs.Marks.{forms_of, marks_from, new_mark, FoundAs}
use Rattle.tb_asm.proofs.Rounds.{shorts, fewer, one_more_round, last_round, no_marks, marks_length}
use Rattle.tb_asm.proofs.branches.lengthen.Goals as goal

pub rounds-init : goal.rounds-init
rounds-init c =
    let items = c.args.items.now in
    let es = map entry_of items in
    let long : c.in-Ok.long.items ≡ replicate (length items) false = c.in-Ok.ensures.items_if_clones_equal (λ y h. h) in
    let forms : forms_of es c.in-Ok.long.items ≡ map kept es = ap (forms_of es) (long ∙ ap (λ n. replicate n false) (sym (length-map items entry_of))) ∙ no_marks es in
    (ap length long ∙ length-replicate (length items) false, λ end s. subst (λ fs. Settles c.args.at fs end) forms s)

pub returns-then-not-changed-clause-marks : goal.returns-then-not-changed-clause-marks
returns-then-not-changed-clause-marks c =
    let es = map entry_of c.args.items.now in
    let bs = c.rounds.long.items in
    let found = c.in_ok-labels.labels.entries in
    let same : FoundAs found (round_labels c.args.at (forms_of es bs)) = subst (λ t. FoundAs found (round_labels c.args.at (forms_of es t)))
    c.as_slice-marks.ensures.value c.in_ok-labels.ensures.found in
    let news : c.in_ok-next.changed ≡ new_mark found c.args.at es bs = c.in_ok-next.ensures.marks.1 ∙ ap (new_mark found c.args.at es) c.as_slice-marks.ensures.value in
    c.rounds.invariant.1 (forms_of es bs) (last_round c.args.at es bs found same (sym news ∙ c.if-not-changed.true))

pub rounds-smaller : goal.rounds-smaller
rounds-smaller c =
    let es = map entry_of c.args.items.now in
    let bs = c.rounds.long.items in
    let found = c.in_ok-labels.labels.entries in
    let marks : c.in_ok-next.next.items ≡ marks_from found c.args.at es bs = c.in_ok-next.ensures.marks.0 ∙ ap (marks_from found c.args.at es) c.as_slice-marks.ensures.value in
    let news : c.in_ok-next.changed ≡ new_mark found c.args.at es bs = c.in_ok-next.ensures.marks.1 ∙ ap (new_mark found c.args.at es) c.as_slice-marks.ensures.value in
    subst (λ n. shorts n < shorts bs) (sym marks) (fewer found c.args.at es bs (sym news ∙ c.if-not-changed.false))

pub rounds-preserved : goal.rounds-preserved
rounds-preserved c =
    let items = c.args.items.now in
    let es = map entry_of items in
    let bs = c.rounds.long.items in
    let found = c.in_ok-labels.labels.entries in
    let same : FoundAs found (round_labels c.args.at (forms_of es bs)) = subst (λ t. FoundAs found (round_labels c.args.at (forms_of es t)))
    c.as_slice-marks.ensures.value c.in_ok-labels.ensures.found in
    let marks : c.in_ok-next.next.items ≡ marks_from found c.args.at es bs = c.in_ok-next.ensures.marks.0 ∙ ap (marks_from found c.args.at es) c.as_slice-marks.ensures.value in
    let news : c.in_ok-next.changed ≡ new_mark found c.args.at es bs = c.in_ok-next.ensures.marks.1 ∙ ap (new_mark found c.args.at es) c.as_slice-marks.ensures.value in (
      ap length marks ∙ marks_length found c.args.at es bs (c.rounds.invariant.0 ∙ sym (length-map items entry_of)) ∙ length-map items entry_of,
      λ end s. c.rounds.invariant.1 end (one_more_round c.args.at es bs found same end (sym news ∙ c.if-not-changed.false) (subst (λ t. Settles c.args.at (forms_of es t) end) marks s)),
    )
