-- The goals of `settle` in src/branches.rt.
use Rattle.std.proofs.Common.{◌∙◌, ap, map, sym}
use Rattle.tb_asm.specs.declared.errors.AsmErrorKind.TheVariants.{RunsPast}
use Rattle.tb_asm.specs.Layout.{entry_of}
use Rattle.tb_asm.specs.Settle.{late, past_from}
use Rattle.tb_asm.specs.Marks.{forms_of}
use Rattle.tb_asm.proofs.Settled.{settled_reaches, settled_same, never_refused, settles_by}
use Rattle.tb_asm.proofs.branches.settle.Goals as goal

pub returns-in-Some-clause-refused : goal.returns-in-Some-clause-refused
returns-in-Some-clause-refused c =
    let es = map entry_of c.args.items.now in
    late c.in-Some.item (forms_of es c.in-Ok.long.items) c.in_ok-refuse_early.ensures.none c.in-Ok.ensures.marks
    (ap (λ bs. past_from 0 c.args.at (forms_of es bs)) (sym c.as_slice-marks.ensures.value) ∙ sym c.in-Some.ensures)

pub returns-in-Some-clause-accepted : goal.returns-in-Some-clause-accepted
returns-in-Some-clause-accepted c =
    let es = map entry_of c.args.items.now in
    λ accepted. never_refused c.args.at es accepted RunsPast c.in-Some.item (late c.in-Some.item (forms_of es c.in-Ok.long.items) c.in_ok-refuse_early.ensures.none c.in-Ok.ensures.marks
    (ap (λ bs. past_from 0 c.args.at (forms_of es bs)) (sym c.as_slice-marks.ensures.value) ∙ sym c.in-Some.ensures))

pub returns-in-Ok-rebuild-clause-settled : goal.returns-in-Ok-rebuild-clause-settled
returns-in-Ok-rebuild-clause-settled c =
    settles_by c.args.at (map entry_of c.args.items.now) (map entry_of c.in-Ok-rebuild.settled.items) c.in-Ok.long.items c.as_slice-marks.result.now
    c.in_ok-refuse_early.ensures.none c.in-Ok.ensures.marks c.as_slice-marks.ensures.value c.in_default.ensures c.in-Ok-rebuild.ensures.items

pub returns-in-Ok-rebuild-clause-reach : goal.returns-in-Ok-rebuild-clause-reach
returns-in-Ok-rebuild-clause-reach c =
    settled_reaches c.args.at (map entry_of c.args.items.now) (map entry_of c.in-Ok-rebuild.settled.items)
    (settles_by c.args.at (map entry_of c.args.items.now) (map entry_of c.in-Ok-rebuild.settled.items) c.in-Ok.long.items c.as_slice-marks.result.now
    c.in_ok-refuse_early.ensures.none c.in-Ok.ensures.marks c.as_slice-marks.ensures.value c.in_default.ensures c.in-Ok-rebuild.ensures.items)

pub returns-in-Ok-rebuild-clause-same : goal.returns-in-Ok-rebuild-clause-same
returns-in-Ok-rebuild-clause-same c =
    λ accepted. settled_same c.args.at (map entry_of c.args.items.now) accepted (map entry_of c.in-Ok-rebuild.settled.items)
    (settles_by c.args.at (map entry_of c.args.items.now) (map entry_of c.in-Ok-rebuild.settled.items) c.in-Ok.long.items c.as_slice-marks.result.now
    c.in_ok-refuse_early.ensures.none c.in-Ok.ensures.marks c.as_slice-marks.ensures.value c.in_default.ensures c.in-Ok-rebuild.ensures.items)
