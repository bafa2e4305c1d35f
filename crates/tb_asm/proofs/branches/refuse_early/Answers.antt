-- The goals of `refuse_early` in src/branches.rt.
use Rattle.std.proofs.Common.{map}
use Rattle.tb_asm.specs.declared.errors.AsmErrorKind.TheVariants.{UnknownLabel}
use Rattle.tb_asm.specs.Layout.{entry_of}
use Rattle.tb_asm.specs.Settle.{early}
use Rattle.tb_asm.proofs.Settled.{place_err, unknown_err, never_refused}
use Rattle.tb_asm.proofs.branches.refuse_early.Goals as goal

pub returns-in-Some-clause-refused : goal.returns-in-Some-clause-refused
returns-in-Some-clause-refused c =
    early UnknownLabel c.in-Some.item
    (unknown_err c.args.at (map entry_of c.args.items.now) c.in-Ok.labels.entries c.in-Ok.ensures.placed.0 c.in-Ok.ensures.placed.1 c.in-Some.item c.in-Some.ensures)

pub returns-in-Some-clause-accepted : goal.returns-in-Some-clause-accepted
returns-in-Some-clause-accepted c =
    λ accepted. never_refused c.args.at (map entry_of c.args.items.now) accepted UnknownLabel c.in-Some.item (early UnknownLabel c.in-Some.item
    (unknown_err c.args.at (map entry_of c.args.items.now) c.in-Ok.labels.entries c.in-Ok.ensures.placed.0 c.in-Ok.ensures.placed.1 c.in-Some.item c.in-Some.ensures))

pub returns-clause-refused : goal.returns-clause-refused
returns-clause-refused c = place_err c.args.at (map entry_of c.args.items.now) c.in-Err.error.kind c.in-Err.error.item c.in-Err.ensures.refused

pub returns-clause-accepted : goal.returns-clause-accepted
returns-clause-accepted c =
    λ accepted. never_refused c.args.at (map entry_of c.args.items.now) accepted c.in-Err.error.kind c.in-Err.error.item
    (place_err c.args.at (map entry_of c.args.items.now) c.in-Err.error.kind c.in-Err.error.item c.in-Err.ensures.refused)
