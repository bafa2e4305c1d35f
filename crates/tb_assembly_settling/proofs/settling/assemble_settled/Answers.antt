-- The goals of `assemble_settled` in src/settling.rt.
use Rattle.std.proofs.Common.{map, sym, subst, Result, Ok, Err}
use Rattle.std.specs.Prelude.{IfOk, IfErr}
use Rattle.tb_asm.specs.Layout.{entry_of}
use Rattle.tb_asm.specs.Assembled.{refusal, RefusesAt}
use Rattle.tb_asm.specs.Settle.{SettlesTo, AllReach}
use Rattle.tb_assembly_settling.specs.Settled.{settled}
use Rattle.tb_assembly_settling.proofs.Accepted.{laid_by, laid_at_once}
use Rattle.tb_assembly_settling.proofs.TooLong.{refused_for}
use Rattle.tb_assembly_settling.proofs.settling.assemble_settled.Goals as goal

on_ok : {C E : Type 0} (P Q : C → Type 0) (r : Result C E) → ((c : C) → P c → Q c) → IfOk r P → IfOk r Q
on_ok P Q (Ok c) f h = f c h
on_ok P Q (Err e) f h = tt

on_err : {C E : Type 0} (P Q : E → Type 0) (r : Result C E) → ((e : E) → P e → Q e) → IfErr r P → IfErr r Q
on_err P Q (Ok c) f h = tt
on_err P Q (Err e) f h = f e h

pub returns-in-Ok-clause-laid : goal.returns-in-Ok-clause-laid
returns-in-Ok-clause-laid c =
    let image = c.in-Ok.image in
    laid_at_once c.args.at (map entry_of c.args.items.now) image.at image.bytes.items image.labels.entries c.in-Ok.ensures.laid

pub returns-clause-laid : goal.returns-clause-laid
returns-clause-laid c =
    let at = c.args.at in let es = map entry_of c.args.items.now in let items = map entry_of c.deref.result.now in
    let rounds = subst (λ xs. SettlesTo at es (map entry_of xs)) (sym c.deref.ensures.value) c.in_ok-settled.ensures.settled in
    let reach = subst (λ xs. AllReach at (map entry_of xs)) (sym c.deref.ensures.value) c.in_ok-settled.ensures.reach in
    on_ok _ _ c.assemble-2.result (λ image h. laid_by at es items image.at image.bytes.items image.labels.entries rounds reach h) c.assemble-2.ensures.laid

pub returns-clause-refused : goal.returns-clause-refused
returns-clause-refused c =
    let at = c.args.at in let es = map entry_of c.args.items.now in let items = map entry_of c.deref.result.now in
    let rounds = subst (λ xs. SettlesTo at es (map entry_of xs)) (sym c.deref.ensures.value) c.in_ok-settled.ensures.settled in
    on_err (λ e. RefusesAt (refusal at items) e.kind e.item) _ c.assemble-2.result (λ e h. settled items e.kind e.item rounds h) c.assemble-2.ensures.refused

pub returns-clause-suited : goal.returns-clause-suited
returns-clause-suited c s =
    let at = c.args.at in let es = map entry_of c.args.items.now in let items = map entry_of c.deref.result.now in
    let rounds = subst (λ xs. SettlesTo at es (map entry_of xs)) (sym c.deref.ensures.value) c.in_ok-settled.ensures.settled in
    on_err (λ e. RefusesAt (refusal at items) e.kind e.item) _ c.assemble-2.result (λ e h. refused_for at es s e.kind e.item (settled items e.kind e.item rounds h))
    c.assemble-2.ensures.refused
