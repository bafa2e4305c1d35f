-- The goals of `list` in src/listing.rt.
use Rattle.std.proofs.Common.{◌≡◌, ◌∙◌, ℕ, ap, drop, map, subst}
use Rattle.std.specs.declared.alloc.Global.{Global}
use Rattle.std.specs.declared.vec.Vec.{Vec}
use Rattle.std.proofs.lemmas.Result.{IfOk-weaker}
use Rattle.tb_compiled.specs.Compiled.{pair_of, prg_of, starts_of, table_of}
use Rattle.tb_engine_listing.specs.Places.{Shows, ShowsProgram, plan_by}
use Rattle.tb_engine_listing.proofs.Named.{program_shown}
use Rattle.tb_engine_listing.proofs.listing.list.Goals as goal

pub returns-clause-shows : goal.returns-clause-shows
returns-clause-shows c =
    let source = c.args.source.now in
    let compiled = c.args.compiled.now in
    let image = c.behind.result.now in
    let starts = map pair_of c.starts.result.now in
    let table = c.table.result in
    let plan = plan_by starts table image in
    let text = c.in_ok-text.text.items in
    let same : image ≡ drop 14 (prg_of compiled) = c.behind.ensures ∙ ap (drop 14) c.prg.ensures in
    IfOk-weaker c.checked.result (λ (shown : Vec ℕ Global). Shows plan text shown.items)
    (λ (shown : Vec ℕ Global). ShowsProgram source (starts_of compiled) (table_of compiled) (drop 14 (prg_of compiled)) shown.items)
    (λ shown e. subst (λ i. ShowsProgram source (starts_of compiled) (table_of compiled) i shown.items) same
    (subst (λ t. ShowsProgram source (starts_of compiled) t image shown.items) c.table.ensures
    (subst (λ ss. ShowsProgram source ss table image shown.items) c.starts.ensures
    (program_shown source plan text shown.items c.in_ok-text.ensures.text c.in_ok-text.ensures.headed e))))
    c.checked.ensures.either
