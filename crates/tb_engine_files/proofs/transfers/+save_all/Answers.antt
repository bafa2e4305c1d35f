-- The goal of `save_all` in src/transfers.rt.
use Rattle.std.proofs.Common.{◌-◌, ◌∷◌, ◌∙◌, ap, sym, subst, take, drop, length, get_or, [], Ok, Bor, List, ℕ}
use Rattle.tb_engine_files.specs.Deeds.{Saves}
use Rattle.tb_engine_files.proofs.Orders.{first_of, saved_more}
use Rattle.tb_engine_files.proofs.transfers.+save_all.Goals as goal

pub returns-clause-broken : goal.returns-clause-broken
returns-clause-broken g t c =
    let all = c.args.outputs.now in
    let each = c.args.texts.now in
    let none : Bor (List ℕ) = record { ref_ptr = (0, 0); now = [] } in
    saved_more g.F.FileSystem.does c.save_all.result c.args.files.now c.save.new.self c.save_all.new.files (get_or all 0 none)
    (take (length all - 1) (drop 1 all)) all c.text-item.result (take (length each - 1) (drop 1 each)) each
    (first_of all none c.in-len1-up.len_at_least)
    (first_of each c.text-item.result c.in-len1-up-texts.len_at_least ∙ ap (λ t. t ∷ take (length each - 1) (drop 1 each)) (sym c.text-item.is))
    (subst (λ t. g.F.FileSystem.does c.args.files.now (Saves (get_or all 0 none).now t (Ok tt)) c.save.new.self) c.as_slice.ensures.value c.in_ok-save.ensures)
    c.save_all.ensures.broken
