-- The goals of `save_all` in src/saving.rt.
use Rattle.std.proofs.Common.{rules, ◌≡◌, Err}
use Rattle.tb_assembly_engine.proofs.Writing.{all_saved, broken_off}
use Rattle.tb_assembly_engine.proofs.saving.save_all.Goals as goal

pub returns-in_err-save_wanted : goal.returns-in_err-save_wanted
returns-in_err-save_wanted g c =
    let same : c.from_residual-in_err-save_wanted.result ≡ Err c.in_err-save_wanted.field-0.0 = search rules in
    broken_off g.F.FileSystem.does _ _ _ c.save.new.files _ _ _ _ _ _ _ _ c.deref.ensures.value c.deref-2.ensures.value same c.in_ok-save.ensures c.in_err-save_wanted.ensures

pub returns : goal.returns
returns g c =
    all_saved g.F.FileSystem.does _ _ c.save.new.files c.save_wanted.new.files _ _ _ _ _ _ _ _ _ _ c.deref.ensures.value c.deref-2.ensures.value c.deref-3.ensures.value
    c.in_ok-save.ensures c.in_ok-save_wanted.ensures c.save_wanted-2.ensures
