-- The goals of `open` in src/shifting.rt.
use Rattle.tb_machine_screen.proofs.Copies.{opened_by_copy}
use Rattle.tb_machine_screen.proofs.shifting.open.Goals as goal

pub returns : goal.returns
returns g c =
    rw (c.fill.ensures, c.copy_within.ensures.after)
    (opened_by_copy c.args.at c.args.count c.args.filler c.args.elements.now c.requires)
