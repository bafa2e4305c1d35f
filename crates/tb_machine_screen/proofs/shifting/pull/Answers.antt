-- The goals of `pull` in src/shifting.rt.
use Rattle.tb_machine_screen.proofs.Copies.{pulled_by_copy}
use Rattle.tb_machine_screen.proofs.shifting.pull.Goals as goal

pub returns : goal.returns
returns g c =
    rw c.copy_within.ensures.after
    (pulled_by_copy c.args.at c.args.end c.args.filler c.args.elements.now c.requires.order c.requires.within)
