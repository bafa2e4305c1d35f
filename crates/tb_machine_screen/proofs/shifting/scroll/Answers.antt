-- The goals of `scroll` in src/shifting.rt.
use Rattle.tb_machine_screen.proofs.Copies.{scrolled_by_turn}
use Rattle.tb_machine_screen.proofs.shifting.scroll.Goals as goal

pub returns : goal.returns
returns g c =
    rw (c.fill.ensures, c.rotate_left.ensures.after)
    (scrolled_by_turn c.args.count c.args.filler c.args.elements.now c.requires)
