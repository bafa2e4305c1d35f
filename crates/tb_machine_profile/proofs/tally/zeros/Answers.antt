-- The goals of `zeros` in src/tally.rt.
use Rattle.tb_machine_profile.proofs.tally.zeros.Goals as goal

pub returns : goal.returns
returns c = c.in_ok-counts.ensures.items_if_clones_equal (λ y e. e)
