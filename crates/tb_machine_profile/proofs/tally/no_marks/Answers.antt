-- The goals of `no_marks` in src/tally.rt.
use Rattle.tb_machine_profile.proofs.tally.no_marks.Goals as goal

pub returns : goal.returns
returns c = c.in_ok-begins.ensures.items_if_clones_equal (λ y e. e)
