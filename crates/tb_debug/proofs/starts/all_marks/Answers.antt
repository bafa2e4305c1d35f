-- The goals of `all_marks` in src/starts.rt.
use Rattle.tb_debug.proofs.starts.all_marks.Goals as goal

pub returns : goal.returns
returns c = c.in_ok-begins.ensures.items_if_clones_equal (λ y e. e)
