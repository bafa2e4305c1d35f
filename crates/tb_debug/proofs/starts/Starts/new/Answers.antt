-- The goals of `Starts::new` in src/starts.rt.
use Rattle.std.proofs.Common.{ap, ◌∙◌}
use Rattle.tb_debug.specs.Runs.{is_marked}
use Rattle.tb_debug.proofs.Marking.{all_marked}
use Rattle.tb_debug.proofs.starts.Starts.new.Goals as goal

pub returns-in_ok-all_marks-in-Prg : goal.returns-in_ok-all_marks-in-Prg
returns-in_ok-all_marks-in-Prg c =
    rw c.in-Prg.is (λ a. ap (λ marks. is_marked marks a) c.in_ok-all_marks-in-Prg.ensures ∙ all_marked 65536 a)
