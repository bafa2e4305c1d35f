-- The goals of `never_wrong` in src/theory.rt.
use Rattle.std.proofs.Common.{◌≡◌, true}
use Rattle.tb_machine_reaching.proofs.theory.never_wrong.Goals as goal
use Rattle.tb_machine_reaching.proofs.Ends.{never_wrong}

pub returns : goal.returns
returns c f v q t n law = never_wrong f v (λ w. q w ≡ true) t n law
