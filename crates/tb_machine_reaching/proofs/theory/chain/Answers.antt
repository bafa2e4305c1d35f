-- The goals of `chain` in src/theory.rt.
use Rattle.tb_machine_reaching.proofs.theory.chain.Goals as goal
use Rattle.tb_machine_reaching.specs.Laws.{Passes}
use Rattle.tb_machine_reaching.proofs.Laws.{chain}

pub returns : goal.returns
returns c w p q r t u n m first second = chain (Passes w) (Passes p) (Passes q) (Passes r) t u n m first second
