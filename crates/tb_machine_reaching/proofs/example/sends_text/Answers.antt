-- The goals of `sends_text` in src/example.rt.
use Rattle.tb_machine_reaching.proofs.example.sends_text.Goals as goal
use Rattle.tb_machine_reaching.proofs.HelloRuns.{sends_text}

pub returns : goal.returns
returns c = sends_text
