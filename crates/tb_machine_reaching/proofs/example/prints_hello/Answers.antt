-- The goals of `prints_hello` in src/example.rt.
use Rattle.tb_machine_reaching.proofs.example.prints_hello.Goals as goal
use Rattle.tb_machine_reaching.proofs.HelloRuns.{prints_hello}

pub returns : goal.returns
returns c = prints_hello
