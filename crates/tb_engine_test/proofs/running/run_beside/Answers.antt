-- The goal of `run_beside` in src/running.rt: the rude ROM has the seed that is asked for.
use Rattle.tb_engine_test.proofs.running.run_beside.Goals as goal

pub returns-in-Some : goal.returns-in-Some
returns-in-Some c = rw c.in-Some.is (rw c.new.ensures at c.run_lines.ensures)
