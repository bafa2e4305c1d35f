-- The goal of `line_beside` in src/places.rt: the rude ROM has the seed that is asked for.
use Rattle.tb_engine_test.proofs.places.line_beside.Goals as goal

pub returns-in-Some : goal.returns-in-Some
returns-in-Some c = rw c.in-Some.is (rw c.new.ensures at c.line_at.ensures)
