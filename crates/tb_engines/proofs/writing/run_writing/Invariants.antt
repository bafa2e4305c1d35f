-- What holds at each turn of the loop of `run_writing` in src/writing.rt.
use Rattle.tb_engine_streams.specs.Uses.{use_of}
use Rattle.tb_engines.proofs.Stretched.{Between}
use Rattle.tb_engines.proofs.writing.run_writing.Given as goal

abbrev pub invariant-stretches : goal.invariant-stretches
invariant-stretches g l =
    Between g.O.Outside.gives g.V.Watch.hears g.met.O.Outside.gives_lawful g.met.O.Outside.gives_blindly l.fn.outside l.fn.machine l.fn.watch l.fn.limit l.left
    l.outside l.machine l.watch l.notation l.is_written (use_of g.W.Write.contents l.initial.writer l.writer)

abbrev pub decreases-stretches : goal.decreases-stretches
decreases-stretches g l = l.left
