-- What holds at each turn of the loop of `answers` in src/dialogue.rt.
use Rattle.std.proofs.Common.{length}
use Rattle.tb_debug_stepping.specs.Lines.{lines_of}
use Rattle.tb_debug_stepping.proofs.Talking.{Told}
use Rattle.tb_debug_stepping.proofs.dialogue.answers.Given as goal

abbrev pub invariant-answering : goal.invariant-answering
invariant-answering g l =
    Told g.O.Outside.gives l.limit l.initial.stepper (lines_of l.initial.rest) l.text.items l.stepper (lines_of l.rest)

abbrev pub decreases-answering : goal.decreases-answering
decreases-answering g l = length l.rest
