-- What holds at each turn of the loop of `talk_to` in src/talk.rt.
use Rattle.std.proofs.Common.{map, drop}
use Rattle.tb_engine_test.proofs.Talking.{GoesOn}
use Rattle.tb_engine_test.proofs.talk.talk_to.Given as goal

abbrev pub invariant-loop-line : goal.invariant-loop-line
invariant-loop-line g l =
    GoesOn g.O.Outside.gives l.initial.outside l.initial.machine l.manner (map (λ v. v.items) l.lines)
    l.outside l.machine (map (λ v. v.items) (drop l.line-index l.lines)) l.turns.items l.rows.items
