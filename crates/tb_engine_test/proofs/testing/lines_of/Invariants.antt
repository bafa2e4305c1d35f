-- What holds at each turn of the loop of `lines_of` in src/testing.rt.
use Rattle.std.proofs.Common.{◌≡◌, map, take}
use Rattle.tb_engine_test.proofs.testing.lines_of.Given as goal

abbrev pub invariant-loop-turn : goal.invariant-loop-turn
invariant-loop-turn l = map (λ v. v.items) l.lines.items ≡ map (λ t. t.typed.items) (take l.turn-index l.turn-items)
