-- What holds at each turn of the loop of `numbers_of` in src/sources.rt.
use Rattle.std.proofs.Common.{◌≡◌, take}
use Rattle.std.specs.Prelude.{map}
use Rattle.tb_compiled.specs.Compiled.{pair_of}
use Rattle.tb_debug_engine.proofs.sources.numbers_of.Given as goal

abbrev pub invariant-loop-start : goal.invariant-loop-start
invariant-loop-start l = l.numbers.items ≡ map (λ p. p.0) (map pair_of (take l.start-index l.starts))
