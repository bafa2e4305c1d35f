-- What holds at each turn of the loop of `check_sources` in src/engine.rt.
use Rattle.std.proofs.Common.{◌≡◌, take, map}
use Rattle.std.specs.Prelude.{string_bytes}
use Rattle.tb_engine_check.proofs.Turns.{Stands}
use Rattle.tb_engine_check.proofs.engine.check_sources.Given as goal

abbrev pub invariant-loop-name : goal.invariant-loop-name
invariant-loop-name g l =
    Stands g.K.Compile.own g.S.Sources.reads l.settings l.initial.sources (take l.name-index (map string_bytes l.names))
    (g.W.Write.contents l.initial.writer.stream) l.sources (g.W.Write.contents l.writer.stream) l.marks
    × (l.writer.failures ≡ l.initial.writer.failures)
