-- The goal of `check_next` in src/engine.rt.
use Rattle.std.proofs.Common.{subst, Ok}
use Rattle.tb_engine_check.specs.Checks.{bytes_of}
use Rattle.tb_engine_check.proofs.Turns.{next_told}
use Rattle.tb_engine_check.proofs.engine.check_next.Goals as goal

pub returns-in-Ok-clause-next : goal.returns-in-Ok-clause-next
returns-in-Ok-clause-next g c =
    let reads = g.S.Sources.reads in
    next_told g.K.Compile.own reads c.args.settings c.args.sources.now c.read.new.self c.args.name.now c.as_slice.result.now c.in-Ok.source.items
    c.tell.result _ _ c.as_slice.ensures.value c.in-Ok.ensures c.tell.ensures.tells
