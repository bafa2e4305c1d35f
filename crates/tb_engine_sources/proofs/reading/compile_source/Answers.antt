-- The goals of `compile_source` in src/reading.rt.
use Rattle.tb_engine_sources.proofs.ReadSources.{compiled, not_compiled}
use Rattle.std.proofs.Common.{refl}
use Rattle.tb_engine_sources.proofs.reading.compile_source.Goals as goal

pub returns-in-Ok : goal.returns-in-Ok
returns-in-Ok g c = (
  refl,
  compiled g.K.Compile.own c.args.settings _ c.as_slice.result.now c.in-Ok.program c.as_slice.ensures.value c.in-Ok.ensures.found c.in-Ok.ensures.only c.in-Ok.ensures.keeps
      c.in-Ok.ensures.marks,
)

pub returns-in-Err : goal.returns-in-Err
returns-in-Err g c =
    not_compiled g.K.Compile.own c.args.settings _ c.as_slice.result.now c.in-Err.error c.stop_of.result c.as_slice.ensures.value c.in-Err.ensures.found c.in-Err.ensures.only
    c.stop_of.ensures
