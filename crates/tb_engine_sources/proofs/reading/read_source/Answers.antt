-- The goal of `read_source` in src/reading.rt.
use Rattle.tb_engine_streams.specs.Uses.{use_of}
use Rattle.tb_engine_sources.proofs.ReadSources.{source_answered}
use Rattle.tb_engine_sources.proofs.reading.read_source.Goals as goal

pub returns-clause-answers : goal.returns-clause-answers
returns-clause-answers g c =
    source_answered g.K.Compile.own c.args.settings (use_of g.R.Read.remaining c.args.reader.now c.read_input.new.reader) c.in_ok-text.text.items
    c.compile_source.result c.in_ok-text.ensures.whole c.compile_source.ensures c.in_ok-text.ensures.fault
