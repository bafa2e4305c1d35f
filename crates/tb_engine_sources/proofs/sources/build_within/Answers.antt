-- The goals of `build_within` in src/sources.rt.
use Rattle.std.proofs.Common.{◌∙◌}
use Rattle.tb_engine_sources.specs.Sources.{IsFile}
use Rattle.tb_engine_streams.specs.Uses.{use_of}
use Rattle.tb_engine_sources.proofs.ReadSources.{nothing_made, program_made}
use Rattle.tb_engine_sources.proofs.sources.build_within.Goals as goal

pub returns-in-Err-clause-answers : goal.returns-in-Err-clause-answers
returns-in-Err-clause-answers g c =
    nothing_made g.K.Compile.own c.args.settings c.in-Err.stop c.new.result _ _ c.in-Err.ensures.answers (c.new.ensures.outcome ∙ c.of.ensures) c.new.ensures.warnings (λ source. IsFile)

pub returns-clause-answers : goal.returns-clause-answers
returns-clause-answers g c =
    let reader = use_of g.R.Read.remaining c.args.reader.now c.read_source.new.reader in
    let writer = use_of g.W.Write.contents c.args.writer.now c.write_program.new.writer in
    program_made g.K.Compile.own c.args.settings reader c.in-Ok.source c.in-Ok.ensures.answers c.write_program.result writer (λ source. IsFile) c.into_warnings.result.items c.into_warnings.ensures
    c.write_program.ensures.answers
