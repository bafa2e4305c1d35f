-- The goals of `start_program` in src/starting.rt.
use Rattle.std.proofs.Common.{subst}
use Rattle.tb_engines.specs.Programs.{StartsPrg}
use Rattle.tb_engine_sources.proofs.Loadable.{starts_loadable}
use Rattle.tb_engine_sources.proofs.starting.start_program.Goals as goal

pub returns-clause-loadable : goal.returns-clause-loadable
returns-clause-loadable c loadable =
    let text = c.args.keyboard.text.items in
    let answers = c.args.keyboard.answers.items in
    starts_loadable text answers c.args.program.now c.start_file.result
    (subst (λ f. StartsPrg text answers f c.start_file.result) c.prg.ensures c.start_file.ensures) loadable
