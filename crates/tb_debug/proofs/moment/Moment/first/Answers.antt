-- The goals of `Moment::first` in src/moment.rt.
use Rattle.std.proofs.Common.{sym, arith, ◌∙◌}
use Rattle.tb_kernal.specs.Machine.{state_of}
use Rattle.tb_debug.specs.Runs.{first_point}
use Rattle.tb_debug.proofs.Running.{at_start}
use Rattle.tb_debug.proofs.moment.Moment.first.Goals as goal

pub returns-clause-run : goal.returns-clause-run
returns-clause-run c = λ marks. record {
  stands = (λ i. record (first_point (state_of c.args.machine) c.args.rom) { opened = c.variables_in-opened.ensures i }) ∙ sym (at_start marks (first_point (state_of c.args.machine) c.args.rom));
  ran = λ k below. absurd (omega (arith, below));
}
