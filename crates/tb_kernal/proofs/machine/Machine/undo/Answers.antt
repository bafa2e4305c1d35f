-- The goals of `Machine::undo` in src/machine/undoing.rt.
use Rattle.std.proofs.Common.{rules}
use Rattle.tb_kernal.proofs.TakingBack.{takes_back}
use Rattle.tb_kernal.proofs.machine.Machine.undo.Goals as goal

pub returns-clause-taken_back : goal.returns-clause-taken_back
returns-clause-taken_back c = takes_back c.args.undo.now c.args.self.now _ (search rules)
