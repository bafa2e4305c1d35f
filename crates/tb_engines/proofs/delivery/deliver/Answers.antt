-- The goals of `deliver` in src/delivery.rt.
use Rattle.std.proofs.Common.{rules, refl}
use Rattle.tb_engines.proofs.Undelivered.{nothing_fails, nothing_written}
use Rattle.tb_engines.proofs.delivery.deliver.Goals as goal

pub returns-clause-answers : goal.returns-clause-answers
returns-clause-answers g c =
    (c.in-Ok.text.bytes.items, c.in-Ok.text.end, rw c.in-Ok.is refl, search rules)

pub returns-in-Err-clause-answers : goal.returns-in-Err-clause-answers
returns-in-Err-clause-answers g c =
    nothing_written c.args.made c.in-Err.stop c.from.result _ c.in-Err.is c.from.ensures

pub returns-in-Err-clause-faults : goal.returns-in-Err-clause-faults
returns-in-Err-clause-faults g c = nothing_fails c.in-Err.stop c.from.result _ _ c.from.ensures
