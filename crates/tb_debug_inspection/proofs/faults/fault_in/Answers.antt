-- The goals of `fault_in` in src/faults.rt.
use Rattle.std.proofs.Common.{rules, ◌≡◌, ◌<◌, sym, ◌∙◌, arith}
use Rattle.tb_memmap.specs.Bytes.{at}
use Rattle.tb_debug_inspection.specs.Faults.{fault_in, line_in}
use Rattle.tb_debug_inspection.proofs.Ending.{same_end}
use Rattle.tb_debug_inspection.proofs.faults.fault_in.Goals as goal

pub returns-clause-earlier : goal.returns-clause-earlier
returns-clause-earlier c = λ earlier known.
    let m = at c.args.machine.now.memory in
    let low : line_in m < 65536 = search rules in
    let found : c.first_fault.result ≡ fault_in c.args.machine.now.sent m = search rules in
    found ∙ sym (same_end earlier c.args.machine.now.sent m low known)
