-- The goals of `Machine::enter` in src/machine.rt.
use Rattle.std.proofs.Common.{rules, arith}
use Rattle.tb_kernal.proofs.machine.Machine.enter.Goals as goal

pub returns-clause-start : goal.returns-clause-start
returns-clause-start c place bytes loaded holds pc =
    record {
      loaded = loaded;
      holds_bytes = holds;
      pc = pc;
      s_from = omega arith;
      s_to = omega arith;
      home = search rules;
      home_s = search rules;
      in_rom = search rules;
      no_service = search rules;
      nothing_refused = search rules;
      nothing_sent = search rules;
    }
