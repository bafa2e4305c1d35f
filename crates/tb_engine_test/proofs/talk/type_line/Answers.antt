-- The goal of `type_line` in src/talk.rt: the turn is the one that was pushed.
use Rattle.std.proofs.Common.{rules, refl}
use Rattle.tb_engine_test.proofs.talk.type_line.Goals as goal

pub returns : goal.returns
returns c = (record { sent = c.args.sent; typed = c.in_ok-typed.typed }, search rules, search rules, refl, search rules)
