-- What holds at each turn of the loop of `push_sign` in src/signs.rt.
use Rattle.std.proofs.Common.{◌≡◌, ◌++◌, false, replicate}
use Rattle.tb_parser.proofs.signs.push_sign.Given as goal

abbrev pub invariant-loop : goal.invariant-loop
invariant-loop l = l.placed.items ≡ l.initial.placed.items ++ replicate l.counter (record { byte = l.sign.byte; column = l.column; in_code = false })
