-- What holds at each turn of the loop of `push_times` in src/texts.rt.
use Rattle.std.proofs.Common.{◌≡◌, ◌++◌, replicate}
use Rattle.tb_basic_signs.proofs.texts.push_times.Given as goal

abbrev pub invariant-loop : goal.invariant-loop
invariant-loop l = l.bytes.items ≡ l.initial.bytes.items ++ replicate l.counter l.byte
