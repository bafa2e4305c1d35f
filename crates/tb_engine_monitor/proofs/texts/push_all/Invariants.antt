-- What holds at each turn of the loop of `push_all` in src/texts.rt.
use Rattle.std.proofs.Common.{◌≡◌, ◌+◌, ◌++◌, drop}
use Rattle.tb_engine_monitor.specs.Files.{texts_from}
use Rattle.tb_engine_monitor.proofs.texts.push_all.Given as goal

abbrev pub invariant-loop-index : goal.invariant-loop-index
invariant-loop-index l = l.text.items ++ texts_from (l.index + 1) (drop l.index l.list) ≡ l.initial.text.items ++ texts_from 1 l.list
