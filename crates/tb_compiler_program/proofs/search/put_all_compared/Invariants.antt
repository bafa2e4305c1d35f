-- What holds at each turn of the loop of `put_all_compared` in src/search.rt.
use Rattle.std.proofs.Common.{◌≡◌, ◌++◌, map, drop}
use Rattle.tb_asm.specs.Layout.{entry_of}
use Rattle.tb_compiler_program.specs.Search.{all_compared}
use Rattle.tb_compiler_program.proofs.search.put_all_compared.Given as goal

abbrev pub invariant-loop-number : goal.invariant-loop-number
invariant-loop-number l = map entry_of l.items.items ++ all_compared (drop l.number-index l.numbers) ≡ map entry_of l.initial.items.items ++ all_compared l.numbers
