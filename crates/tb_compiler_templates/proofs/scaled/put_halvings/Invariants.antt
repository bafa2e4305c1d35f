-- What holds at each turn of the loop of `put_halvings` in src/scaled.rt.
use Rattle.std.proofs.Common.{◌≡◌, ◌++◌, map}
use Rattle.tb_asm.specs.Layout.{entry_of}
use Rattle.tb_compiler_templates.specs.Scaled as scaled
use Rattle.tb_compiler_templates.proofs.scaled.put_halvings.Given as goal

abbrev pub invariant-loop : goal.invariant-loop
invariant-loop l = map entry_of l.items.items ≡ map entry_of l.fn.items.items ++ scaled.halvings l.counter
