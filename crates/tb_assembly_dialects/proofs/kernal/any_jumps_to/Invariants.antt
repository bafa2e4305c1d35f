-- What holds at each turn of the loop of `any_jumps_to` in src/kernal.rt.
use Rattle.std.proofs.Common.{◌≡◌, drop, map}
use Rattle.tb_asm.specs.Layout.{entry_of}
use Rattle.tb_assembly_dialects.specs.Kernal.{any_jumps_to}
use Rattle.tb_assembly_dialects.proofs.kernal.any_jumps_to.Given as goal

abbrev pub invariant-loop-item : goal.invariant-loop-item
invariant-loop-item l = any_jumps_to l.at (map entry_of (drop l.item-index l.items)) ≡ any_jumps_to l.at (map entry_of l.items)
