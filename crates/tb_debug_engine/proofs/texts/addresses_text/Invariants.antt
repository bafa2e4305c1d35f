-- What holds at each turn of the loop of `addresses_text` in src/texts.rt.
use Rattle.std.proofs.Common.{◌≡◌, take}
use Rattle.std.specs.Prelude.{flat_map}
use Rattle.tb_debug_engine.specs.Texts.{address_line}
use Rattle.tb_debug_engine.proofs.texts.addresses_text.Given as goal

abbrev pub invariant-loop-address : goal.invariant-loop-address
invariant-loop-address l = l.text.items ≡ flat_map address_line (take l.address-index l.addresses)
