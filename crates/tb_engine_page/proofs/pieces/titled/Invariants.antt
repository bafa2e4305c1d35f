-- What holds at each turn of the loop of `titled` in src/pieces.rt.
use Rattle.std.proofs.Common.{◌≡◌, take}
use Rattle.std.specs.Prelude.{flat_map}
use Rattle.tb_engine_page.specs.Pages.{titled_byte}
use Rattle.tb_engine_page.proofs.pieces.titled.Given as goal

abbrev pub invariant-loop-byte : goal.invariant-loop-byte
invariant-loop-byte l = l.text.items ≡ flat_map titled_byte (take l.byte-index l.byte-items)
