-- What holds at each turn of the loop of `Listing::text` in src/listing.rt.
use Rattle.std.proofs.Common.{◌≡◌, map, take}
use Rattle.tb_disasm.specs.Lines.{shown}
use Rattle.tb_disasm.specs.ListingText.{text_of}
use Rattle.tb_disasm.proofs.listing.Listing.text.Given as goal

abbrev pub invariant-loop-line : goal.invariant-loop-line
invariant-loop-line l = l.text.items ≡ text_of (map shown (take l.line-index l.line-items))
