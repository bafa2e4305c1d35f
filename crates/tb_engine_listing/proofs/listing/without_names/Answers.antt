-- The goals of `without_names` in src/listing.rt.
use Rattle.std.proofs.Common.{map}
use Rattle.tb_runtime16.specs.Addresses.{PROLOGUE_AT}
use Rattle.tb_disasm.specs.Lines.{shown}
use Rattle.tb_engine_listing.proofs.Short.{listing_readable}
use Rattle.tb_engine_listing.proofs.listing.without_names.Goals as goal

pub returns-in_ok-text-in-Ok-clause-readable : goal.returns-in_ok-text-in-Ok-clause-readable
returns-in_ok-text-in-Ok-clause-readable c =
    listing_readable PROLOGUE_AT c.in_ok-text-in-Ok.field-0.items c.args.image.now (map shown c.in-Ok.listing.lines.items) c.in_ok-text-in-Ok.ensures c.in-Ok.ensures.lines.1 c.requires
