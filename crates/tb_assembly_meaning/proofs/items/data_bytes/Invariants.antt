-- What holds at each turn of the loop of `data_bytes` in src/items.rt.
use Rattle.std.proofs.Common.{◌≡◌, ◌++◌, drop, map, Ok}
use Rattle.tb_assembly_text.specs.Lists.{content_of}
use Rattle.tb_assembly_meaning.specs.Names.{named}
use Rattle.tb_assembly_meaning.specs.Places.{and_then}
use Rattle.tb_assembly_meaning.specs.Items.{data_bytes}
use Rattle.tb_assembly_meaning.proofs.items.data_bytes.Given as goal

abbrev pub invariant-loop-datum : goal.invariant-loop-datum
invariant-loop-datum l =
    and_then (data_bytes (named l.symbols.entries) l.at (drop l.datum-index (map content_of l.list))) (λ bs. Ok (l.bytes.items ++ bs))
    ≡ data_bytes (named l.symbols.entries) l.at (map content_of l.list)
