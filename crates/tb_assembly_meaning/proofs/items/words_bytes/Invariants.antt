-- What holds at each turn of the loop of `words_bytes` in src/items.rt.
use Rattle.std.proofs.Common.{◌≡◌, ◌++◌, drop, map, Ok}
use Rattle.tb_assembly_text.specs.Expressions.{sum_of}
use Rattle.tb_assembly_meaning.specs.Names.{named}
use Rattle.tb_assembly_meaning.specs.Places.{and_then}
use Rattle.tb_assembly_meaning.specs.Items.{words_bytes}
use Rattle.tb_assembly_meaning.proofs.items.words_bytes.Given as goal

abbrev pub invariant-loop-word : goal.invariant-loop-word
invariant-loop-word l =
    and_then (words_bytes (named l.symbols.entries) l.at (drop l.word-index (map sum_of l.words))) (λ bs. Ok (l.bytes.items ++ bs))
    ≡ words_bytes (named l.symbols.entries) l.at (map sum_of l.words)
