-- What holds at each turn of the loop of `collect` in src/meaning.rt.
use Rattle.std.proofs.Common.{◌≡◌, ◌++◌, drop, map}
use Rattle.tb_asm.specs.Layout.{entry_of}
use Rattle.tb_assembly_meaning.specs.Names.{named}
use Rattle.tb_assembly_meaning.specs.Places.{laid_of}
use Rattle.tb_assembly_meaning.specs.Meaning.{faults_from, items_from}
use Rattle.tb_assembly_meaning.proofs.meaning.collect.Given as goal

abbrev pub invariant-loop-index : goal.invariant-loop-index
invariant-loop-index l =
    (map entry_of l.items.items ++ items_from (named l.symbols.entries) (drop l.index (map laid_of l.laid))
    ≡ items_from (named l.symbols.entries) (map laid_of l.laid))
    × (l.faults.items ++ faults_from (named l.symbols.entries) l.index (drop l.index (map laid_of l.laid))
    ≡ faults_from (named l.symbols.entries) 0 (map laid_of l.laid))
