-- What holds at each turn of the loop of `far_marks` in src/settling.rt.
use Rattle.std.proofs.Common.{◌≡◌, ◌++◌, drop, map}
use Rattle.tb_assembly_meaning.specs.Names.{named}
use Rattle.tb_assembly_meaning.specs.Places.{laid_of}
use Rattle.tb_assembly_meaning.specs.Settling.{is_far}
use Rattle.tb_assembly_meaning.proofs.settling.far_marks.Given as goal

abbrev pub invariant-loop-one : goal.invariant-loop-one
invariant-loop-one l =
    l.marks.items ++ map (is_far (named l.symbols.entries)) (drop l.one-index (map laid_of l.laid))
    ≡ map (is_far (named l.symbols.entries)) (map laid_of l.laid)
