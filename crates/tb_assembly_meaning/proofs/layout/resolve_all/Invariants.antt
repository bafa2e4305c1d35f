-- What holds at each turn of the loop of `resolve_all` in src/layout.rt.
use Rattle.std.proofs.Common.{◌≡◌, drop, map}
use Rattle.tb_assembly_meaning.specs.Names.{named}
use Rattle.tb_assembly_meaning.specs.Places.{laid_of, resolved_all}
use Rattle.tb_assembly_meaning.proofs.layout.resolve_all.Given as goal

abbrev pub invariant-loop-one : goal.invariant-loop-one
invariant-loop-one l =
    resolved_all (named l.symbols.entries) (drop l.one-index (map laid_of l.laid))
    ≡ resolved_all (named l.initial.symbols.entries) (map laid_of l.laid)
