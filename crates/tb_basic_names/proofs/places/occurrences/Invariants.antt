-- What holds at each turn of the loop of `occurrences` in src/places.rt.
use Rattle.std.proofs.Common.{◌≡◌, ◌++◌, drop}
use Rattle.tb_basic_names.specs.Places.{named_from}
use Rattle.tb_basic_names.proofs.places.occurrences.Given as goal

abbrev pub invariant-loop-i : goal.invariant-loop-i
invariant-loop-i l =
    l.found.items ++ named_from l.name l.declared l.i (drop l.i l.source.lines.items) ≡ named_from l.name l.declared 0 l.source.lines.items
