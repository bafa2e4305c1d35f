-- What holds at each turn of the loop of `places_of` in src/sources.rt.
use Rattle.std.proofs.Common.{◌≡◌, ℕ, drop}
use Rattle.std.specs.BTreeMap as tree
use Rattle.std.specs.Ordering.{nat_cmp}
use Rattle.tb_basic_names.specs.Sources.{edits_of, joined, standing, standing_from}
use Rattle.tb_basic_names.proofs.sources.places_of.Given as goal

abbrev pub invariant-loop-i : goal.invariant-loop-i
invariant-loop-i l = (n : ℕ) → standing_from n l.i (joined (tree.get nat_cmp l.places n)) (edits_of (drop l.i l.lines)) ≡ standing n (edits_of l.lines)
