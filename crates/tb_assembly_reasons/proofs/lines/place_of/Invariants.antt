-- What holds at each turn of the loop of `place_of` in src/lines.rt.
use Rattle.std.proofs.Common.{◌≡◌, ◌+◌, drop, map}
use Rattle.tb_assembly_reasons.specs.Lines.{place_of}
use Rattle.tb_assembly_reasons.proofs.lines.place_of.Given as goal

abbrev pub invariant-loop-i : goal.invariant-loop-i
invariant-loop-i l = place_of (l.i + 1) l.left (map (λ t. t.now) (drop l.i l.lines)) ≡ place_of 1 l.item (map (λ t. t.now) l.lines)
