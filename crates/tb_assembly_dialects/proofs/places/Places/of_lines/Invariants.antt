-- What holds at each turn of the loop of `Places::of_lines` in src/places.rt.
use Rattle.std.proofs.Common.{◌≡◌, drop, map}
use Rattle.tb_disasm.specs.Lines.{shown}
use Rattle.tb_assembly_dialects.specs.Places.{starts_of, targets_of, with_starts, with_targets}
use Rattle.tb_assembly_dialects.proofs.places.Places.of_lines.Given as goal

abbrev pub invariant-loop-line : goal.invariant-loop-line
invariant-loop-line l = record {
  begun : with_starts l.starts.items (map shown (drop l.line-index l.lines)) ≡ starts_of l.end (map shown l.lines);
  aimed : with_targets l.targets.items (map shown (drop l.line-index l.lines)) ≡ targets_of l.end (map shown l.lines);
}
