-- What holds at each turn of the loop of `alike_lines` in src/differing.rt.
use Rattle.std.proofs.Common.{◌≡◌, ◌≤◌, ◌+◌, drop, length, map}
use Rattle.tb_engine_transcripts.specs.Differing.{alike_lines}
use Rattle.tb_engine_transcripts.proofs.differing.alike_lines.Given as goal

abbrev pub invariant-loop-line : goal.invariant-loop-line
invariant-loop-line l = record {
  same : l.count + alike_lines (map (λ m. m.now) (drop l.line-index l.one)) (map (λ m. m.now) l.rest) ≡ alike_lines (map (λ m. m.now) l.one) (map (λ m. m.now) l.other);
  within : l.count ≤ l.line-index;
  other : l.count + length l.rest ≡ length l.other;
}
