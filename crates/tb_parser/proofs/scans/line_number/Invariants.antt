-- What holds at each turn of the loop of `line_number` in src/scans.rt.
use Rattle.std.proofs.Common.{◌≡◌, ◌≤◌, length}
use Rattle.tb_parser.specs.Scans.{number_at}
use Rattle.tb_parser.proofs.scans.line_number.Given as goal

abbrev pub invariant-loop-digit : goal.invariant-loop-digit
invariant-loop-digit l = record {
  so_far : number_at l.value l.rest ≡ number_at 0 l.fn.placed;
  low : l.value ≤ 32767;
}

abbrev pub decreases-loop-digit : goal.decreases-loop-digit
decreases-loop-digit l = length l.rest
