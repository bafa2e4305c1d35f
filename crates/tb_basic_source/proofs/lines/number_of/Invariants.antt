-- What holds at each turn of the loop of `number_of` in src/lines.rt.
use Rattle.std.proofs.Common.{◌≡◌, ◌≤◌, drop}
use Rattle.tb_basic_source.specs.Lines.{number_with}
use Rattle.tb_basic_source.proofs.lines.number_of.Given as goal

abbrev pub invariant-loop-byte : goal.invariant-loop-byte
invariant-loop-byte l = record {
  same : number_with l.number (drop l.byte-index l.line) ≡ number_with 0 l.line;
  few : l.number ≤ 65536;
}
