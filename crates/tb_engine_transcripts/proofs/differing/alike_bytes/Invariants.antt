-- What holds at each turn of the loop of `alike_bytes` in src/differing.rt.
use Rattle.std.proofs.Common.{◌≡◌, ◌≤◌, ◌+◌, drop}
use Rattle.tb_engine_transcripts.specs.Differing.{alike_bytes}
use Rattle.tb_engine_transcripts.proofs.differing.alike_bytes.Given as goal

abbrev pub invariant-loop-byte : goal.invariant-loop-byte
invariant-loop-byte l = record {
  same : l.count + alike_bytes (drop l.byte-index l.one) l.rest ≡ alike_bytes l.one l.other;
  within : l.count ≤ l.byte-index;
}
