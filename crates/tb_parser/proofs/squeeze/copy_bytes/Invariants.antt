-- What holds at each turn of the loop of `copy_bytes` in src/squeeze.rt.
use Rattle.std.proofs.Common.{◌≡◌, ◌≤◌, length, map, take, vec_len, vec_capacity}
use Rattle.tb_parser.proofs.squeeze.copy_bytes.Given as goal

abbrev pub invariant-loop-one : goal.invariant-loop-one
invariant-loop-one l = record {
  copied : l.bytes.items ≡ map (λ p. p.byte) (take l.one-index l.placed);
  few : vec_len l.bytes ≡ l.one-index;
  room : length l.placed ≤ vec_capacity l.bytes;
}
