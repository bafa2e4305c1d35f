-- The goal of `alike_bytes` in src/differing.rt: no byte of the other text is left.
use Rattle.std.proofs.Common.{arith, drop}
use Rattle.tb_engine_transcripts.proofs.Same.{no_byte}
use Rattle.tb_engine_transcripts.proofs.differing.alike_bytes.Goals as goal

pub returns-in_default : goal.returns-in_default
returns-in_default c =
    omega (arith, c.loop-byte.invariant.same, no_byte (drop c.loop-byte.byte-index c.args.one.now) c.loop-byte.rest.now c.in_default.len_below)
