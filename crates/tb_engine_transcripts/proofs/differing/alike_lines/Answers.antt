-- The goal of `alike_lines` in src/differing.rt: no line of the other text is left.
use Rattle.std.proofs.Common.{◌<◌, arith, drop, length, map}
use Rattle.std.proofs.lemmas.List.{length-map}
use Rattle.tb_engine_transcripts.proofs.Same.{no_line}
use Rattle.tb_engine_transcripts.proofs.differing.alike_lines.Goals as goal

pub returns-in_default-clause-value : goal.returns-in_default-clause-value
returns-in_default-clause-value c =
    let none : length (map (λ m. m.now) c.loop-line.rest.now) < 1 = rw length-map c.in_default.len_below in
    omega (arith, c.loop-line.invariant.same, no_line (map (λ m. m.now) (drop c.loop-line.line-index c.args.one.now)) (map (λ m. m.now) c.loop-line.rest.now) none)
