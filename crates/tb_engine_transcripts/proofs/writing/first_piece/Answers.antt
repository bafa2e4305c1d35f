-- The goals of `first_piece` in src/writing.rt.
use Rattle.std.proofs.Common.{◌+◌, arith, length-drop}
use native.Mathlib.Numerals.{unary_clauses}
use Rattle.tb_engine_transcripts.proofs.Pieces.{first_piece, only_piece, rest_of}
use Rattle.tb_engine_transcripts.proofs.writing.first_piece.Goals as goal

pub returns-then-byte-eq10 : goal.returns-then-byte-eq10
returns-then-byte-eq10 c =
    let text = c.args.text.now in
    let i = c.loop-i.i in
    let piece = first_piece text i (omega arith) c.loop-i.invariant c.if-byte-eq10.true in
    rw (rest_of text (i + 1)) (
      simp unary_clauses piece,
      omega (arith, length-drop (i + 1) text),
    )

pub returns : goal.returns
returns c = only_piece c.args.text.now (λ k lt. c.loop-i.invariant k (omega arith))
