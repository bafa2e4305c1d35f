-- The goals of `written` in src/scans.rt.
use Rattle.std.proofs.Common.{◌+◌, ◌∙◌, arith, sym}
use Rattle.tb_parser.proofs.Steps.{written_later, written_here, written_nowhere}
use Rattle.tb_parser.proofs.scans.written.Goals as goal

pub loop-i-preserved : goal.loop-i-preserved
loop-i-preserved c = written_later c.args.line.now c.loop-i.i (c.loop-i.i + 1) (omega arith) (omega arith) ∙ c.loop-i.invariant

pub returns-then-byte-ne32 : goal.returns-then-byte-ne32
returns-then-byte-ne32 c = sym (written_here c.args.line.now c.loop-i.i (c.loop-i.i + 1) (omega arith) c.if-byte-ne32.true) ∙ c.loop-i.invariant

pub returns : goal.returns
returns c = sym (written_nowhere c.args.line.now c.loop-i.i (c.loop-i.i + 1) (omega arith)) ∙ c.loop-i.invariant
