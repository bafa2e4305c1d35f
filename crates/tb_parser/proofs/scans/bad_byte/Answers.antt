-- The goals of `bad_byte` in src/scans.rt.
use Rattle.std.proofs.Common.{rules, ◌+◌, ◌∙◌, arith, sym}
use Rattle.tb_parser.proofs.Steps.{bad_later, bad_here, bad_nowhere, remark_good}
use Rattle.tb_parser.proofs.scans.bad_byte.Goals as goal

pub loop-i-preserved : goal.loop-i-preserved
loop-i-preserved c =
    let later = bad_later c.args.line.now c.loop-i.i c.loop-i.mode (c.loop-i.i + 1) (omega arith) (sym c.is_bad_byte.ensures ∙ c.if-is_bad_byte.false) in
    rw (c.after-mode.ensures) (later ∙ c.loop-i.invariant)

pub returns-then-is_bad_byte : goal.returns-then-is_bad_byte
returns-then-is_bad_byte c =
    sym (bad_here c.args.line.now c.loop-i.i c.loop-i.mode (c.loop-i.i + 1) (omega arith) (sym c.is_bad_byte.ensures ∙ c.if-is_bad_byte.true)) ∙ c.loop-i.invariant

pub returns : goal.returns
returns c = sym (bad_nowhere c.args.line.now c.loop-i.i c.loop-i.mode (c.loop-i.i + 1) (omega arith)) ∙ c.loop-i.invariant

pub returns-in-Remark : goal.returns-in-Remark
returns-in-Remark c = sym (remark_good c.loop-i.mode (c.loop-i.i + 1) _ (search rules)) ∙ c.loop-i.invariant
