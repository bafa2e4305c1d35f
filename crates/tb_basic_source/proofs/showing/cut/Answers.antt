-- The goals of `cut` in src/showing.rt.
use Rattle.std.proofs.Common.{sym, arith, length-take-le, take_all}
use Rattle.tb_basic_source.proofs.showing.cut.Goals as goal

pub slice_bounds-result-end : goal.slice_bounds-result-end
slice_bounds-result-end c = sym (length-take-le 120 c.args.line.now (omega (arith, c.if-line-gt-MOST_SHOWN.true)))

pub returns-else-line-gt-MOST_SHOWN : goal.returns-else-line-gt-MOST_SHOWN
returns-else-line-gt-MOST_SHOWN c = sym (take_all 120 c.args.line.now c.if-line-gt-MOST_SHOWN.false)
