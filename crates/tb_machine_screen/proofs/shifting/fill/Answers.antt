-- The goals of `fill` in src/shifting.rt.
use Rattle.std.proofs.Common.{◌<◌, length, sym, arith}
use Rattle.tb_machine_screen.proofs.Copies.{filled_none, filled_more}
use Rattle.tb_machine_screen.proofs.shifting.fill.Goals as goal

pub loop-i-init : goal.loop-i-init
loop-i-init g c = sym (filled_none c.args.from c.args.filler c.args.elements.now)

pub loop-i-preserved : goal.loop-i-preserved
loop-i-preserved g c =
    let within : c.loop-i.i < length c.args.elements.now = omega (arith, c.loop-i-test.true, c.requires.within) in
    rw c.loop-i.invariant
    (filled_more c.args.from c.loop-i.i c.args.filler c.args.elements.now c.loop-i.auto.i within)
