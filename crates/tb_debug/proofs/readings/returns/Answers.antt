-- The goals of `returns` in src/readings.rt.
use Rattle.std.proofs.Common.{ap, ◌∙◌}
use Rattle.tb_memmap.specs.Bytes.{at}
use Rattle.tb_compiled.specs.Compiled.{starts_of}
use Rattle.tb_debug.specs.Lines.{line_at}
use Rattle.tb_debug.proofs.Returns.{one_told}
use Rattle.tb_debug.proofs.readings.returns.Goals as goal

pub loop-told-preserved : goal.loop-told-preserved
loop-told-preserved c =
    let lines = starts_of c.args.program.now in
    one_told lines (at c.args.memory.now) c.loop-told.lines.items c.depth_in-count.result c.loop-told.told c.push.new.self.items c.line_from.result
    c.loop-told-test.true c.in_ok-push.ensures.items (c.line_from.ensures ∙ ap (line_at lines) c.return_address.ensures) c.loop-told.invariant
