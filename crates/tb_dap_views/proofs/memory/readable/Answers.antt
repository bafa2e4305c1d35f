-- The goals of `readable` in src/memory.rt.
use Rattle.std.proofs.Common.{rules, ◌<◌}
use Rattle.tb_memmap.specs.Bytes.{at}
use Rattle.tb_dap_views.specs.Memory.{many, readable}
use Rattle.tb_dap_views.proofs.Stepwise.{reads_more, reads_no_more}
use Rattle.tb_dap_views.proofs.memory.readable.Goals as goal

pub returns-in-Err : goal.returns-in-Err
returns-in-Err c =
    let few : c.loop-index.index < many c.args.place c.args.count = search rules in
    reads_no_more (at c.args.memory.now) c.args.place (many c.args.place c.args.count) c.loop-index.index c.in-Err.field-0
    c.loop-index.bytes.items _ few c.in-Err.ensures c.loop-index.invariant

pub loop-index-preserved : goal.loop-index-preserved
loop-index-preserved c =
    let few : c.loop-index.index < many c.args.place c.args.count = search rules in
    reads_more (at c.args.memory.now) c.args.place (many c.args.place c.args.count) c.loop-index.index c.in-Ok.byte
    c.loop-index.bytes.items c.push.new.self.items _ few c.in-Ok.ensures c.in_ok-push-in-Ok.ensures.items c.loop-index.invariant
