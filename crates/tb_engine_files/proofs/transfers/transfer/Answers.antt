-- The goal of `transfer` in src/transfers.rt.
use Rattle.std.proofs.Common.{map}
use Rattle.tb_engine_files.specs.Deeds.{Works}
use Rattle.tb_engine_files.proofs.Orders.{nothing_made, some_read}
use Rattle.tb_engine_files.proofs.transfers.transfer.Goals as goal

pub returns-in-Err-make : goal.returns-in-Err-make
returns-in-Err-make g c =
    let inputs = map (λ p. p.now) c.args.inputs.now in
    let taken = c.in_default.ensures.taken in
    nothing_made g.F.FileSystem.does g.F.FileSystem.holds (Works g.W.Work.takes g.W.Work.makes c.args.work.now inputs) c.args.files.now
    inputs (map (λ p. p.now) c.args.outputs.now) c.in-Err-make.failure c.of-in-Err-make.result c.of-in-Err-make.ensures c.in-Err-make.ensures.refused c.take_all.new.files
    (some_read g.F.FileSystem.does g.F.FileSystem.holds c.args.files.now c.take_all.new.files inputs taken.0 taken.1)
