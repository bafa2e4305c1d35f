-- The goal of `take_one` in src/transfers.rt.
use Rattle.tb_engine_files.proofs.Orders.{one_untaken}
use Rattle.tb_engine_files.proofs.transfers.take_one.Goals as goal

pub returns-clause-broken : goal.returns-clause-broken
returns-clause-broken g c =
    one_untaken g.F.FileSystem.does g.F.FileSystem.holds c.take.result c.args.files.now c.read_file.new.files c.args.path.now c.in_ok-text.ensures.0
    c.take.ensures.refused
