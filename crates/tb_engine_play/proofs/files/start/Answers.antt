-- The goals of `start` in src/files.rt.
use Rattle.std.proofs.Common.{rules, ◌≡◌, []}
use Rattle.tb_engine_play.proofs.Starting.{is_started}
use Rattle.tb_engine_play.proofs.files.start.Goals as goal

pub returns : goal.returns
returns c =
    let text : c.new.result.items ≡ [] = search rules in
    let answers : c.new-2.result.items ≡ [] = search rules in
    is_started c.args.file.now c.new.result.items c.new-2.result.items c.start_file.result text answers c.start_file.ensures
