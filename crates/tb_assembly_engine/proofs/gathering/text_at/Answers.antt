-- The goals of `text_at` in src/gathering.rt.
use Rattle.tb_assembly_engine.proofs.Reading.{read_taken, takes_nothing}
use Rattle.tb_assembly_engine.proofs.gathering.text_at.Goals as goal

pub returns-in-Ok : goal.returns-in-Ok
returns-in-Ok g c =
    read_taken g.F.FileSystem.does g.F.FileSystem.holds c.read_text.result _ _ c.args.path.now c.in-Ok.name.now c.in-Ok.ensures.cases.1 c.in-Ok.ensures.cases.0
    c.read_text.ensures

pub returns-in-Err : goal.returns-in-Err
returns-in-Err g c = takes_nothing g.F.FileSystem.does g.F.FileSystem.holds _ _ c.in-Err.ensures.cases.0
