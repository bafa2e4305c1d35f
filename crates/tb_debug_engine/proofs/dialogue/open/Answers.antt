-- The goals of `open` in src/dialogue.rt.
use Rattle.tb_debug_engine.specs.Streams.{stream_of}
use Rattle.tb_debug_engine.proofs.Opening.{first_told, opened}
use Rattle.tb_debug_engine.proofs.dialogue.open.Goals as goal

pub returns : goal.returns
returns g c =
    opened c.args.source.now c.args.setting c.args.debugger.now c.stop.new.self c.in_ok-first.first c.say.result
    (stream_of g.W.Write.contents c.args.writer.now) (stream_of g.W.Write.contents c.say.new.writer)
    (first_told c.args.debugger.now c.stop.new.self c.in_ok-first.first c.standing.result c.standing.ensures c.in_ok-first.ensures.run c.in_ok-first.ensures.shown c.in_ok-first.ensures.tells) c.say.ensures
