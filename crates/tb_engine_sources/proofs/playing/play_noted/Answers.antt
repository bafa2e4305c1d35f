-- The goals of `play_noted` in src/playing.rt.
use Rattle.std.proofs.Common.{subst}
use Rattle.tb_engine_play.specs.Plays.{LeavesOfFile}
use Rattle.tb_engine_sources.proofs.Noted.{tells_play}
use Rattle.tb_engine_sources.proofs.playing.play_noted.Goals as goal

pub returns-clause-note : goal.returns-clause-note
returns-clause-note g c =
    let left = c.play_compiled-left.result in
    tells_play c.args.limit c.args.program.now left.played.outcome left.played.typed.items left.machine c.left_note-note.result
    (subst (λ file. LeavesOfFile c.args.limit file left.played.outcome left.played.typed.items left.machine) c.prg.ensures c.play_compiled-left.ensures.left)
    c.left_note-note.ensures
