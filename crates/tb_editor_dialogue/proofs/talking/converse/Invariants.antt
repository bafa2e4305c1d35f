-- What holds at each turn of the loop of `converse` in src/talking.rt.
use Rattle.tb_editor_dialogue.specs.Dialogue.{Talks, moment, streams}
use Rattle.tb_editor_dialogue.proofs.talking.converse.Given as goal

abbrev pub invariant-loop : goal.invariant-loop
invariant-loop g l = Talks g.T.Talker.takes
    (moment l.initial.talker (streams (g.R.Read.remaining l.initial.reader.stream) l.initial.reader.failures (g.W.Write.contents l.initial.writer.stream) l.initial.writer.failures))
    (moment l.talker (streams (g.R.Read.remaining l.reader.stream) l.reader.failures (g.W.Write.contents l.writer.stream) l.writer.failures))
