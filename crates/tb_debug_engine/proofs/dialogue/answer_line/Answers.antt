-- The goals of `answer_line` in src/dialogue.rt.
use Rattle.std.proofs.Common.{inr, ap, ◌∙◌}
use Rattle.std.proofs.KnownBytes.{Appends-trans}
use Rattle.tb_engine_streams.specs.Lines.{without_return}
use Rattle.tb_debug.specs.Debuggees.{has_no_source}
use Rattle.tb_debug_engine.specs.Dialogue.{repeated, spelled_by}
use Rattle.tb_debug_engine.specs.Labels.{translated}
use Rattle.tb_debug_engine.specs.Sources.{labels_of}
use Rattle.tb_debug_engine.specs.Streams.{stream_of, streams_of}
use Rattle.tb_debug_engine.specs.declared.dialogue.Dialogue.{Dialogue}
use Rattle.tb_debug_engine.proofs.Exchanging.{answered, said_wrong}
use Rattle.tb_debug_engine.proofs.dialogue.answer_line.Goals as goal

pub returns-in-Ok-say : goal.returns-in-Ok-say
returns-in-Ok-say g c =
    let (took, (prompted, sound)) = rw c.in-Ok-Some.field-0-is at c.in-Ok-Some.ensures in
    let (all, same) = c.in-Ok-say.ensures in
    let d = c.args.dialogue.now in
    let e : Dialogue = record { debugger = c.respond.new.self; last = c.last_move-dialogue.result } in
    let command = c.read_spelled-command.result in
    let line = c.as_slice-2.ensures.value ∙ c.in-Ok.ensures
    ∙ ap (translated (labels_of c.args.source.now)) (c.without_return.ensures ∙ ap without_return c.as_slice.ensures.value) in
    let spelled = c.read_spelled-command.ensures ∙ ap (λ b. spelled_by b (repeated d) c.as_slice-2.result.now) c.has_no_source.ensures
    ∙ ap (spelled_by (has_no_source d.debugger.debuggee) (repeated d)) line in
    let done = c.in-Ok-Some-respond.ensures in (
      c.in-Ok-Some-respond.answer,
      (
        c.in-Ok-Some.line.items,
        took,
        answered c.args.source.now c.args.setting.limit d e command c.in-Ok-Some.line.items _ spelled
            done.run (rw c.in-Ok-Some-respond.field-0-is at done.tells) done.shown done.leaves c.last_move-dialogue.ensures,
      ),
      (Appends-trans _ _ _ _ _ prompted all, same ∙ sound),
    )

pub returns-in-Ok-Some-respond : goal.returns-in-Ok-Some-respond
returns-in-Ok-Some-respond g c =
    let (took, prompted) = rw c.in-Ok-Some.field-0-is at c.in-Ok-Some.ensures in
    let d = c.args.dialogue.now in
    let e : Dialogue = record { debugger = c.respond.new.self; last = c.last_move-dialogue.result } in
    let command = c.read_spelled-command.result in
    let line = c.as_slice-2.ensures.value ∙ c.in-Ok.ensures
    ∙ ap (translated (labels_of c.args.source.now)) (c.without_return.ensures ∙ ap without_return c.as_slice.ensures.value) in
    let spelled = c.read_spelled-command.ensures ∙ ap (λ b. spelled_by b (repeated d) c.as_slice-2.result.now) c.has_no_source.ensures
    ∙ ap (spelled_by (has_no_source d.debugger.debuggee) (repeated d)) line in
    let done = c.in-Ok-Some-respond.ensures in
    let old = streams_of g.R.Read.remaining c.args.streams.now.commands g.W.Write.contents c.args.streams.now.writer in
    let new = streams_of g.R.Read.remaining c.ask.new.streams.commands g.W.Write.contents c.say.new.writer in
    said_wrong c.args.source.now c.args.setting d e c.in-Err-say.outcome c.in-Ok-Some.line.items
    c.in-Ok-Some-respond.answer old new (stream_of g.W.Write.contents c.ask.new.streams.writer) took
    (answered c.args.source.now c.args.setting.limit d e command c.in-Ok-Some.line.items _ spelled
    done.run (rw c.in-Ok-Some-respond.field-0-is at done.tells) done.shown done.leaves c.last_move-dialogue.ensures)
    prompted c.in-Err-say.ensures

pub returns-in-Ok-None-respond : goal.returns-in-Ok-None-respond
returns-in-Ok-None-respond g c =
    let (took, prompted) = rw c.in-Ok-Some.field-0-is at c.in-Ok-Some.ensures in
    let d = c.args.dialogue.now in
    let e : Dialogue = record { debugger = c.respond.new.self; last = c.last_move-dialogue.result } in
    let command = c.read_spelled-command.result in
    let line = c.as_slice-2.ensures.value ∙ c.in-Ok.ensures
    ∙ ap (translated (labels_of c.args.source.now)) (c.without_return.ensures ∙ ap without_return c.as_slice.ensures.value) in
    let spelled = c.read_spelled-command.ensures ∙ ap (λ b. spelled_by b (repeated d) c.as_slice-2.result.now) c.has_no_source.ensures
    ∙ ap (spelled_by (has_no_source d.debugger.debuggee) (repeated d)) line in
    let done = c.in-Ok-None-respond.ensures in (
      inr (
        c.in-Ok-Some.line.items,
        e,
        took,
        answered c.args.source.now c.args.setting.limit d e command c.in-Ok-Some.line.items _ spelled
            done.run (rw c.in-Ok-None-respond.field-0-is at done.tells) done.shown done.leaves c.last_move-dialogue.ensures,
      ),
      prompted,
    )
