-- The goals of `answer_lines` in src/dialogue.rt.
use Rattle.std.proofs.Common.{rules, [], ◌∷◌, ◌++◌, ◌+◌, ◌≡◌, inr, length, refl, arith, ◌∙◌}
use Rattle.std.proofs.KnownBytes.{Appends-nil}
use Rattle.std.proofs.lemmas.List.{length-append}
use Rattle.tb_debug_engine.specs.Dialogue.{most_lines}
use Rattle.tb_debug_engine.specs.Streams.{streams_of}
use Rattle.tb_debug_engine.proofs.Talking.{answered_more, broken, closed}
use Rattle.tb_debug_engine.proofs.dialogue.answer_lines.Goals as goal

pub loop-asked-init : goal.loop-asked-init
loop-asked-init g c =
    ([], refl, record { text = []; talked = (refl, refl); taken = refl; sound = refl; written = (Appends-nil _, refl) })

pub returns-in-Ok-false : goal.returns-in-Ok-false
returns-in-Ok-false g c =
    let (lines, many, answered) = c.loop-asked.invariant in
    let old = streams_of g.R.Read.remaining c.args.streams.now.commands g.W.Write.contents c.args.streams.now.writer in
    let mid = streams_of g.R.Read.remaining c.loop-asked.streams.commands g.W.Write.contents c.loop-asked.streams.writer in
    let new = streams_of g.R.Read.remaining c.answer_line.new.streams.commands g.W.Write.contents c.answer_line.new.streams.writer in
    closed c.args.source.now c.args.setting c.args.dialogue.now c.loop-asked.dialogue c.answer_line.new.dialogue lines old mid new answered
    (rw c.in-Ok-false.field-0-test at c.in-Ok-false.ensures)

pub returns-in-Err : goal.returns-in-Err
returns-in-Err g c =
    let (lines, many, answered) = c.loop-asked.invariant in
    let old = streams_of g.R.Read.remaining c.args.streams.now.commands g.W.Write.contents c.args.streams.now.writer in
    let mid = streams_of g.R.Read.remaining c.loop-asked.streams.commands g.W.Write.contents c.loop-asked.streams.writer in
    let new = streams_of g.R.Read.remaining c.answer_line.new.streams.commands g.W.Write.contents c.answer_line.new.streams.writer in
    broken c.args.source.now c.args.setting c.args.dialogue.now c.loop-asked.dialogue c.answer_line.new.dialogue c.in-Err.outcome lines old mid new answered
    c.in-Err.ensures

pub loop-asked-preserved : goal.loop-asked-preserved
loop-asked-preserved g c =
    let (lines, many, answered) = c.loop-asked.invariant in
    let old = streams_of g.R.Read.remaining c.args.streams.now.commands g.W.Write.contents c.args.streams.now.writer in
    let mid = streams_of g.R.Read.remaining c.loop-asked.streams.commands g.W.Write.contents c.loop-asked.streams.writer in
    let new = streams_of g.R.Read.remaining c.answer_line.new.streams.commands g.W.Write.contents c.answer_line.new.streams.writer in
    let (told, (line, took, answers), written) = rw c.in-Ok-true.field-0-test at c.in-Ok-true.ensures in
    let longer : length (lines ++ line ∷ []) ≡ c.loop-asked.asked + 1 = omega (arith, length-append lines (line ∷ []), many) in (
      lines ++ line ∷ [],
      longer,
      answered_more c.args.source.now c.args.setting c.args.dialogue.now c.loop-asked.dialogue c.answer_line.new.dialogue lines line told old mid new
          answered took answers written,
    )

pub returns : goal.returns
returns g c =
    let (lines, many, answered) = c.loop-asked.invariant in
    let all : length lines ≡ most_lines = many ∙ search rules in
    record {
      lines = lines;
      last = c.loop-asked.dialogue;
      mid = streams_of g.R.Read.remaining c.loop-asked.streams.commands g.W.Write.contents c.loop-asked.streams.writer;
      answered = answered;
      ends = (refl, inr (all, refl));
    }
