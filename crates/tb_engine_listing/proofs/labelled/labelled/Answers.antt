-- The goals of `labelled` in src/labelled.rt.
use Rattle.std.proofs.Common.{map, refl, subst, take_all}
use Rattle.tb_compiled.specs.Compiled.{pair_of as start_pair}
use Rattle.tb_basic_source.specs.Lines.{pair_of}
use Rattle.tb_engine_listing.specs.Comments.{HasHeadings, heading_on}
use Rattle.tb_engine_listing.specs.Pieces.{plan_of}
use Rattle.tb_engine_listing.proofs.Commented.{headed_more, in_all}
use Rattle.tb_engine_listing.proofs.Rowed.{line_more, lines_all}
use Rattle.tb_engine_listing.proofs.labelled.labelled.Goals as goal

pub loop-start-preserved : goal.loop-start-preserved
loop-start-preserved c =
    let view = c.args.view.now in
    let lines = map pair_of view.sources.now in
    record {
      shown = headed_more lines start_pair view.program.starts.now c.loop-start.start-index _ c.push_pieces.new.text.items
          c.push_comment.new.text.items c.push_line_label.new.text.items c.text_of.result.now c.loop-start-test.true c.text_of.ensures
          c.in_ok-push_comment.ensures c.in_ok-push_line_label.ensures (c.in_ok-push_pieces.ensures.kept _ c.loop-start.invariant.shown);
      whole = line_more start_pair (plan_of view.program) view.marks.now.marks.items lines view.program.starts.now c.loop-start.start-index _
          c.loop-start.rest.now c.pieces_before.result.now c.pieces_from-rest.result.now c.loop-start.text.items c.push_pieces.new.text.items
          c.push_comment.new.text.items c.push_line_label.new.text.items c.text_of.result.now _ _ c.loop-start-test.true
          refl c.pieces_before.ensures c.pieces_from-rest.ensures c.in_ok-push_pieces.ensures.rows c.in_ok-push_comment.ensures
          c.in_ok-push_line_label.ensures c.text_of.ensures c.loop-start.invariant.whole;
    }

pub returns-clause-rows : goal.returns-clause-rows
returns-clause-rows c =
    let view = c.args.view.now in
    lines_all start_pair (plan_of view.program) view.marks.now.marks.items (map pair_of view.sources.now) view.program.starts.now c.loop-start.start-index
    c.loop-start.rest.now c.loop-start.text.items c.push_pieces-2.new.text.items _ c.loop-start-test.false c.in_ok-push_pieces-2.ensures.rows
    c.loop-start.invariant.whole

pub returns-clause-headed : goal.returns-clause-headed
returns-clause-headed c =
    let starts = c.args.view.now.program.starts.now in
    let lines = map pair_of c.args.view.now.sources.now in
    in_all c.push_pieces-2.new.text.items (map (heading_on lines) (map start_pair starts))
    (subst (λ xs. HasHeadings c.push_pieces-2.new.text.items (map (heading_on lines) (map start_pair xs)))
    (take_all c.loop-start.start-index starts c.loop-start-test.false)
    (c.in_ok-push_pieces-2.ensures.kept _ c.loop-start.invariant.shown))
