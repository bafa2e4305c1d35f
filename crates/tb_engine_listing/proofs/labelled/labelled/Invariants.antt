-- What holds at each turn of the loop of `labelled` in src/labelled.rt.
use Rattle.std.proofs.Common.{◌≡◌, ◌++◌, drop, map, take}
use Rattle.tb_compiled.specs.Compiled.{pair_of as start_pair}
use Rattle.tb_basic_source.specs.Lines.{pair_of}
use Rattle.tb_engine_listing.specs.Comments.{HasHeadings, heading_on}
use Rattle.tb_engine_listing.specs.Pieces.{plan_of, row_of}
use Rattle.tb_engine_listing.specs.Rows.{lines_text}
use Rattle.tb_engine_listing.proofs.labelled.labelled.Given as goal

abbrev pub invariant-loop-start : goal.invariant-loop-start
invariant-loop-start l = record {
  shown : HasHeadings l.text.items (map (heading_on (map pair_of l.view.sources.now)) (map start_pair (take l.start-index l.view.program.starts.now)));
  whole : l.text.items ++ lines_text (plan_of l.view.program) l.view.marks.now.marks.items (map pair_of l.view.sources.now)
      (map start_pair (drop l.start-index l.view.program.starts.now)) (map row_of l.rest)
      ≡ lines_text (plan_of l.view.program) l.view.marks.now.marks.items (map pair_of l.view.sources.now) (map start_pair l.view.program.starts.now)
      (map row_of l.view.pieces.now);
}
