-- What holds at each turn of the loop of `edits_between` in src/edits.rt.
use Rattle.std.proofs.Common.{◌≡◌, ◌+◌, ◌≤◌, ◌++◌, false, length, map}
use Rattle.serde_json.specs.View.{view}
use Rattle.tb_basic_text.specs.Lines.{lines_from}
use Rattle.tb_lsp_edits.specs.Edits.{line_edits, text_edits}
use Rattle.tb_lsp_edits.proofs.edits.edits_between.Given as goal

abbrev pub invariant-loop-line : goal.invariant-loop-line
invariant-loop-line l = record {
  edits : map view l.edits.items ++ line_edits l.number (lines_from false l.rest) (lines_from false l.rest_of_tidy) ≡ text_edits l.source l.tidy;
  few : l.number + length l.rest ≤ length l.source + 1;
}

abbrev pub decreases-loop-line : goal.decreases-loop-line
decreases-loop-line l = length l.rest
