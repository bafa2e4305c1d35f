-- What holds at each turn of the loop of `of_bad_lines` in src/offers.rt.
use Rattle.std.proofs.Common.{◌≡◌, ◌++◌, drop, map}
use Rattle.std.specs.Prelude.{flat_map}
use Rattle.serde_json.specs.View.{view}
use Rattle.tb_lsp_diagnostics.specs.Diagnostics.{texts_of}
use Rattle.tb_lsp_fixes.specs.Actions.{of_bad_line}
use Rattle.tb_lsp_fixes.proofs.offers.of_bad_lines.Given as goal

abbrev pub invariant-loop-line : goal.invariant-loop-line
invariant-loop-line l = map view l.found.items ++ flat_map (of_bad_line l.text.uri.now (texts_of l.text) l.range) (drop l.line-index l.lines) ≡ flat_map (of_bad_line l.text.uri.now (texts_of l.text) l.range) l.lines
