-- What holds at each turn of the loop of `of_warnings` in src/offers.rt.
use Rattle.std.proofs.Common.{◌≡◌, ◌++◌, drop, map}
use Rattle.std.specs.Prelude.{flat_map}
use Rattle.serde_json.specs.View.{view}
use Rattle.tb_lsp_diagnostics.specs.Diagnostics.{texts_of}
use Rattle.tb_lsp_fixes.specs.Actions.{of_warning}
use Rattle.tb_lsp_fixes.proofs.offers.of_warnings.Given as goal

abbrev pub invariant-loop-warning : goal.invariant-loop-warning
invariant-loop-warning l = map view l.found.items ++ flat_map (of_warning l.text.uri.now (texts_of l.text) l.source.lines.items l.is_ended l.range) (drop l.warning-index l.warnings) ≡ flat_map (of_warning l.text.uri.now (texts_of l.text) l.source.lines.items l.is_ended l.range) l.warnings
