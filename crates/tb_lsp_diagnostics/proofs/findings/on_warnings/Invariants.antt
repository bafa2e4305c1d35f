-- What holds at each turn of the loop of `on_warnings` in src/findings.rt.
use Rattle.std.proofs.Common.{◌≡◌, map, take}
use Rattle.serde_json.specs.View.{view}
use Rattle.tb_lsp_diagnostics.specs.Diagnostics.{on_warning, texts_of}
use Rattle.tb_lsp_diagnostics.proofs.findings.on_warnings.Given as goal

abbrev pub invariant-loop-warning : goal.invariant-loop-warning
invariant-loop-warning l = map view l.found.items ≡ map (on_warning l.text.uri.now (texts_of l.text)) (take l.warning-index l.warnings)
