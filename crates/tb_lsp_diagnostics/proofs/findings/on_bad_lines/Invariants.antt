-- What holds at each turn of the loop of `on_bad_lines` in src/findings.rt.
use Rattle.std.proofs.Common.{◌≡◌, map, take}
use Rattle.serde_json.specs.View.{view}
use Rattle.tb_lsp_diagnostics.specs.Diagnostics.{on_bad_line, texts_of}
use Rattle.tb_lsp_diagnostics.proofs.findings.on_bad_lines.Given as goal

abbrev pub invariant-loop-line : goal.invariant-loop-line
invariant-loop-line l = map view l.found.items ≡ map (on_bad_line (texts_of l.text)) (take l.line-index l.lines)
