-- What holds at each turn of the loop of `has_bad_line` in src/renaming.rt.
use Rattle.std.proofs.Common.{◌≡◌, drop}
use Rattle.tb_lsp_edits.specs.Rename.{has_bad_line}
use Rattle.tb_lsp_edits.proofs.renaming.has_bad_line.Given as goal

abbrev pub invariant-loop-line : goal.invariant-loop-line
invariant-loop-line l = has_bad_line (drop l.line-index l.source.lines.items) ≡ has_bad_line l.source.lines.items
