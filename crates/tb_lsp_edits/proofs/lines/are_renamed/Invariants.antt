-- What holds at each turn of the loop of `are_renamed` in src/lines.rt.
use Rattle.std.proofs.Common.{◌≡◌, ◌↔◌, false, drop}
use Rattle.tb_lsp_edits.specs.Rename.{AreRenamed, has_bad_line}
use Rattle.tb_lsp_edits.proofs.lines.are_renamed.Given as goal

-- all are renamed where those left are, and only there; none of those left is bad
abbrev pub invariant-loop-line : goal.invariant-loop-line
invariant-loop-line l = record {
  renamed : AreRenamed l.source.notation l.letters (drop l.line-index l.source.lines.items) ↔ AreRenamed l.source.notation l.letters l.source.lines.items;
  good : has_bad_line (drop l.line-index l.source.lines.items) ≡ false;
}
