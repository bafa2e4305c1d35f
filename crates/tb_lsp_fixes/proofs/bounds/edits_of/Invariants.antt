-- What holds at each turn of the loop of `edits_of` in src/bounds.rt.
use Rattle.std.proofs.Common.{◌≡◌, ◌≤◌, ◌++◌, drop, map}
use Rattle.serde_json.specs.View.{view}
use Rattle.tb_lsp_fixes.specs.Bounds.{edits_from}
use Rattle.tb_lsp_fixes.proofs.bounds.edits_of.Given as goal

abbrev pub invariant-loop-i : goal.invariant-loop-i
invariant-loop-i l = record {
  edits : map view l.edits.items ++ edits_from l.mending.file_line l.mending.text.now l.bounds l.bound l.count l.mending.better.now (drop l.i l.tokens)
      ≡ edits_from l.mending.file_line l.mending.text.now l.bounds l.bound 0 l.mending.better.now l.tokens;
  few : l.count ≤ l.i;
}
