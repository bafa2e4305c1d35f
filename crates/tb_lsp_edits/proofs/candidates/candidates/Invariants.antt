-- What holds at each turn of the loops of `candidates` in src/candidates.rt.
use Rattle.std.proofs.Common.{◌≡◌, ◌++◌, drop}
use Rattle.tb_basic_names.specs.Sources.{edits_of}
use Rattle.tb_lsp_edits.specs.Candidates.{candidates, numbers_from}
use Rattle.tb_lsp_edits.proofs.candidates.candidates.Given as goal

abbrev pub invariant-loop-i : goal.invariant-loop-i
invariant-loop-i l =
    l.found.items ++ numbers_from (edits_of l.source.lines.items) l.i (drop l.i l.source.lines.items) ≡ candidates l.source.lines.items
