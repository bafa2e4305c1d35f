-- What holds at each turn of the loop of `offered` in src/offered.rt.
use Rattle.std.proofs.Common.{◌++◌, List, drop}
use Rattle.tb_lsp_edits.specs.Offered.{Offers}
use Rattle.tb_lsp_edits.specs.declared.candidates.Candidate.{Candidate}
use Rattle.tb_lsp_edits.proofs.offered.offered.Given as goal

-- what is offered of those left comes behind what was found
abbrev pub invariant-loop-candidate : goal.invariant-loop-candidate
invariant-loop-candidate l =
    (found : List Candidate) → Offers l.notation l.typed (drop l.candidate-index l.candidates) found → Offers l.notation l.typed l.candidates (l.found.items ++ found)
