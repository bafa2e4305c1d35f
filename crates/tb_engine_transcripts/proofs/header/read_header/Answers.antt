-- The goal of `read_header` in src/header.rt: no line is left at the end.
use Rattle.std.proofs.Common.{◌≡◌, ◌∷◌, ℕ, List, [], Ok, Result, sym}
use Rattle.tb_basic_text.specs.Lines.{lines_from, lines_of_file}
use Rattle.tb_engine_transcripts.specs.Header.{header, Start}
use Rattle.tb_engine_transcripts.specs.declared.header.Header.{Header}
use Rattle.tb_engine_transcripts.specs.declared.reasons.BadLine.{BadLine}
use Rattle.tb_engine_transcripts.proofs.header.read_header.Goals as goal

-- no line is left at the end
at_end : (n : ℕ) (h : Header) (rest : List ℕ) (wanted : Result Start BadLine) → rest ≡ [] → header n h (lines_of_file rest) ≡ wanted
    → wanted ≡ Ok (h, n, lines_of_file rest)
unfolding lines_from
at_end n h [] wanted none same = sym same
at_end n h (b ∷ rest) wanted none same = absurd cc

pub returns-clause-value : goal.returns-clause-value
returns-clause-value c = at_end c.loop-line.number c.loop-line.header c.loop-line.rest.now _ c.in_default.ensures c.loop-line.invariant.same
