-- The goal of `read_below` in src/reading.rt: no line is left at the end.
use Rattle.std.proofs.Common.{◌≡◌, ◌∷◌, ℕ, List, [], Ok, Result, sym}
use Rattle.tb_basic_text.specs.Lines.{lines_from, lines_of_file}
use Rattle.tb_engine_transcripts.specs.Reading.{below, state_of, State}
use Rattle.tb_engine_transcripts.specs.declared.reasons.BadLine.{BadLine}
use Rattle.tb_engine_transcripts.proofs.reading.read_below.Goals as goal

-- no line is left at the end
at_end : (n : ℕ) (s : State) (rest : List ℕ) (wanted : Result State BadLine) → rest ≡ [] → below n s (lines_of_file rest) ≡ wanted → wanted ≡ Ok s
unfolding lines_from
at_end n s [] wanted none same = sym same
at_end n s (b ∷ rest) wanted none same = absurd cc

pub returns : goal.returns
returns c = at_end c.loop-line.number (state_of c.loop-line.reading) c.loop-line.rest.now _ c.in_default.ensures c.loop-line.invariant.same
