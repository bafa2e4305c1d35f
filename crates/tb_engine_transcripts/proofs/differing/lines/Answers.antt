-- The goal of `lines` in src/differing.rt: no line is left at the end.
use Rattle.std.proofs.Common.{◌≡◌, ◌++◌, ℕ, List, [], map, sym, ap, ◌∙◌}
use Rattle.std.proofs.lemmas.List.{append-nil}
use Rattle.tb_basic_text.specs.Lines.{lines_from, lines_of_file}
use Rattle.tb_engine_transcripts.proofs.differing.lines.Goals as goal

-- no line is left at the end
at_end : (lines : List (List ℕ)) (rest text : List ℕ) → rest ≡ [] → lines ++ lines_of_file rest ≡ lines_of_file text → lines ≡ lines_of_file text
unfolding lines_from
at_end lines rest text none same = sym (append-nil lines) ∙ sym (ap (λ r. lines ++ lines_of_file r) none) ∙ same

pub returns : goal.returns
returns c = at_end (map (λ m. m.now) c.loop-line.lines.items) c.loop-line.rest.now c.args.text.now c.in_default.ensures c.loop-line.invariant
