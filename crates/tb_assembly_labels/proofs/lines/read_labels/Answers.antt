-- The goals of `read_labels` in src/lines.rt.
use Rattle.std.proofs.Common.{◌≡◌, ℕ, List, [], Ok, ap, sym, ◌∙◌, map}
use Rattle.tb_basic_text.specs.Lines.{lines_from, lines_of_file}
use Rattle.tb_assembly_labels.specs.Lines.{labels_from, labels_of, pair_of}
use Rattle.tb_assembly_labels.proofs.lines.read_labels.Goals as goal

-- no line is left at the end
at_end : (n : ℕ) (labels : List (ℕ × List ℕ)) (rest text : List ℕ) → rest ≡ [] → labels_from n labels (lines_of_file rest) ≡ labels_of text
    → labels_of text ≡ Ok labels
unfolding lines_from
at_end n labels rest text none same = sym same ∙ ap (λ r. labels_from n labels (lines_of_file r)) none

pub returns : goal.returns
returns c =
    at_end c.loop-line.number (map pair_of c.loop-line.labels.items) c.loop-line.rest.now c.args.text.now c.in_default.ensures c.loop-line.invariant.same
