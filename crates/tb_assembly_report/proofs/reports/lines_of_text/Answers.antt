-- The goals of `lines_of_text` in src/reports.rt.
use Rattle.std.proofs.Common.{◌≡◌, ℕ, List, [], ◌++◌, ap, sym, ◌∙◌, append-nil}
use Rattle.tb_basic_text.specs.Lines.{lines_from, lines_of_file}
use Rattle.tb_assembly_report.proofs.reports.lines_of_text.Goals as goal

at_end : (lines : List (List ℕ)) (rest source : List ℕ) → rest ≡ [] → lines ++ lines_of_file rest ≡ lines_of_file source → lines ≡ lines_of_file source
unfolding lines_from
at_end lines rest source none all = sym (append-nil lines) ∙ ap (λ r. lines ++ lines_of_file r) (sym none) ∙ all

pub returns : goal.returns
returns c = at_end _ c.loop-line.rest.now c.args.text.now c.in_default.ensures c.loop-line.invariant
