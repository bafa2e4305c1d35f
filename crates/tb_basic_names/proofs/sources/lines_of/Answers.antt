-- The goal of `lines_of` in src/sources.rt.
use Rattle.std.proofs.Common.{◌≡◌, ℕ, List, [], ◌++◌, ap, sym, ◌∙◌, append-nil, false}
use Rattle.tb_basic_text.specs.Lines.{lines_from, lines_of_file}
use Rattle.tb_basic_names.proofs.sources.lines_of.Goals as goal

at_end : (lines : List (List ℕ)) (rest source : List ℕ) → rest ≡ [] → lines ++ lines_from false rest ≡ lines_of_file source → lines ≡ lines_of_file source
unfolding lines_from
at_end lines rest source none all = sym (append-nil lines) ∙ ap (λ r. lines ++ lines_from false r) (sym none) ∙ all

pub returns : goal.returns
returns c = (at_end _ c.loop-text.rest.now c.args.source.now c.in_default.ensures c.loop-text.invariant.0, c.loop-text.invariant.1)
