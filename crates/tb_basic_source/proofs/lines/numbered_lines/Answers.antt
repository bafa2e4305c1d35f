-- The goals of `numbered_lines` in src/lines.rt.
use Rattle.std.proofs.Common.{◌≡◌, ℕ, List, [], ◌++◌, ap, sym, ◌∙◌, append-nil}
use Rattle.tb_basic_text.specs.Lines.{lines_from}
use Rattle.tb_basic_source.specs.Lines.{numbered}
use Rattle.tb_basic_source.proofs.lines.numbered_lines.Goals as goal

at_end : (lines : List (ℕ × List ℕ)) (rest source : List ℕ) → rest ≡ [] → lines ++ numbered rest ≡ numbered source → lines ≡ numbered source
unfolding lines_from
at_end lines rest source none all = sym (append-nil lines) ∙ ap (λ r. lines ++ numbered r) (sym none) ∙ all

pub returns : goal.returns
returns c = at_end _ c.loop-text.rest.now c.args.source.now c.in_default.ensures c.loop-text.invariant
