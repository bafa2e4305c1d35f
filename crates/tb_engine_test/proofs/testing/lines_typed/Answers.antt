-- The goal of `lines_typed` in src/testing.rt.
use Rattle.std.proofs.Common.{◌≡◌, ℕ, List, [], ◌++◌, ap, sym, ◌∙◌, append-nil}
use Rattle.tb_basic_text.specs.Lines.{lines_from, lines_of_file}
use Rattle.tb_engine_test.proofs.testing.lines_typed.Goals as goal

at_end : (lines : List (List ℕ)) (rest typed : List ℕ) → rest ≡ [] → lines ++ lines_of_file rest ≡ lines_of_file typed → lines ≡ lines_of_file typed
unfolding lines_from
at_end lines rest typed none all = sym (append-nil lines) ∙ ap (λ r. lines ++ lines_of_file r) (sym none) ∙ all

pub returns : goal.returns
returns c = at_end _ c.loop-line.rest.now c.args.typed.now c.in_default.ensures c.loop-line.invariant
