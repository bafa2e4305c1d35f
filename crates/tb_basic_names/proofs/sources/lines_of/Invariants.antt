-- What holds at each turn of the loop of `lines_of` in src/sources.rt.
use Rattle.std.proofs.Common.{◌≡◌, ◌++◌, All, length, map, false}
use Rattle.tb_basic_text.specs.Lines.{lines_from, lines_of_file}
use Rattle.tb_basic_names.proofs.sources.lines_of.Given as goal

abbrev pub invariant-loop-text : goal.invariant-loop-text
invariant-loop-text l =
    (map (λ x. x.text.now) l.lines.items ++ lines_from false l.rest ≡ lines_of_file l.source) × All (λ x. x.notation ≡ l.notation) l.lines.items

abbrev pub decreases-loop-text : goal.decreases-loop-text
decreases-loop-text l = length l.rest
