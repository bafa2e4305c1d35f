-- What holds at each turn of the loop of `largest_of` in src/page.rt.
use Rattle.std.proofs.Common.{◌≡◌, ◌∷◌, map, take}
use Rattle.tb_engine_profile_table.specs.Lines.{line_pair}
use Rattle.tb_engine_profile_table.specs.Page.{largest}
use Rattle.tb_engine_profile_table.proofs.page.largest_of.Given as goal

abbrev pub invariant-loop-line : goal.invariant-loop-line
invariant-loop-line l = l.largest ≡ largest (l.whole.start.cycles ∷ map (λ x. x.0.cycles) (map line_pair (take l.line-index l.lines)))
