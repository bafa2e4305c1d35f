-- What holds at each turn of the loop of `highest` in src/places.rt.
use Rattle.std.proofs.Common.{◌≡◌, ◌∷◌}
use Rattle.tb_basic_syntax.specs.PlainData.{lines_of}
use Rattle.tb_basic_syntax.specs.Source.{numbers}
use Rattle.tb_basic_meaning.specs.Control.{highest}
use Rattle.tb_basic_meaning.proofs.places.highest.Given as goal

-- the highest of the rest, with the number before it, is the highest of all
abbrev pub invariant-loop-line : goal.invariant-loop-line
invariant-loop-line l = highest (l.highest ∷ numbers (lines_of l.line-iterator)) ≡ highest (numbers (lines_of l.program))
