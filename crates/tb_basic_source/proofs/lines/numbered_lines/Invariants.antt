-- What holds at each turn of the loop of `numbered_lines` in src/lines.rt.
use Rattle.std.proofs.Common.{◌≡◌, ◌++◌, length, map}
use Rattle.tb_basic_source.specs.Lines.{numbered, pair_of}
use Rattle.tb_basic_source.proofs.lines.numbered_lines.Given as goal

abbrev pub invariant-loop-text : goal.invariant-loop-text
invariant-loop-text l = map pair_of l.lines.items ++ numbered l.rest ≡ numbered l.source

abbrev pub decreases-loop-text : goal.decreases-loop-text
decreases-loop-text l = length l.rest
