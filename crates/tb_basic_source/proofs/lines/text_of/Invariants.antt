-- What holds at each turn of the loop of `text_of` in src/lines.rt.
use Rattle.std.proofs.Common.{◌≡◌, [], drop, map}
use Rattle.tb_basic_source.specs.Lines.{last_of, pair_of}
use Rattle.tb_basic_source.proofs.lines.text_of.Given as goal

abbrev pub invariant-loop-line : goal.invariant-loop-line
invariant-loop-line l = last_of l.text l.number (map pair_of (drop l.line-index l.lines)) ≡ last_of [] l.number (map pair_of l.lines)
