-- What holds at each turn of the loop of `breakpoints_text` in src/texts.rt.
use Rattle.std.proofs.Common.{◌≡◌, take}
use Rattle.std.specs.Prelude.{flat_map, map}
use Rattle.tb_basic_source.specs.Lines.{pair_of}
use Rattle.tb_debug_engine.specs.Lists.{written}
use Rattle.tb_debug_engine.proofs.texts.breakpoints_text.Given as goal

abbrev pub invariant-loop-number : goal.invariant-loop-number
invariant-loop-number l = l.text.items ≡ flat_map (written (map pair_of l.lines)) (take l.number-index l.numbers)
