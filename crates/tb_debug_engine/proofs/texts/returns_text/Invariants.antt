-- What holds at each turn of the loop of `returns_text` in src/texts.rt.
use Rattle.std.proofs.Common.{◌≡◌, take}
use Rattle.std.specs.Prelude.{flat_map, map}
use Rattle.tb_basic_source.specs.Lines.{pair_of}
use Rattle.tb_debug_engine.specs.Texts.{return_text}
use Rattle.tb_debug_engine.proofs.texts.returns_text.Given as goal

abbrev pub invariant-loop-line : goal.invariant-loop-line
invariant-loop-line l = l.text.items ≡ flat_map (return_text (map pair_of l.lines)) (take l.line-index l.noted)
