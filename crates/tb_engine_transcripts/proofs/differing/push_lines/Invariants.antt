-- What holds at each turn of the loop of `push_lines` in src/differing.rt.
use Rattle.std.proofs.Common.{◌≡◌, ◌++◌, map, take}
use Rattle.std.specs.Prelude.{flat_map}
use Rattle.tb_engine_transcripts.specs.Differing.{marked}
use Rattle.tb_engine_transcripts.proofs.differing.push_lines.Given as goal

abbrev pub invariant-loop-line : goal.invariant-loop-line
invariant-loop-line l = l.text.items ≡ l.initial.text.items ++ flat_map (marked l.mark) (map (λ m. m.now) (take l.line-index l.lines))
