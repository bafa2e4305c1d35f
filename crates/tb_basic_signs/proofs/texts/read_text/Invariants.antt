-- What holds at each turn of the loop of `read_text` in src/texts.rt.
use Rattle.std.proofs.Common.{◌≡◌, ◌++◌, length, option_map}
use Rattle.tb_basic_signs.specs.Texts as spec
use Rattle.tb_basic_signs.proofs.texts.read_text.Given as goal

abbrev pub invariant-loop-rest : goal.invariant-loop-rest
invariant-loop-rest l = option_map (λ bytes. l.bytes.items ++ bytes) (spec.bytes_from 0 l.rest) ≡ spec.bytes_of l.fn.text

abbrev pub decreases-loop-rest : goal.decreases-loop-rest
decreases-loop-rest l = length l.rest
