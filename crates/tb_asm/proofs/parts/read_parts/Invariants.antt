-- What holds at each turn of the loop of `read_parts` in src/parts.rt.
use Rattle.std.proofs.Common.{◌≡◌, ◌++◌, length}
use Rattle.std.specs.Prelude.{option_map}
use Rattle.tb_asm.specs.Parts.{parts_of}
use Rattle.tb_asm.proofs.parts.read_parts.Given as goal

abbrev pub invariant-loop-rest : goal.invariant-loop-rest
invariant-loop-rest l = option_map (λ ps. l.parts.items ++ ps) (parts_of l.rest) ≡ parts_of l.line

abbrev pub decreases-loop-rest : goal.decreases-loop-rest
decreases-loop-rest l = length l.rest
