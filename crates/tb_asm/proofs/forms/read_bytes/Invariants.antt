-- What holds at each turn of the loop of `read_bytes` in src/forms.rt.
use Rattle.std.proofs.Common.{◌≡◌, ◌++◌, length}
use Rattle.std.specs.Prelude.{option_map}
use Rattle.tb_asm.specs.Text.{byte_list}
use Rattle.tb_asm.proofs.forms.read_bytes.Given as goal

abbrev pub invariant-loop-rest : goal.invariant-loop-rest
invariant-loop-rest l = option_map (λ bs. l.bytes.items ++ bs) (byte_list l.rest) ≡ byte_list l.parts

abbrev pub decreases-loop-rest : goal.decreases-loop-rest
decreases-loop-rest l = length l.rest
