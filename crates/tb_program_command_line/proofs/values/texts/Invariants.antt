-- What holds at each turn of the loop of `texts` in src/values.rt.
use Rattle.std.proofs.Common.{◌≡◌, map, string_bytes, take}
use Rattle.tb_program_command_line.proofs.values.texts.Given as goal

abbrev pub invariant-loop-text : goal.invariant-loop-text
invariant-loop-text l = map string_bytes l.texts.items ≡ map (λ t. t.now) (take l.text-index l.text-items)
