-- What holds at each turn of the loop of `put_inputs` in src/lowering.rt.
use Rattle.std.proofs.Common.{◌≡◌, ◌++◌, map, drop}
use Rattle.tb_basic_syntax.specs.PlainData.{letters_of}
use Rattle.tb_lower.specs.Lowered.{inputs_code}
use Rattle.tb_lower.specs.PlainData.{instr_of}
use Rattle.tb_lower.proofs.lowering.put_inputs.Given as goal

abbrev pub invariant-loop-x : goal.invariant-loop-x
invariant-loop-x l = map instr_of l.code.items ++ inputs_code (letters_of (drop l.x-index l.letters)) ≡ map instr_of l.initial.code.items ++ inputs_code (letters_of l.letters)
