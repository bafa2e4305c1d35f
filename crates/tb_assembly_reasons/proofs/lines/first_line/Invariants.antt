-- What holds at each turn of the loop of `first_line` in src/lines.rt.
use Rattle.std.proofs.Common.{◌≡◌, take, drop}
use Rattle.tb_asm.specs.Text.{split_lines}
use Rattle.tb_asm.proofs.ReadLines.{puts}
use Rattle.tb_assembly_reasons.proofs.lines.first_line.Given as goal

abbrev pub invariant-loop-index : goal.invariant-loop-index
invariant-loop-index l = puts (take l.index l.text) (split_lines (drop l.index l.text)) ≡ split_lines l.text
