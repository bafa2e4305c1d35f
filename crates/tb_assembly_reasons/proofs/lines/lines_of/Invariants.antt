-- What holds at each turn of the loop of `lines_of` in src/lines.rt.
use Rattle.std.proofs.Common.{◌≡◌, ◌++◌, length, map}
use Rattle.tb_asm.specs.Text.{split_lines}
use Rattle.tb_assembly_reasons.proofs.lines.lines_of.Given as goal

abbrev pub invariant-lines : goal.invariant-lines
invariant-lines l = map (λ t. t.now) l.lines.items ++ split_lines l.rest ≡ split_lines l.text

abbrev pub decreases-lines : goal.decreases-lines
decreases-lines l = length l.rest
