-- What holds at each turn of the loop of `swapped_command` in src/swaps.rt.
use Rattle.std.proofs.Common.{◌≡◌, drop, map}
use Rattle.tb_program_command_line.specs.Swaps.{first_swapped}
use Rattle.tb_program_command_line.proofs.swaps.swapped_command.Given as goal

abbrev pub invariant-loop-row : goal.invariant-loop-row
invariant-loop-row l =
    first_swapped l.word (map (λ r. r.name.now) (drop l.row-index l.rows)) ≡ first_swapped l.word (map (λ r. r.name.now) l.rows)
