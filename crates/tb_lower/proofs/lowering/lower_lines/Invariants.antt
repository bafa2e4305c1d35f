-- What holds at each turn of the loop of `lower_lines` in src/lowering.rt.
use Rattle.std.proofs.Common.{◌≡◌, ◌++◌, map}
use Rattle.tb_basic_syntax.specs.PlainData.{lines_of}
use Rattle.tb_basic_meaning.specs.Need.{too_deep}
use Rattle.tb_lower.specs.Lowered.{program_code}
use Rattle.tb_lower.specs.PlainData.{slot_line_of}
use Rattle.tb_lower.proofs.lowering.lower_lines.Given as goal

abbrev pub invariant-loop-number : goal.invariant-loop-number
invariant-loop-number l =
    (too_deep (lines_of l.number-iterator) ≡ too_deep (lines_of l.program))
    × (map slot_line_of l.lines.items ++ program_code (lines_of l.number-iterator) ≡ program_code (lines_of l.program))
