-- What holds at each turn of the loop of `lines_typed` in src/testing.rt.
use Rattle.std.proofs.Common.{◌≡◌, ◌++◌, length, map}
use Rattle.tb_basic_text.specs.Lines.{lines_of_file}
use Rattle.tb_engine_test.proofs.testing.lines_typed.Given as goal

abbrev pub invariant-loop-line : goal.invariant-loop-line
invariant-loop-line l = map (λ v. v.items) l.lines.items ++ lines_of_file l.rest ≡ lines_of_file l.typed

abbrev pub decreases-loop-line : goal.decreases-loop-line
decreases-loop-line l = length l.rest
