-- What holds at each turn of the loop of `digit_run` in src/tokens.rt.
use Rattle.std.proofs.Common.{◌≡◌, ◌+◌, drop}
use Rattle.tb_assembly_text.specs.Tokens.{run, is_digit_in}
use Rattle.tb_assembly_text.proofs.tokens.digit_run.Given as goal

abbrev pub invariant-loop-i : goal.invariant-loop-i
invariant-loop-i l = run (is_digit_in l.base) (drop l.i l.text) + l.i ≡ run (is_digit_in l.base) l.text
