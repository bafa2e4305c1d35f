-- What holds at each turn of the loop of `quoted_run` in src/tokens.rt.
use Rattle.std.proofs.Common.{◌≡◌, ◌+◌, drop}
use Rattle.tb_assembly_text.specs.Tokens.{run, is_quoted}
use Rattle.tb_assembly_text.proofs.tokens.quoted_run.Given as goal

abbrev pub invariant-loop-i : goal.invariant-loop-i
invariant-loop-i l = run is_quoted (drop l.i l.text) + l.i ≡ run is_quoted l.text
