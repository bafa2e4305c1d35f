-- What holds at each turn of the loop of `comment_in` in src/lines.rt.
use Rattle.std.proofs.Common.{◌≡◌, drop}
use Rattle.tb_assembly_dialects.specs.Lines.{comment_in}
use Rattle.tb_assembly_dialects.proofs.lines.comment_in.Given as goal

abbrev pub invariant-loop-index : goal.invariant-loop-index
invariant-loop-index l = comment_in (drop l.index l.line) ≡ comment_in l.line
