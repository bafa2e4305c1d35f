-- What holds at each turn of the loop of `push_guarded` in src/lines.rt.
use Rattle.std.proofs.Common.{◌≡◌, ◌++◌, drop}
use Rattle.tb_assembly_dialects.specs.Lines.{guarded_all}
use Rattle.tb_assembly_dialects.proofs.lines.push_guarded.Given as goal

abbrev pub invariant-loop-byte : goal.invariant-loop-byte
invariant-loop-byte l = l.text.items ++ guarded_all l.previous (drop l.byte-index l.comment) ≡ l.initial.text.items ++ guarded_all 0 l.comment
