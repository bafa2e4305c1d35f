-- What holds at each turn of the loop of `Output::send_all` in src/output.rt.
use Rattle.std.proofs.Common.{◌≡◌, ◌++◌, drop}
use Rattle.tb_basic_meaning.specs.Control.{column_after}
use Rattle.tb_basic_meaning.proofs.output.Output.send_all.Given as goal

abbrev pub invariant-loop-byte : goal.invariant-loop-byte
invariant-loop-byte l =
    (l.self.sent.items ++ drop l.byte-index l.bytes ≡ l.initial.self.sent.items ++ l.bytes)
    × (column_after l.self.column (drop l.byte-index l.bytes) ≡ column_after l.initial.self.column l.bytes)
