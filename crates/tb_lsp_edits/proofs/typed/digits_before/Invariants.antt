-- What holds at each turn of the loop of `digits_before` in src/typed.rt.
use Rattle.std.proofs.Common.{◌≡◌, ◌≤◌, drop}
use Rattle.tb_lsp_edits.specs.Typed.{ending, is_digit}
use Rattle.tb_lsp_edits.proofs.typed.digits_before.Given as goal

abbrev pub invariant-loop-byte : goal.invariant-loop-byte
invariant-loop-byte l = (ending is_digit l.count (drop l.byte-index l.text) ≡ ending is_digit 0 l.text) × (l.count ≤ l.byte-index)
