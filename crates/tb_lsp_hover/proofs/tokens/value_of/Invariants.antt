-- What holds at each turn of the loop of `value_of` in src/tokens.rt.
use Rattle.std.proofs.Common.{◌≡◌, ◌≤◌, drop}
use Rattle.tb_lsp_hover.specs.About.{value_from}
use Rattle.tb_lsp_hover.proofs.tokens.value_of.Given as goal

abbrev pub invariant-loop-byte : goal.invariant-loop-byte
invariant-loop-byte l = (value_from l.number (drop l.byte-index l.text) ≡ value_from 0 l.text) × (l.number ≤ 65536)
