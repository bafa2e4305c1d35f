-- What holds at each turn of the loop of `letters_before` in src/typed.rt.
use Rattle.std.proofs.Common.{◌≡◌, ◌≤◌, drop}
use Rattle.tb_lsp_edits.specs.Typed.{ending, is_letter}
use Rattle.tb_lsp_edits.proofs.typed.letters_before.Given as goal

abbrev pub invariant-loop-byte : goal.invariant-loop-byte
invariant-loop-byte l = (ending is_letter l.count (drop l.byte-index l.text) ≡ ending is_letter 0 l.text) × (l.count ≤ l.byte-index)
