-- What holds at each turn of the loop of `closing` in src/bounds.rt.
use Rattle.std.proofs.Common.{◌≡◌, ◌≤◌, drop}
use Rattle.tb_lsp_fixes.specs.Bounds.{closing}
use Rattle.tb_lsp_fixes.proofs.bounds.closing.Given as goal

abbrev pub invariant-loop-token : goal.invariant-loop-token
invariant-loop-token l = (closing l.depth (drop l.token-index l.tokens) ≡ closing 0 l.tokens) × (l.depth ≤ l.token-index)
